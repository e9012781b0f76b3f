-- The replies to one ticket.
use Rattle.std.proofs.Common.{◌≡◌, ℕ, zero, suc, ◌<◌, ◌≤◌, Bool, true, false, cond, List, [], ◌∷◌, length, get_or, map, filter, All, Any, Option, Some, None, refl, sym, ap, ◌∙◌, subst, arith, IsTrue, ◌↔◌}
use Rattle.std.specs.Prelude.{slice_get, is_none}
use Rattle.std.proofs.lemmas.Option.{slice_get_within, slice_get-get_or}
use Rattle.resp_wire.specs.Data.{Data}
use Rattle.key_split.specs.PartModel.{PartModel}
use Rattle.key_split.specs.Same.{same_ticket, same_ticket-Decides}
use Rattle.key_split.specs.declared.travel.Ticket.{Ticket}
use Rattle.node_model.specs.History.{EntryModel}
use Rattle.cluster_world.specs.Index.{IsIndex, Differ}
use Rattle.cluster_world.specs.Lawful.{replies_to}
use Rattle.cluster_world.proofs.Indexes.{no-way}

abbrev replies : List EntryModel → List Data
replies es = map (λ e. e.reply) es

abbrev for : Ticket → List EntryModel → List EntryModel
for t es = filter (λ e. same_ticket e.ticket t) es

-- the entries from one on, by whether it is of the ticket
taken : (e : EntryModel) (es : List EntryModel) (t : Ticket) → e.ticket ≡ t → replies_to (e ∷ es) t ≡ e.reply ∷ replies_to es t
taken e es t is = ap (λ b. replies (cond b (e ∷ for t es) (for t es))) ((same_ticket-Decides e.ticket t).1 is)

left : (e : EntryModel) (es : List EntryModel) (t : Ticket) → (e.ticket ≡ t → ⊥) → replies_to (e ∷ es) t ≡ replies_to es t
left e es t apart = go (same_ticket e.ticket t) refl
  where
    go : (b : Bool) → same_ticket e.ticket t ≡ b → replies_to (e ∷ es) t ≡ replies_to es t
    go true s = absurd (apart ((same_ticket-Decides e.ticket t).0 s))
    go false s = ap (λ b. replies (cond b (e ∷ for t es) (for t es))) s

pub silent : (es : List EntryModel) (t : Ticket) → ((j : ℕ) (f : EntryModel) → slice_get es j ≡ Some f → f.ticket ≡ t → ⊥) → replies_to es t ≡ []
silent [] t none = refl
silent (e ∷ es) t none = left e es t (none 0 e refl) ∙ silent es t (λ j f at is. none (suc j) f at is)

pub alone : (es : List EntryModel) (t : Ticket) (k : ℕ) (e : EntryModel) → slice_get es k ≡ Some e → e.ticket ≡ t
    → ((j : ℕ) (f : EntryModel) → slice_get es j ≡ Some f → f.ticket ≡ t → j ≡ k) → replies_to es t ≡ e.reply ∷ []
alone [] t k e at is one = absurd (cc)
alone (d ∷ es) t zero e at is one =
    let same : d ≡ e = cc in
    taken d es t (ap (λ x. x.ticket) same ∙ is)
    ∙ ap (λ rs. d.reply ∷ rs) (silent es t (λ j f there of. let bad : suc j ≡ 0 = one (suc j) f there of in omega (arith, bad)))
    ∙ ap (λ x. x.reply ∷ []) same
alone (d ∷ es) t (suc k) e at is one =
    left d es t (λ of. let bad : 0 ≡ suc k = one 0 d refl of in omega (arith, bad))
    ∙ alone es t k e at is (λ j f there of. let same : suc j ≡ suc k = one (suc j) f there of in omega (arith, same))

grows : (e : EntryModel) (es : List EntryModel) (t : Ticket) → length (replies_to es t) ≤ length (replies_to (e ∷ es) t)
grows e es t = go (same_ticket e.ticket t) refl
  where
    go : (b : Bool) → same_ticket e.ticket t ≡ b → length (replies_to es t) ≤ length (replies_to (e ∷ es) t)
    go true s = let n : length (replies_to (e ∷ es) t) ≡ suc (length (replies_to es t)) = ap length (taken e es t ((same_ticket-Decides e.ticket t).0 s)) in omega (arith, n)
    go false s = let n : length (replies_to (e ∷ es) t) ≡ length (replies_to es t) = ap (λ b. length (replies (cond b (e ∷ for t es) (for t es)))) s in omega (arith, n)

once : (es : List EntryModel) (t : Ticket) (k : ℕ) (e : EntryModel) → slice_get es k ≡ Some e → e.ticket ≡ t → 1 ≤ length (replies_to es t)
once [] t k e at is = absurd (cc)
once (d ∷ es) t zero e at is =
    let same : d ≡ e = cc in
    let n : length (replies_to (d ∷ es) t) ≡ suc (length (replies_to es t)) = ap length (taken d es t (ap (λ x. x.ticket) same ∙ is)) in omega (arith, n)
once (d ∷ es) t (suc k) e at is = let n = once es t k e at is in let m = grows d es t in omega (arith, n, m)

pub twice : (es : List EntryModel) (t : Ticket) (j k : ℕ) (d e : EntryModel) → j < k → slice_get es j ≡ Some d → slice_get es k ≡ Some e → d.ticket ≡ t → e.ticket ≡ t
    → 2 ≤ length (replies_to es t)
twice [] t j k d e lt at-j at-k is-j is-k = absurd (cc)
twice (c ∷ es) t j zero d e lt at-j at-k is-j is-k = absurd (omega (arith, lt))
twice (c ∷ es) t zero (suc k) d e lt at-j at-k is-j is-k =
    let same : c ≡ d = cc in
    let n : length (replies_to (c ∷ es) t) ≡ suc (length (replies_to es t)) = ap length (taken c es t (ap (λ x. x.ticket) same ∙ is-j)) in
    let m = once es t k e at-k is-k in
    omega (arith, n, m)
twice (c ∷ es) t (suc j) (suc k) d e lt at-j at-k is-j is-k =
    let n = twice es t j k d e (omega (arith, lt)) at-j at-k is-j is-k in let m = grows c es t in omega (arith, n, m)

abbrev pub of-entry : EntryModel → Ticket
of-entry e = e.ticket

-- by a table of the entries
pub reply-here : (history : List EntryModel) (at : Ticket → Option ℕ) (t : Ticket) (k : ℕ) (e : EntryModel) → IsIndex of-entry history at → at t ≡ Some k
    → slice_get history k ≡ Some e → replies_to history t ≡ e.reply ∷ []
reply-here history at t k e index is here =
    let w = (index t k).0 is in
    let mine : slice_get history k ≡ Some w.1 = w.2 in
    let one : w.1 ≡ e = cc in
    alone history t k e here (ap of-entry (sym one) ∙ w.3)
    (λ j f there of. let so : at t ≡ Some j = (index t j).1 (slice_get_within history j f there, f, there, of) in cc)

pub reply-nowhere : (history : List EntryModel) (at : Ticket → Option ℕ) (t : Ticket) → IsIndex of-entry history at → at t ≡ None → replies_to history t ≡ []
reply-nowhere history at t index is =
    silent history t (λ j f there of. let so : at t ≡ Some j = (index t j).1 (slice_get_within history j f there, f, there, of) in absurd (cc))

pub at-most-one : (history : List EntryModel) (at : Ticket → Option ℕ) (t : Ticket) → IsIndex of-entry history at → length (replies_to history t) ≤ 1
at-most-one history at t index = go (at t) refl
  where
    go : (o : Option ℕ) → at t ≡ o → length (replies_to history t) ≤ 1
    go None e = let n : length (replies_to history t) ≡ 0 = ap length (reply-nowhere history at t index e) in omega (arith, n)
    go (Some k) e =
        let w = (index t k).0 e in
        let n : length (replies_to history t) ≡ 1 = ap length (reply-here history at t k w.1 index e w.2) in omega (arith, n)

-- where no part has two entries, and each entry has a part's ticket, no two entries have one ticket
pub entries-differ : (parts : List (Ticket × PartModel)) (history : List EntryModel)
    → All (λ part. length (replies_to history part.0) ≤ 1) parts → All (λ e. Any (λ part. (part.0 ≡ e.ticket) × (part.1 ≡ e.part)) parts) history
    → Differ of-entry history
entries-differ parts history most have i j d lt within same =
    let first : i < length history = omega (arith, lt, within) in
    let e : EntryModel = get_or history i d in
    let any : Any (λ part. (part.0 ≡ e.ticket) × (part.1 ≡ e.part)) parts = have i d first in
    let is : (get_or parts any.0 any.1).0 ≡ e.ticket = ap (λ p. p.0) any.3 ∙ any.4.0 in
    let one : length (replies_to history e.ticket) ≤ 1 = subst (λ t. length (replies_to history t) ≤ 1) is (most any.0 any.1 any.2) in
    let two : 2 ≤ length (replies_to history e.ticket) = twice history e.ticket i j e (get_or history j d) lt (slice_get-get_or history i d first) (slice_get-get_or history j d within) refl (sym same) in
    omega (arith, one, two)

-- what each end says, by that table
pub reply-tells : (history : List EntryModel) (at : Ticket → Option ℕ) (t : Ticket) (k : ℕ) (e : EntryModel) (d : Data) → IsIndex of-entry history at → at t ≡ Some k
    → slice_get history k ≡ Some e → (e.reply ≡ d) ↔ (replies_to history t ≡ d ∷ [])
reply-tells history at t k e d index is here =
    let one : replies_to history t ≡ e.reply ∷ [] = reply-here history at t k e index is here in
    (λ same. one ∙ ap (λ r. r ∷ []) same, λ all. (let both : ◌≡◌ {A = List Data} (e.reply ∷ []) (d ∷ []) = sym one ∙ all in cc))

pub no-reply-tells : (history : List EntryModel) (at : Ticket → Option ℕ) (t : Ticket) (d : Data) → IsIndex of-entry history at → at t ≡ None → replies_to history t ≡ d ∷ [] → ⊥
no-reply-tells history at t d index is all =
    let none : replies_to history t ≡ [] = reply-nowhere history at t index is in absurd (cc)

pub silence-tells : (history : List EntryModel) (at : Ticket → Option ℕ) (t : Ticket) → IsIndex of-entry history at → IsTrue (is_none (at t)) ↔ (replies_to history t ≡ [])
silence-tells history at t index = go (at t) refl
  where
    go : (o : Option ℕ) → at t ≡ o → IsTrue (is_none (at t)) ↔ (replies_to history t ≡ [])
    go None e = (λ _. reply-nowhere history at t index e, λ _. ap is_none e)
    go (Some k) e =
        let w = (index t k).0 e in (
          λ none. no-way (sym (ap is_none e) ∙ none),
          λ all. absurd (let one : replies_to history t ≡ w.1.reply ∷ [] = reply-here history at t k w.1 index e w.2 in cc),
        )
