-- What was drained is the replies to the first requests, by the ends of their parts, which were all told.
use Rattle.std.proofs.Common.{◌≡◌, ◌⊎◌, inl, inr, ⊎_elim, ◌++◌, ◌∷◌, [], ◌+◌, ◌<◌, ◌≤◌, ◌&&◌, ◌^◌, List, ℕ, zero, suc, refl, ap, sym, subst, ◌∙◌, arith, append_assoc, Option, Some, None, Result, Ok, Err, Bool, true, false, cond, length, length-drop, take, drop}
use Rattle.std.specs.Prelude.{if◌then◌else◌, map, nat_eq, nat_le, option_map}
use Rattle.std.specs.List.{list_all}
use Rattle.std.proofs.lemmas.Grind.{flat_map-append}
use Rattle.std.proofs.lemmas.List.{append-nil, drop_all, map-append, take-append-drop}
use Rattle.resp_wire.specs.declared.value.Value.{Value}
use Rattle.key_split.specs.declared.travel.Ticket.{Ticket}
use Rattle.key_split.specs.declared.travel.Ended.{Ended}
use Rattle.key_split.specs.declared.planned.Joining.{Joining}
use Rattle.session_order.specs.SessionModel.{SessionModel}
use Rattle.session_order.specs.Turn.{is_done}
use Rattle.session_order.specs.declared.queue.PartStage.{PartStage}
use Rattle.session_order.specs.declared.replies.PendingReply.{PendingReply}
use Rattle.session_order.specs.declared.replies.PendingReply.TheVariants.{Reply, Parts}
use Rattle.session_order.specs.declared.closing.Broken.{Broken}
use Rattle.session_order.specs.declared.closing.Closing.{Closing}
use Rattle.session_order.specs.declared.closing.Closing.TheVariants.{Open, Quit, Faulted}
use Rattle.session_order.specs.PendingReply.{owed_by, owed_for, plan_for}
use Rattle.session_order.specs.Replies.{bytes_of, first_replies, joined, last_line, lines_owed, parts_of, replied, replies, said, spelling, without}
use Rattle.session_order.specs.Steps.{added, with_incoming, with_owed}
use Rattle.session_order.specs.Life.{SessionCall, Fed, Read, Handed, Followed, Told, Drained, Reads, SessionDoes, read_by, told_by, drained_by}
use Rattle.session_order.proofs.Fewer.{first_done, parts_split}
use Rattle.session_order.specs.declared.fault.SessionFault.{SessionFault}
use Rattle.session_order.specs.declared.fault.SessionFault.TheVariants as session_fault
use Rattle.session_order.specs.declared.fault.SessionFault.TheVariants.{Wire, NotRequest}
use Rattle.key_split.specs.declared.planned.Planned.{Planned}
use Rattle.key_split.specs.declared.planned.Planned.TheVariants as planned
use Rattle.key_split.specs.declared.planned.PlanFault.{PlanFault}
use Rattle.turn_laws.proofs.RequestsRead.{AreCounted, open-faulted}
use Rattle.turn_laws.proofs.SessionTells.{HasTold}
use Rattle.session_order.specs.Output.{end_of, ends_from, replies_told}
use Rattle.session_order.proofs.Told.{Tables, after, ends_table, is_below, split_ok, tables_drop}
use Rattle.session_order.proofs.Draining.{outcome}

-- an end was told of each of these parts
abbrev pub AreKnown : List (Ticket × Ended) → ℕ → ℕ → Type 0
AreKnown told from n = (number : ℕ) → from ≤ number → number < from + n → (end : Ended) × (end_of told number ≡ Some end)

-- two lists tell the same of these parts
abbrev pub Agree : List (Ticket × Ended) → List (Ticket × Ended) → ℕ → ℕ → Type 0
Agree a b from n = (number : ℕ) → from ≤ number → number < from + n → end_of a number ≡ end_of b number

one-more-end : Option Ended → Option (List Ended) → Option (List Ended)
one-more-end first others = elim first [ Some end ↦ option_map (λ ends. end ∷ ends) others | None ↦ None ]

agree-ends : (a b : List (Ticket × Ended)) (from n : ℕ) → Agree a b from n → ends_from a from n ≡ ends_from b from n
unfolding one-more-end
agree-ends a b from zero same = refl
agree-ends a b from (suc n) same =
    let first : end_of a from ≡ end_of b from = same from (omega arith) (omega arith) in
    let rest : ends_from a (suc from) n ≡ ends_from b (suc from) n = agree-ends a b (suc from) n (λ number low less. same number (omega (arith, low)) (omega (arith, less))) in
    (λ i. one-more-end (first i) (rest i))

pub agree : (a b : List (Ticket × Ended)) (from : ℕ) (owed : List PendingReply) (last : List Value) → Agree a b from (parts_of owed) → replies_told a from owed last ≡ replies_told b from owed last
agree a b from [] last same = refl
agree a b from (Reply value ∷ owed) last same = ap (λ vs. value ∷ vs) (agree a b from owed last same)
agree a b from (Parts how n ∷ owed) last same =
    let ends : ends_from a from n ≡ ends_from b from n = agree-ends a b from n (λ number low less. same number low (omega (arith, less))) in
    let rest : replies_told a (from + n) owed last ≡ replies_told b (from + n) owed last = agree a b (from + n) owed last (λ number low less. same number (omega (arith, low)) (omega (arith, less))) in
    (λ i. after (ends i) how (rest i))

known-ends : (told : List (Ticket × Ended)) (from n : ℕ) → AreKnown told from n → (ends : List Ended) × (ends_from told from n ≡ Some ends)
unfolding one-more-end
known-ends told from zero known = ([], refl)
known-ends told from (suc n) known =
    let first = known from (omega arith) (omega arith) in
    let rest = known-ends told (suc from) n (λ number low less. known number (omega (arith, low)) (omega (arith, less))) in
    (first.0 ∷ rest.0, (λ i. one-more-end (first.1 i) (rest.1 i)))

-- where all of the first are known, the others stand behind
pub split-known : (told : List (Ticket × Ended)) (from : ℕ) (owed more : List PendingReply) (last : List Value) → AreKnown told from (parts_of owed)
    → replies_told told from (owed ++ more) last ≡ replies_told told from owed [] ++ replies_told told (from + parts_of owed) more last
split-known told from [] more last known = let e : from ≡ from + 0 = omega arith in ap (λ n. replies_told told n more last) e
split-known told from (Reply value ∷ owed) more last known = ap (λ vs. value ∷ vs) (split-known told from owed more last known)
split-known told from (Parts how n ∷ owed) more last known =
    let ends = known-ends told from n (λ number low less. known number low (omega (arith, less))) in
    let rest = split-known told (from + n) owed more last (λ number low less. known number (omega (arith, low)) (omega (arith, less))) in
    let place : from + n + parts_of owed ≡ from + (n + parts_of owed) = omega arith in
    ap (λ o. after o how (replies_told told (from + n) (owed ++ more) last)) ends.1
    ∙ ap (λ vs. joined how ends.0 ∷ vs) (rest ∙ ap (λ m. replies_told told (from + n) owed [] ++ replies_told told m more last) place)
    ∙ ap (λ o. after o how (replies_told told (from + n) owed []) ++ replies_told told (from + (n + parts_of owed)) more last) (sym ends.1)

both : (a b : Bool) → (a && b) ≡ true → (a ≡ true) × (b ≡ true)
both true b e = (refl, e)
both false b e = absurd (cc)

from-or-later : (from number : ℕ) → from ≤ number → (number ≡ from) ⊎ (suc from ≤ number)
from-or-later from number low = grind arith

-- the first parts, which are done, are known
pub first-known : (told : List (Ticket × Ended)) (from m : ℕ) (stages : List PartStage) (ends : List Ended) → Tables told from stages ends → list_all is_done (take m stages) ≡ true → m ≤ length stages → AreKnown told from m
first-known told from zero stages ends tables done few number low less = absurd (omega (arith, low, less))
first-known told from (suc m) [] ends tables done few number low less = absurd (omega (arith, few))
first-known told from (suc m) (s ∷ stages) [] tables done few number low less = absurd tables
first-known told from (suc m) (s ∷ stages) (e ∷ ends) tables done few number low less =
    let split = both (is_done s) (list_all is_done (take m stages)) done in
    ⊎_elim (λ (same : number ≡ from). (e, ap (end_of told) same ∙ tables.0 ∙ ap (λ b. cond b (Some e) None) split.0))
    (λ (later : suc from ≤ number). first-known told (suc from) m stages ends tables.1 split.1 (omega (arith, few)) number later (omega (arith, less)))
    (from-or-later from number low)

below-or : (n m : ℕ) → (n < m) ⊎ (m ≤ n)
below-or n m = grind arith

parts-append : (xs ys : List PendingReply) → parts_of (xs ++ ys) ≡ parts_of xs + parts_of ys
parts-append [] ys = omega arith
parts-append (Reply value ∷ xs) ys = parts-append xs ys
parts-append (Parts how n ∷ xs) ys = omega (arith, parts-append xs ys)

same-at : (b : Bool) (how : Joining) (m : ℕ) (es : List Ended) (rest : ℕ → List Value) (others : List Value) → rest m ≡ others
    → outcome b (joined how es) m rest ≡ after (cond {A = Option (List Ended)} b (Some es) None) how others
same-at true how m es rest others same = ap (λ vs. joined how es ∷ vs) same
same-at false how m es rest others same = refl

-- the replies by what a session holds are those by what was told
pub by-told : (told : List (Ticket × Ended)) (n : ℕ) (owed : List PendingReply) (stages : List PartStage) (ends : List Ended) (last : List Value) → Tables told n stages ends → parts_of owed ≤ length stages
    → replies owed stages ends last ≡ replies_told told n owed last
by-told told n [] stages ends last tables few = refl
by-told told n (Reply value ∷ owed) stages ends last tables few = ap (λ vs. value ∷ vs) (by-told told n owed stages ends last tables few)
by-told told n (Parts how m ∷ owed) stages ends last tables few =
    let fits : m ≤ length stages = omega (arith, few) in
    let left : parts_of owed ≤ length (drop m stages) = omega (arith, length-drop m stages, few) in
    same-at (list_all is_done (take m stages)) how m (take m ends) (λ i. replies owed (drop i stages) (drop i ends) last) (replies_told told (n + m) owed last)
    (by-told told (n + m) owed (drop m stages) (drop m ends) last (tables_drop told n m (n + m) stages ends refl tables) left)
    ∙ ap (λ (o : Option (List Ended)). after o how (replies_told told (n + m) owed last)) (sym (ends_table told n m stages ends tables fits))

-- the lines that were drained: none, or that of a fault, behind all replies
abbrev pub IsLine : List Value → SessionModel → Type 0
IsLine line held = (line ≡ []) ⊎ ((line ≡ lines_owed true) × (held.requests ≡ []) × ((why : Broken) × (held.closing ≡ Faulted why false)))

-- what was drained: the replies to the requests that are no longer held, and the line
pub record DrainedBy (told : List (Ticket × Ended)) (read : List (List (List ℕ))) (drained : List ℕ) (held : SessionModel) : Type 0 where
  pub gone : List PendingReply
  pub line : List Value
  pub owed : map owed_for read ≡ gone ++ held.requests
  pub parts : parts_of gone ≡ held.first
  pub known : AreKnown told 0 (parts_of gone)
  pub bytes : drained ≡ bytes_of (replies_told told 0 gone line)
  pub lined : IsLine line held

-- ---- each call keeps that

pick : (b : Bool) (x e : Ended) (r r' : Option Ended) → (r ≡ Some e → r' ≡ Some e) → cond b (Some x) r ≡ Some e → cond b (Some x) r' ≡ Some e
pick true x e r r' h is = is
pick false x e r r' h is = h is

-- what is known stays known, and says the same
pub end-more : (told more : List (Ticket × Ended)) (number : ℕ) (end : Ended) → end_of told number ≡ Some end → end_of (told ++ more) number ≡ Some end
end-more [] more number end is = absurd (cc)
end-more (t ∷ told) more number end is = pick (nat_eq t.0.part number) t.1 end (end_of told number) (end_of (told ++ more) number) (end-more told more number end) is

agree-more : (told more : List (Ticket × Ended)) (from n : ℕ) → AreKnown told from n → Agree (told ++ more) told from n
agree-more told more from n known number low less = let its = known number low less in end-more told more number its.0 its.1 ∙ sym its.1

known-more : (told more : List (Ticket × Ended)) (from n : ℕ) → AreKnown told from n → AreKnown (told ++ more) from n
known-more told more from n known number low less = let its = known number low less in (its.0, end-more told more number its.0 its.1)

-- a call that drains nothing and leaves the requests, or adds one
on : (told more : List (Ticket × Ended)) (read others : List (List (List ℕ))) (drained : List ℕ) (old new : SessionModel) → map owed_for (read ++ others) ≡ map owed_for read ++ map owed_for others
    → new.requests ≡ old.requests ++ map owed_for others → new.first ≡ old.first → (line : List Value) → IsLine line new
    → (d : DrainedBy told read drained old) → d.line ≡ line → DrainedBy (told ++ more) (read ++ others) (drained ++ []) new
on told more read others drained old new maps requests first line lined d same = record {
  gone = d.gone;
  line = line;
  owed = maps ∙ ap (λ rs. rs ++ map owed_for others) d.owed ∙ append_assoc d.gone old.requests (map owed_for others) ∙ ap (λ rs. d.gone ++ rs) (sym requests);
  parts = d.parts ∙ sym first;
  known = known-more told more 0 (parts_of d.gone) d.known;
  bytes = append-nil drained ∙ d.bytes ∙ ap bytes_of (sym (agree (told ++ more) told 0 d.gone d.line (agree-more told more 0 (parts_of d.gone) d.known)) ∙ ap (replies_told (told ++ more) 0 d.gone) same);
  lined = lined;
}

line-on : (line : List Value) (old new : SessionModel) → new.requests ≡ old.requests → new.closing ≡ old.closing → IsLine line old → IsLine line new
line-on line old new requests closing (inl none) = inl none
line-on line old new requests closing (inr (is, none, (why, closed))) = inr (is, requests ∙ none, (why, closing ∙ closed))

open-line : (line : List Value) (held : SessionModel) → held.closing ≡ Open → IsLine line held → line ≡ []
open-line line held opened (inl none) = none
open-line line held opened (inr (is, none, (why, closed))) = absurd (open-faulted why held.closing opened (false, closed))

-- nothing is read, and nothing drained
still : (told more : List (Ticket × Ended)) (read : List (List (List ℕ))) (drained : List ℕ) (old new : SessionModel) → new.requests ≡ old.requests → new.first ≡ old.first → new.closing ≡ old.closing
    → DrainedBy told read drained old → DrainedBy (told ++ more) (read ++ []) (drained ++ []) new
still told more read drained old new requests first closing d =
    on told more read [] drained old new (map-append owed_for read []) (requests ∙ sym (append-nil old.requests)) first d.line (line-on d.line old new requests closing d.lined) d refl

-- a fault is met
breaks : (told : List (Ticket × Ended)) (read : List (List (List ℕ))) (drained : List ℕ) (old new : SessionModel) → new.requests ≡ old.requests → new.first ≡ old.first → old.closing ≡ Open
    → DrainedBy told read drained old → DrainedBy (told ++ []) (read ++ []) (drained ++ []) new
breaks told read drained old new requests first opened d =
    on told [] read [] drained old new (map-append owed_for read []) (requests ∙ sym (append-nil old.requests)) first [] (inl refl) d (open-line d.line old opened d.lined)

added-requests : (old : SessionModel) (plan : Result Planned PlanFault) (new : SessionModel) → added old plan ≡ Ok new → (new.requests ≡ old.requests ++ owed_by plan ∷ []) × (new.first ≡ old.first)
added-requests old (Err fault) new is = let e = split_ok true (with_owed old (Err fault)) new is in (ap (λ (s : SessionModel). s.requests) e, ap (λ (s : SessionModel). s.first) e)
added-requests old (Ok (planned.Local value)) new is = let e = split_ok true (with_owed old (Ok (planned.Local value))) new is in (ap (λ (s : SessionModel). s.requests) e, ap (λ (s : SessionModel). s.first) e)
added-requests old (Ok planned.Close) new is = let e = split_ok true (record (with_owed old (Ok planned.Close)) { closing = Quit }) new is in (ap (λ (s : SessionModel). s.requests) e, ap (λ (s : SessionModel). s.first) e)
added-requests old (Ok (planned.Parts how parts)) new is = let e = split_ok (nat_le (old.first + length old.stages + length parts) (2 ^ 48)) _ new is in (ap (λ (s : SessionModel). s.requests) e, ap (λ (s : SessionModel). s.first) e)

reads : (told : List (Ticket × Ended)) (read : List (List (List ℕ))) (drained : List ℕ) (result : Result Bool SessionFault) (words : Option (List (List ℕ))) (old new : SessionModel) → Reads old result words new
    → DrainedBy told read drained old → DrainedBy (told ++ []) (read ++ read_by (Read result words)) (drained ++ []) new
reads told read drained (Ok true) (Some words) old new (may, rest, (next, is)) d =
    let (requests, first) = added-requests (with_incoming old rest) (plan_for words) new is in
    on told [] read (words ∷ []) drained old new (map-append owed_for read (words ∷ [])) requests first [] (inl refl) d (open-line d.line old may.0 d.lined)
reads told read drained (Ok true) None old new (may, takes, is) d = still told [] read drained old new (ap (λ (s : SessionModel). s.requests) is) (ap (λ (s : SessionModel). s.first) is) (ap (λ (s : SessionModel). s.closing) is) d
reads told read drained (Ok false) None old new (is, why) d = still told [] read drained old new (ap (λ (s : SessionModel). s.requests) is) (ap (λ (s : SessionModel). s.first) is) (ap (λ (s : SessionModel). s.closing) is) d
reads told read drained (Ok false) (Some words) old new does d = absurd does
reads told read drained (Err session_fault.NoMemory) None old new (may, keeps, is) d = still told [] read drained old new (ap (λ (s : SessionModel). s.requests) is) (ap (λ (s : SessionModel). s.first) is) (ap (λ (s : SessionModel). s.closing) is) d
reads told read drained (Err (Wire fault)) None old new (inl (was, is)) d = still told [] read drained old new (ap (λ (s : SessionModel). s.requests) is) (ap (λ (s : SessionModel). s.first) is) (ap (λ (s : SessionModel). s.closing) is) d
reads told read drained (Err (Wire fault)) None old new (inr (may, garbled, is)) d = breaks told read drained old new (ap (λ (s : SessionModel). s.requests) is) (ap (λ (s : SessionModel). s.first) is) may.0 d
reads told read drained (Err NotRequest) None old new (inl (was, is)) d = still told [] read drained old new (ap (λ (s : SessionModel). s.requests) is) (ap (λ (s : SessionModel). s.first) is) (ap (λ (s : SessionModel). s.closing) is) d
reads told read drained (Err NotRequest) None old new (inr (inl (may, takes, is))) d = breaks told read drained old new (ap (λ (s : SessionModel). s.requests) is) (ap (λ (s : SessionModel). s.first) is) may.0 d
reads told read drained (Err NotRequest) None old new (inr (inr (may, words, rest, refused, is))) d = breaks told read drained old new (ap (λ (s : SessionModel). s.requests) is) (ap (λ (s : SessionModel). s.first) is) may.0 d
reads told read drained (Err session_fault.NoMemory) (Some words) old new does d = absurd does
reads told read drained (Err (Wire fault)) (Some words) old new does d = absurd does
reads told read drained (Err NotRequest) (Some words) old new does d = absurd does

-- ---- replies are drained

take-none : {A : Type 0} (n : ℕ) → take {A = A} n [] ≡ []
take-none zero = refl
take-none (suc n) = refl

drop-none : {A : Type 0} (n : ℕ) → drop {A = A} n [] ≡ []
drop-none zero = refl
drop-none (suc n) = refl

neither : (b : Bool) → (if b then last_line Open else []) ≡ []
neither true = refl
neither false = refl

said-false : (b : Bool) (closing : Closing) (why : Broken) → closing ≡ Faulted why false → (if b then said closing else closing) ≡ Faulted why false
said-false true closing why is = ap said is
said-false false closing why is = is

nothing-left : (requests : List PendingReply) (count : ℕ) (stages : List PartStage) (ends : List Ended) (closing : Closing) (why : Broken) → requests ≡ [] → closing ≡ Faulted why false
    → bytes_of (first_replies count requests stages ends (last_line closing)) ≡ []
nothing-left requests count stages ends closing why none closed =
    (λ i. bytes_of (first_replies count (none i) stages ends (last_line (closed i)))) ∙ (λ i. bytes_of (replies (take-none {A = PendingReply} count i) stages ends (neither (nat_le 0 count) i)))

line-left : (requests : List PendingReply) (count : ℕ) (b : Bool) → nat_le (length requests) count ≡ b → (closing : Closing)
    → ((if b then last_line closing else []) ≡ []) ⊎ (((if b then last_line closing else []) ≡ lines_owed true) × (drop count requests ≡ []) × ((why : Broken) × ((if b then said closing else closing) ≡ Faulted why false)))
line-left requests count true all Open = inl refl
line-left requests count true all Quit = inl refl
line-left requests count true all (Faulted why true) = inr (refl, drop_all count requests (is_below (length requests) count all), (why, refl))
line-left requests count true all (Faulted why false) = inl refl
line-left requests count false all closing = inl refl

drains : (told : List (Ticket × Ended)) (read : List (List (List ℕ))) (drained : List ℕ) (old : SessionModel) (count : ℕ) (bytes : List ℕ) → HasTold told old → AreCounted read old
    → count ≤ (replied old.requests old.stages old.ends).0 → bytes ≡ bytes_of (first_replies count old.requests old.stages old.ends (last_line old.closing)) → (d : DrainedBy told read drained old)
    → IsLine d.line old → DrainedBy told read (drained ++ bytes) (without old (count, parts_of (take count old.requests)))
drains told read drained old count bytes held counted order spelled d (inl none) =
    let some : List PendingReply = take count old.requests in
    let m : ℕ = parts_of some in
    let line : List Value = if nat_le (length old.requests) count then last_line old.closing else [] in
    let fits : m ≤ length old.stages = omega (arith, parts_split count old.requests, counted.1) in
    let place : old.first ≡ 0 + parts_of d.gone = omega (arith, d.parts) in
    record {
      gone = d.gone ++ some;
      line = line;
      owed = d.owed ∙ ap (λ rs. d.gone ++ rs) (sym (take-append-drop count old.requests)) ∙ sym (append_assoc d.gone some (drop count old.requests));
      parts = parts-append d.gone some ∙ ap (λ n. n + m) d.parts;
      known = λ number low less. ⊎_elim (λ (z : number < old.first). d.known number low (omega (arith, z, d.parts)))
          (λ (z : old.first ≤ number). first-known told old.first m old.stages old.ends held.0 (first_done count old.requests old.stages old.ends order) fits number z (omega (arith, less, parts-append d.gone some, d.parts)))
          (below-or number old.first);
      bytes = ap (λ bs. bs ++ bytes) (d.bytes ∙ ap (λ l. bytes_of (replies_told told 0 d.gone l)) none)
          ∙ ap (λ bs. bytes_of (replies_told told 0 d.gone []) ++ bs) (spelled ∙ ap bytes_of (by-told told old.first some old.stages old.ends line held.0 fits ∙ ap (λ n. replies_told told n some line) place))
          ∙ sym (flat_map-append spelling (replies_told told 0 d.gone []) (replies_told told (0 + parts_of d.gone) some line))
          ∙ ap bytes_of (sym (split-known told 0 d.gone some line d.known));
      lined = line-left old.requests count (nat_le (length old.requests) count) refl old.closing;
    }
drains told read drained old count bytes held counted order spelled d (inr (is, none, (why, closed))) =
    let no-more : drop count old.requests ≡ [] = ap (drop count) none ∙ drop-none count in
    let no-parts : parts_of (take count old.requests) ≡ 0 = ap (λ rs. parts_of (take count rs)) none ∙ ap parts_of (take-none {A = PendingReply} count) in
    record {
      gone = d.gone;
      line = d.line;
      owed = d.owed ∙ ap (λ rs. d.gone ++ rs) (none ∙ sym no-more);
      parts = omega (arith, d.parts, no-parts);
      known = d.known;
      bytes = ap (λ bs. drained ++ bs) (spelled ∙ nothing-left old.requests count old.stages old.ends old.closing why none closed) ∙ append-nil drained ∙ d.bytes;
      lined = inr (is, no-more, (why, said-false (nat_le (length old.requests) count) old.closing why closed));
    }

-- ---- all calls

none-more : (told : List (Ticket × Ended)) (read : List (List (List ℕ))) (drained : List ℕ) (held : SessionModel) → DrainedBy told read drained held → DrainedBy (told ++ []) (read ++ []) drained held
none-more told read drained held d = subst (λ es. DrainedBy es (read ++ []) drained held) (sym (append-nil told)) (subst (λ rs. DrainedBy told rs drained held) (sym (append-nil read)) d)

pub drained-on : (told : List (Ticket × Ended)) (read : List (List (List ℕ))) (drained : List ℕ) (call : SessionCall) (old new : SessionModel) → SessionDoes old call new → HasTold told old → AreCounted read old
    → DrainedBy told read drained old → DrainedBy (told ++ told_by call) (read ++ read_by call) (drained ++ drained_by call) new
drained-on told read drained (Fed piece (Ok n)) old new (inl (full-up, none, is, opened)) h c d = still told [] read drained old new (ap (λ (s : SessionModel). s.requests) is) (ap (λ (s : SessionModel). s.first) is) (ap (λ (s : SessionModel). s.closing) is) d
drained-on told read drained (Fed piece (Ok n)) old new (inr (few, all, inl (opened, is))) h c d = still told [] read drained old new (ap (λ (s : SessionModel). s.requests) is) (ap (λ (s : SessionModel). s.first) is) (ap (λ (s : SessionModel). s.closing) is) d
drained-on told read drained (Fed piece (Ok n)) old new (inr (few, all, inr (quit, is))) h c d = still told [] read drained old new (ap (λ (s : SessionModel). s.requests) is) (ap (λ (s : SessionModel). s.first) is) (ap (λ (s : SessionModel). s.closing) is) d
drained-on told read drained (Fed piece (Err session_fault.NoMemory)) old new (may, is) h c d = still told [] read drained old new (ap (λ (s : SessionModel). s.requests) is) (ap (λ (s : SessionModel). s.first) is) (ap (λ (s : SessionModel). s.closing) is) d
drained-on told read drained (Fed piece (Err (Wire fault))) old new (was, is) h c d = still told [] read drained old new (ap (λ (s : SessionModel). s.requests) is) (ap (λ (s : SessionModel). s.first) is) (ap (λ (s : SessionModel). s.closing) is) d
drained-on told read drained (Fed piece (Err NotRequest)) old new (was, is) h c d = still told [] read drained old new (ap (λ (s : SessionModel). s.requests) is) (ap (λ (s : SessionModel). s.first) is) (ap (λ (s : SessionModel). s.closing) is) d
drained-on told read drained (Read result words) old new does h c d = reads told read drained result words old new does d
drained-on told read drained (Handed None) old new (none, is) h c d = still told [] read drained old new (ap (λ (s : SessionModel). s.requests) is) (ap (λ (s : SessionModel). s.first) is) (ap (λ (s : SessionModel). s.closing) is) d
drained-on told read drained (Handed (Some (ticket, part))) old new (i, next, numbered, is) h c d = still told [] read drained old new (ap (λ (s : SessionModel). s.requests) is) (ap (λ (s : SessionModel). s.first) is) (ap (λ (s : SessionModel). s.closing) is) d
drained-on told read drained (Followed last None) old new (none, is) h c d = still told [] read drained old new (ap (λ (s : SessionModel). s.requests) is) (ap (λ (s : SessionModel). s.first) is) (ap (λ (s : SessionModel). s.closing) is) d
drained-on told read drained (Followed last (Some (ticket, part))) old new (i, next, numbered, is) h c d = still told [] read drained old new (ap (λ (s : SessionModel). s.requests) is) (ap (λ (s : SessionModel). s.first) is) (ap (λ (s : SessionModel). s.closing) is) d
drained-on told read drained (Told ticket end) old new (out, is) h c d = still told ((ticket, end) ∷ []) read drained old new (ap (λ (s : SessionModel). s.requests) is) (ap (λ (s : SessionModel). s.first) is) (ap (λ (s : SessionModel). s.closing) is) d
drained-on told read drained (Drained most (Ok n) bytes) old new (own, is-own, all, written) h c d =
    subst (λ held. DrainedBy (told ++ []) (read ++ []) (drained ++ bytes) held) (sym written.left)
    (none-more told read (drained ++ bytes) (without old (written.count, parts_of (take written.count old.requests)))
    (drains told read drained old written.count bytes h c (written.written).in_order (is-own ∙ (written.written).spelled) d d.lined))
drained-on told read drained (Drained most (Err refused) bytes) old new (none, is) h c d =
    subst (λ bs. DrainedBy (told ++ []) (read ++ []) (drained ++ bs) new) (sym none)
    (still told [] read drained old new (ap (λ (s : SessionModel). s.requests) is) (ap (λ (s : SessionModel). s.first) is) (ap (λ (s : SessionModel). s.closing) is) d)
