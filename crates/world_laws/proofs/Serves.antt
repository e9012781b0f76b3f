-- Serving and moving keep the data, the history and the commands that ASK sent.
use Rattle.std.proofs.Common.{◌≡◌, ◌≢◌, ◌⊎◌, inl, inr, ⊎_elim, ℕ, zero, suc, ◌==◌, ◌&&◌, ◌≤◌, ◌<◌, Bool, true, false, List, [], ◌∷◌, ◌++◌, Some, None, Option, refl, sym, ap, ◌∙◌, subst, arith}
use Rattle.std.specs.Prelude.{slice_get, All, if◌then◌else◌}
use Rattle.std.proofs.lemmas.Option.{slice_get-get_or}
use Rattle.std.proofs.lemmas.Bool.Decides.{eqb_tells}
use Rattle.std.specs.FinMap.{get}
use Rattle.std.specs.Prelude.{is_some}
use Rattle.slot_hash.specs.Slot.{slot_of}
use Rattle.key_split.specs.PartModel.{PartModel, HasOneSlot, keys_of}
use Rattle.key_split.specs.Same.{same_ticket}
use Rattle.key_split.specs.declared.travel.Told.{Told}
use Rattle.key_split.specs.declared.travel.Told.TheVariants.{Reply, Moved, Ask, TryAgain, ClusterDown, Unclear, Unsent}
use Rattle.world_laws.specs.State.{WorldModel, Arrival, Link, slot_for, tickets_told, parts_told, tolds_of}
use Rattle.world_laws.specs.Places.{total, tally, is, asks, asks_in_told}
use Rattle.world_laws.specs.Places.Item.{Sent}
use Rattle.node_model.specs.Store.{StoreModel, store_after, reply_to}
use Rattle.node_model.specs.History.{EntryModel, IsLegal, left_by}
use Rattle.node_model.specs.Standings.{SlotStandingModel}
use Rattle.node_model.specs.Nodes.{ClusterModel, standing_at, store_at, at, with_store}
use Rattle.node_model.specs.Serving.{deed_of, held_of}
use Rattle.node_model.specs.declared.standing.Phase.TheVariants.{Settled}
use Rattle.node_model.specs.declared.role.Role.{Role}
use Rattle.node_model.specs.declared.role.Deed.TheVariants.{Executes, Says}
use Rattle.node_model.specs.declared.role.KeysHeld.{KeysHeld}
use Rattle.node_model.specs.declared.role.Verdict.{Verdict}
use Rattle.node_model.specs.declared.role.Verdict.TheVariants as verdict
use Rattle.world_laws.specs.World.{IsNode}
use Rattle.world_laws.specs.World.{ServesRunAt, AreOf, entry_of, entries_of}
use Rattle.node_model.specs.Runs.{deed_for, AllTold, AreReplies, store_after_all, keys_in, first_key, have_one_key}
use Rattle.world_laws.proofs.Flow.{all_at, if_open, serve-flow}
use Rattle.world_laws.proofs.Placed.{Standing}
use Rattle.world_laws.specs.Homes.{IsHome, home_in, is_bad}
use Rattle.world_laws.proofs.Histories.{legal-append, left_by-append, is_reply, role-no_reply}
use Rattle.world_laws.proofs.Homes.{bad-back, bad-says, exec-home, executes-home, home-same, if_says}
use Rattle.world_laws.proofs.Kept.{Kept, IsAsked, BadAsk, slot_here, unique, is-refl}
use Rattle.node_model.specs.Laws.{Among, Agree}
use Rattle.world_laws.proofs.There.{There}
use Rattle.world_laws.proofs.Nodes.{ExecutedAll, SaidAll, runs, reply-is, store-hit, store-other}
use Rattle.world_laws.proofs.Turns.{Turned, IsRun, AreRuns}
use Rattle.world_laws.proofs.Tally.{total-one}
use Rattle.resp_wire.specs.Seen.{data_of}
use Rattle.resp_wire.specs.declared.value.Value.{Value}
use Rattle.key_split.specs.declared.travel.Ticket.{Ticket}
use Rattle.world_laws.specs.declared.state.LinkRequest.TheVariants.{Runs}
use Rattle.node_model.proofs.Keys.{among}
use Rattle.node_model.proofs.AllDone.{after-all-other, among-either, among-left, among-right}
use Rattle.world_laws.proofs.Stores.{all-among, after-other, answer-alike, all-held, none-held}

-- the keys of a run

-- a key of a command of the run is one of the run, and the other way round
pub among-in : (q : List ℕ) (run : List (Arrival × Told)) (k : ℕ) (p : Arrival × Told) → slice_get run k ≡ Some p → Among q (keys_of p.0.command.part) → Among q (keys_in (parts_told run))
among-in q [] k p e h = absurd (cc)
among-in q (x ∷ xs) zero p e h = let same : p ≡ x = cc in among-left q (keys_of x.0.command.part) (keys_in (parts_told xs)) (subst (λ (z : Arrival × Told). Among q (keys_of z.0.command.part)) same h)
among-in q (x ∷ xs) (suc k) p e h = among-right q (keys_of x.0.command.part) (keys_in (parts_told xs)) (among-in q xs k p e h)

among-of : (q : List ℕ) (run : List (Arrival × Told)) → Among q (keys_in (parts_told run)) → (k : ℕ) × (p : Arrival × Told) × (slice_get run k ≡ Some p) × Among q (keys_of p.0.command.part)
among-of q [] h = absurd h
among-of q (x ∷ xs) h = ⊎_elim (λ (y : Among q (keys_of x.0.command.part)). (0, x, refl, y))
    (λ (y : Among q (keys_in (parts_told xs))). let r = among-of q xs y in (suc r.0, r.1, r.2, r.3))
    (among-either q (keys_of x.0.command.part) (keys_in (parts_told xs)) h)

pub agree-after : (K : List (List ℕ)) (s t : StoreModel) (c : PartModel) → ((q : List ℕ) → Among q (keys_of c) → Among q K) → Agree K s t → Agree K (store_after s c) (store_after t c)
agree-after K s t c sub h q x = ⊎_elim
    (λ (y : Among q (keys_of c)). (answer-alike s t c (λ q z. h q (sub q z))).1 q y)
    (λ (y : Among q (keys_of c) → ⊥). after-other s c q y ∙ h q x ∙ sym (after-other t c q y))
    (among q (keys_of c))

joins : {X : Type 0} (xs : List X) (y : X) (ys : List X) → (xs ++ y ∷ []) ++ ys ≡ xs ++ y ∷ ys
joins [] y ys = refl
joins (x ∷ xs) y ys = ap (λ zs. x ∷ zs) (joins xs y ys)

none-added : {X : Type 0} (xs : List X) → xs ++ [] ≡ xs
none-added [] = refl
none-added (x ∷ xs) = ap (λ ys. x ∷ ys) (none-added xs)

-- a history with the entries of a run, which a store that agrees with it on the run's keys has executed
pub record IsLonger (first : StoreModel) (K : List (List ℕ)) (hs hs' : List EntryModel) (store : StoreModel) : Type 0 where
  pub legal : IsLegal first hs'
  pub agree : Agree K (left_by first hs') store
  pub others : (q : List ℕ) → (Among q K → ⊥) → get (left_by first hs') q ≡ get (left_by first hs) q

run-legal : (first : StoreModel) (m : ℕ) (K : List (List ℕ)) (ps : List (Arrival × Told)) (hs : List EntryModel) (store : StoreModel) → ((q : List ℕ) → Among q (keys_in (parts_told ps)) → Among q K)
    → Agree K (left_by first hs) store → IsLegal first hs → AreReplies store (parts_told ps) (tolds_of ps) → IsLonger first K hs (hs ++ entries_of m ps) (store_after_all store (parts_told ps))
run-legal first m K [] hs store sub agree legal did = subst (λ z. IsLonger first K hs z store) (sym (none-added hs)) (record { legal = legal; agree = agree; others = λ q x. refl })
run-legal first m K (p ∷ ps) hs store sub agree legal did =
    let part : PartModel = p.0.command.part in
    let reply = reply-is p.1 (reply_to store p.0.command.part) did.0 in
    let e0 : EntryModel = record { ticket = p.0.command.ticket; part = p.0.command.part; reply = data_of reply.0; moment = m } in
    let now : entries_of m (p ∷ ps) ≡ e0 ∷ entries_of m ps = ap (λ z. entry_of m p.0 z ++ entries_of m ps) reply.1 in
    let mine : (q : List ℕ) → Among q (keys_of part) → Among q K = λ q y. sub q (among-left q (keys_of part) (keys_in (parts_told ps)) y) in
    let alike : reply_to (left_by first hs) part ≡ reply_to store part = (answer-alike (left_by first hs) store part (λ q z. agree q (mine q z))).0 in
    let rest : IsLonger first K (hs ++ e0 ∷ []) ((hs ++ e0 ∷ []) ++ entries_of m ps) (store_after_all (store_after store part) (parts_told ps))
    = run-legal first m K ps (hs ++ e0 ∷ []) (store_after store part) (λ q y. sub q (among-right q (keys_of part) (keys_in (parts_told ps)) y))
    (subst (λ z. Agree K z (store_after store part)) (sym (left_by-append first hs e0)) (agree-after K (left_by first hs) store part mine agree))
    (legal-append first hs e0 legal (reply.2 ∙ sym alike)) did.1 in
    subst (λ z. IsLonger first K hs z (store_after_all (store_after store p.0.command.part) (parts_told ps))) (joins hs e0 (entries_of m ps) ∙ ap (λ z. hs ++ z) (sym now)) (record {
      legal = rest.legal;
      agree = rest.agree;
      others = λ q x. rest.others q x ∙ ap (λ z. get z q) (left_by-append first hs e0) ∙ after-other (left_by first hs) part q (λ y. x (mine q y));
    })

-- members of a run

are-of : (run : List (Arrival × Told)) (cs : List Arrival) → AreOf run cs → (k : ℕ) (p : Arrival × Told) → slice_get run k ≡ Some p → (i : ℕ) × (slice_get cs i ≡ Some p.0)
are-of [] cs h k p e = absurd (cc)
are-of (x ∷ xs) cs h zero p e = let same : x ≡ p = cc in (h.0.0, h.0.1.1 ∙ ap (λ (z : Arrival × Told). Some z.0) same)
are-of (x ∷ xs) cs h (suc k) p e = are-of xs cs h.1 k p e

pub ticket-at : (run : List (Arrival × Told)) (k : ℕ) (p : Arrival × Told) → slice_get run k ≡ Some p → slice_get (tickets_told run) k ≡ Some p.0.command.ticket
ticket-at [] k p e = absurd (cc)
ticket-at (x ∷ xs) zero p e = let same : x ≡ p = cc in ap (λ (z : Arrival × Told). Some z.0.command.ticket) same
ticket-at (x ∷ xs) (suc k) p e = ticket-at xs k p e

replied-at : (store : StoreModel) (run : List (Arrival × Told)) → AreReplies store (parts_told run) (tolds_of run) → (k : ℕ) (p : Arrival × Told) → slice_get run k ≡ Some p → (reply : Value) × (p.1 ≡ Reply reply)
replied-at store [] h k p e = absurd (cc)
replied-at store (x ∷ xs) h zero p e = let same : x ≡ p = cc in let r = reply-is x.1 (reply_to store x.0.command.part) h.0 in (r.0, ap (λ (z : Arrival × Told). z.1) (sym same) ∙ r.1)
replied-at store (x ∷ xs) h (suc k) p e = replied-at (store_after store x.0.command.part) xs h.1 k p e

told-at : (said : Told) (run : List (Arrival × Told)) → AllTold said (parts_told run) (tolds_of run) → (k : ℕ) (p : Arrival × Told) → slice_get run k ≡ Some p → p.1 ≡ said
told-at said [] h k p e = absurd (cc)
told-at said (x ∷ xs) h zero p e = let same : x ≡ p = cc in ap (λ (z : Arrival × Told). z.1) (sym same) ∙ h.0
told-at said (x ∷ xs) h (suc k) p e = told-at said xs h.1 k p e

total-none : {X : Type 0} (f : X → ℕ) (xs : List X) → ((k : ℕ) (x : X) → slice_get xs k ≡ Some x → f x ≡ 0) → total f xs ≡ 0
total-none f [] h = refl
total-none f (x ∷ xs) h = omega (arith, h 0 x refl, total-none f xs (λ k y e. h (suc k) y e))

-- the slot of a run is that of each of its commands
one-slot : (cs : List Arrival) (run : List (Arrival × Told)) (slot : ℕ) → ((k : ℕ) (p : Arrival × Told) → slice_get run k ≡ Some p → slot_for p.0.command.part ≡ slot) → (k : ℕ) (p : Arrival × Told) → slice_get run k ≡ Some p → slot_for p.0.command.part ≡ slot_of (first_key (parts_told run))
one-slot cs [] slot h k p e = absurd (cc)
one-slot cs (x ∷ xs) slot h k p e = h k p e ∙ sym (h 0 x refl)

pub all_from : {X : Type 0} (P : X → Type 0) (xs : List X) → ((j : ℕ) (x : X) → slice_get xs j ≡ Some x → P x) → All P xs
all_from P xs f k d lt = f k _ (slice_get-get_or xs k d lt)

-- what a serve tells

asks_in_told-zero : (n : ℕ) (told : Told) → asks_in_told n told 0 ≡ 0
asks_in_told-zero n (Ask s m) = go (m == n)
  where
    go : (b : Bool) → (if b then zero else zero) ≡ zero
    go true = refl
    go false = refl
asks_in_told-zero n (Reply v) = refl
asks_in_told-zero n (Moved s m) = refl
asks_in_told-zero n TryAgain = refl
asks_in_told-zero n ClusterDown = refl
asks_in_told-zero n Unclear = refl
asks_in_told-zero n Unsent = refl
asks_in_told-zero n Told.Lost = refl

deed-no_reply : (v : Verdict) (r : Role) (a : Bool) (held : KeysHeld) (one : Bool) (slot : ℕ) → if_says is_reply (deed_of v r a held one slot) ≡ 0
deed-no_reply verdict.Plain r a held one slot = role-no_reply r a held one slot
deed-no_reply (verdict.Moved m) r a held one slot = refl
deed-no_reply verdict.TryAgain r a held one slot = refl
deed-no_reply verdict.ClusterDown r a held one slot = refl

entry-none : (m : ℕ) (c : Arrival) (told : Told) → is_reply told ≡ 0 → entry_of m c told ≡ []
entry-none m c (Reply value) e = absurd (omega arith)
entry-none m c (Moved slot node) e = refl
entry-none m c (Ask slot node) e = refl
entry-none m c TryAgain e = refl
entry-none m c ClusterDown e = refl
entry-none m c Unclear e = refl
entry-none m c Told.Lost e = refl
entry-none m c Unsent e = refl

entries-none : (m : ℕ) (said : Told) (run : List (Arrival × Told)) → is_reply said ≡ 0 → AllTold said (parts_told run) (tolds_of run) → entries_of m run ≡ []
entries-none m said [] e h = refl
entries-none m said (p ∷ ps) e h = (λ i. entry-none m p.0 p.1 (ap is_reply h.0 ∙ e) i ++ entries_of m ps) ∙ entries-none m said ps e h.1

pub entries-says : (w : WorldModel) (node : ℕ) (l : Link) (run : List (Arrival × Told)) (v : Verdict) (said : Told) → deed_for w.cluster node l.asking (parts_told run) v ≡ Says said → AllTold said (parts_told run) (tolds_of run) → entries_of w.moment run ≡ []
entries-says w node l run v said e h = entries-none w.moment said run (ap (if_says is_reply) (sym e) ∙ deed-no_reply v _ l.asking _ _ _) h

itself : (t : Ticket) → same_ticket t t ≡ true
itself t = go (same_ticket t t) (omega (arith, is-refl t))
  where
    go : (b : Bool) → 0 < (if b then 1 else 0) → b ≡ true
    go true lt = refl
    go false lt = absurd (omega arith)

open_zero : (o : Bool) (n : ℕ) → n ≡ 0 → if_open o n ≡ 0
open_zero true n e = e
open_zero false n e = refl

module _ (w w' : WorldModel) (h : Standing w) (t : There w) (s : Kept w) (u : Turned w) (link node : ℕ) (l : Link) (v : Verdict) (at_l : slice_get w.links link ≡ Some l) (is-node : IsNode w.cluster node) (leads : l.asking ≡ true → l.node ≡ node)
    (d : ServesRunAt w node link l v w') where
  -- the slot of the run, and its keys
  abbrev slot : ℕ
  slot = slot_of (first_key (parts_told d.1))

  abbrev keys : List (List ℕ)
  keys = keys_in (parts_told d.1)

  abbrev sl : SlotStandingModel
  sl = standing_at w.cluster (slot_of (first_key (parts_told d.1)))

  how : ((deed_for w.cluster node l.asking (parts_told d.1) v ≡ Executes) × ExecutedAll w.cluster node (parts_told d.1) (tolds_of d.1) d.2) ⊎ SaidAll (deed_for w.cluster node l.asking (parts_told d.1) v) w.cluster (parts_told d.1) (tolds_of d.1) d.2
  how = runs w.cluster d.2 node (parts_told d.1) (tolds_of d.1) (deed_for w.cluster node l.asking (parts_told d.1) v) d.6

  pub run : IsRun w.commands (tickets_told d.1)
  run =
      let here : AreRuns w.commands l.requests = all_at (λ (x : Link). AreRuns w.commands x.requests) w.links link l at_l u.links in
      let both : AreRuns w.commands (Runs (tickets_told d.1) ∷ d.0) = subst (AreRuns w.commands) d.3 here in
      both.0

  -- a command of the run: its place, and its slot
  pub place : (k : ℕ) (p : Arrival × Told) → slice_get d.1 k ≡ Some p → (i : ℕ) × (slice_get w.commands i ≡ Some p.0)
  place k p e = are-of d.1 w.commands d.4 k p e

  pub slotted : (k : ℕ) (p : Arrival × Told) → slice_get d.1 k ≡ Some p → slot_for p.0.command.part ≡ slot
  slotted = one-slot w.commands d.1 run.0 its
    where
      its : (k : ℕ) (p : Arrival × Told) → slice_get d.1 k ≡ Some p → slot_for p.0.command.part ≡ run.0
      its k p e =
          let g = run.1 k p.0.command.ticket (ticket-at d.1 k p e) in
          let o = place k p e in
          let same : g.1 ≡ p.0 = unique w h g.0 o.0 g.1 p.0 g.2 o.1 (ap (λ z. same_ticket z p.0.command.ticket) g.3 ∙ itself p.0.command.ticket) in
          ap (λ (z : Arrival). slot_for z.command.part) (sym same) ∙ g.4

  pub standing : (k : ℕ) (p : Arrival × Told) → slice_get d.1 k ≡ Some p → slot_here w.cluster p.0.command.part ≡ sl
  standing k p e = ap (standing_at w.cluster) (slotted k p e)

  pub asked-of : (k : ℕ) (p : Arrival × Told) → slice_get d.1 k ≡ Some p → IsAsked w p.0.command.ticket p.0.command.part
  asked-of k p e = let o = place k p e in all_at (λ (x : Arrival). IsAsked w x.command.ticket x.command.part) w.commands o.0 p.0 o.1 s.asked

  -- nobody is told an ASK that is bad
  good-told : (n x : ℕ) (k : ℕ) (p : Arrival × Told) → slice_get d.1 k ≡ Some p → BadAsk w.cluster p.0.command.part → asks_in_told n p.1 x ≡ 0
  good-told n x k p e b = go how
    where
      bad : is_bad sl.phase (is_some (at w.cluster sl.source b.0)) ≡ true
      bad = subst (λ (z : SlotStandingModel). is_bad z.phase (is_some (at w.cluster z.source b.0)) ≡ true) (standing k p e) b.2

      says : if_says (λ told. asks_in_told n told x) (deed_for w.cluster node l.asking (parts_told d.1) v) ≡ 0
      says = bad-says sl (λ m. at w.cluster m b.0) None (held_of (store_at w.cluster node) keys) (have_one_key (parts_told d.1)) slot (λ told. asks_in_told n told x) v node l.asking
          (none-held (store_at w.cluster node) keys b.0 (among-in b.0 d.1 k p e b.1)) (λ _ _. refl) refl refl bad

      go : ((deed_for w.cluster node l.asking (parts_told d.1) v ≡ Executes) × ExecutedAll w.cluster node (parts_told d.1) (tolds_of d.1) d.2) ⊎ SaidAll (deed_for w.cluster node l.asking (parts_told d.1) v) w.cluster (parts_told d.1) (tolds_of d.1) d.2 → asks_in_told n p.1 x ≡ 0
      go (inl y) = ap (λ z. asks_in_told n z x) (replied-at (store_at w.cluster node) d.1 y.1.0 k p e).1
      go (inr y) = ap (λ z. asks_in_told n z x) (told-at y.0 d.1 y.2 k p e) ∙ ap (if_says (λ told. asks_in_told n told x)) (sym y.1) ∙ says

  -- ASKs after the serve, where none is bad that was not
  asked-after : (c : Arrival) (j : ℕ) → slice_get w.commands j ≡ Some c → (HasOneSlot c.command.part → BadAsk w'.cluster c.command.part → BadAsk w.cluster c.command.part) → (slot_here w'.cluster c.command.part).target ≡ (slot_here w.cluster c.command.part).target → IsAsked w' c.command.ticket c.command.part
  asked-after c j at_c back target = (
    was.0,
    λ bad.
        let n : ℕ = (slot_here w.cluster c.command.part).target in
        let none : tally (asks n c.command.ticket) w ≡ 0 = was.1 (back was.0 bad) in
        omega (arith, serve-flow (asks n c.command.ticket) w w' link node l v at_l d, open_zero l.is_open (total (λ p. asks_in_told n p.1 (is c.command.ticket p.0.command.ticket)) d.1) (quiet (back was.0 bad)), ap (λ m. tally (asks m c.command.ticket) w') target),
  )
    where
      was : IsAsked w c.command.ticket c.command.part
      was = all_at (λ (x : Arrival). IsAsked w x.command.ticket x.command.part) w.commands j c at_c s.asked

      quiet : BadAsk w.cluster c.command.part → total (λ p. asks_in_told (slot_here w.cluster c.command.part).target p.1 (is c.command.ticket p.0.command.ticket)) d.1 ≡ 0
      quiet b = total-none (λ (p : Arrival × Told). asks_in_told (slot_here w.cluster c.command.part).target p.1 (is c.command.ticket p.0.command.ticket)) d.1 (λ k p e. each k p e (same_ticket c.command.ticket p.0.command.ticket) refl)
        where
          each : (k : ℕ) (p : Arrival × Told) → slice_get d.1 k ≡ Some p → (x : Bool) → same_ticket c.command.ticket p.0.command.ticket ≡ x → asks_in_told (slot_here w.cluster c.command.part).target p.1 (is c.command.ticket p.0.command.ticket) ≡ 0
          each k p e false x = ap (λ y. asks_in_told (slot_here w.cluster c.command.part).target p.1 (if y then 1 else 0)) x ∙ asks_in_told-zero (slot_here w.cluster c.command.part).target p.1
          each k p e true x =
              let o = place k p e in
              let same : c ≡ p.0 = unique w h j o.0 c p.0 at_c o.1 x in
              good-told (slot_here w.cluster c.command.part).target (is c.command.ticket p.0.command.ticket) k p e (subst (λ (z : Arrival). BadAsk w.cluster z.command.part) same b)

  says-kept : SaidAll (deed_for w.cluster node l.asking (parts_told d.1) v) w.cluster (parts_told d.1) (tolds_of d.1) d.2 → Kept w'
  says-kept y =
      let k : w'.cluster ≡ w.cluster = ap (λ (v : WorldModel). v.cluster) d.7 ∙ y.3 in
      let hs : w'.history ≡ w.history = ap (λ (v : WorldModel). v.history) d.7 ∙ ap (λ z. w.history ++ z) (entries-says w node l d.1 v y.0 y.1 y.2) ∙ none-added w.history in
      let cs : w'.commands ≡ w.commands = ap (λ (v : WorldModel). v.commands) d.7 in
      let b : w'.initial ≡ w.initial = ap (λ (v : WorldModel). v.initial) d.7 in
      record {
        apart = subst (λ c. (slot : ℕ) → (standing_at c slot).phase ≢ Settled → (standing_at c slot).source ≢ (standing_at c slot).target) (sym k) s.apart;
        data' = subst (λ (x : ClusterModel × StoreModel × List EntryModel). (key : List ℕ) → IsHome (standing_at x.0 (slot_of key)) (λ m. at x.0 m key) (get (left_by x.1 x.2) key)) (λ i. (sym k i, sym b i, sym hs i)) s.data';
        legal = subst (λ (x : StoreModel × List EntryModel). IsLegal x.0 x.1) (λ i. (sym b i, sym hs i)) s.legal;
        asked = subst (All (λ (x : Arrival). IsAsked w' x.command.ticket x.command.part)) (sym cs) (all_from (λ (x : Arrival). IsAsked w' x.command.ticket x.command.part) w.commands (λ j c at_c. asked-after c j at_c (λ _. subst (λ x. BadAsk x c.command.part) k) (ap (λ x. (slot_here x c.command.part).target) k)));
      }

  -- the slot of each of its keys
  pub slot-is : (q : List ℕ) → Among q keys → slot_of q ≡ slot
  slot-is q x =
      let m = among-of q d.1 x in
      all-among (λ z. slot_of z ≡ slot_for (m.1).0.command.part) (keys_of (m.1).0.command.part) q (asked-of m.0 m.1 m.2).0 m.3 ∙ slotted m.0 m.1 m.2

  -- an ASK that this serve met is good
  pub good : ExecutedAll w.cluster node (parts_told d.1) (tolds_of d.1) d.2 → (q : List ℕ) → Among q keys → l.asking ≡ true → node ≡ sl.target → is_bad sl.phase (is_some (at w.cluster sl.source q)) ≡ false
  good did q x a to = go (is_bad sl.phase (is_some (at w.cluster sl.source q))) refl
    where
      go : (b : Bool) → is_bad sl.phase (is_some (at w.cluster sl.source q)) ≡ b → is_bad sl.phase (is_some (at w.cluster sl.source q)) ≡ false
      go false y = y
      go true y =
          let m = among-of q d.1 x in
          let c : Ticket = (m.1).0.command.ticket in
          let same : slot_here w.cluster (m.1).0.command.part ≡ sl = standing m.0 m.1 m.2 in
          let bad : BadAsk w.cluster (m.1).0.command.part = (q, m.3, subst (λ (z : SlotStandingModel). is_bad z.phase (is_some (at w.cluster z.source q)) ≡ true) (sym same) y) in
          let none : tally (asks sl.target c) w ≡ 0 = subst (λ (z : SlotStandingModel). tally (asks z.target c) w ≡ 0) same ((asked-of m.0 m.1 m.2).1 bad) in
          let met : asks sl.target c (Sent l.is_open l.node l.asking c) ≡ 1 = ap (λ b. if b && (l.node == sl.target) then is c c else 0) a ∙ there c (l.node == sl.target) (eqb_tells l.node sl.target) in
          let one : asks sl.target c (Sent l.is_open l.node l.asking c) ≤ total (λ z. asks sl.target c (Sent l.is_open l.node l.asking z)) (tickets_told d.1) = total-one (λ (z : Ticket). asks sl.target c (Sent l.is_open l.node l.asking z)) (tickets_told d.1) m.0 c (ticket-at d.1 m.0 m.1 m.2) in
          let quiet : if_open l.is_open (total (λ p. asks_in_told sl.target p.1 (is c p.0.command.ticket)) d.1) ≡ 0 = open_zero l.is_open _ (total-none (λ (p : Arrival × Told). asks_in_told sl.target p.1 (is c p.0.command.ticket)) d.1
          (λ k p e. ap (λ z. asks_in_told sl.target z (is c p.0.command.ticket)) (replied-at (store_at w.cluster node) d.1 did.0 k p e).1)) in
          absurd (omega (arith, serve-flow (asks sl.target c) w w' link node l v at_l d, none, met, one, quiet))
        where
          there : (c : Ticket) (b : Bool) → ((b ≡ true) × (l.node ≡ sl.target)) ⊎ ((b ≡ false) × (l.node ≢ sl.target)) → (if b then is c c else 0) ≡ 1
          there c true z = is-refl c
          there c false (inl z) = absurd (cc)
          there c false (inr z) = absurd (z.1 (leads a ∙ to))

  executes-kept : deed_for w.cluster node l.asking (parts_told d.1) v ≡ Executes → ExecutedAll w.cluster node (parts_told d.1) (tolds_of d.1) d.2 → Kept w'
  executes-kept e did = record {
    apart = subst (λ c. (slot : ℕ) → (standing_at c slot).phase ≢ Settled → (standing_at c slot).source ≢ (standing_at c slot).target) (sym is-k) s.apart;
    data' = subst (λ (x : ClusterModel × StoreModel × List EntryModel). (key : List ℕ) → IsHome (standing_at x.0 (slot_of key)) (λ m. at x.0 m key) (get (left_by x.1 x.2) key)) (λ i. (sym is-k i, sym is-b i, sym is-h i)) data-after;
    legal = subst (λ (x : StoreModel × List EntryModel). IsLegal x.0 x.1) (λ i. (sym is-b i, sym is-h i)) longer.legal;
    asked = subst (All (λ x. IsAsked w' x.command.ticket x.command.part)) (sym is-c) (all_from (λ x. IsAsked w' x.command.ticket x.command.part) w.commands (λ j c at_c. asked-after c j at_c (back c) (ap (λ x. (slot_here x c.command.part).target) is-k)));
  }
    where
      st : StoreModel
      st = store_at w.cluster node

      new : StoreModel
      new = store_after_all (store_at w.cluster node) (parts_told d.1)

      k' : ClusterModel
      k' = with_store w.cluster node (store_after_all (store_at w.cluster node) (parts_told d.1))

      hs' : List EntryModel
      hs' = w.history ++ entries_of w.moment d.1

      is-k : w'.cluster ≡ k'
      is-k = ap (λ (v : WorldModel). v.cluster) d.7 ∙ did.1

      is-b : w'.initial ≡ w.initial
      is-b = ap (λ (v : WorldModel). v.initial) d.7

      is-h : w'.history ≡ hs'
      is-h = ap (λ (v : WorldModel). v.history) d.7

      is-c : w'.commands ≡ w.commands
      is-c = ap (λ (v : WorldModel). v.commands) d.7

      was-home : (q : List ℕ) → Among q keys → IsHome sl (λ m. at w.cluster m q) (get (left_by w.initial w.history) q)
      was-home q x = subst (λ z. IsHome (standing_at w.cluster z) (λ m. at w.cluster m q) (get (left_by w.initial w.history) q)) (slot-is q x) (s.data' q)

      -- the node that executes is the home of each of the keys
      at_home : (q : List ℕ) → Among q keys → node ≡ home_in sl (λ m. at w.cluster m q)
      at_home q x = executes-home sl (λ m. at w.cluster m q) (get (left_by w.initial w.history) q) (held_of (store_at w.cluster node) keys) (have_one_key (parts_told d.1)) slot
          v node l.asking (all-held (store_at w.cluster node) keys q x) (was-home q x) (s.apart slot) (good did q x) e

      -- so the store that the history leaves holds there what the node holds
      agree : Agree keys (left_by w.initial w.history) st
      agree q x = (was-home q x).holds ∙ ap (λ m. at w.cluster m q) (sym (at_home q x))

      longer : IsLonger w.initial keys w.history hs' new
      longer = run-legal w.initial w.moment keys d.1 w.history st (λ q x. x) agree s.legal did.0

      miss : (q : List ℕ) (m : ℕ) → m ≢ node → at k' m q ≡ at w.cluster m q
      miss q m ne = ap (λ z. get z q) (store-other w.cluster node new m ne)

      hit : (q : List ℕ) → at k' node q ≡ get new q
      hit q = ap (λ z. get z q) (store-hit w.cluster node new is-node)

      other : (q : List ℕ) → (Among q keys → ⊥) → (m : ℕ) → at k' m q ≡ at w.cluster m q
      other q away m = ⊎_elim
          (λ (x : ((m == node) ≡ true) × (m ≡ node)). ap (λ j. at k' j q) x.1 ∙ hit q ∙ after-all-other st (parts_told d.1) q away ∙ ap (λ j. at w.cluster j q) (sym x.1))
          (λ (x : ((m == node) ≡ false) × (m ≢ node)). miss q m x.1)
          (eqb_tells m node)

      back : (c : Arrival) → HasOneSlot c.command.part → BadAsk w'.cluster c.command.part → BadAsk w.cluster c.command.part
      back c one b = let b' : BadAsk k' c.command.part = subst (λ z. BadAsk z c.command.part) is-k b in (b'.0, b'.1, key b'.0 b'.1 b'.2 (among b'.0 keys))
        where
          key : (q : List ℕ) → Among q (keys_of c.command.part) → is_bad (slot_here k' c.command.part).phase (is_some (at k' (slot_here k' c.command.part).source q)) ≡ true → Among q keys ⊎ (Among q keys → ⊥)
              → is_bad (slot_here w.cluster c.command.part).phase (is_some (at w.cluster (slot_here w.cluster c.command.part).source q)) ≡ true
          key q x b (inl y) =
              let same : slot_here w.cluster c.command.part ≡ sl = ap (standing_at w.cluster) (sym (all-among (λ q. slot_of q ≡ slot_for c.command.part) (keys_of c.command.part) q one x) ∙ slot-is q y) in
              subst (λ (z : SlotStandingModel). is_bad z.phase (is_some (at w.cluster z.source q)) ≡ true) (sym same)
              (bad-back sl (λ m. at w.cluster m q) (λ m. at k' m q) node (s.apart slot) (at_home q y) (miss q)
              (subst (λ (z : SlotStandingModel). is_bad z.phase (is_some (at k' z.source q)) ≡ true) same b))
          key q x b (inr away) = subst (λ o. is_bad (slot_here w.cluster c.command.part).phase (is_some o) ≡ true) (other q away (slot_here w.cluster c.command.part).source) b

      data-after : (q : List ℕ) → IsHome (standing_at k' (slot_of q)) (λ m. at k' m q) (get (left_by w.initial hs') q)
      data-after q = go (among q keys)
        where
          go : Among q keys ⊎ (Among q keys → ⊥) → IsHome (standing_at k' (slot_of q)) (λ m. at k' m q) (get (left_by w.initial hs') q)
          go (inl x) =
              subst (λ (z : ℕ × Option (List ℕ)). IsHome (standing_at w.cluster z.0) (λ m. at k' m q) z.1) (λ i. (sym (slot-is q x) i, sym (longer.agree q x) i))
              (exec-home sl (λ m. at w.cluster m q) (λ m. at k' m q) (get (left_by w.initial w.history) q) (s.apart slot) (get new q) node (at_home q x) (hit q) (miss q) (was-home q x))
          go (inr away) = subst (IsHome (standing_at w.cluster (slot_of q)) (λ m. at k' m q)) (sym (longer.others q away))
              (home-same (standing_at w.cluster (slot_of q)) (λ m. at w.cluster m q) (λ m. at k' m q) (get (left_by w.initial w.history) q) (other q away) (s.data' q))

  pub run-kept : Kept w'
  run-kept = ⊎_elim
      (λ (x : (deed_for w.cluster node l.asking (parts_told d.1) v ≡ Executes) × ExecutedAll w.cluster node (parts_told d.1) (tolds_of d.1) d.2). executes-kept x.0 x.1)
      (λ (x : SaidAll (deed_for w.cluster node l.asking (parts_told d.1) v) w.cluster (parts_told d.1) (tolds_of d.1) d.2). says-kept x)
      how
