-- Those that come to a worker are those that were handed to it.
use Rattle.std.proofs.Common.{◌≡◌, ◌≢◌, ◌⊎◌, inl, inr, ⊎_elim, ℕ, List, [], ◌∷◌, ◌++◌, Some, Ok, Err, Result, sym, ap, ◌∙◌, subst, append_assoc, length}
use Rattle.std.specs.Prelude.{slice_get}
use Rattle.std.specs.List.{FoldsTo, flat_map}
use mathlib.Core.List.{IsPrefix}
use Rattle.std.proofs.lemmas.List.{append-nil, map-append}
use Rattle.proxy_lanes.specs.declared.ends.lane_ends.LaneEnds.{LaneEnds}
use Rattle.proxy_lanes.specs.declared.ring.Outlet.{Outlet}
use Rattle.proxy_lanes.specs.declared.ring.Numbered.{Numbered}
use Rattle.proxy_lanes.specs.Lane.{Posts, Takes, numbered, posted, taken}
use Rattle.proxy_turns.specs.declared.newcomer.Newcomer.{Newcomer}
use Rattle.proxy_turns.specs.WorkerModel.{WorkerModel, WorkerEvent, Did, Finished, Took, FoundNone, Came, TurnedAway, FoundNobody, Left, WorkerDoes}
use Rattle.world_laws.proofs.Recorded.{at-set}
use Rattle.turn_laws.specs.PortsMay.{any_moves}
use Rattle.turn_laws.specs.ClientOutput.{events_at}
use Rattle.turn_laws.specs.Handing.{taken_in, numbers_of, HandedOnce, TakenAsHanded}
use Rattle.turn_laws.proofs.Ending.{one-of}
use Rattle.turn_laws.proofs.WrittenClients.{all-steps}

module _ {C J : Type 0} where
  number-of : Numbered (Newcomer C J) → ℕ
  number-of x = x.item.number

  one-more : (all : List (Numbered (Newcomer C J))) (n : ℕ) (client : Newcomer C J) → numbers_of (all ++ numbered n client ∷ []) ≡ numbers_of all ++ client.number ∷ []
  one-more all n client = map-append (λ (x : Numbered (Newcomer C J)). x.item.number) all (numbered n client ∷ [])

  -- ---- handing over

  one-posted : (old new : Outlet (Newcomer C J)) (client : Newcomer C J) (handed : Result (Unit {0}) (Newcomer C J)) → Posts old new client handed
      → (numbers_of (posted new) ≡ numbers_of (posted old)) ⊎ (numbers_of (posted new) ≡ numbers_of (posted old) ++ client.number ∷ [])
  one-posted old new client (Ok done) p = inr (ap numbers_of p.1 ∙ one-more (posted old) (length (posted old)) client)
  one-posted old new client (Err back) p = inl (ap numbers_of p.2)

  pub handed-once : HandedOnce C J
  handed-once k number s s' on j old new was now = ⊎_elim
      (λ (z : (j ≡ k) × (new ≡ on.3.1)).
      let before : old ≡ on.3.0 = one-of (slice_get s.carrier.lanes k) old on.3.0 (ap (slice_get s.carrier.lanes) (sym z.0) ∙ was) on.3.2 in
      let doors : numbers_of (posted new.door) ≡ numbers_of (posted (on.3.1).door) = ap (λ (l : LaneEnds (Newcomer C J)). numbers_of (posted l.door)) z.1 in
      let first : numbers_of (posted old.door) ≡ numbers_of (posted (on.3.0).door) = ap (λ (l : LaneEnds (Newcomer C J)). numbers_of (posted l.door)) before in
      ⊎_elim
      (λ same. inl (doors ∙ same ∙ sym first))
      (λ more. inr (z.0, doors ∙ more ∙ (λ i. sym first i ++ on.2 i ∷ [])))
      (one-posted (on.3.0).door (on.3.1).door on.0 on.1 on.3.4.1))
      (λ (z : (j ≢ k) × (slice_get s.carrier.lanes j ≡ Some new)).
      inl (ap (λ (l : LaneEnds (Newcomer C J)). numbers_of (posted l.door)) (one-of (slice_get s.carrier.lanes j) new old z.1 was)))
      (at-set s.carrier.lanes k on.3.1 j new (sym (ap (λ ls. slice_get ls j) on.3.3) ∙ now))

  -- ---- taking

  -- the clients that a worker has taken
  abbrev all-taken : WorkerModel C J → List ℕ
  all-taken model = numbers_of (taken model.newcomers)

  none-more : (old new : WorkerModel C J) → all-taken new ≡ all-taken old → all-taken new ≡ all-taken old ++ []
  none-more old new same = same ∙ sym (append-nil (all-taken old))

  takes-one : (old new : WorkerModel C J) (client : Newcomer C J) (number : ℕ) → Takes old.newcomers new.newcomers (Some client) → client.number ≡ number → all-taken new ≡ all-taken old ++ number ∷ []
  takes-one old new client number takes is =
      ap numbers_of takes.1 ∙ one-more (taken old.newcomers) (length (taken old.newcomers)) client ∙ ap (λ n. all-taken old ++ n ∷ []) is

  one-event : (event : WorkerEvent) (old new : WorkerModel C J) → WorkerDoes any_moves old event new → all-taken new ≡ all-taken old ++ taken_in event
  one-event (Did number event) old new d = none-more old new (ap all-taken d.4)
  one-event (Finished number ticket end) old new d = none-more old new (ap all-taken d.4)
  one-event (Took ticket told) old new d = none-more old new (ap all-taken d.2)
  one-event FoundNone old new d = none-more old new (ap all-taken d.1)
  one-event (Came number) old new d = takes-one old new d.0 number d.1 d.2
  one-event (TurnedAway number) old new d = takes-one old new d.0 number d.2 d.3
  one-event FoundNobody old new d = none-more old new (ap numbers_of d.0.3)
  one-event (Left number) old new d = none-more old new (ap all-taken d.4)

  all-events : (events : List WorkerEvent) (old new : WorkerModel C J) → FoldsTo (WorkerDoes any_moves) old events new → all-taken new ≡ all-taken old ++ flat_map taken_in events
  all-events [] old new same = none-more old new (ap all-taken (sym same))
  all-events (event ∷ events) old new (mid, does, more) =
      all-events events mid new more ∙ ap (λ ns. ns ++ flat_map taken_in events) (one-event event old mid does) ∙ append_assoc (all-taken old) (taken_in event) (flat_map taken_in events)

  numbers-front : (xs ys : List (Numbered (Newcomer C J))) → IsPrefix xs ys → IsPrefix (numbers_of xs) (numbers_of ys)
  numbers-front xs ys front = (numbers_of front.0, sym (map-append (λ (x : Numbered (Newcomer C J)). x.item.number) xs front.0) ∙ ap numbers_of front.1)

module _ (C J : Type 0) where
  pub taken-as-handed : TakenAsHanded C J
  taken-as-handed s s' events steps k old new lane was now beside in-step =
      let does = all-steps k new events s s' steps now in
      let first : does.0 ≡ old = one-of (slice_get s.workers k) does.0 old does.1 was in
      let all : numbers_of (taken new.newcomers) ≡ numbers_of (taken old.newcomers) ++ flat_map taken_in (flat_map (events_at k) events) =
      all-events (flat_map (events_at k) events) does.0 new does.2 ∙ ap (λ (m : WorkerModel C J). numbers_of (taken m.newcomers) ++ flat_map taken_in (flat_map (events_at k) events)) first in
      subst (λ ns. IsPrefix ns (numbers_of (posted lane.door))) all (numbers-front (taken new.newcomers) (posted lane.door) in-step)
