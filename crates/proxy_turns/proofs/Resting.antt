-- What rests, and goes on to rest.
use Rattle.std.proofs.Common.{◌≡◌, ◌∙◌, ◌||◌, ◌≤◌, inl, inr, ℕ, List, [], ◌∷◌, length, Bool, true, false, Option, Some, None, Result, Ok, Err, refl, sym, ap, subst, is_some, arith}
use Rattle.std.specs.Prelude.{◌≢◌, ◌⊎◌, IfSome, IsSome, is_none, slice_get, slice_set}
use Rattle.std.specs.Option.{ForSome}
use Rattle.resp_wire.specs.declared.fault.NoMemory.{NoMemory}
use Rattle.resp_wire.specs.declared.value.Value.{Value}
use Rattle.key_split.specs.Runs.{RunModel}
use Rattle.key_split.specs.declared.travel.Ticket.{Ticket}
use Rattle.key_split.specs.declared.travel.Told.{Told}
use Rattle.slot_map.specs.Table.{Endpoint}
use Rattle.node_link.specs.LinkModel.{LinkModel}
use Rattle.node_link.specs.declared.link.Failure.{Failure}
use Rattle.node_link.specs.Port.{PortCalls}
use Rattle.proxy_lanes.specs.declared.ends.lane_ends.LaneEnds.{LaneEnds}
use Rattle.proxy_lanes.specs.Lane.{held}
use Rattle.proxy_turns.specs.declared.backend.Backend.{Backend}
use Rattle.proxy_turns.specs.declared.backend.PendingTold.{PendingTold}
use Rattle.proxy_turns.specs.declared.pending_run.PendingRun.{PendingRun}
use Rattle.proxy_turns.specs.declared.backend.MapTask.{MapTask}
use Rattle.proxy_turns.specs.declared.backend.MapTask.TheVariants as task
use Rattle.proxy_turns.specs.Backend.{GaveNone, HasNoMapWork, HasNoneToTake, HasReceived, IsDone, has_failed, has_map_work, is_open, is_unpublished, new_backend}
use Rattle.key_split.specs.declared.travel.Told.TheVariants.{Unsent}
use Rattle.proxy_turns.specs.PendingRun.{ComesBack, GiveOutcome, IsPending, TakeOutcome, TellOutcome, WaitsToGive, WaitsToTell, target_of}
use Rattle.proxy_turns.specs.Resting.{BackendRests, CanTellNone, RunRests, HasLink, HasNoRun, HasNoOpenLink, HasNoneToCarry, HasNoneToGive, HasNoneToTell, IsBlockedAt}
use Rattle.proxy_turns.specs.CarrierModel.{CarrierModel, IsAtRest, RestsAfter, TakesTurn}
use Rattle.proxy_turns.proofs.Backends.{none_where}
use Rattle.proxy_turns.proofs.Places.{get_set, or_false, set_at}
use Rattle.proxy_turns.proofs.Receiving.{KeepsReceived}
use Rattle.proxy_turns.proofs.Quiet.{BackendStays, LaneStays, LinkStays, Quiet, blocked_by, quiet_then}

-- ---- small steps

link_by : (failed : Bool) (answer : Option Value) (A : Type 0) → answer ≡ None → (failed ≡ false) ⊎ (A ⊎ IsSome answer) → failed ≡ true → A
link_by failed answer A none (inl unfailed) is = absurd (cc)
link_by failed answer A none (inr (inl there)) is = there
link_by failed answer A none (inr (inr some)) is = absurd (cc)

take_by : (f : Bool) (t : Option PendingTold) (v : Option Value) (f' : Bool) (t' : Option PendingTold) (v' : Option Value) → f' ≡ f → t' ≡ t → v' ≡ v
    → (f ≡ false) ⊎ (IsSome t ⊎ IsSome v) → (f' ≡ false) ⊎ (IsSome t' ⊎ IsSome v')
take_by f t v f' t' v' ef et ev (inl unfailed) = inl (ef ∙ unfailed)
take_by f t v f' t' v' ef et ev (inr (inl there)) = inr (inl (ap (λ o. is_some o) et ∙ there))
take_by f t v f' t' v' ef et ev (inr (inr there)) = inr (inr (ap (λ o. is_some o) ev ∙ there))

closed_by : (f : Option Failure) → is_none f ≡ false → is_some f ≡ true
closed_by None e = absurd (cc)
closed_by (Some f) e = refl

module _ {H : Type 0} where
  lane_there : (o : Option (LaneEnds H)) (lane : LaneEnds H) → LaneStays (Some lane) o → (lane' : LaneEnds H) × (o ≡ Some lane') × LaneStays (Some lane) (Some lane')
  lane_there None lane stays = absurd stays
  lane_there (Some lane') lane stays = (lane', refl, stays)

  lane_before : (o : Option (LaneEnds H)) (lane' : LaneEnds H) → LaneStays o (Some lane') → (lane : LaneEnds H) × (o ≡ Some lane) × LaneStays (Some lane) (Some lane')
  lane_before None lane' stays = absurd stays
  lane_before (Some lane) lane' stays = (lane, refl, stays)

  told_by : (lanes : List (LaneEnds H)) (pending_told : Option PendingTold) → IfSome pending_told (λ told. told.change ≡ None)
      → IfSome pending_told (λ told. IsSome told.change ⊎ IsBlockedAt lanes told.ticket.worker)
      → IfSome pending_told (λ told. (told.change ≡ None) × IsBlockedAt lanes told.ticket.worker)
  told_by lanes None published waits = tt
  told_by lanes (Some told) published (inl unpublished) = absurd (cc)
  told_by lanes (Some told) published (inr blocked) = (published, blocked)

module _ {P : Type 0} where
  failed_same : (a b : Option (LinkModel P)) → LinkStays a b → has_failed b ≡ has_failed a
  failed_same None None stays = refl
  failed_same None (Some b) stays = absurd stays
  failed_same (Some a) None stays = absurd stays
  failed_same (Some a) (Some b) stays = ap (λ (f : Option Failure). is_some f) stays

  failed_there : (a : Option (Backend P)) (o : Option (Backend P)) (backend : Backend P) → a ≡ Some backend → BackendStays a o → has_failed backend.link ≡ true
      → (backend' : Backend P) × (o ≡ Some backend') × (has_failed backend'.link ≡ true)
  failed_there None o backend at stays failed = absurd (cc)
  failed_there (Some a) None backend at stays failed = absurd stays
  failed_there (Some a) (Some b) backend at stays failed =
      let same : a ≡ backend = cc in
      (b, refl, failed_same a.link b.link stays.1 ∙ ap (λ (x : Backend P). has_failed x.link) same ∙ failed)

  work_stays : (a : Option (Backend P)) (backend' : Backend P) → BackendStays a (Some backend') → ForSome a (λ backend. HasNoMapWork backend) → HasNoMapWork backend'
  work_stays None backend' stays work = let B : Backend P → Type 0 = λ b. HasNoMapWork b in subst B (sym stays) (record { published = tt; asked = refl; read = refl; renewed = refl })
  work_stays (Some a) backend' (is, link) work =
      let was = work a refl in
      let B : Backend P → Type 0 = λ b. HasNoMapWork b in
      subst B (sym is) (record { published = was.published; asked = was.asked; read = was.read; renewed = was.renewed })

  take_stays : (a : Option (Backend P)) (backend' : Backend P) → BackendStays a (Some backend') → ForSome a HasNoneToTake → HasNoneToTake backend'
  take_stays None backend' stays take = let B : Backend P → Type 0 = λ b. HasNoneToTake b in subst B (sym stays) (inl refl)
  take_stays (Some a) backend' (is, link) take =
      let told : backend'.pending_told ≡ a.pending_told = ap (λ (b : Backend P). b.pending_told) is in
      let answer : backend'.answer ≡ a.answer = ap (λ (b : Backend P). b.answer) is in
      take_by (has_failed a.link) a.pending_told a.answer (has_failed backend'.link) backend'.pending_told backend'.answer (failed_same a.link backend'.link link) told answer (take a refl)

  closed_failed : (link : Option (LinkModel P)) → IsSome link → is_open link ≡ false → has_failed link ≡ true
  closed_failed None some closed = absurd (cc)
  closed_failed (Some link) some closed = closed_by link.failure closed

  open_same : (a b : Option (LinkModel P)) → LinkStays a b → is_open b ≡ is_open a
  open_same None None stays = refl
  open_same None (Some b) stays = absurd stays
  open_same (Some a) None stays = absurd stays
  open_same (Some a) (Some b) stays = ap (λ (f : Option Failure). is_none f) stays

  link_stays : (a b : Option (LinkModel P)) → LinkStays a b → IsSome a → IsSome b
  link_stays None b stays some = absurd (cc)
  link_stays (Some a) None stays some = absurd stays
  link_stays (Some a) (Some b) stays some = refl

  linked_failed : (a : Backend P) (o : Option (Backend P)) → BackendStays (Some a) o → IsSome a.link → ForSome o (λ b. is_open b.link ≡ false)
      → (backend : Backend P) × (o ≡ Some backend) × (has_failed backend.link ≡ true)
  linked_failed a None stays some closed = absurd stays
  linked_failed a (Some backend) (is, link) some closed = (backend, refl, closed_failed backend.link (link_stays a.link backend.link link some) (closed backend refl))

-- ---- what rests goes on to rest

module _ {H P : Type 0} where
  pub blocked_stays : (old new : CarrierModel H P) → Quiet old new → (worker : ℕ) → IsBlockedAt old.lanes worker → IsBlockedAt new.lanes worker
  blocked_stays old new quiet worker (lane, at, blocked) =
      let Q : Option (LaneEnds H) → Type 0 = λ o. LaneStays o (slice_get new.lanes worker) in
      let there = lane_there (slice_get new.lanes worker) lane (subst Q at (quiet.lanes worker)) in
      (there.0, there.1, there.2.0 blocked)

  pub empty_goes_on : (old new : CarrierModel H P) → Quiet old new → (worker : ℕ) → HasNoRun old.lanes worker → HasNoRun new.lanes worker
  empty_goes_on old new quiet worker none few lane' at =
      let Q : Option (LaneEnds H) → Type 0 = λ o. LaneStays (slice_get old.lanes worker) o in
      let there = lane_before (slice_get old.lanes worker) lane' (subst Q at (quiet.lanes worker)) in
      there.2.1 (none few there.0 there.1)

  told_stays : (old new : CarrierModel H P) → Quiet old new → (pending_told : Option PendingTold)
      → IfSome pending_told (λ told. (told.change ≡ None) × IsBlockedAt old.lanes told.ticket.worker) → IfSome pending_told (λ told. (told.change ≡ None) × IsBlockedAt new.lanes told.ticket.worker)
  told_stays old new quiet None rests = tt
  told_stays old new quiet (Some told) (published, blocked) = (published, blocked_stays old new quiet told.ticket.worker blocked)

  new_rests : (gave_none : LinkModel P → Type 0) (nodes : List Endpoint) (lanes : List (LaneEnds H)) → BackendRests gave_none nodes lanes (new_backend {P = P})
  new_rests gave_none nodes lanes = record { asked = refl; read = refl; renewed = refl; told = tt; link = λ failed. absurd (cc); received = λ told answer. tt }

  rests_as : (gave_none : LinkModel P → Type 0) (old new : CarrierModel H P) → Quiet old new → (o : Option (Backend P)) (backend' : Backend P) → BackendStays o (Some backend')
      → ((backend : Backend P) → o ≡ Some backend → BackendRests gave_none old.nodes old.lanes backend) → HasReceived gave_none new.nodes backend' → BackendRests gave_none new.nodes new.lanes backend'
  rests_as gave_none old new quiet None backend' stays rests received =
      let B : Backend P → Type 0 = λ b. BackendRests gave_none new.nodes new.lanes b in subst B (sym stays) (new_rests gave_none new.nodes new.lanes)
  rests_as gave_none old new quiet (Some backend) backend' (is, link) rests received =
      let was = rests backend refl in
      let B : Backend P → Type 0 = λ b. BackendRests gave_none new.nodes new.lanes b in
      subst B (sym is) (record {
        asked = was.asked;
        read = was.read;
        renewed = was.renewed;
        told = told_stays old new quiet backend.pending_told was.told;
        link = λ failed. was.link (sym (failed_same backend.link backend'.link link) ∙ failed);
        received = subst (HasReceived gave_none new.nodes) is received;
      })

  -- a backend that rested rests
  pub backend_rests_on : (gave_none : LinkModel P → Type 0) (old new : CarrierModel H P) → Quiet old new → KeepsReceived gave_none old new → (node : ℕ)
      → ForSome (slice_get old.backends node) (BackendRests gave_none old.nodes old.lanes) → ForSome (slice_get new.backends node) (BackendRests gave_none new.nodes new.lanes)
  backend_rests_on gave_none old new quiet keeps node rests backend' at =
      let Q : Option (Backend P) → Type 0 = λ o. BackendStays (slice_get old.backends node) o in
      rests_as gave_none old new quiet (slice_get old.backends node) backend' (subst Q at (quiet.backends node)) rests (keeps node (λ backend is. (rests backend is).received) backend' at)

  -- a worker's run that rested rests
  pub run_rests_on : (old new : CarrierModel H P) → Quiet old new → (worker : ℕ) (refused : List Ticket) (run : Option RunModel)
      → RunRests old.lanes old.backends worker refused run → RunRests new.lanes new.backends worker refused run
  run_rests_on old new quiet worker (ticket ∷ later) run rests = blocked_stays old new quiet ticket.worker rests
  run_rests_on old new quiet worker [] (Some run) (backend, at, failed) =
      failed_there (slice_get old.backends run.first.node) (slice_get new.backends run.first.node) backend at (quiet.backends run.first.node) failed
  run_rests_on old new quiet worker [] None rests = empty_goes_on old new quiet worker rests

  pub runs_rest_on : (old new : CarrierModel H P) → Quiet old new → (worker : ℕ)
      → ForSome (slice_get old.pending_runs worker) (λ pending. RunRests old.lanes old.backends worker pending.refused pending.run)
      → ForSome (slice_get new.pending_runs worker) (λ pending. RunRests new.lanes new.backends worker pending.refused pending.run)
  runs_rest_on old new quiet worker rests pending at =
      let Q : List PendingRun → Type 0 = λ ps. slice_get ps worker ≡ Some pending in
      run_rests_on old new quiet worker pending.refused pending.run (rests pending (subst Q quiet.runs at))

-- ---- three calls at a backend, four at a worker's run

module _ {H P : Type 0} where
  -- of the slot map nothing is left, nothing can be taken and nothing given
  served_rests : (gave_none : LinkModel P → Type 0) (nodes : List Endpoint) (lanes : List (LaneEnds H)) (backend : Backend P) → HasNoMapWork backend → HasNoneToTake backend → HasNoneToGive lanes backend
      → HasReceived gave_none nodes backend → BackendRests gave_none nodes lanes backend
  served_rests gave_none nodes lanes backend work take give received = record {
    asked = work.asked;
    read = work.read;
    renewed = work.renewed;
    told = told_by lanes backend.pending_told work.published give;
    link = λ failed. link_by (has_failed backend.link) backend.answer (IsSome backend.pending_told) work.read take failed;
    received = received;
  }

  -- a backend's whole turn moved nothing
  pub backend_at_rest : (gave_none : LinkModel P → Type 0) (s1 s2 s3 : CarrierModel H P) → Quiet s1 s2 → Quiet s2 s3 → KeepsReceived gave_none s2 s3 → (node : ℕ)
      → ForSome (slice_get s1.backends node) (λ backend. HasNoMapWork backend)
      → ForSome (slice_get s2.backends node) (λ backend. HasNoneToTake backend × HasReceived gave_none s2.nodes backend)
      → ForSome (slice_get s3.backends node) (HasNoneToGive s3.lanes) → ForSome (slice_get s3.backends node) (BackendRests gave_none s3.nodes s3.lanes)
  backend_at_rest gave_none s1 s2 s3 first next keeps node work take give backend at =
      let Q : Option (Backend P) → Type 0 = λ o. BackendStays (slice_get s2.backends node) o in
      let W : Option (Backend P) → Type 0 = λ o. BackendStays (slice_get s1.backends node) o in
      served_rests gave_none s3.nodes s3.lanes backend
      (work_stays (slice_get s1.backends node) backend (subst W at ((quiet_then s1 s2 s3 first next).backends node)) work)
      (take_stays (slice_get s2.backends node) backend (subst Q at (next.backends node)) (λ there is. (take there is).0))
      (give backend at)
      (keeps node (λ there is. (take there is).1) backend at)

  run_by : (s1 s2 s3 s4 : CarrierModel H P) → Quiet s1 s2 → Quiet s2 s3 → Quiet s3 s4 → (worker : ℕ) (refused : List Ticket) (run : Option RunModel)
      → CanTellNone s1.lanes refused → (IsSome run ⊎ (refused ≢ [])) ⊎ HasNoRun s2.lanes worker
      → ForSome (target_of refused run) (HasLink s3.backends) → ForSome (target_of refused run) (λ node. ForSome (slice_get s4.backends node) (λ backend. is_open backend.link ≡ false))
      → RunRests s4.lanes s4.backends worker refused run
  run_by s1 s2 s3 s4 q1 q2 q3 worker (ticket ∷ later) run told take link send = blocked_stays s1 s4 (quiet_then s1 s2 s4 q1 (quiet_then s2 s3 s4 q2 q3)) ticket.worker told
  run_by s1 s2 s3 s4 q1 q2 q3 worker [] (Some run) told take link send =
      let there = link run.first.node refl in
      let Q : Option (Backend P) → Type 0 = λ o. BackendStays o (slice_get s4.backends run.first.node) in
      linked_failed there.0 (slice_get s4.backends run.first.node) (subst Q there.1 (q3.backends run.first.node)) there.2 (send run.first.node refl)
  run_by s1 s2 s3 s4 q1 q2 q3 worker [] None told (inl (inl some)) link send = absurd (cc)
  run_by s1 s2 s3 s4 q1 q2 q3 worker [] None told (inl (inr some)) link send = absurd (some refl)
  run_by s1 s2 s3 s4 q1 q2 q3 worker [] None told (inr none) link send = empty_goes_on s2 s4 (quiet_then s2 s3 s4 q2 q3) worker none

  -- a worker's whole turn moved nothing
  pub run_at_rest : (s1 s2 s3 s4 : CarrierModel H P) → Quiet s1 s2 → Quiet s2 s3 → Quiet s3 s4 → (worker : ℕ) → ForSome (slice_get s1.pending_runs worker) (HasNoneToTell s1.lanes)
      → ForSome (slice_get s2.pending_runs worker) (HasNoneToCarry s2.lanes worker)
      → ForSome (slice_get s3.pending_runs worker) (λ pending. ForSome (target_of pending.refused pending.run) (HasLink s3.backends))
      → ForSome (slice_get s4.pending_runs worker) (HasNoOpenLink s4.backends)
      → ForSome (slice_get s4.pending_runs worker) (λ pending. RunRests s4.lanes s4.backends worker pending.refused pending.run)
  run_at_rest s1 s2 s3 s4 q1 q2 q3 worker told take link send pending at =
      let Q : List PendingRun → Type 0 = λ ps. slice_get ps worker ≡ Some pending in
      let at3 : slice_get s3.pending_runs worker ≡ Some pending = subst Q q3.runs at in
      let at2 : slice_get s2.pending_runs worker ≡ Some pending = subst Q q2.runs at3 in
      let at1 : slice_get s1.pending_runs worker ≡ Some pending = subst Q q1.runs at2 in
      run_by s1 s2 s3 s4 q1 q2 q3 worker pending.refused pending.run (told pending at1) (take pending at2) (link pending at3) (send pending at)

-- ---- what one call leaves at its place

module _ {H : Type 0} where
  back_blocked : (old new : List (LaneEnds H)) (pair : Ticket × Told) → ComesBack old pair new → IsBlockedAt new pair.0.worker
  back_blocked old new pair (lane, lane', at, is, (same, gives)) =
      let Q : List (LaneEnds H) → Type 0 = λ ls. slice_get ls pair.0.worker ≡ Some lane' in
      (lane', subst Q (sym is) (get_set old pair.0.worker lane lane' at), blocked_by lane.down lane'.down pair pair gives)

  waits_to_give : (old new : List (LaneEnds H)) (pending_told : Option PendingTold) → WaitsToGive pending_told old new → IfSome pending_told (λ told. IsSome told.change ⊎ IsBlockedAt new told.ticket.worker)
  waits_to_give old new None waits = tt
  waits_to_give old new (Some told) (inl unpublished) = inl unpublished.0
  waits_to_give old new (Some told) (inr back) = inr (back_blocked old new (told.ticket, told.told) back.1)

  waits_to_tell : (old new : List (LaneEnds H)) (refused : List Ticket) → WaitsToTell refused old new → CanTellNone new refused
  waits_to_tell old new [] waits = tt
  waits_to_tell old new (ticket ∷ later) back = back_blocked old new (ticket, Unsent) back

  pub given : {P : Type 0} (old new : Backend P) (lanes lanes' : List (LaneEnds H)) (moved : Bool) → moved ≡ false → GiveOutcome old lanes moved new lanes' → HasNoneToGive lanes' new
  given old new lanes lanes' true still outcome = absurd (cc)
  given old new lanes lanes' false still (same, waits) =
      let Q : Option PendingTold → Type 0 = λ o. IfSome o (λ told. IsSome told.change ⊎ IsBlockedAt lanes' told.ticket.worker) in
      subst Q (sym (ap (λ (b : Backend _). b.pending_told) same)) (waits_to_give lanes lanes' old.pending_told waits)

  pub told_unsent : (old new : PendingRun) (lanes lanes' : List (LaneEnds H)) (moved : Bool) → moved ≡ false → TellOutcome old lanes moved new lanes' → HasNoneToTell lanes' new
  told_unsent old new lanes lanes' true still outcome = absurd (cc)
  told_unsent old new lanes lanes' false still (same, waits) =
      let Q : List Ticket → Type 0 = λ o. CanTellNone lanes' o in
      subst Q (sym (ap (λ (b : PendingRun). b.refused) same)) (waits_to_tell lanes lanes' old.refused waits)

  pub taken : (worker : ℕ) (old new : PendingRun) (lanes lanes' : List (LaneEnds H)) (moved : Bool) → moved ≡ false → TakeOutcome worker old lanes moved new lanes' → HasNoneToCarry lanes' worker new
  taken worker old new lanes lanes' true still outcome = absurd (cc)
  taken worker old new lanes lanes' false still (same, inl pending) = inl (subst IsPending (sym same) pending.0)
  taken worker old new lanes lanes' false still (same, inr (none, (lane, lane', at, is, (up, (ring, before, now, took))))) =
      inr (λ few. let Q : List (LaneEnds H) → Type 0 = λ ls. ForSome (slice_get ls worker) (λ l. held l.up ≡ []) in
      subst Q (sym is) (set_at (λ l. held l.up ≡ []) lanes worker lane lane' at now))

all_published : (o : Option PendingTold) → is_unpublished o ≡ false → IfSome o (λ told. told.change ≡ None)
all_published None e = tt
all_published (Some told) e = none_where told.change e

-- no work of any kind is left
pub no_work : {P : Type 0} (backend : Backend P) → has_map_work backend ≡ false → HasNoMapWork backend
no_work backend none =
    let a = or_false ((is_unpublished backend.pending_told || is_some backend.answer) || is_some backend.changes) backend.to_ask none in
    let b = or_false (is_unpublished backend.pending_told || is_some backend.answer) (is_some backend.changes) a.0 in
    let c = or_false (is_unpublished backend.pending_told) (is_some backend.answer) b.0 in
    record { published = all_published backend.pending_told c.0; asked = a.1; read = none_where backend.answer c.1; renewed = none_where backend.changes b.1 }

tasks_done : {P : Type 0} (backend : Backend P) → IsDone task.Publish backend → IsDone task.Ask backend → IsDone task.Read backend → IsDone task.Renew backend → HasNoMapWork backend
tasks_done backend published asked (inl some) renewed = absurd (cc)
tasks_done backend published asked (inr none) renewed = record { published = published; asked = asked; read = none; renewed = renewed }

task_stays : {P : Type 0} (which : MapTask) (a : Option (Backend P)) (backend' : Backend P) → BackendStays a (Some backend') → ForSome a (IsDone which) → IsDone which backend'
task_stays task.Publish None b stays done = let Q : Backend _ → Type 0 = λ x. IsDone task.Publish x in subst Q (sym stays) tt
task_stays task.Ask None b stays done = let Q : Backend _ → Type 0 = λ x. IsDone task.Ask x in subst Q (sym stays) refl
task_stays task.Read None b stays done = let Q : Backend _ → Type 0 = λ x. IsDone task.Read x in subst Q (sym stays) (inr refl)
task_stays task.Renew None b stays done = let Q : Backend _ → Type 0 = λ x. IsDone task.Renew x in subst Q (sym stays) refl
task_stays task.Publish (Some a) b (is, link) done = let Q : Backend _ → Type 0 = λ x. IsDone task.Publish x in subst Q (sym is) (done a refl)
task_stays task.Ask (Some a) b (is, link) done = let Q : Backend _ → Type 0 = λ x. IsDone task.Ask x in subst Q (sym is) (done a refl)
task_stays task.Read (Some a) b (is, link) done = let Q : Backend _ → Type 0 = λ x. IsDone task.Read x in subst Q (sym is) (done a refl)
task_stays task.Renew (Some a) b (is, link) done = let Q : Backend _ → Type 0 = λ x. IsDone task.Renew x in subst Q (sym is) (done a refl)

-- all four tasks moved nothing
pub map_at_rest : {H P : Type 0} (s1 s2 s3 s4 : CarrierModel H P) → Quiet s1 s2 → Quiet s2 s3 → Quiet s3 s4 → (node : ℕ) → ForSome (slice_get s1.backends node) (IsDone task.Publish)
    → ForSome (slice_get s2.backends node) (IsDone task.Ask) → ForSome (slice_get s3.backends node) (IsDone task.Read) → ForSome (slice_get s4.backends node) (IsDone task.Renew)
    → ForSome (slice_get s4.backends node) (λ backend. HasNoMapWork backend)
map_at_rest s1 s2 s3 s4 q1 q2 q3 node published asked read renewed backend at =
    let Q1 : Option (Backend _) → Type 0 = λ o. BackendStays (slice_get s1.backends node) o in
    let Q2 : Option (Backend _) → Type 0 = λ o. BackendStays (slice_get s2.backends node) o in
    let Q3 : Option (Backend _) → Type 0 = λ o. BackendStays (slice_get s3.backends node) o in
    tasks_done backend
    (task_stays task.Publish (slice_get s1.backends node) backend (subst Q1 at ((quiet_then s1 s2 s4 q1 (quiet_then s2 s3 s4 q2 q3)).backends node)) published)
    (task_stays task.Ask (slice_get s2.backends node) backend (subst Q2 at ((quiet_then s2 s3 s4 q2 q3).backends node)) asked)
    (task_stays task.Read (slice_get s3.backends node) backend (subst Q3 at (q3.backends node)) read)
    (renewed backend at)

module _ {H P : Type 0} where
  -- a whole turn moved nothing
  pub carrier_at_rest : (gave_none : LinkModel P → Type 0) (s1 s2 s3 s4 : CarrierModel H P) → Quiet s1 s2 → Quiet s2 s3 → Quiet s3 s4 → KeepsReceived gave_none s3 s4 → length s1.lanes ≤ length s1.pending_runs → s2.seed_to_dial ≡ false
      → ((node : ℕ) → ForSome (slice_get s3.backends node) (BackendRests gave_none s3.nodes s3.lanes))
      → ((worker : ℕ) → ForSome (slice_get s4.pending_runs worker) (λ pending. RunRests s4.lanes s4.backends worker pending.refused pending.run)) → IsAtRest gave_none s4
  carrier_at_rest gave_none s1 s2 s3 s4 q1 q2 q3 keeps workers seed backends runs =
      let all = quiet_then s1 s2 s4 q1 (quiet_then s2 s3 s4 q2 q3) in
      record {
        seed = q3.seed ∙ q2.seed ∙ seed;
        workers = omega (arith, workers, all.workers, ap (λ (xs : List PendingRun). length xs) all.runs);
        runs = runs;
        backends = λ node. backend_rests_on gave_none s3 s4 q3 keeps node (backends node);
      }

module _ {H P : Type 0} (calls : PortCalls P) (opens : Endpoint → Option P → ℕ → ℕ → Type 0) (longest : P → ℕ) where
  pub rests_after : (old : CarrierModel H P) (result : Result Bool NoMemory) (new : CarrierModel H P) → TakesTurn calls opens longest old result new → RestsAfter (GaveNone calls) result new
  rests_after old (Ok moved) new (goes, rests) = rests
  rests_after old (Err e) new gives = tt

module _ {P : Type 0} where
  -- a backend with a link was put there
  pub put_there : (xs : List (Backend P)) (n node : ℕ) (backend backend' : Backend P) → n ≡ node → slice_get xs n ≡ Some backend → IsSome backend.link → backend' ≡ backend → HasLink (slice_set xs n backend') node
  put_there xs n node backend backend' is at some same =
      let Q : ℕ → Type 0 = λ m. slice_get (slice_set xs n backend') m ≡ Some backend' in
      (backend', subst Q is (get_set xs n backend backend' at), ap (λ (b : Backend P). is_some b.link) same ∙ some)

  pub no_run : (xs : List (Backend P)) (pending_run : PendingRun) → pending_run.run ≡ None → HasNoOpenLink xs pending_run
  no_run xs pending_run none = no_target pending_run.refused pending_run.run none
    where
      no_target : (refused : List Ticket) (run : Option RunModel) → run ≡ None → ForSome (target_of refused run) (λ node. ForSome (slice_get xs node) (λ backend. is_open backend.link ≡ false))
      no_target [] None e n is = absurd (cc)
      no_target [] (Some run) e n is = absurd (cc)
      no_target (ticket ∷ later) run e n is = absurd (cc)

  -- one that was refused goes nowhere
  pub no_way : (xs : List (Backend P)) (pending_run : PendingRun) → pending_run.refused ≢ [] → HasNoOpenLink xs pending_run
  no_way xs pending_run some = none_to pending_run.refused pending_run.run some
    where
      none_to : (refused : List Ticket) (run : Option RunModel) → refused ≢ [] → ForSome (target_of refused run) (λ node. ForSome (slice_get xs node) (λ backend. is_open backend.link ≡ false))
      none_to [] run some n is = absurd (some refl)
      none_to (ticket ∷ later) run some n is = absurd (cc)

  pub not_open : (xs : List (Backend P)) (pending_run : PendingRun) (run : RunModel) → pending_run.run ≡ Some run → ForSome (slice_get xs run.first.node) (λ backend. is_open backend.link ≡ false)
      → HasNoOpenLink xs pending_run
  not_open xs pending_run run is closed = at_target pending_run.refused pending_run.run is
    where
      at_target : (refused : List Ticket) (o : Option RunModel) → o ≡ Some run → ForSome (target_of refused o) (λ node. ForSome (slice_get xs node) (λ backend. is_open backend.link ≡ false))
      at_target (ticket ∷ later) o e n there = absurd (cc)
      at_target [] None e n there = absurd (cc)
      at_target [] (Some other) e n there =
          let node : run.first.node ≡ n = cc in
          let Q : ℕ → Type 0 = λ m. ForSome (slice_get xs m) (λ backend. is_open backend.link ≡ false) in
          subst Q node closed

  pub not_open_set : (xs : List (Backend P)) (n : ℕ) (pending_run : PendingRun) (run : RunModel) (backend backend' : Backend P) → pending_run.run ≡ Some run → n ≡ run.first.node
      → slice_get xs n ≡ Some backend → backend' ≡ backend → is_open backend.link ≡ false → HasNoOpenLink (slice_set xs n backend') pending_run
  not_open_set xs n pending_run run backend backend' is node at same closed =
      let Q : ℕ → Type 0 = λ m. ForSome (slice_get (slice_set xs n backend') m) (λ b. is_open b.link ≡ false) in
      let open_as : is_open backend'.link ≡ false = ap (λ (b : Backend P). is_open b.link) same ∙ closed in
      not_open (slice_set xs n backend') pending_run run is (subst Q node (set_at (λ b. is_open b.link ≡ false) xs n backend backend' at open_as))
