-- What the carrier does, and what a worker does, is some events of the machine.
use Rattle.std.proofs.Common.{ℕ, [], refl}
use Rattle.world_laws.specs.State.{WorldModel}
use Rattle.proxy_turns.specs.declared.backend_step.BackendStep.{BackendStep}
use Rattle.proxy_turns.specs.declared.backend_step.BackendStep.TheVariants as backend
use Rattle.proxy_turns.specs.CarrierModel.{CarrierEvent, AtBackend, Starved, WorkerAdded, BackendAdded, Looked, Took, Opened, Refused, Missed, SeedReached, Sought, Reached, NotFound, Sent, Gave, GaveUnsent}
use Rattle.proxy_turns.specs.ClientTurn.{ClientEvent, Pulled, Fed, Read, HandedOut, Followed, Looked as LookedUp, CameBack, Posted, Drained, Pushed, Tried, Parted, Dropped}
use Rattle.proxy_turns.specs.WorkerModel.{WorkerEvent, Did, Finished, Took as TookPair, FoundNone, Came, TurnedAway, FoundNobody, Left}
use Rattle.turn_laws.specs.System.{System}
use Rattle.turn_laws.specs.Shadow.{IsShadow}
use Rattle.turn_laws.specs.Steps.{SystemEvent, AtWorker, AtCarrier, CarrierStep, WorkerStep}
use Rattle.key_split.specs.Laws.{PlansArePlain}
use Rattle.turn_laws.specs.Refines.{Simulates, SimulatesNaming}
use Rattle.turn_laws.proofs.AtLines as at-line
use Rattle.turn_laws.proofs.AtLanes as at-lane
use Rattle.turn_laws.proofs.Looked.{looked}
use Rattle.turn_laws.proofs.Departing.{left}
use Rattle.turn_laws.proofs.Openings.{opened, reached}
use Rattle.turn_laws.proofs.Waiting.{waited}
use Rattle.turn_laws.proofs.Starving.{starved}
use Rattle.turn_laws.proofs.Answering.{answered}
use Rattle.turn_laws.proofs.AtWorkers as at-worker
use Rattle.turn_laws.proofs.Fetched.{fetched}
use Rattle.turn_laws.proofs.Refused.{refused}
use Rattle.turn_laws.proofs.Broke.{broke}
use Rattle.turn_laws.proofs.Asked.{asked}
use Rattle.turn_laws.proofs.Sent.{sent-on}
use Rattle.turn_laws.proofs.Begun.{handed-out, followed}
use Rattle.turn_laws.proofs.Ending.{dropped, finished}
use Rattle.turn_laws.proofs.Parting.{parted}
use Rattle.turn_laws.proofs.Came.{came}
use Rattle.turn_laws.proofs.Took.{took}
use Rattle.turn_laws.proofs.Posted.{posted}
use Rattle.turn_laws.proofs.Drained.{drained}
use Rattle.turn_laws.proofs.Arriving.{read}

module _ (C J : Type 0) where
  -- the machine does nothing
  unseen : (event : CarrierEvent) → ((s s' : System C J) (w : WorldModel) → IsShadow s w → CarrierStep s event s' → IsShadow s' w) → Simulates C J (AtCarrier event)
  unseen event keeps s s' w h _ on = ([], w, refl, keeps s s' w h on)

  backend-step : (step : BackendStep) → Simulates C J (AtCarrier (AtBackend step))
  backend-step backend.Idle = unseen (AtBackend backend.Idle) at-line.idle
  backend-step backend.Waited = waited C J
  backend-step backend.Broke = broke C J
  backend-step backend.Fetched = fetched C J
  backend-step backend.Answered = unseen (AtBackend backend.Answered) answered
  backend-step backend.GaveUp = unseen (AtBackend backend.GaveUp) at-line.gave-up
  backend-step backend.Closed = unseen (AtBackend backend.Closed) at-line.closed
  backend-step backend.Published = unseen (AtBackend backend.Published) at-line.published
  backend-step backend.Asked = asked C J
  backend-step backend.Spared = unseen (AtBackend backend.Spared) at-line.spared
  backend-step backend.Read = unseen (AtBackend backend.Read) at-line.read
  backend-step backend.Unread = unseen (AtBackend backend.Unread) at-line.unread
  backend-step backend.Renewed = unseen (AtBackend backend.Renewed) at-line.renewed

  pub carrier-step : (event : CarrierEvent) → Simulates C J (AtCarrier event)
  carrier-step (AtBackend step) = backend-step step
  carrier-step Starved = unseen Starved starved
  carrier-step WorkerAdded = unseen WorkerAdded at-lane.added
  carrier-step BackendAdded = unseen BackendAdded at-lane.lined
  carrier-step Looked = unseen Looked looked
  carrier-step Took = unseen Took at-lane.took
  carrier-step Opened = unseen Opened (λ s s' w h on. opened s s' w h on)
  carrier-step Refused = refused C J
  carrier-step Missed = unseen Missed at-lane.missed
  carrier-step SeedReached = unseen SeedReached at-line.connected
  carrier-step Sought = unseen Sought at-line.sought
  carrier-step Reached = unseen Reached (λ s s' w h on. reached s s' w h on)
  carrier-step NotFound = unseen NotFound at-lane.not-found
  carrier-step Sent = sent-on C J
  carrier-step Gave = unseen Gave at-lane.gave
  carrier-step GaveUnsent = unseen GaveUnsent at-lane.gave-unsent

  unseen-at : (k : ℕ) (event : WorkerEvent) → ((s s' : System C J) (w : WorldModel) → IsShadow s w → WorkerStep s k event s' → IsShadow s' w) → Simulates C J (AtWorker k event)
  unseen-at k event keeps s s' w h _ on = ([], w, refl, keeps s s' w h on)

  -- whatever was named
  pub anyhow : (event : SystemEvent) → Simulates C J event → SimulatesNaming C J event
  anyhow event simulates s s' w h names walked on = simulates s s' w h walked on

  module _ (plain : PlansArePlain) where
    client-step : (k number : ℕ) (event : ClientEvent) → SimulatesNaming C J (AtWorker k (Did number event))
    client-step k number (Pulled bytes) = anyhow (AtWorker k (Did number (Pulled bytes))) (unseen-at k (Did number (Pulled bytes)) (at-worker.pulled k number bytes))
    client-step k number (Fed result) = anyhow (AtWorker k (Did number (Fed result))) (unseen-at k (Did number (Fed result)) (at-worker.fed-in k number result))
    client-step k number (Read result) = anyhow (AtWorker k (Did number (Read result))) (read C J plain k number result)
    client-step k number (HandedOut ticket part) = anyhow (AtWorker k (Did number (HandedOut ticket part))) (handed-out C J k number ticket part)
    client-step k number (Followed ticket part) = anyhow (AtWorker k (Did number (Followed ticket part))) (followed C J k number ticket part)
    client-step k number (LookedUp slot) = anyhow (AtWorker k (Did number (LookedUp slot))) (unseen-at k (Did number (LookedUp slot)) (at-worker.looked k number slot))
    client-step k number (CameBack run) = anyhow (AtWorker k (Did number (CameBack run))) (unseen-at k (Did number (CameBack run)) (at-worker.came-back k number run))
    client-step k number (Posted run) = posted C J k number run
    client-step k number (Drained n) = anyhow (AtWorker k (Did number (Drained n))) (drained C J k number n)
    client-step k number (Pushed bytes) = anyhow (AtWorker k (Did number (Pushed bytes))) (unseen-at k (Did number (Pushed bytes)) (at-worker.pushed k number bytes))
    client-step k number Tried = anyhow (AtWorker k (Did number Tried)) (unseen-at k (Did number Tried) (at-worker.tried k number))
    client-step k number Parted = anyhow (AtWorker k (Did number Parted)) (parted C J k number)
    client-step k number (Dropped tickets) = anyhow (AtWorker k (Did number (Dropped tickets))) (dropped C J k number tickets)

    pub worker-step : (k : ℕ) (event : WorkerEvent) → SimulatesNaming C J (AtWorker k event)
    worker-step k (Did number event) = client-step k number event
    worker-step k (Finished number ticket end) = anyhow (AtWorker k (Finished number ticket end)) (finished C J k number ticket end)
    worker-step k (TookPair ticket told) = anyhow (AtWorker k (TookPair ticket told)) (took C J k ticket told)
    worker-step k FoundNone = anyhow (AtWorker k FoundNone) (unseen-at k FoundNone (at-worker.found-none k))
    worker-step k (Came number) = anyhow (AtWorker k (Came number)) (came C J k number)
    worker-step k (TurnedAway number) = anyhow (AtWorker k (TurnedAway number)) (unseen-at k (TurnedAway number) (at-worker.turned-away k number))
    worker-step k FoundNobody = anyhow (AtWorker k FoundNobody) (unseen-at k FoundNobody (at-worker.found-nobody k))
    worker-step k (Left number) = anyhow (AtWorker k (Left number)) (unseen-at k (Left number) (left k number))
