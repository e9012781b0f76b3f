-- What the carrier does between the workers' lanes and the nodes: a list of events.
-- A turn is a list of events, and moved exactly where one of them is a move; one that moved nothing leaves the carrier at
-- rest.
use Rattle.std.specs.Prelude.{◌||◌, ◌≡◌, ◌++◌, ◌∷◌, [], ◌⊎◌, ◌≤◌, ℕ, List, Bool, true, false, Option, Some, None, Result, Ok, Err, length, slice_get, slice_set}
use Rattle.std.specs.List.{FoldsTo, list_all, list_any}
use Rattle.std.specs.Option.{ForSome}
use Rattle.resp_wire.specs.declared.fault.NoMemory.{NoMemory}
use Rattle.key_split.specs.Runs.{RunModel}
use Rattle.slot_map.specs.Table.{Endpoint}
use Rattle.slot_map.specs.declared.ops.MapOp.{MapOp}
use Rattle.node_link.specs.LinkModel.{LinkModel}
use Rattle.node_link.specs.Port.{PortCalls}
use Rattle.proxy_lanes.specs.declared.ends.lane_ends.LaneEnds.{LaneEnds}
use Rattle.proxy_lanes.specs.declared.ends.CarrierEnds.{CarrierEnds}
use Rattle.proxy_lanes.specs.Carrier.{lanes_of}
use Rattle.proxy_turns.specs.declared.carrier.Carrier.{Carrier}
use Rattle.proxy_turns.specs.declared.pending_run.PendingRun.{PendingRun}
use Rattle.proxy_turns.specs.declared.backend.Backend.{Backend}
use Rattle.proxy_turns.specs.declared.backend_step.BackendStep.{BackendStep}
use Rattle.proxy_turns.specs.declared.backend.MapTask.{MapTask}
use Rattle.proxy_turns.specs.declared.backend.RunStep.TheVariants as run_step
use Rattle.proxy_turns.specs.Backend.{BackendContext, BackendDoes, GaveNone, HasReceived, Starves, new_backend, fresh_link, has_open_link, is_backend_move, is_fetch_step, is_map_step, is_unanswered, HasNoMapWork, HasNoneToTake, IsDone}
use Rattle.proxy_turns.specs.Sending.{IsRefused, IsUnreached, SendOutcome}
use Rattle.proxy_turns.specs.Resting.{BackendRests, RunRests, HasFailedLink, HasLink, HasNoOpenLink, HasNoneToCarry, HasNoneToGive, HasNoneToTell}
use Rattle.proxy_turns.specs.RefusedRun.{tickets_in}
use Rattle.proxy_turns.specs.PendingRun.{target_of, no_pending_run, GiveOutcome, TellOutcome, TakeOutcome}

pub record CarrierModel (H : Type 0) (P : Type 0) : Type 0 where
  -- the carrier's ends of each worker's lanes
  pub lanes : List (LaneEnds H)
  -- the run of each worker that was taken and not sent yet
  pub pending_runs : List PendingRun
  -- its backend for each node
  pub backends : List (Backend P)
  pub nodes : List Endpoint
  -- what was published of the slot map
  pub published : List MapOp
  -- the seed is still to be dialled
  pub seed_to_dial : Bool
  -- how often a dial failed
  pub failures : ℕ

-- what a carrier holds
abbrev pub carrier_model : {H D P : Type 0} → (D → ℕ) → Carrier H (List MapOp) D P → CarrierModel H P
carrier_model failures carrier = record {
  lanes = lanes_of carrier.ends;
  pending_runs = carrier.pending_runs.items;
  backends = carrier.backends.items;
  nodes = carrier.nodes;
  published = carrier.ends.map;
  seed_to_dial = carrier.seed_to_dial;
  failures = failures carrier.dial;
}

-- the carrier's ends of the lanes, and of the map
abbrev pub ends_of : {H M D P : Type 0} → Carrier H M D P → CarrierEnds H M
ends_of carrier = carrier.ends

-- what dials the nodes
abbrev pub dial_of : {H M D P : Type 0} → Carrier H M D P → D
dial_of carrier = carrier.dial

-- the carrier with these ends, and all else as it is
abbrev pub with_ends : {H M D P : Type 0} → Carrier H M D P → CarrierEnds H M → Carrier H M D P
with_ends carrier ends = record carrier { ends = ends }

-- a carrier that has done nothing yet
abbrev pub new_carrier : {H P : Type 0} → List (LaneEnds H) → List Endpoint → List MapOp → ℕ → CarrierModel H P
new_carrier lanes nodes published failures = record {
  lanes = lanes;
  pending_runs = [];
  backends = [];
  nodes = nodes;
  published = published;
  seed_to_dial = true;
  failures = failures;
}

pub data CarrierEvent : Type 0 where
  -- something at a backend
  AtBackend : BackendStep → CarrierEvent
  -- memory ran out at a backend, where something may have come over its link
  Starved : CarrierEvent
  -- a place for one more worker's pending run, a backend for one more node
  WorkerAdded : CarrierEvent
  BackendAdded : CarrierEvent
  -- the lanes of a worker gave nothing, or were full
  Looked : CarrierEvent
  -- a run was taken from a lane
  Took : CarrierEvent
  -- a node was dialled, and its backend has a link
  Opened : CarrierEvent
  -- a run was refused whole: its dial failed, or it is longer than its link's port takes
  Refused : CarrierEvent
  -- the dial of the seed failed, at the start
  Missed : CarrierEvent
  -- the seed is to be asked for CLUSTER SLOTS
  SeedReached : CarrierEvent
  -- after a loss a node is found, and is to be asked for CLUSTER SLOTS
  Sought : CarrierEvent
  -- after a loss a node was dialled, has a link now, and is to be asked
  Reached : CarrierEvent
  -- after a loss no node was found: the dial of the next failed, or a link to it that failed is still to be taken away
  NotFound : CarrierEvent
  -- a run went out
  Sent : CarrierEvent
  -- a worker was given what was pending for it
  Gave : CarrierEvent
  -- Unsent was given to the next ticket of a refused run
  GaveUnsent : CarrierEvent

abbrev pub is_carrier_move : CarrierEvent → Bool
is_carrier_move (AtBackend step) = is_backend_move step
is_carrier_move Starved = true
is_carrier_move WorkerAdded = false
is_carrier_move BackendAdded = false
is_carrier_move Looked = false
is_carrier_move Took = true
is_carrier_move Opened = true
is_carrier_move Refused = true
is_carrier_move Missed = true
is_carrier_move SeedReached = true
is_carrier_move Sought = true
is_carrier_move Reached = true
is_carrier_move NotFound = true
is_carrier_move Sent = true
is_carrier_move Gave = true
is_carrier_move GaveUnsent = true

-- Which events one part of a turn may make.

-- a place for one more worker's pending run is made
abbrev pub adds_worker : CarrierEvent → Bool
adds_worker WorkerAdded = true
adds_worker event = false

-- a backend for one more node is made
abbrev pub adds_backend : CarrierEvent → Bool
adds_backend BackendAdded = true
adds_backend event = false

-- the seed is dialled, at the start
abbrev pub dials_seed : CarrierEvent → Bool
dials_seed Opened = true
dials_seed Missed = true
dials_seed SeedReached = true
dials_seed event = false

-- the node of a pending run is dialled
abbrev pub dials_node : CarrierEvent → Bool
dials_node Opened = true
dials_node Refused = true
dials_node event = false

-- the slot map is renewed at a backend
abbrev pub renews_map : CarrierEvent → Bool
renews_map (AtBackend step) = is_map_step step
renews_map Starved = true
renews_map event = false

-- a reply is fetched from a backend
abbrev pub fetches : CarrierEvent → Bool
fetches (AtBackend step) = is_fetch_step step
fetches Starved = true
fetches event = false

-- a worker is given what is pending for it, or its lane is full
abbrev pub gives : CarrierEvent → Bool
gives Gave = true
gives Looked = true
gives event = false

-- a worker is told that a run is unsent, or its lane is full
abbrev pub tells_unsent : CarrierEvent → Bool
tells_unsent GaveUnsent = true
tells_unsent Looked = true
tells_unsent event = false

-- a run is taken from a lane, or the lane gives none
abbrev pub takes_run : CarrierEvent → Bool
takes_run Took = true
takes_run Looked = true
takes_run event = false

-- a pending run is sent, or is too long for its link
abbrev pub sends : CarrierEvent → Bool
sends Sent = true
sends Refused = true
sends Starved = true
sends event = false

-- the seed gets its backend, and is dialled
abbrev pub connects_seed : CarrierEvent → Bool
connects_seed event = adds_backend event || dials_seed event

-- the node of a pending run gets its backend, and is dialled
abbrev pub connects : CarrierEvent → Bool
connects event = adds_backend event || dials_node event

-- after a loss a node is dialled, to be asked
abbrev pub dials_to_ask : CarrierEvent → Bool
dials_to_ask Reached = true
dials_to_ask NotFound = true
dials_to_ask event = false

-- the same; it gets its backend first
abbrev pub seeks_by_dial : CarrierEvent → Bool
seeks_by_dial event = adds_backend event || dials_to_ask event

-- after a loss one that has a link is to be asked
abbrev pub seeks_by_link : CarrierEvent → Bool
seeks_by_link Sought = true
seeks_by_link event = false

-- the turn of a backend
abbrev pub serves_backend : CarrierEvent → Bool
serves_backend event = renews_map event || (fetches event || gives event)

-- the turn of a worker's lanes
abbrev pub serves_lane : CarrierEvent → Bool
serves_lane event = tells_unsent event || (takes_run event || (sends event || connects event))

-- Nothing is left that the carrier can do: what it holds for workers waits for places in full lanes, no lane from a worker has a
-- run that it could take, nothing of the slot map is left, and no open link gave anything when it was asked for a reply.
pub record IsAtRest {H P : Type 0} (gave_none : LinkModel P → Type 0) (carrier : CarrierModel H P) : Type 0 where
  -- the seed was dialled
  pub seed : carrier.seed_to_dial ≡ false
  -- each worker has a place for its run
  pub workers : length carrier.lanes ≤ length carrier.pending_runs
  pub runs : (worker : ℕ) → ForSome (slice_get carrier.pending_runs worker) (λ pending_run.
      RunRests carrier.lanes carrier.backends worker pending_run.refused pending_run.run)
  pub backends : (node : ℕ) → ForSome (slice_get carrier.backends node) (BackendRests gave_none carrier.nodes carrier.lanes)

-- after a turn that moved nothing, CLUSTER SLOTS is unanswered, or the dial said that no node is to be asked
abbrev pub IsSought : {H P : Type 0} → Type 0 → Result Bool NoMemory → CarrierModel H P → Type 0
IsSought is_calm (Ok moved) left = moved ≡ false → (list_any is_unanswered left.backends ≡ true) ⊎ is_calm
IsSought is_calm (Err _) left = Unit {0}

-- a turn that moved nothing leaves a carrier at rest
abbrev pub RestsAfter : {H P : Type 0} → (LinkModel P → Type 0) → Result Bool NoMemory → CarrierModel H P → Type 0
RestsAfter gave_none (Ok moved) left = moved ≡ false → IsAtRest gave_none left
RestsAfter gave_none (Err _) left = Unit {0}

-- one backend, with what it shares with the others
abbrev pub context_of : {H P : Type 0} → CarrierModel H P → Backend P → BackendContext P
context_of carrier backend = record { backend = backend; nodes = carrier.nodes; published = carrier.published }

-- one backend, the table and the map changed so, and nothing else
abbrev pub ChangesBackend : {H P : Type 0} → CarrierModel H P → CarrierModel H P → (BackendContext P → BackendContext P → Type 0) → Type 0
ChangesBackend {H} {P} old new R = (k : ℕ) × (backend : Backend P) × (backend' : Backend P) × (slice_get old.backends k ≡ Some backend)
    × R (context_of old backend) (context_of new backend')
    × (new ≡ record old { backends = slice_set old.backends k backend'; nodes = new.nodes; published = new.published })

module _ {H P : Type 0} (calls : PortCalls P) (opens : Endpoint → Option P → ℕ → ℕ → Type 0) (longest : P → ℕ) where
  abbrev pub CarrierDoes : CarrierModel H P → CarrierEvent → CarrierModel H P → Type 0
  CarrierDoes old (AtBackend step) new =
      ChangesBackend old new (λ context context'. BackendDoes calls (list_any is_unanswered old.backends) context step context')
  CarrierDoes old Starved new = ChangesBackend old new (Starves calls)
      ⊎ ((k : ℕ) × (backend : Backend P) × (backend' : Backend P) × (run : RunModel) × (e : NoMemory) × (slice_get old.backends k ≡ Some backend)
      × SendOutcome calls longest backend run (Err e) backend'
      × (new ≡ record old { backends = slice_set old.backends k backend' }))
  CarrierDoes old WorkerAdded new = new ≡ record old { pending_runs = old.pending_runs ++ no_pending_run ∷ [] }
  CarrierDoes old BackendAdded new = new ≡ record old { backends = old.backends ++ new_backend ∷ [] }
  CarrierDoes old Looked new = (new ≡ record old { lanes = new.lanes }) × (
      ((k : ℕ) × (backend : Backend P) × (slice_get old.backends k ≡ Some backend) × GiveOutcome backend old.lanes false backend new.lanes)
      ⊎ ((k : ℕ) × (pending_run : PendingRun) × (slice_get old.pending_runs k ≡ Some pending_run)
      × (TellOutcome pending_run old.lanes false pending_run new.lanes ⊎ TakeOutcome k pending_run old.lanes false pending_run new.lanes)))
  CarrierDoes old Took new = (k : ℕ) × (pending_run : PendingRun) × (pending_run' : PendingRun) × (slice_get old.pending_runs k ≡ Some pending_run)
      × TakeOutcome k pending_run old.lanes true pending_run' new.lanes
      × (new ≡ record old { lanes = new.lanes; pending_runs = slice_set old.pending_runs k pending_run' })
  -- only where there is no link, by one dial at the endpoint that the table has for the node
  CarrierDoes old Opened new = (k : ℕ) × (backend : Backend P) × (at : Endpoint) × (port : P) × (slice_get old.backends k ≡ Some backend) × (backend.link ≡ None)
      × (slice_get old.nodes k ≡ Some at) × opens at (Some port) old.failures new.failures
      × (new ≡ record old { backends = slice_set old.backends k (record backend { link = Some (fresh_link port k); asked = false }); failures = new.failures })
  -- no link changed: nothing of the run was sent, and each of its tickets is to be told
  CarrierDoes old Refused new = (k : ℕ) × (pending_run : PendingRun) × (run : RunModel) × (backend : Backend P)
      × (slice_get old.pending_runs k ≡ Some pending_run) × (pending_run.run ≡ Some run) × (pending_run.refused ≡ [])
      × (slice_get old.backends run.first.node ≡ Some backend)
      × IsRefused opens longest run backend.link old.nodes old.failures new.failures
      × (new ≡ record old { pending_runs = slice_set old.pending_runs k (record { run = None; refused = tickets_in run }); failures = new.failures })
  CarrierDoes old Missed new = (old.seed_to_dial ≡ true) × IsUnreached opens 0 old.nodes old.failures new.failures
      × (new ≡ record old { seed_to_dial = false; failures = new.failures })
  CarrierDoes old SeedReached new = (backend : Backend P) × (old.seed_to_dial ≡ true) × (slice_get old.backends 0 ≡ Some backend)
      × (new ≡ record old { seed_to_dial = false; backends = slice_set old.backends 0 (record backend { to_ask = true }) })
  -- over an open link, and only where no such request is unanswered
  CarrierDoes old Sought new = (k : ℕ) × (backend : Backend P) × (slice_get old.backends k ≡ Some backend)
      × (has_open_link backend ≡ true) × (list_any is_unanswered old.backends ≡ false)
      × (new ≡ record old { backends = slice_set old.backends k (record backend { to_ask = true }) })
  -- only where no link is open, none to this node is left, and by one dial at the endpoint that the table has for it
  CarrierDoes old Reached new = (k : ℕ) × (backend : Backend P) × (at : Endpoint) × (port : P) × (slice_get old.backends k ≡ Some backend) × (backend.link ≡ None)
      × (list_any has_open_link old.backends ≡ false) × (slice_get old.nodes k ≡ Some at) × opens at (Some port) old.failures new.failures
      × (new ≡ record old { backends = slice_set old.backends k (record backend { link = Some (fresh_link port k); to_ask = true; asked = false }); failures = new.failures })
  -- only where no link is open
  CarrierDoes old NotFound new = (k : ℕ) × (list_any has_open_link old.backends ≡ false) × (new ≡ record old { failures = new.failures })
      × (IsUnreached opens k old.nodes old.failures new.failures ⊎ (HasFailedLink old.backends k × (new.failures ≡ old.failures)))
  CarrierDoes old Sent new = (k : ℕ) × (pending_run : PendingRun) × (run : RunModel) × (backend : Backend P) × (backend' : Backend P)
      × (slice_get old.pending_runs k ≡ Some pending_run) × (pending_run.run ≡ Some run) × (slice_get old.backends run.first.node ≡ Some backend)
      × SendOutcome calls longest backend run (Ok run_step.Sent) backend'
      × (new ≡ record old { pending_runs = slice_set old.pending_runs k (record pending_run { run = None }); backends = slice_set old.backends run.first.node backend' })
  CarrierDoes old Gave new = (k : ℕ) × (backend : Backend P) × (backend' : Backend P) × (slice_get old.backends k ≡ Some backend)
      × GiveOutcome backend old.lanes true backend' new.lanes
      × (new ≡ record old { lanes = new.lanes; backends = slice_set old.backends k backend' })
  CarrierDoes old GaveUnsent new = (k : ℕ) × (pending_run : PendingRun) × (pending_run' : PendingRun) × (slice_get old.pending_runs k ≡ Some pending_run)
      × TellOutcome pending_run old.lanes true pending_run' new.lanes
      × (new ≡ record old { lanes = new.lanes; pending_runs = slice_set old.pending_runs k pending_run' })

  -- events took the one to the other, and something moved exactly where one of them is a move
  abbrev pub CarrierGoes : CarrierModel H P → Bool → CarrierModel H P → Type 0
  CarrierGoes old moved new = (events : List CarrierEvent) × FoldsTo CarrierDoes old events new × (moved ≡ list_any is_carrier_move events)

  -- where memory ran out, what was done stands
  abbrev pub CarrierTurns : CarrierModel H P → Result Bool NoMemory → CarrierModel H P → Type 0
  CarrierTurns old (Ok moved) new = CarrierGoes old moved new
  CarrierTurns old (Err _) new = (moved : Bool) × CarrierGoes old moved new

  -- the same by events of one kind alone
  abbrev pub CarrierGoesBy : (CarrierEvent → Bool) → CarrierModel H P → Bool → CarrierModel H P → Type 0
  CarrierGoesBy may old moved new =
      (events : List CarrierEvent) × FoldsTo CarrierDoes old events new × (moved ≡ list_any is_carrier_move events) × (list_all may events ≡ true)

  -- and where nothing moved, this holds of what is left
  abbrev pub CarrierCalls : (CarrierEvent → Bool) → (CarrierModel H P → Type 0) → CarrierModel H P → Bool → CarrierModel H P → Type 0
  CarrierCalls may rests old moved new = CarrierGoesBy may old moved new × (moved ≡ false → rests new)

  abbrev pub CarrierTurnsBy : (CarrierEvent → Bool) → (CarrierModel H P → Type 0) → CarrierModel H P → Result Bool NoMemory → CarrierModel H P → Type 0
  CarrierTurnsBy may rests old (Ok moved) new = CarrierCalls may rests old moved new
  CarrierTurnsBy may rests old (Err _) new = (moved : Bool) × CarrierGoesBy may old moved new

  -- the seed gets its backend, and is dialled
  abbrev pub ConnectsSeed : CarrierModel H P → Result Bool NoMemory → CarrierModel H P → Type 0
  ConnectsSeed = CarrierTurnsBy connects_seed (λ left. left.seed_to_dial ≡ false)

  -- the node of a pending run gets its backend, and is dialled
  abbrev pub Connects : ℕ → CarrierModel H P → Result Bool NoMemory → CarrierModel H P → Type 0
  Connects worker = CarrierTurnsBy connects (λ left. ForSome (slice_get left.pending_runs worker) (λ pending_run.
      ForSome (target_of pending_run.refused pending_run.run) (HasLink left.backends)))

  -- one task for the slot map is done at a backend
  abbrev pub DoesMapTask : MapTask → ℕ → CarrierModel H P → Result Bool NoMemory → CarrierModel H P → Type 0
  DoesMapTask which node = CarrierTurnsBy renews_map (λ left. ForSome (slice_get left.backends node) (IsDone which))

  -- the slot map is renewed at a backend
  abbrev pub RenewsMap : ℕ → CarrierModel H P → Result Bool NoMemory → CarrierModel H P → Type 0
  RenewsMap node = CarrierTurnsBy renews_map (λ left. ForSome (slice_get left.backends node) (λ backend. HasNoMapWork backend))

  -- a reply is fetched from a backend
  abbrev pub FetchesReply : ℕ → CarrierModel H P → Result Bool NoMemory → CarrierModel H P → Type 0
  FetchesReply node = CarrierTurnsBy fetches (λ left. ForSome (slice_get left.backends node) (λ backend.
      HasNoneToTake backend × HasReceived (GaveNone calls) left.nodes backend))

  -- a pending run is sent, or refused
  abbrev pub SendsRun : ℕ → CarrierModel H P → Result Bool NoMemory → CarrierModel H P → Type 0
  SendsRun worker = CarrierTurnsBy sends (λ left. ForSome (slice_get left.pending_runs worker) (HasNoOpenLink left.backends))

  -- a backend has its turn
  abbrev pub ServesBackend : ℕ → CarrierModel H P → Result Bool NoMemory → CarrierModel H P → Type 0
  ServesBackend node = CarrierTurnsBy serves_backend (λ left. ForSome (slice_get left.backends node) (BackendRests (GaveNone calls) left.nodes left.lanes))

  -- all backends have their turns
  abbrev pub ServesBackends : CarrierModel H P → Result Bool NoMemory → CarrierModel H P → Type 0
  ServesBackends = CarrierTurnsBy serves_backend (λ left. (node : ℕ) → ForSome (slice_get left.backends node) (BackendRests (GaveNone calls) left.nodes left.lanes))

  -- a worker's lanes have their turn
  abbrev pub ServesLane : ℕ → CarrierModel H P → Result Bool NoMemory → CarrierModel H P → Type 0
  ServesLane worker = CarrierTurnsBy serves_lane (λ left. ForSome (slice_get left.pending_runs worker) (λ pending_run.
      RunRests left.lanes left.backends worker pending_run.refused pending_run.run))

  -- all workers' lanes have their turns
  abbrev pub ServesLanes : CarrierModel H P → Result Bool NoMemory → CarrierModel H P → Type 0
  ServesLanes = CarrierTurnsBy serves_lane (λ left. (worker : ℕ) → ForSome (slice_get left.pending_runs worker) (λ pending_run.
      RunRests left.lanes left.backends worker pending_run.refused pending_run.run))

  -- a whole turn
  abbrev pub TakesTurn : CarrierModel H P → Result Bool NoMemory → CarrierModel H P → Type 0
  TakesTurn = CarrierTurnsBy (λ event. true) (λ left. IsAtRest (GaveNone calls) left)

  -- after a loss the next node is dialled; that moves something
  abbrev pub SeeksByDial : CarrierModel H P → Result Bool NoMemory → CarrierModel H P → Type 0
  SeeksByDial = CarrierTurnsBy seeks_by_dial (λ left. ⊥)

  -- After a loss a node with an open link is to be asked, or where there is none the next node is dialled. Nothing is done where
  -- such a request is unanswered, or where the dial said that none is to be asked.
  abbrev pub SeekOutcome : Type 0 → CarrierModel H P → Result Bool NoMemory → CarrierModel H P → Type 0
  SeekOutcome is_calm old (Ok true) new =
      CarrierGoesBy seeks_by_link old true new ⊎ ((list_any has_open_link old.backends ≡ false) × CarrierGoesBy seeks_by_dial old true new)
  SeekOutcome is_calm old (Ok false) new = (new ≡ old) × ((list_any is_unanswered old.backends ≡ true) ⊎ is_calm)
  SeekOutcome is_calm old (Err _) new = (moved : Bool) × CarrierGoesBy seeks_by_dial old moved new

  -- a worker is given what is pending for it
  abbrev pub GivesReply : ℕ → CarrierModel H P → Bool → CarrierModel H P → Type 0
  GivesReply node = CarrierCalls gives (λ left. ForSome (slice_get left.backends node) (HasNoneToGive left.lanes))

  -- a worker is told that a run is unsent
  abbrev pub TellsUnsent : ℕ → CarrierModel H P → Bool → CarrierModel H P → Type 0
  TellsUnsent worker = CarrierCalls tells_unsent (λ left. ForSome (slice_get left.pending_runs worker) (HasNoneToTell left.lanes))

  -- a run is taken from a lane
  abbrev pub TakesRun : ℕ → CarrierModel H P → Bool → CarrierModel H P → Type 0
  TakesRun worker = CarrierCalls takes_run (λ left. ForSome (slice_get left.pending_runs worker) (HasNoneToCarry left.lanes worker))
