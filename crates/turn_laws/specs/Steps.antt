-- What may happen in a system: an event of a worker's turn, an event of the carrier's turn, a new client is handed to a worker, a node
-- serves what is next of a connection, what a broken one still has is thrown away, a slot moves one step.
use Rattle.std.specs.Prelude.{◌≡◌, ◌⊎◌, ◌+◌, ◌-◌, ℕ, suc, List, [], ◌∷◌, ◌++◌, Option, Some, None, IsSome, length, take, drop, slice_get, slice_set, Result}
use Rattle.std.specs.FinMap.{get}
use mathlib.Core.List.{IsPrefix}
use Rattle.resp_wire.specs.declared.value.Value.{Value}
use Rattle.key_split.specs.declared.travel.Ticket.{Ticket}
use Rattle.key_split.specs.declared.travel.Ended.{Ended}
use Rattle.slot_map.specs.Table.{Endpoint}
use Rattle.node_model.specs.Nodes.{ClusterModel}
use Rattle.node_model.specs.Moves.{MayImport, MayMigrate, MayMoveKey, MayOwn, MayRelease, MayForget, MayStay, import_done, migrate_done, move_key_done, own_done, release_done, forget_done, stay_done}
use Rattle.node_model.specs.declared.role.Verdict.{Verdict}
use Rattle.node_link.specs.LinkModel.{LinkModel}
use Rattle.session_order.specs.SessionModel.{SessionModel}
use Rattle.session_order.specs.declared.queue.PartStage.{PartStage}
use Rattle.session_order.specs.declared.queue.PartStage.TheVariants.{Waiting, Out, Done}
use Rattle.proxy_lanes.specs.declared.ends.lane_ends.LaneEnds.{LaneEnds}
use Rattle.proxy_lanes.specs.Ends.{ChangesAt, HandsOver}
use Rattle.proxy_turns.specs.declared.newcomer.Newcomer.{Newcomer}
use Rattle.proxy_turns.specs.declared.backend.Backend.{Backend}
use Rattle.proxy_turns.specs.ClientModel.{ClientModel}
use Rattle.proxy_turns.specs.ClientTurn.{ClientEvent, Pulled, Fed, Read, HandedOut, Followed, Looked, CameBack, Posted, Drained, Pushed, Tried, Parted, Dropped}
use Rattle.proxy_turns.specs.WorkerModel.{WorkerModel, WorkerEvent, Did, Finished, Took, FoundNone, Came, TurnedAway, FoundNobody, Left, WorkerDoes}
use Rattle.proxy_turns.specs.CarrierModel.{CarrierEvent, Opened as OpenedLink, Reached, CarrierDoes as CarrierDoes}
use Rattle.world_laws.specs.declared.event.Event.{Event}
use Rattle.world_laws.specs.declared.event.Event.TheVariants as core
use Rattle.turn_laws.specs.Wire.{Wire, Dials, ServesNext, Execution}
use Rattle.turn_laws.specs.System.{System, Mark, Arrived, Executed, Answered, IsInStep}
use Rattle.turn_laws.specs.PortsMay.{any_moves, any_calls}
use Rattle.turn_laws.specs.Underway.{IsWorking, DownInStep}
use Rattle.turn_laws.specs.Asking.{NoneAsksIn}

-- ---- what is seen of a step

abbrev pub ticket_at : SessionModel → ℕ → Ticket
ticket_at held number = record { worker = held.worker; client = held.client; part = number }

-- parts that were read, numbered on from this one
abbrev pub arrivals : SessionModel → ℕ → List PartStage → List Mark
arrivals held number [] = []
arrivals held number (Waiting part ∷ stages) = Arrived (ticket_at held number) part ∷ arrivals held (suc number) stages
arrivals held number (Out slot ∷ stages) = arrivals held (suc number) stages
arrivals held number (Done ∷ stages) = arrivals held (suc number) stages

abbrev pub answers : SessionModel → ℕ → List Ended → List Mark
answers held number [] = []
answers held number (end ∷ ends) = Answered (ticket_at held number) end ∷ answers held (suc number) ends

-- a request that is read has its parts behind the others; a reply that is drained takes its parts with it
abbrev pub seen_at : ClientEvent → SessionModel → SessionModel → List Mark
seen_at (Read result) old new = arrivals old (old.first + length old.stages) (drop (length old.stages) new.stages)
seen_at (Drained n) old new = answers old old.first (take (new.first - old.first) old.ends)
seen_at (Pulled bytes) old new = []
seen_at (Fed result) old new = []
seen_at (HandedOut ticket part) old new = []
seen_at (Followed ticket part) old new = []
seen_at (Looked slot) old new = []
seen_at (CameBack run) old new = []
seen_at (Posted run) old new = []
seen_at (Pushed bytes) old new = []
seen_at Tried old new = []
seen_at Parted old new = []
seen_at (Dropped tickets) old new = []

-- what was executed at once is one mark
abbrev pub log_of : List Execution → List Mark
log_of [] = []
log_of (one ∷ later) = Executed (one ∷ later) ∷ []

-- how many connections were opened, after an event of the carrier
abbrev pub opened_by : CarrierEvent → ℕ → ℕ
opened_by OpenedLink n = suc n
opened_by Reached n = suc n
opened_by event n = n

module _ {C J : Type 0} where
  abbrev pub IsSeen : WorkerModel C J → WorkerEvent → WorkerModel C J → List Mark → Type 0
  IsSeen old (Did number event) new marks =
      (client : ClientModel C) × (client' : ClientModel C) × (get old.clients number ≡ Some client) × (get new.clients number ≡ Some client')
      × (marks ≡ seen_at event client.session client'.session)
  IsSeen old (Finished number ticket end) new marks = marks ≡ []
  IsSeen old (Took ticket told) new marks = marks ≡ []
  IsSeen old FoundNone new marks = marks ≡ []
  IsSeen old (Came number) new marks = marks ≡ []
  IsSeen old (TurnedAway number) new marks = marks ≡ []
  IsSeen old FoundNobody new marks = marks ≡ []
  IsSeen old (Left number) new marks = marks ≡ []

  -- ---- a worker

  -- What happens at worker k: an event of its turn, as its contract says, and what the clauses below leave open.
  pub record WorkerStep (s : System C J) (k : ℕ) (event : WorkerEvent) (s' : System C J) : Type 0 where
    pub old : WorkerModel C J
    pub new : WorkerModel C J
    pub lane : LaneEnds (Newcomer C J)
    pub marks : List Mark
    pub at : slice_get s.workers k ≡ Some old
    pub beside : slice_get s.carrier.lanes k ≡ Some lane
    pub does : WorkerDoes any_moves old event new
    pub seen : IsSeen old event new marks
    pub leaves : s' ≡ record s { workers = slice_set s.workers k new; log = s.log ++ marks }
    -- A premise: a lane is in order between its two ends. They are on two threads, and a rule of the ring speaks of one end.
    pub in_step : DownInStep lane new
    -- A premise: what the worker's view shows of the slot map is a front of what the carrier published. They are on two threads, and
    -- a rule of the map speaks of one end.
    pub shown : IsPrefix new.view.known s.carrier.published

  -- ---- the carrier

  -- a dial gives the next connection
  abbrev pub Opens : System C J → Endpoint → Option Wire → ℕ → ℕ → Type 0
  Opens s = Dials s.carrier.nodes s.opened

  -- the link of this backend fails
  abbrev pub FailsAt : System C J → ℕ → LinkModel Wire → LinkModel Wire → System C J → Type 0
  FailsAt s k link link' s' =
      IsWorking s.carrier k link × (backend : Backend Wire) × (slice_get s'.carrier.backends k ≡ Some backend) × (backend.link ≡ Some link') × IsSome link'.failure

  -- where a link fails, its wire is one of the broken: its values are gone, and its requests may still be served
  abbrev pub Breaks : System C J → System C J → Type 0
  Breaks s s' =
      ((s'.closed ≡ s.closed) × ((k : ℕ) (link link' : LinkModel Wire) → FailsAt s k link link' s' → ⊥))
      ⊎ ((k : ℕ) × (link : LinkModel Wire) × (link' : LinkModel Wire) × FailsAt s k link link' s'
      × (s'.closed ≡ s.closed ++ record link'.port { values = [] } ∷ []))

  -- what the carrier took was posted
  abbrev pub UpsInStep : System C J → Type 0
  UpsInStep s = (k : ℕ) (model : WorkerModel C J) (lane : LaneEnds (Newcomer C J)) → slice_get s.workers k ≡ Some model → slice_get s.carrier.lanes k ≡ Some lane
      → IsInStep model.outlet lane.up

  -- What happens at the carrier: an event of its turn, as its contract says, and what the clauses below leave open.
  pub record CarrierStep (s : System C J) (event : CarrierEvent) (s' : System C J) : Type 0 where
    pub longest : Wire → ℕ
    pub does : CarrierDoes any_calls (Opens s) longest s.carrier event s'.carrier
    pub breaks : Breaks s s'
    pub leaves : s' ≡ record s { carrier = s'.carrier; closed = s'.closed; opened = opened_by event s.opened }
    -- A premise: a lane is in order between its two ends (as above).
    pub in_step : UpsInStep s'
    -- A premise: the table, as far as it has grown, lists the cluster's endpoints, in their order. (Of two that lead to one node see
    -- Addresses.antt.)
    pub table : IsPrefix s'.carrier.nodes s.nodes

  -- ---- new clients

  -- The client of this number is handed to worker k: it stands last in the lane of new clients, or comes back where no place is known to be
  -- free. Whether it may come is for the worker to say, when it takes it.
  abbrev pub Hands : System C J → ℕ → ℕ → System C J → Type 0
  Hands s k number s' =
      (client : Newcomer C J) × (handed : Result (Unit {0}) (Newcomer C J)) × (client.number ≡ number)
      × ChangesAt s.carrier.lanes k s'.carrier.lanes (λ lane lane'. HandsOver lane lane' client handed)
      × (s' ≡ record s { carrier = record s.carrier { lanes = s'.carrier.lanes } })

  -- ---- the nodes

  -- what is next of a connection that works is served: `serves` says how, of the wire before it, the nodes, the wire and the values after it,
  -- and what was executed
  abbrev pub ServesBy : (serves : Wire → ClusterModel → Wire → List Value → List Execution → Type 0) → System C J → ℕ → System C J → Type 0
  ServesBy serves s k s' =
      (backend : Backend Wire) × (link : LinkModel Wire) × (wire : Wire) × (values : List Value) × (done : List Execution)
      × (slice_get s.carrier.backends k ≡ Some backend) × (backend.link ≡ Some link) × (link.failure ≡ None)
      × serves link.port s'.cluster wire values done
      × (wire.values ≡ link.port.values ++ values)
      × (s' ≡ record s {
        cluster = s'.cluster;
        carrier = record s.carrier { backends = slice_set s.carrier.backends k (record backend { link = Some (record link { port = wire }) }) };
        log = s.log ++ log_of done;
      })

  -- what is next of a broken connection is served, to nobody
  abbrev pub ServesLateBy : (serves : Wire → ClusterModel → Wire → List Value → List Execution → Type 0) → System C J → ℕ → System C J → Type 0
  ServesLateBy serves s j s' =
      (old : Wire) × (wire : Wire) × (values : List Value) × (done : List Execution)
      × (slice_get s.closed j ≡ Some old)
      × serves old s'.cluster wire values done
      × (wire.values ≡ [])
      × (s' ≡ record s { cluster = s'.cluster; closed = slice_set s.closed j wire; log = s.log ++ log_of done })

  -- the node of the connection serves it
  abbrev pub Serves : System C J → ℕ → Verdict → System C J → Type 0
  Serves s k verdict s' = ServesBy (λ old. ServesNext s.nodes s.cluster old verdict) s k s'

  abbrev pub ServesLate : System C J → ℕ → Verdict → System C J → Type 0
  ServesLate s j verdict s' = ServesLateBy (λ old. ServesNext s.nodes s.cluster old verdict) s j s'

  -- the requests of a broken connection are thrown away
  abbrev pub Discards : System C J → ℕ → System C J → Type 0
  Discards s j s' = (old : Wire) × (slice_get s.closed j ≡ Some old)
      × (s' ≡ record s { closed = slice_set s.closed j (record old { items = [] }) })

  -- one step of a move; a slot is imported only where no command for it is under way that an ASK sent to the node
  abbrev pub MovesOn : System C J → Event → ClusterModel → Type 0
  MovesOn s (core.Import slot target) k = NoneAsksIn s slot target × MayImport s.cluster slot target × (k ≡ import_done s.cluster slot target)
  MovesOn s (core.Migrate slot) k = MayMigrate s.cluster slot × (k ≡ migrate_done s.cluster slot)
  MovesOn s (core.MoveKey slot key) k = MayMoveKey s.cluster slot key × (k ≡ move_key_done s.cluster slot key)
  MovesOn s (core.Own slot) k = MayOwn s.cluster slot × (k ≡ own_done s.cluster slot)
  MovesOn s (core.Release slot) k = MayRelease s.cluster slot × (k ≡ release_done s.cluster slot)
  MovesOn s (core.Forget slot) k = MayForget s.cluster slot × (k ≡ forget_done s.cluster slot)
  MovesOn s (core.Stay slot) k = MayStay s.cluster slot × (k ≡ stay_done s.cluster slot)
  MovesOn s (core.Arrive client part) k = ⊥
  MovesOn s (core.Post ticket node) k = ⊥
  MovesOn s (core.Carry lane link) k = ⊥
  MovesOn s (core.Refuse lane) k = ⊥
  MovesOn s (core.Serve link verdict) k = ⊥
  MovesOn s (core.Fetch link) k = ⊥
  MovesOn s (core.Take lane) k = ⊥
  MovesOn s (core.Drop link) k = ⊥
  MovesOn s (core.Discard link) k = ⊥
  MovesOn s (core.Answer client) k = ⊥

-- ---- all of them

pub data SystemEvent : Type 0 where
  AtWorker : ℕ → WorkerEvent → SystemEvent
  AtCarrier : CarrierEvent → SystemEvent
  Handed : (k number : ℕ) → SystemEvent
  AtNode : ℕ → Verdict → SystemEvent
  AtBroken : ℕ → Verdict → SystemEvent
  Thrown : ℕ → SystemEvent
  Moved : Event → SystemEvent

module _ {C J : Type 0} where
  abbrev pub SystemStep : System C J → SystemEvent → System C J → Type 0
  SystemStep s (AtWorker k event) s' = WorkerStep s k event s'
  SystemStep s (AtCarrier event) s' = CarrierStep s event s'
  SystemStep s (Handed k number) s' = Hands s k number s'
  SystemStep s (AtNode k verdict) s' = Serves s k verdict s'
  SystemStep s (AtBroken j verdict) s' = ServesLate s j verdict s'
  SystemStep s (Thrown j) s' = Discards s j s'
  SystemStep s (Moved event) s' = MovesOn s event s'.cluster × (s' ≡ record s { cluster = s'.cluster })
