-- What the turns of the code, the serving of its nodes and the steps of its moves do to a system: `SystemStep`, without what no contract
-- of the code says. What is left out is said apart, as premises: `HearsItsNodes` of the start, `MayNow` of each step.
use Rattle.std.specs.Prelude.{◌≡◌, ◌⊎◌, ◌++◌, ◌∷◌, [], ℕ, List, All, true, false, Some, None, codes, slice_get, slice_set}
use mathlib.Core.List.{IsPrefix}
use Rattle.resp_wire.specs.declared.value.Value.{Value}
use Rattle.resp_wire.specs.declared.value.Value.TheVariants.{Error}
use Rattle.key_split.specs.declared.travel.Told.{Told}
use Rattle.key_split.specs.declared.travel.Told.TheVariants.{TryAgain}
use Rattle.slot_map.specs.Table.{Endpoint}
use Rattle.node_model.specs.Nodes.{ClusterModel}
use Rattle.node_model.specs.Moves.{MayImport, MayMigrate, MayMoveKey, MayOwn, MayRelease, MayForget, MayStay, import_done, migrate_done, move_key_done, own_done, release_done, forget_done, stay_done}
use Rattle.node_model.specs.Runs.{deed_for, DoesRun}
use Rattle.node_model.specs.declared.role.Verdict.{Verdict}
use Rattle.node_link.specs.LinkModel.{LinkModel}
use Rattle.proxy_lanes.specs.declared.ends.lane_ends.LaneEnds.{LaneEnds}
use Rattle.proxy_turns.specs.declared.newcomer.Newcomer.{Newcomer}
use Rattle.proxy_turns.specs.declared.backend.Backend.{Backend}
use Rattle.proxy_turns.specs.WorkerModel.{WorkerModel, WorkerEvent, WorkerDoes}
use Rattle.proxy_turns.specs.CarrierModel.{CarrierEvent, CarrierDoes}
use Rattle.world_laws.specs.World.{NamesNode}
use Rattle.world_laws.specs.declared.event.Event.{Event}
use Rattle.world_laws.specs.declared.event.Event.TheVariants as core
use Rattle.turn_laws.specs.Wire.{Wire, Item, Part, Asks, Runs, Lists, Execution, executions, parts_in}
use Rattle.turn_laws.specs.System.{System, Mark}
use Rattle.turn_laws.specs.Underway.{DownInStep}
use Rattle.turn_laws.specs.Asking.{NoneAsksIn}
use Rattle.turn_laws.specs.Steps.{SystemEvent, AtWorker, AtCarrier, Handed, AtNode, AtBroken, Thrown, Moved, IsSeen, Opens, Hands, Breaks, UpsInStep, ServesLate, Discards, opened_by, log_of}
use Rattle.turn_laws.specs.PortsMay.{any_moves, any_calls}
use Rattle.turn_laws.specs.Writing.{AreWritten, CanBeNamed, StandsAtItsNodes}

-- ---- what a node writes of a run

-- this stands for a refusal that leads nowhere, of all commands of a block (`told_of_none` of node_link)
abbrev pub again : Value
again = Error (codes "TRYAGAIN")

-- each is refused so
abbrev pub AreSaidAgain : List Told → List Value → Type 0
AreSaidAgain [] [] = Unit {0}
AreSaidAgain [] (value ∷ values) = ⊥
AreSaidAgain (told ∷ tolds) [] = ⊥
AreSaidAgain (told ∷ tolds) (value ∷ values) = (told ≡ TryAgain) × (value ≡ again) × AreSaidAgain tolds values

-- the values say this of a run: each what a node writes, or all of them that
abbrev pub AreSaid : List Endpoint → List Told → List Value → Type 0
AreSaid table tolds values = AreWritten table tolds values ⊎ AreSaidAgain tolds values

-- A node serves the first item of a wire, as in `ServesNext`, and the values say what it says.
abbrev pub MayServeNext : List Endpoint → ClusterModel → ℕ → Wire → Verdict → ClusterModel → Wire → List Value → List Execution → Type 0
MayServeNext table k node old verdict k' new values done =
    ((rest : List Item) × (value : Value) × (old.items ≡ Asks ∷ rest) × (values ≡ value ∷ []) × (k' ≡ k) × (done ≡ [])
    × (new ≡ record old { items = rest; values = new.values; asking = true }))
    ⊎ ((rest : List Item) × (parts : List Part) × (tolds : List Told)
    × (old.items ≡ Runs parts ∷ rest) × NamesNode k verdict
    × DoesRun (deed_for k node old.asking (parts_in parts) verdict) k node (parts_in parts) tolds k'
    × AreSaid table tolds values × (done ≡ executions parts tolds)
    × (new ≡ record old { items = rest; values = new.values; asking = false }))
    ⊎ ((rest : List Item) × (value : Value) × (old.items ≡ Lists ∷ rest) × (values ≡ value ∷ []) × (k' ≡ k) × (done ≡ [])
    × (new ≡ record old { items = rest; values = new.values }))

-- a step of a move, whoever is on the way
abbrev pub ClusterMoves : ClusterModel → Event → ClusterModel → Type 0
ClusterMoves k (core.Import slot target) k' = MayImport k slot target × (k' ≡ import_done k slot target)
ClusterMoves k (core.Migrate slot) k' = MayMigrate k slot × (k' ≡ migrate_done k slot)
ClusterMoves k (core.MoveKey slot key) k' = MayMoveKey k slot key × (k' ≡ move_key_done k slot key)
ClusterMoves k (core.Own slot) k' = MayOwn k slot × (k' ≡ own_done k slot)
ClusterMoves k (core.Release slot) k' = MayRelease k slot × (k' ≡ release_done k slot)
ClusterMoves k (core.Forget slot) k' = MayForget k slot × (k' ≡ forget_done k slot)
ClusterMoves k (core.Stay slot) k' = MayStay k slot × (k' ≡ stay_done k slot)
ClusterMoves k event k' = ⊥

module _ {C J : Type 0} where
  -- an event of a worker's turn
  pub record WorkerMay (s : System C J) (k : ℕ) (event : WorkerEvent) (s' : System C J) : Type 0 where
    pub old : WorkerModel C J
    pub new : WorkerModel C J
    pub marks : List Mark
    pub at : slice_get s.workers k ≡ Some old
    pub does : WorkerDoes any_moves old event new
    pub seen : IsSeen old event new marks
    pub leaves : s' ≡ record s { workers = slice_set s.workers k new; log = s.log ++ marks }
    -- what it took was put into its lane, in that order
    pub in_step : (lane : LaneEnds (Newcomer C J)) → slice_get s.carrier.lanes k ≡ Some lane → DownInStep lane new
    -- what it sees of the slot map is a front of what was published
    pub shown : IsPrefix new.view.known s.carrier.published

  -- an event of the carrier's turn
  pub record CarrierMay (s : System C J) (event : CarrierEvent) (s' : System C J) : Type 0 where
    pub longest : Wire → ℕ
    pub does : CarrierDoes any_calls (Opens s) longest s.carrier event s'.carrier
    pub breaks : Breaks s s'
    pub leaves : s' ≡ record s { carrier = s'.carrier; closed = s'.closed; opened = opened_by event s.opened }
    -- what it took was posted, in that order
    pub in_step : UpsInStep s'

  -- Node k serves what is next of the open connection at its backend. That this connection leads to node k is no premise: of a system
  -- that stands for a world of the machine it holds.
  abbrev pub ServesMay : System C J → ℕ → Verdict → System C J → Type 0
  ServesMay s k verdict s' =
      (backend : Backend Wire) × (link : LinkModel Wire) × (wire : Wire) × (values : List Value) × (done : List Execution)
      × (slice_get s.carrier.backends k ≡ Some backend) × (backend.link ≡ Some link) × (link.failure ≡ None)
      × MayServeNext s.nodes s.cluster k link.port verdict s'.cluster wire values done
      × (wire.values ≡ link.port.values ++ values)
      × (s' ≡ record s {
        cluster = s'.cluster;
        carrier = record s.carrier { backends = slice_set s.carrier.backends k (record backend { link = Some (record link { port = wire }) }) };
        log = s.log ++ log_of done;
      })

  abbrev pub MayStep : System C J → SystemEvent → System C J → Type 0
  MayStep s (AtWorker k event) s' = WorkerMay s k event s'
  MayStep s (AtCarrier event) s' = CarrierMay s event s'
  MayStep s (Handed k number) s' = Hands s k number s'
  MayStep s (AtNode k verdict) s' = ServesMay s k verdict s'
  MayStep s (AtBroken j verdict) s' = ServesLate s j verdict s'
  MayStep s (Thrown j) s' = Discards s j s'
  MayStep s (Moved event) s' = ClusterMoves s.cluster event s'.cluster × (s' ≡ record s { cluster = s'.cluster })

  -- ---- the premises

  -- What is asked of the start alone: a redirection can name each node, and no slot stands at a node that is not of the cluster. So what a
  -- node writes is heard as what it told.
  pub record HearsItsNodes (s : System C J) : Type 0 where
    pub named : All CanBeNamed s.nodes
    pub stands : StandsAtItsNodes s.cluster

  -- the carrier's table, as far as it has grown, lists nodes of the cluster, in their order
  abbrev pub ListsItsNodes : System C J → Type 0
  ListsItsNodes s = IsPrefix s.carrier.nodes s.nodes

  -- a slot is imported only where no command for it is under way that an ASK sent to the node
  abbrev pub MayMoveNow : System C J → Event → Type 0
  MayMoveNow s (core.Import slot target) = NoneAsksIn s slot target
  MayMoveNow s event = Unit {0}

  abbrev pub MayNow : System C J → SystemEvent → System C J → Type 0
  MayNow s (AtWorker k event) s' = Unit {0}
  MayNow s (AtCarrier event) s' = ListsItsNodes s'
  MayNow s (Handed k number) s' = Unit {0}
  MayNow s (AtNode k verdict) s' = Unit {0}
  MayNow s (AtBroken j verdict) s' = Unit {0}
  MayNow s (Thrown j) s' = Unit {0}
  MayNow s (Moved event) s' = MayMoveNow s event
