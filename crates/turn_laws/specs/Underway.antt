-- What is under way in a system: the connections that work, what lies in the lanes, and who holds which command.
use Rattle.std.specs.Prelude.{◌≡◌, ℕ, List, [], ◌∷◌, ◌++◌, Option, Some, None, map, slice_get}
use Rattle.std.specs.List.{flat_map}
use Rattle.std.specs.FinMap.{get}
use Rattle.resp_wire.specs.declared.value.Value.{Value}
use Rattle.key_split.specs.Runs.{RunModel}
use Rattle.key_split.specs.declared.travel.Ticket.{Ticket}
use Rattle.key_split.specs.declared.travel.Told.{Told}
use Rattle.key_split.specs.declared.travel.Told.TheVariants.{Lost, Unsent}
use Rattle.command_future.specs.CommandModel.{CommandModel}
use Rattle.node_link.specs.LinkModel.{LinkModel}
use Rattle.node_link.specs.LinkCalls.{tickets_of}
use Rattle.node_link.specs.declared.link.Due.{Due}
use Rattle.node_link.specs.declared.link.Failure.{Failure}
use Rattle.proxy_lanes.specs.declared.ring.Outlet.{Outlet}
use Rattle.proxy_lanes.specs.declared.ring.Inlet.{Inlet}
use Rattle.proxy_lanes.specs.declared.ends.lane_ends.LaneEnds.{LaneEnds}
use Rattle.proxy_turns.specs.declared.newcomer.Newcomer.{Newcomer}
use Rattle.proxy_turns.specs.declared.pending_run.PendingRun.{PendingRun}
use Rattle.proxy_turns.specs.declared.backend.Backend.{Backend}
use Rattle.proxy_turns.specs.declared.backend.PendingTold.{PendingTold}
use Rattle.proxy_turns.specs.ClientModel.{ClientModel}
use Rattle.proxy_turns.specs.WorkerModel.{WorkerModel}
use Rattle.proxy_turns.specs.CarrierModel.{CarrierModel}
use Rattle.turn_laws.specs.Wire.{Wire}
use Rattle.turn_laws.specs.System.{System, between, IsInStep}

-- ---- connections

-- this backend's connection works
abbrev pub IsWorking : {H : Type 0} → CarrierModel H Wire → ℕ → LinkModel Wire → Type 0
IsWorking carrier k link = (backend : Backend Wire) × (slice_get carrier.backends k ≡ Some backend) × (backend.link ≡ Some link) × (link.failure ≡ None)

-- the values that were not given yet: one that was kept stands first
abbrev pub coming_of : Option Value → List Value → List Value
coming_of None values = values
coming_of (Some value) values = value ∷ values

abbrev pub coming : LinkModel Wire → List Value
coming link = coming_of link.kept link.port.values

-- ---- on the way to a node

abbrev pub run_in : Option RunModel → List RunModel
run_in None = []
run_in (Some run) = run ∷ []

-- what a worker posted and the carrier did not send or refuse: first what it holds
abbrev pub ups_in : {C J : Type 0} → WorkerModel C J → LaneEnds (Newcomer C J) → Option PendingRun → List RunModel
ups_in model lane None = between model.outlet lane.up
ups_in model lane (Some pending_run) = run_in pending_run.run ++ between model.outlet lane.up

-- ---- on the way down to a worker

abbrev pub down_in : Option (Outlet (Ticket × Told)) → Inlet (Ticket × Told) → List (Ticket × Told)
down_in None inlet = []
down_in (Some outlet) inlet = between outlet inlet

abbrev pub downs_in : {C J : Type 0} → List (WorkerModel C J) → List (LaneEnds (Newcomer C J)) → List (Ticket × Told)
downs_in [] lanes = []
downs_in (model ∷ workers) [] = []
downs_in (model ∷ workers) (lane ∷ lanes) = down_in lane.down model.inlet ++ downs_in workers lanes

abbrev pub refused_in : List Ticket → List (Ticket × Told)
refused_in tickets = map (λ t. (t, Unsent)) tickets

abbrev pub told_in : Option PendingTold → List (Ticket × Told)
told_in None = []
told_in (Some pending_told) = (pending_told.ticket, pending_told.told) ∷ []

-- who still waits at a connection that failed is told Lost
abbrev pub lost_by : Option Failure → List Due → List (Ticket × Told)
lost_by None dues = []
lost_by (Some why) dues = map (λ t. (t, Lost)) (tickets_of dues)

abbrev pub lost_in : Option (LinkModel Wire) → List (Ticket × Told)
lost_in None = []
lost_in (Some link) = lost_by link.failure link.due

abbrev pub downs_of : {C J : Type 0} → System C J → List (Ticket × Told)
downs_of s =
    downs_in s.workers s.carrier.lanes ++ flat_map (λ (pending_run : PendingRun). refused_in pending_run.refused) s.carrier.pending_runs
    ++ flat_map (λ (backend : Backend Wire). told_in backend.pending_told ++ lost_in backend.link) s.carrier.backends

-- what a worker took was put into its lane
abbrev pub DownInStep : {C J : Type 0} → LaneEnds (Newcomer C J) → WorkerModel C J → Type 0
DownInStep lane model = (outlet : Outlet (Ticket × Told)) → lane.down ≡ Some outlet → IsInStep outlet model.inlet

-- ---- commands

-- the command of the ticket that a worker posted and that has not ended
abbrev pub HasPosted : {C J : Type 0} → WorkerModel C J → Ticket → CommandModel → Type 0
HasPosted {C} {J} model ticket c =
    (client : ClientModel C) × (get model.clients ticket.client ≡ Some client) × (get client.commands.posted ticket.part ≡ Some c) × (c.ticket ≡ ticket)

abbrev pub Holds : {C J : Type 0} → List (WorkerModel C J) → Ticket → CommandModel → Type 0
Holds {C} {J} workers ticket c = (k : ℕ) × (model : WorkerModel C J) × (slice_get workers k ≡ Some model) × HasPosted model ticket c
