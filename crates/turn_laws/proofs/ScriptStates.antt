-- What the worker, its client, the carrier and the connections are between the steps of the script.
use Rattle.std.proofs.Common.{ℕ, Bool, false, List, [], ◌∷◌, Some, None}
use Rattle.std.specs.Prelude.{Option}
use Rattle.std.specs.FinMap.{FinMap, insert, remove, empty}
use Rattle.std.specs.Ordering.{nat_cmp}
use Rattle.resp_wire.specs.LimitsModel.{full}
use Rattle.resp_wire.specs.declared.value.Value.{Value}
use Rattle.key_split.specs.Runs.{RunModel}
use Rattle.key_split.specs.declared.travel.Ticket.{Ticket}
use Rattle.key_split.specs.declared.travel.Told.{Told}
use Rattle.key_split.specs.declared.travel.Told.TheVariants.{Ask, Reply}
use Rattle.key_split.specs.declared.travel.Ended.{Ended}
use Rattle.key_split.specs.declared.planned.Joining.TheVariants.{One}
use Rattle.command_future.specs.CommandModel.{CommandModel, fresh, progress_told}
use Rattle.command_future.specs.declared.stage.Stage.TheVariants.{Awaits}
use Rattle.session_order.specs.SessionModel.{SessionModel}
use Rattle.session_order.specs.declared.closing.Closing.TheVariants.{Open}
use Rattle.session_order.specs.declared.queue.PartStage.{PartStage}
use Rattle.session_order.specs.declared.replies.PendingReply.{PendingReply}
use Rattle.session_order.specs.declared.replies.PendingReply.TheVariants.{Parts}
use Rattle.node_link.specs.LinkModel.{LinkModel}
use Rattle.node_link.specs.declared.link.Due.{Due}
use Rattle.proxy_lanes.specs.declared.ends.lane_ends.LaneEnds.{LaneEnds}
use Rattle.proxy_lanes.specs.declared.ring.Numbered.{Numbered}
use Rattle.proxy_lanes.specs.Lane.{numbered}
use Rattle.proxy_lanes.specs.View.{new_view}
use Rattle.proxy_turns.specs.declared.newcomer.Newcomer.{Newcomer}
use Rattle.proxy_turns.specs.declared.backend.Backend.{Backend}
use Rattle.proxy_turns.specs.declared.backend.PendingTold.{PendingTold}
use Rattle.proxy_turns.specs.declared.pending_run.PendingRun.{PendingRun}
use Rattle.proxy_turns.specs.Commands.{CommandsModel}
use Rattle.proxy_turns.specs.ClientModel.{ClientModel}
use Rattle.proxy_turns.specs.WorkerModel.{WorkerModel}
use Rattle.proxy_turns.specs.CarrierModel.{CarrierModel}
use Rattle.turn_laws.specs.Wire.{Wire, Item}
use Rattle.turn_laws.specs.Scripts as script
use Rattle.turn_laws.specs.Scripts.{set, ok, five, ticket, plain, behind_asking}
use Rattle.turn_laws.proofs.Rings.{outlet_with, inlet_with}
use Rattle.turn_laws.proofs.ScriptFacts.{seed_alone}

-- ---- the lanes' items

abbrev pub up1 : List (Numbered RunModel)
up1 = numbered 0 (plain 0 0 set) ∷ []

abbrev pub up2 : List (Numbered RunModel)
up2 = numbered 0 (plain 0 0 set) ∷ numbered 1 (plain 1 0 script.get) ∷ []

abbrev pub up3 : List (Numbered RunModel)
up3 = numbered 0 (plain 0 0 set) ∷ numbered 1 (plain 1 0 script.get) ∷ numbered 2 (behind_asking 1 1 script.get) ∷ []

abbrev pub Pair : Type 0
Pair = Ticket × Told

abbrev pub down1 : List (Numbered Pair)
down1 = numbered 0 (ticket 0, Reply ok) ∷ []

abbrev pub down2 : List (Numbered Pair)
down2 = numbered 0 (ticket 0, Reply ok) ∷ numbered 1 (ticket 1, Ask 1 1) ∷ []

abbrev pub down3 : List (Numbered Pair)
down3 = numbered 0 (ticket 0, Reply ok) ∷ numbered 1 (ticket 1, Ask 1 1) ∷ numbered 2 (ticket 1, Reply five) ∷ []

-- ---- the client's session

abbrev pub session : List PartStage → List Ended → List PendingReply → ℕ → List ℕ → SessionModel
session stages ends requests first unread = record {
  worker = 0;
  client = 0;
  incoming = record { input = record { bounds = full; unread = unread; fault = None }; ahead = None };
  requests = requests;
  stages = stages;
  ends = ends;
  first = first;
  closing = Open;
}

-- one part is owed
abbrev pub one : PendingReply
one = Parts One 1

-- ---- its commands

abbrev pub commands : List CommandModel → FinMap nat_cmp CommandModel → CommandsModel
commands first posted = record { fresh = first; posted = posted }

abbrev pub awaits : CommandModel → CommandModel
awaits c = record c { stage = Awaits }

abbrev pub setting : CommandModel
setting = fresh (ticket 0) set

abbrev pub getting : CommandModel
getting = fresh (ticket 1) script.get

-- the second was sent on
abbrev pub sent-on : CommandModel
sent-on = progress_told (awaits getting) (Ask 1 1)

abbrev pub Posted : Type 0
Posted = FinMap nat_cmp CommandModel

abbrev pub posted1 : Posted
posted1 = insert empty 0 (awaits setting)

abbrev pub posted2 : Posted
posted2 = insert posted1 0 (progress_told (awaits setting) (Reply ok))

abbrev pub posted3 : Posted
posted3 = remove posted2 0

abbrev pub posted4 : Posted
posted4 = insert posted3 1 (awaits getting)

abbrev pub posted5 : Posted
posted5 = insert posted4 1 sent-on

abbrev pub posted6 : Posted
posted6 = insert posted5 1 (awaits sent-on)

abbrev pub posted7 : Posted
posted7 = insert posted6 1 (progress_told (awaits sent-on) (Reply five))

abbrev pub posted8 : Posted
posted8 = remove posted7 1

-- ---- the connections

abbrev pub wire : ℕ → List Item → List Value → Bool → Wire
wire node items values asking = record { id = node; node = node; items = items; values = values; asking = asking }

abbrev pub link : ℕ → Wire → List Due → LinkModel Wire
link node port due = record { port = port; node = node; due = due; kept = None; failure = None }

abbrev pub backend : Option (LinkModel Wire) → Option PendingTold → Backend Wire
backend l told = record { link = l; pending_told = told; answer = None; changes = None; to_ask = false; asked = false }

abbrev pub pending : Option RunModel → PendingRun
pending run = record { run = run; refused = [] }

-- ---- the whole

module _ {C J : Type 0} where
  -- the client, with its port
  abbrev pub newcomer : C → Newcomer C J
  newcomer port = record { number = 0; port = port; front = None }

  abbrev pub lane : C → List (Numbered RunModel) → List (Numbered Pair) → LaneEnds (Newcomer C J)
  lane port ups downs = record { up = inlet_with ups; down = Some (outlet_with downs); door = outlet_with (numbered 0 (newcomer port) ∷ []) }

  -- before a client was handed over
  abbrev pub new_lane : LaneEnds (Newcomer C J)
  new_lane = record { up = inlet_with []; down = Some (outlet_with []); door = outlet_with [] }

  -- its table lists the first node
  abbrev pub carrier : LaneEnds (Newcomer C J) → List PendingRun → List (Backend Wire) → Bool → CarrierModel (Newcomer C J) Wire
  carrier l runs backends seed = record { lanes = l ∷ []; pending_runs = runs; backends = backends; nodes = seed_alone; published = []; seed_to_dial = seed; failures = 0 }

  abbrev pub worker : FinMap nat_cmp (ClientModel C) → Option ℕ → List (Numbered (Newcomer C J)) → List (Numbered RunModel) → List (Numbered Pair) → ℕ → WorkerModel C J
  worker clients newest doors ups downs answered = record {
    worker = 0;
    workers = 1;
    clients = clients;
    newest = newest;
    newcomers = inlet_with doors;
    left = None;
    outlet = outlet_with ups;
    view = new_view [];
    inlet = inlet_with downs;
    answered = answered;
    ports = [];
  }

abbrev pub client : {C : Type 0} → C → SessionModel → CommandsModel → List ℕ → List ℕ → ClientModel C
client port held cs unfed unpushed = record { port = port; session = held; commands = cs; unfed = unfed; unpushed = unpushed; gone = false }
