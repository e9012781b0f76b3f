-- No command is under way that an ASK sent to a node: what the import of a slot at the node waits for.
use Rattle.std.specs.Prelude.{◌≡◌, ◌≢◌, ℕ, List, [], ◌∷◌, Bool, true, false, Some, All, slice_get}
use Rattle.resp_wire.specs.declared.value.Value.{Value}
use Rattle.slot_hash.specs.Slot.{slot_of}
use Rattle.key_split.specs.Runs.{RunModel, batches_in}
use Rattle.key_split.specs.declared.travel.Batch.{Batch}
use Rattle.key_split.specs.declared.travel.Ticket.{Ticket}
use Rattle.key_split.specs.declared.travel.Told.TheVariants.{Ask}
use Rattle.command_future.specs.CommandModel.{CommandModel}
use Rattle.command_future.specs.declared.stage.Stage.TheVariants.{WantsAsking}
use Rattle.node_link.specs.LinkModel.{LinkModel}
use Rattle.node_link.specs.declared.link.Due.TheVariants as due
use Rattle.proxy_lanes.specs.declared.ends.lane_ends.LaneEnds.{LaneEnds}
use Rattle.proxy_turns.specs.declared.newcomer.Newcomer.{Newcomer}
use Rattle.proxy_turns.specs.WorkerModel.{WorkerModel}
use Rattle.turn_laws.specs.Wire.{Wire, Item, Part, Asks, Runs, Lists, heard_in}
use Rattle.turn_laws.specs.System.{System}
use Rattle.turn_laws.specs.Underway.{IsWorking, Holds, downs_of, ups_in, coming}

-- Of these items, none is a run that has a command for the slot and goes behind ASKING: the flag is that of the connection.
abbrev pub NoneBehindAsking : ℕ → Bool → List Item → Type 0
NoneBehindAsking slot asking [] = Unit {0}
NoneBehindAsking slot asking (Asks ∷ items) = NoneBehindAsking slot true items
NoneBehindAsking slot asking (Runs parts ∷ items) = (asking ≡ true → All (λ (part : Part). slot_of part.1.key ≢ slot) parts) × NoneBehindAsking slot false items
NoneBehindAsking slot asking (Lists ∷ items) = NoneBehindAsking slot asking items

module _ {C J : Type 0} where
  -- a worker has posted the command of this ticket, which is for the slot and has not ended
  abbrev pub IsHeldFor : System C J → ℕ → Ticket → CommandModel → Type 0
  IsHeldFor s slot ticket c = Holds s.workers ticket c × (slot_of c.part.key ≡ slot)

  -- no command for the slot is under way that an ASK sent to the node
  pub record NoneAsksIn (s : System C J) (slot node : ℕ) : Type 0 where
    -- none of a worker's wants to go there,
    pub wants : (ticket : Ticket) (c : CommandModel) → IsHeldFor s slot ticket c → c.stage ≢ WantsAsking node
    -- or is told so by what is on its way down, or by a value that was not fetched;
    pub told : (ticket : Ticket) (c : CommandModel) (asked i : ℕ) → IsHeldFor s slot ticket c → slice_get (downs_of s) i ≢ Some (ticket, Ask asked node)
    pub said : (ticket : Ticket) (c : CommandModel) (asked k i : ℕ) (link : LinkModel Wire) (value : Value) → IsHeldFor s slot ticket c → IsWorking s.carrier k link
        → slice_get link.due i ≡ Some (due.Command ticket) → slice_get (coming link) i ≡ Some value → (heard_in value link.node s.nodes).0 ≢ Ask asked node
    -- none lies in a lane or in the carrier's hand, on its way there behind ASKING;
    pub lies : (k i n : ℕ) (model : WorkerModel C J) (lane : LaneEnds (Newcomer C J)) (run : RunModel) (batch : Batch) → slice_get s.workers k ≡ Some model → slice_get s.carrier.lanes k ≡ Some lane
        → slice_get (ups_in model lane (slice_get s.carrier.pending_runs k)) i ≡ Some run → slice_get (batches_in run) n ≡ Some batch
        → run.first.asking ≡ true → run.first.node ≡ node → slot_of batch.part.key ≢ slot
    -- none stands behind ASKING on a connection to the node;
    pub sent : (k : ℕ) (link : LinkModel Wire) → IsWorking s.carrier k link → link.node ≡ node → NoneBehindAsking slot link.port.asking link.port.items
    -- and on a broken one nothing is left, since what was being sent when it broke may stand there too
    pub broken : (j : ℕ) (wire : Wire) → slice_get s.closed j ≡ Some wire → wire.node ≡ node → wire.items ≡ []
