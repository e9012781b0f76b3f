-- What one step of a kind is, and what one word of the definitions says of it.
use Rattle.std.specs.Prelude.{◌≡◌, ◌≢◌, ◌<◌, ◌≤◌, ℕ, List, [], ◌∷◌, true, Some, All, length, slice_get}
use Rattle.resp_wire.specs.declared.value.Value.{Value}
use Rattle.slot_hash.specs.Slot.{slot_of}
use Rattle.key_split.specs.Runs.{RunModel, count_in}
use Rattle.key_split.specs.declared.travel.Ticket.{Ticket}
use Rattle.key_split.specs.declared.travel.Told.{Told}
use Rattle.node_link.specs.LinkModel.{LinkModel}
use Rattle.node_link.specs.Telling.{told_by}
use Rattle.session_order.specs.SessionModel.{SessionModel}
use Rattle.session_order.specs.Steps.{IsHandedOut}
use Rattle.proxy_turns.specs.ClientTurn.{Posted}
use Rattle.proxy_turns.specs.WorkerModel.{Did}
use Rattle.proxy_turns.specs.CarrierModel.{CarrierEvent, Opened}
use Rattle.world_laws.specs.State.{WorldModel, HasEnded}
use Rattle.world_laws.specs.declared.state.Arrival.{Arrival}
use Rattle.world_laws.specs.World.{SameTurn}
use Rattle.turn_laws.specs.Wire.{Wire, Item, Part, Runs}
use Rattle.turn_laws.specs.System.{System}
use Rattle.turn_laws.specs.Underway.{IsWorking, refused_in}
use Rattle.turn_laws.specs.Shadow.{IsShadow, IsInOrder, RunShadow, tickets_in}
use Rattle.turn_laws.specs.Naming.{NamesNodes}
use Rattle.turn_laws.specs.Asking.{NoneAsksIn}
use Rattle.turn_laws.specs.Steps.{CarrierStep, Discards, WorkerStep}

-- of one client's commands for one slot, an earlier one that is not awaited has ended
abbrev pub EarlierOnesEnd : Type 0
EarlierOnesEnd =
    (session : SessionModel) (arrivals : List Arrival) (ticket : Ticket) → IsInOrder session arrivals ticket
    → (i j : ℕ) (c d : Arrival) → slice_get arrivals i ≡ Some c → slice_get arrivals j ≡ Some d → j < i → c.command.ticket ≡ ticket → SameTurn c d
    → (IsHandedOut session d.command.ticket → ⊥) → HasEnded d

-- the commands of a run that is refused are of the worker that posted it
abbrev pub RefusalsComeBack : Type 0
RefusalsComeBack =
    (commands : List Arrival) (k : ℕ) (run : RunModel) → RunShadow commands k run → All (λ (pair : Ticket × Told). pair.0.worker ≡ k) (refused_in (tickets_in run))

module _ (C J : Type 0) where
  -- a run that a worker posts is no longer than the machine's may be,
  abbrev pub PostedRunsFit : Type 0
  PostedRunsFit = (k number : ℕ) (run : RunModel) (s s' : System C J) (w : WorldModel) → IsShadow s w → WorkerStep s k (Did number (Posted run)) s' → count_in run ≤ w.run_limit

  -- and goes to a node that there is
  abbrev pub PostedRunsLead : Type 0
  PostedRunsLead = (k number : ℕ) (run : RunModel) (s s' : System C J) → NamesNodes s → WorkerStep s k (Did number (Posted run)) s' → run.first.node < length s.nodes

  -- what the carrier reads in a value by its table is what is read in it by the list of all nodes
  abbrev pub TablesReadAlike : Type 0
  TablesReadAlike =
      (event : CarrierEvent) (s s' : System C J) (w : WorldModel) → IsShadow s w → CarrierStep s event s'
      → (k : ℕ) (link : LinkModel Wire) (value : Value) (told : Told) → IsWorking s.carrier k link
      → told_by value link.node s.carrier.nodes ≡ (told, s'.carrier.nodes) → (told_by value link.node s.nodes).0 ≡ told

  -- a connection that is opened has a number that none had, below that of the next
  abbrev pub NumbersAreNew : Type 0
  NumbersAreNew =
      (s s' : System C J) (w : WorldModel) → IsShadow s w → CarrierStep s Opened s'
      → (k : ℕ) × (link : LinkModel Wire) × IsWorking s'.carrier k link × (link.port.id < s'.opened)
      × ((m : ℕ) (other : LinkModel Wire) → IsWorking s.carrier m other → other.port.id ≢ link.port.id)

  -- where the requests of a broken connection are thrown away, none is left
  abbrev pub NoneIsLeft : Type 0
  NoneIsLeft = (s s' : System C J) (j : ℕ) → Discards s j s' → (wire : Wire) × (slice_get s'.closed j ≡ Some wire) × (wire.items ≡ [])

  -- where a slot may be imported at a node, a run that the node serves next behind ASKING has no command for it
  abbrev pub ImportsWait : Type 0
  ImportsWait =
      (s : System C J) (slot node k : ℕ) (link : LinkModel Wire) (parts : List Part) (rest : List Item) → NoneAsksIn s slot node → IsWorking s.carrier k link → link.node ≡ node
      → link.port.items ≡ Runs parts ∷ rest → link.port.asking ≡ true → All (λ (part : Part). slot_of part.1.key ≢ slot) parts
