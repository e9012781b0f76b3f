-- What the carrier does with a worker's pending run and with what a backend has for a worker.
-- A run that could not be sent is refused whole: each of its tickets is told Unsent, in order.
-- An item that a full lane refuses stays where it was. A pair for a worker that does not exist is dropped; there is none.
use Rattle.std.specs.Prelude.{◌≡◌, ◌≢◌, ◌⊎◌, ◌≤◌, ℕ, List, [], ◌∷◌, Bool, true, false, Option, Some, None, Result, Ok, Err, IsSome, length}
use Rattle.key_split.specs.Runs.{RunModel}
use Rattle.key_split.specs.declared.travel.Ticket.{Ticket}
use Rattle.key_split.specs.declared.travel.Told.{Told}
use Rattle.key_split.specs.declared.travel.Told.TheVariants.{Unsent}
use Rattle.proxy_lanes.specs.declared.ends.lane_ends.LaneEnds.{LaneEnds}
use Rattle.proxy_lanes.specs.Ends.{ChangesAt, GivesDown, TakesUp}
use Rattle.proxy_turns.specs.declared.pending_run.PendingRun.{PendingRun}
use Rattle.proxy_turns.specs.declared.backend.Backend.{Backend}
use Rattle.proxy_turns.specs.declared.backend.PendingTold.{PendingTold}

abbrev pub no_pending_run : PendingRun
no_pending_run = record { run = None; refused = [] }

-- a run was taken and not sent yet, or one of its tickets is still to be told that
abbrev pub IsPending : PendingRun → Type 0
IsPending pending_run = IsSome pending_run.run ⊎ (pending_run.refused ≢ [])

abbrev pub node_in : Option RunModel → Option ℕ
node_in None = None
node_in (Some run) = Some run.first.node

-- where a run goes, when no ticket is still to be told
abbrev pub target_of : List Ticket → Option RunModel → Option ℕ
target_of [] run = node_in run
target_of (ticket ∷ later) run = None

module _ {H : Type 0} where
  -- a pair goes down its worker's lane; one whose worker does not exist is dropped
  abbrev pub Delivers : List (LaneEnds H) → Ticket × Told → List (LaneEnds H) → Type 0
  Delivers old pair new =
      ChangesAt old pair.0.worker new (λ lane lane'. GivesDown lane lane' pair (Ok tt)) ⊎ ((length old ≤ pair.0.worker) × (new ≡ old))

  -- the lane is full, and the pair stays where it was
  abbrev pub ComesBack : List (LaneEnds H) → Ticket × Told → List (LaneEnds H) → Type 0
  ComesBack old pair new = ChangesAt old pair.0.worker new (λ lane lane'. GivesDown lane lane' pair (Err pair))

  abbrev pub DeliverOutcome : List (LaneEnds H) → Ticket × Told → Result (Unit {0}) (Ticket × Told) → List (LaneEnds H) → Type 0
  DeliverOutcome old pair (Ok _) new = Delivers old pair new
  DeliverOutcome old pair (Err back) new = (back ≡ pair) × ComesBack old pair new

  -- nothing is to be given, or something of it is to be published first, or its lane is full
  abbrev pub WaitsToGive : Option PendingTold → List (LaneEnds H) → List (LaneEnds H) → Type 0
  WaitsToGive None old new = new ≡ old
  WaitsToGive (Some pending_told) old new =
      (IsSome pending_told.change × (new ≡ old)) ⊎ ((pending_told.change ≡ None) × ComesBack old (pending_told.ticket, pending_told.told) new)

  -- no ticket is to be told, or its lane is full
  abbrev pub WaitsToTell : List Ticket → List (LaneEnds H) → List (LaneEnds H) → Type 0
  WaitsToTell [] old new = new ≡ old
  WaitsToTell (ticket ∷ later) old new = ComesBack old (ticket, Unsent) new

  -- what is pending is given, once what it says of the slot map is published
  abbrev pub GiveOutcome : {P : Type 0} → Backend P → List (LaneEnds H) → Bool → Backend P → List (LaneEnds H) → Type 0
  GiveOutcome old lanes true new lanes' = (pending_told : PendingTold) × (old.pending_told ≡ Some pending_told) × (pending_told.change ≡ None)
      × Delivers lanes (pending_told.ticket, pending_told.told) lanes' × (new ≡ record old { pending_told = None })
  GiveOutcome old lanes false new lanes' = (new ≡ old) × WaitsToGive old.pending_told lanes lanes'

  -- the next ticket of a refused run is told so
  abbrev pub TellOutcome : PendingRun → List (LaneEnds H) → Bool → PendingRun → List (LaneEnds H) → Type 0
  TellOutcome old lanes true new lanes' = (ticket : Ticket) × (later : List Ticket) × (old.refused ≡ ticket ∷ later)
      × Delivers lanes (ticket, Unsent) lanes' × (new ≡ record old { refused = later })
  TellOutcome old lanes false new lanes' = (new ≡ old) × WaitsToTell old.refused lanes lanes'

  -- a run is taken where none is pending and the lane has one
  abbrev pub TakeOutcome : ℕ → PendingRun → List (LaneEnds H) → Bool → PendingRun → List (LaneEnds H) → Type 0
  TakeOutcome worker old lanes true new lanes' = (run : RunModel) × (old ≡ no_pending_run) × (new ≡ record old { run = Some run })
      × ChangesAt lanes worker lanes' (λ lane lane'. TakesUp lane lane' (Some run))
  TakeOutcome worker old lanes false new lanes' = (new ≡ old)
      × ((IsPending old × (lanes' ≡ lanes)) ⊎ ((old ≡ no_pending_run) × ChangesAt lanes worker lanes' (λ lane lane'. TakesUp lane lane' None)))
