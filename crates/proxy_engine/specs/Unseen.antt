-- A look at the lanes is no step: what happens behind it could have happened without it.
-- It changes only what each end knows of the other, which no event needs.
use Rattle.std.specs.Prelude.{◌≡◌, ℕ, List, [], ◌∷◌, Option, Some, None}
use mathlib.Core.List.{IsPrefix}
use Rattle.rtrb.specs.Ring.{SameConsumer, SameProducer}
use Rattle.key_split.specs.declared.travel.Ticket.{Ticket}
use Rattle.key_split.specs.declared.travel.Told.{Told}
use Rattle.slot_map.specs.Table.{Endpoint}
use Rattle.proxy_lanes.specs.declared.ring.Outlet.{Outlet}
use Rattle.proxy_lanes.specs.declared.ring.Inlet.{Inlet}
use Rattle.proxy_lanes.specs.declared.ends.lane_ends.LaneEnds.{LaneEnds}
use Rattle.proxy_lanes.specs.Lane.{held, posted, taken}
use Rattle.node_link.specs.Port.{PortCalls}
use Rattle.proxy_turns.specs.Port.{Moves}
use Rattle.proxy_turns.specs.WorkerModel.{WorkerDoes, WorkerEvent, WorkerModel}
use Rattle.proxy_turns.specs.CarrierModel.{CarrierDoes, CarrierEvent, CarrierModel}

module _ {T : Type 0} where
  -- the same outlet, which knows something else of the places
  abbrev pub KnowsPlaces : Outlet T → Outlet T → Type 0
  KnowsPlaces less more = SameProducer less.producer more.producer × (posted more ≡ posted less)

  -- the same inlet, which knows of more items
  abbrev pub KnowsItems : Inlet T → Inlet T → Type 0
  KnowsItems less more = SameConsumer less.consumer more.consumer × (taken more ≡ taken less) × IsPrefix (held less) (held more)

-- the same worker, whose ends know more
abbrev pub WorkerKnows : {C J : Type 0} → WorkerModel C J → WorkerModel C J → Type 0
WorkerKnows less more = KnowsPlaces less.outlet more.outlet × KnowsItems less.inlet more.inlet × KnowsItems less.newcomers more.newcomers
    × (more ≡ record less { outlet = more.outlet; inlet = more.inlet; newcomers = more.newcomers })

abbrev pub DownKnows : Option (Outlet (Ticket × Told)) → Option (Outlet (Ticket × Told)) → Type 0
DownKnows None more = more ≡ None
DownKnows (Some less) more = (next : Outlet (Ticket × Told)) × (more ≡ Some next) × KnowsPlaces less next

abbrev pub LaneKnows : {H : Type 0} → LaneEnds H → LaneEnds H → Type 0
LaneKnows less more = KnowsItems less.up more.up × DownKnows less.down more.down × KnowsPlaces less.door more.door

abbrev pub LanesKnow : {H : Type 0} → List (LaneEnds H) → List (LaneEnds H) → Type 0
LanesKnow [] [] = Unit {0}
LanesKnow [] (y ∷ ys) = ⊥
LanesKnow (x ∷ xs) [] = ⊥
LanesKnow (x ∷ xs) (y ∷ ys) = LaneKnows x y × LanesKnow xs ys

-- the same carrier, whose ends know more
abbrev pub CarrierKnows : {H P : Type 0} → CarrierModel H P → CarrierModel H P → Type 0
CarrierKnows less more = LanesKnow less.lanes more.lanes × (more ≡ record less { lanes = more.lanes })

module _ (C J : Type 0) (moves : Moves C) where
  -- what a worker does whose ends know more, one does whose ends know less
  abbrev pub WorkerDoesUnseen : Type 0
  WorkerDoesUnseen = (less old new : WorkerModel C J) (event : WorkerEvent) → WorkerKnows less old → WorkerDoes moves old event new
      → (after : WorkerModel C J) × WorkerDoes moves less event after × WorkerKnows after new

module _ (H : Type 0) {P : Type 0} (calls : PortCalls P) (opens : Endpoint → Option P → ℕ → ℕ → Type 0) (longest : P → ℕ) where
  -- and so does a carrier
  abbrev pub CarrierDoesUnseen : Type 0
  CarrierDoesUnseen = (less old new : CarrierModel H P) (event : CarrierEvent) → CarrierKnows less old → CarrierDoes calls opens longest old event new
      → (after : CarrierModel H P) × CarrierDoes calls opens longest less event after × CarrierKnows after new
