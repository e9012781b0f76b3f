-- What a worker and its carrier do as one value.
-- A turn is the worker's and then the carrier's, as each of their contracts has it; then the ends of their lanes look at each other. So
-- what each end took is a front of what the other put in, and the worker sees a front of the slot map that was published.
use Rattle.std.specs.Prelude.{◌≡◌, ◌≢◌, ◌⊎◌, ◌||◌, ℕ, List, [], ◌∷◌, Bool, false, Option, Result, Ok, Err, ⊤, length, slice_get}
use Rattle.std.specs.Option.{ForSome}
use mathlib.Core.List.{IsPrefix}
use Rattle.resp_wire.specs.declared.fault.NoMemory.{NoMemory}
use Rattle.slot_map.specs.Table.{Endpoint}
use Rattle.node_link.specs.LinkModel.{LinkModel}
use Rattle.proxy_lanes.specs.declared.ends.lane_ends.LaneEnds.{LaneEnds}
use Rattle.proxy_lanes.specs.declared.ends.WorkerEnds.{WorkerEnds}
use Rattle.proxy_lanes.specs.Carrier.{AreLanesOf}
use Rattle.proxy_lanes.specs.Ends.{ChangesAt, HandsOver}
use Rattle.proxy_lanes.specs.Beside.{IsDrained, IsInStep}
use Rattle.proxy_turns.specs.declared.newcomer.Newcomer.{Newcomer}
use Rattle.proxy_turns.specs.Port.{Moves}
use Rattle.proxy_turns.specs.Arrivals.{AreToCome}
use Rattle.proxy_turns.specs.Beside.{HavePlacesAt, LookOutcome}
use Rattle.proxy_turns.specs.WorkerModel.{WorkerModel, WorkerGoes}
use Rattle.proxy_turns.specs.Worker.{new_worker}
use Rattle.proxy_turns.specs.WorkerRest.{IsWorkerAtRest}
use Rattle.proxy_turns.specs.CarrierModel.{CarrierModel, IsAtRest, new_carrier}
use Rattle.proxy_engine.specs.declared.turned.Turned.{Turned}
use Rattle.proxy_engine.specs.declared.turned.EngineFault.{EngineFault}
use Rattle.proxy_engine.specs.declared.turned.EngineFault.TheVariants as fault

pub record EngineModel (C J P : Type 0) : Type 0 where
  pub worker : WorkerModel C J
  pub carrier : CarrierModel (Newcomer C J) P

module _ {C J P : Type 0} where
  -- the carrier's ends of the worker's lanes
  abbrev pub lanes_in : EngineModel C J P → List (LaneEnds (Newcomer C J))
  lanes_in engine = engine.carrier.lanes

  -- so it is at the carrier's ends of the worker's lanes
  abbrev pub AtLanes : EngineModel C J P → (LaneEnds (Newcomer C J) → Type 0) → Type 0
  AtLanes engine R = ForSome (slice_get engine.carrier.lanes engine.worker.worker) R

  -- ---- order

  -- What was taken from each lane is a front of what was posted into it, and what the worker sees of the slot map is a front of what was
  -- published.
  pub record IsInOrder (engine : EngineModel C J P) : Type 0 where
    pub up : AtLanes engine (λ lane. IsInStep engine.worker.outlet lane.up)
    pub down : AtLanes engine (λ lane. ForSome lane.down (λ outlet. IsInStep outlet engine.worker.inlet))
    pub door : AtLanes engine (λ lane. IsInStep lane.door engine.worker.newcomers)
    pub view : IsPrefix engine.worker.view.known engine.carrier.published

  -- The worker sees more of the slot map than was published, so that it sees no front of it.
  abbrev pub SeesMore : EngineModel C J P → Type 0
  SeesMore engine = IsPrefix engine.carrier.published engine.worker.view.known × (length engine.worker.view.known ≢ length engine.carrier.published)

  -- ---- a turn

  -- the ends of the lanes look at each other, which says whether something is left to do for one of them
  abbrev pub Looks : EngineModel C J P → Bool → EngineModel C J P → Type 0
  Looks old left new = LookOutcome old.worker old.carrier.lanes left new.worker new.carrier.lanes
      × (new ≡ record old { worker = new.worker; carrier = record old.carrier { lanes = new.carrier.lanes } })

  -- all that was posted was taken, but for new clients where no more are to come
  pub record IsDrainedOf (engine : EngineModel C J P) : Type 0 where
    pub up : AtLanes engine (λ lane. IsDrained engine.worker.outlet lane.up)
    pub down : AtLanes engine (λ lane. ForSome lane.down (λ outlet. IsDrained outlet engine.worker.inlet))
    pub door : AreToCome engine.worker.left → AtLanes engine (λ lane. IsDrained lane.door engine.worker.newcomers)

  -- ---- the two parts of a turn, each with a look behind it

  -- It says that something moved where one of its events did, or where something is left to do.
  abbrev pub WorkerPart : Moves C → EngineModel C J P → Bool → EngineModel C J P → Type 0
  WorkerPart moves old moved new = (mid : EngineModel C J P) × (went : Bool) × (left : Bool) × WorkerGoes moves old.worker went mid.worker
      × (mid ≡ record old { worker = mid.worker }) × Looks mid left new × (moved ≡ went || left)

  abbrev pub CarrierPart : (CarrierModel (Newcomer C J) P → Bool → CarrierModel (Newcomer C J) P → Type 0) → EngineModel C J P → Bool → EngineModel C J P → Type 0
  CarrierPart goes old moved new = (mid : EngineModel C J P) × (went : Bool) × (left : Bool) × goes old.carrier went mid.carrier
      × (mid ≡ record old { carrier = mid.carrier }) × Looks mid left new × (moved ≡ went || left)

  -- a look after a turn that went so: all is in order, or the worker sees what was not published
  abbrev pub LookAfter : EngineModel C J P → Result Bool NoMemory → Result Bool EngineFault → EngineModel C J P → Type 0
  LookAfter old (Ok went) (Ok moved) new = (left : Bool) × Looks old left new × IsInOrder new × (moved ≡ went || left)
  LookAfter old (Err refused) (Err fault.NoMemory) new = (left : Bool) × Looks old left new × IsInOrder new
  LookAfter old went (Err fault.OutOfOrder) new = (left : Bool) × Looks old left new × SeesMore new
  LookAfter old went result new = ⊥

  -- A part was done and all is in order; or memory ran out, and what was done before stands. It is not in order only where the worker
  -- sees what was not published.
  abbrev pub PartEnds : (EngineModel C J P → Bool → EngineModel C J P → Type 0) → EngineModel C J P → Result Bool EngineFault → EngineModel C J P → Type 0
  PartEnds Part old (Ok moved) new = Part old moved new × IsInOrder new
  PartEnds Part old (Err fault.NoMemory) new = (moved : Bool) × Part old moved new × IsInOrder new
  PartEnds Part old (Err fault.OutOfOrder) new = (moved : Bool) × Part old moved new × SeesMore new

  module _ (moves : Moves C) (carrier_goes : CarrierModel (Newcomer C J) P → Bool → CarrierModel (Newcomer C J) P → Type 0) where
    -- the worker's part and then the carrier's, or what was done before a fault of one of them
    abbrev pub EngineTurns : EngineModel C J P → Result Turned EngineFault → EngineModel C J P → Type 0
    EngineTurns old (Ok turned) new = (mid : EngineModel C J P) × (worked : Bool) × (carried : Bool)
        × PartEnds (WorkerPart moves) old (Ok worked) mid × PartEnds (CarrierPart carrier_goes) mid (Ok carried) new × (turned.moved ≡ worked || carried)
    EngineTurns old (Err why) new =
        PartEnds (WorkerPart moves) old (Err why) new
        ⊎ ((mid : EngineModel C J P) × (worked : Bool) × PartEnds (WorkerPart moves) old (Ok worked) mid × PartEnds (CarrierPart carrier_goes) mid (Err why) new)

  -- ---- rest

  -- The worker's turn moved nothing and left it at rest, with a place free in the lanes, and a look found nothing in them.
  abbrev pub WorkerRests : (C → Type 0) → (C → Type 0) → EngineModel C J P → Type 0
  WorkerRests gives_none takes_none new = (mid : EngineModel C J P) × IsWorkerAtRest gives_none takes_none mid.worker × HavePlacesAt mid.worker mid.carrier.lanes × Looks mid false new

  -- the same of the carrier
  abbrev pub CarrierRests : (LinkModel P → Type 0) → EngineModel C J P → Type 0
  CarrierRests gave_none new = (mid : EngineModel C J P) × IsAtRest gave_none mid.carrier × HavePlacesAt mid.worker mid.carrier.lanes × Looks mid false new

  -- this holds of what a part leaves that moved nothing
  abbrev pub PartRests : (EngineModel C J P → Type 0) → Result Bool EngineFault → EngineModel C J P → Type 0
  PartRests Rests (Ok moved) new = moved ≡ false → Rests new
  PartRests Rests (Err why) new = ⊤

  -- Nothing is left to do but to wait for clients, nodes and pauses: the worker was at rest, then the carrier was, and nothing is in the
  -- lanes.
  pub record IsEngineAtRest (gives_none takes_none : C → Type 0) (gave_none : LinkModel P → Type 0) (engine : EngineModel C J P) : Type 0 where
    pub before : EngineModel C J P
    pub same : before.worker.clients ≡ engine.worker.clients
    pub worker : WorkerRests gives_none takes_none before
    pub carrier : CarrierRests gave_none engine
    pub drained : IsDrainedOf engine

  -- what a turn leaves that moved nothing
  abbrev pub EngineRests : (C → Type 0) → (C → Type 0) → (LinkModel P → Type 0) → Result Turned EngineFault → EngineModel C J P → Type 0
  EngineRests gives_none takes_none gave_none (Ok turned) new = turned.moved ≡ false → IsEngineAtRest gives_none takes_none gave_none new
  EngineRests gives_none takes_none gave_none (Err why) new = ⊤

  -- ---- a start, and new clients

  -- a worker with no client yet and a carrier that has done nothing, at the two ends of lanes in which nothing was posted
  abbrev pub IsNewEngine : Option ℕ → List Endpoint → ℕ → EngineModel C J P → Type 0
  IsNewEngine left seeds failures engine = (ends : WorkerEnds (Newcomer C J) J) × (lane : LaneEnds (Newcomer C J)) × AreLanesOf 1 0 ends lane
      × (engine ≡ record { worker = new_worker ends left; carrier = new_carrier (lane ∷ []) seeds [] failures })

  -- the client stands last in the lane of new clients, or comes back where no place is known to be free
  abbrev pub HandsClient : EngineModel C J P → Newcomer C J → Result (Unit {0}) (Newcomer C J) → EngineModel C J P → Type 0
  HandsClient old client handed new =
      ChangesAt old.carrier.lanes 0 new.carrier.lanes (λ lane lane'. HandsOver lane lane' client handed)
      × (new ≡ record old { carrier = record old.carrier { lanes = new.carrier.lanes } })
