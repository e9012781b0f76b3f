-- What the two passes over a reply find.
-- Only private functions cite it. The first pass takes no memory, so want of memory never hides a fault.
use Rattle.std.specs.Prelude.{◌≡◌, ◌<◌, List, ◌++◌, length, Option, None, Some, Result, Ok, Err, MatchResult}
use Rattle.slot_map.specs.declared.ops.MapOp.{MapOp}
use Rattle.slot_map.specs.declared.fault.MapFault.{MapFault}
use Rattle.slot_map.specs.declared.fault.MapFault.TheVariants.{NoMemory}
use Rattle.slot_map.specs.Slots.{SlotsReading, ReadStep}
use Rattle.slot_map.specs.Table.{Endpoint}

-- the fault of a reading
abbrev pub fault_of : Result SlotsReading MapFault → Option MapFault
fault_of (Err e) = Some e
fault_of (Ok r) = None

-- the first pass takes no memory and finds the fault
abbrev pub Checks : Result SlotsReading MapFault → Result (Unit {0}) MapFault → Type 0
Checks reading (Ok done) = fault_of reading ≡ None
Checks reading (Err e) = fault_of reading ≡ Some e

-- one step of the first pass: the table grows on trial
abbrev pub Tries : Result ReadStep MapFault → Result (Unit {0}) MapFault → List Endpoint → Type 0
Tries (Err e) given new = given ≡ Err e
Tries (Ok s) given new = (given ≡ Ok tt) × (new ≡ s.table)

-- one step of the second pass: memory may be wanting
abbrev pub StepsAs : Result ReadStep MapFault → List Endpoint → Result MapOp MapFault → List Endpoint → Type 0
StepsAs (Err e) old given new = (given ≡ Err e) × (new ≡ old)
StepsAs (Ok s) old given new = MatchResult given (λ op. (op ≡ s.op) × (new ≡ s.table)) (λ e. (e ≡ NoMemory) × (new ≡ old))

-- the second pass reads what has no fault, and may leave new nodes where memory is wanting
abbrev pub AddsAs : Result SlotsReading MapFault → Result (List MapOp) MapFault → List Endpoint → Type 0
AddsAs (Err e) given new = Unit {0}
AddsAs (Ok r) given new = MatchResult given (λ ops. (ops ≡ r.ops) × (new ≡ r.table)) (λ f. (f ≡ NoMemory) × (0 < length r.ops))

-- the operations so far, and then those of a reading
abbrev pub after : List MapOp → Result SlotsReading MapFault → Result SlotsReading MapFault
after ops (Err e) = Err e
after ops (Ok r) = Ok (record { ops = ops ++ r.ops; table = r.table })
