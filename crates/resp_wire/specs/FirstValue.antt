-- What a text begins with, as one function, and what a reader does, as relations over it.
-- Crates above reason with `front`. Three laws tie it to Spelling.antt and Faults.antt (Laws.antt, `FrontIsWhole`,
-- `FrontIsFaulty`, `FrontIsPartial`). NoMemory is answered only where a value is whole, so it hides no fault.
use Rattle.std.specs.Prelude.{◌≡◌, ◌++◌, ◌⊎◌, ℕ, List, Option, Some, None, Result, Ok, Err, refl}
use Rattle.resp_wire.specs.Data.{Data}
use Rattle.resp_wire.specs.Seen.{data_of}
use Rattle.resp_wire.specs.LimitsModel.{LimitsModel}
use Rattle.resp_wire.specs.ReaderModel.{ReaderModel}
use Rattle.resp_wire.specs.Reading.{Reading, whole, partial, faulty, value_at}
use Rattle.resp_wire.specs.declared.value.Value.{Value}
use Rattle.resp_wire.specs.declared.fault.WireFault.{WireFault}
use Rattle.resp_wire.specs.declared.fault.WireFault.TheVariants.{NoMemory}

-- a whole value and the bytes after it, or less than a value, or the first fault
pub data Front : Type 0 where
  Whole : Data → List ℕ → Front
  Partial : Front
  Faulty : WireFault → Front

abbrev pub front_of : Reading Data → Front
front_of (whole value after) = Whole value after
front_of partial = Partial
front_of (faulty fault) = Faulty fault

-- what the bytes begin with
pub front : LimitsModel → List ℕ → Front
front bounds bytes = front_of (value_at bounds bounds.depth bytes)

pub front-is : (bounds : LimitsModel) (bytes : List ℕ) → front bounds bytes ≡ front_of (value_at bounds bounds.depth bytes)
unfolding front
front-is bounds bytes = refl

-- A piece goes behind what is unread. Want of memory changes nothing, and a fault that was found is answered again.
abbrev pub Feeds : ReaderModel → List ℕ → Result (Unit {0}) WireFault → ReaderModel → Type 0
Feeds old piece (Ok _) new = (old.fault ≡ None) × (new ≡ record old { unread = old.unread ++ piece })
Feeds old piece (Err NoMemory) new = (old.fault ≡ None) × (new ≡ old)
Feeds old piece (Err fault) new = (old.fault ≡ Some fault) × (new ≡ old)

-- The first value leaves the front, or it is not whole yet, or it is whole and memory ran out, or a fault is found and
-- stays.
abbrev pub ReaderTakes : ReaderModel → Result (Option Value) WireFault → ReaderModel → Type 0
ReaderTakes old (Ok (Some value)) new = (old.fault ≡ None) × (front old.bounds old.unread ≡ Whole (data_of value) new.unread) × (new ≡ record old { unread = new.unread })
ReaderTakes old (Ok None) new = (old.fault ≡ None) × (front old.bounds old.unread ≡ Partial) × (new ≡ old)
ReaderTakes old (Err NoMemory) new = (old.fault ≡ None) × ((value : Data) × (after : List ℕ) × (front old.bounds old.unread ≡ Whole value after)) × (new ≡ old)
ReaderTakes old (Err fault) new = ((old.fault ≡ Some fault) ⊎ ((old.fault ≡ None) × (front old.bounds old.unread ≡ Faulty fault))) × (new ≡ record old { fault = Some fault })
