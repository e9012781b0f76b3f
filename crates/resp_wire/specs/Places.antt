-- How far bytes were read that come in pieces.
-- Private: the invariant of `Reader`, and calls that keep it.
use Rattle.std.specs.Prelude.{◌≡◌, ◌≢◌, ◌≤◌, ◌+◌, ℕ, List, [], ◌∷◌, drop, take, length, IsTrue, Bool, true, false, Option, Some, None, Result, Ok, Err}
use Rattle.resp_wire.specs.Data.{Data, Items}
use Rattle.resp_wire.specs.Text.{is_one_line}
use Rattle.resp_wire.specs.LimitsModel.{LimitsModel}
use Rattle.resp_wire.specs.Reading.{Reading, whole, partial, faulty, value_at, value_with}
use Rattle.resp_wire.specs.Resume.{resume, GoesOn}
use Rattle.resp_wire.specs.declared.fault.WireFault.{WireFault}
use Rattle.resp_wire.specs.declared.fault.WireFault.TheVariants.{NoMemory}
use Rattle.resp_wire.specs.declared.place.Place.{Place}

-- `count` bytes behind the first are there, and neither CR nor LF
pub record IsPlainTo (bytes : List ℕ) (count : ℕ) : Type 0 where
  pub within : count ≤ length (drop 1 bytes)
  pub plain : IsTrue (is_one_line (take count (drop 1 bytes)))

-- the line that begins the bytes is not all there
abbrev pub IsUnfinished : List ℕ → ℕ → Type 0
IsUnfinished bytes limit = (l : LimitsModel) (items : ℕ → List ℕ → Reading Items) → l.line ≡ limit → value_with l items bytes ≡ partial

-- reading on comes to the end of the bytes
abbrev pub Waits : LimitsModel → List ℕ → List ℕ → Type 0
Waits l counts bytes = resume l l.depth counts bytes ≡ partial

-- Reading on from the position, inside the open arrays, is reading the bytes from their start, whatever bytes come later.
pub record IsPlace (l : LimitsModel) (bytes : List ℕ) (p : Place) : Type 0 where
  pub within : p.position ≤ length bytes
  pub few : length p.counts ≤ l.depth + 1
  pub goes_on : GoesOn l (1 ∷ []) bytes p.counts (drop p.position bytes)
  pub known : IsPlainTo (drop p.position bytes) p.plain

-- the value ends at the position, or more has to come, or the fault
abbrev pub Finds : LimitsModel → List ℕ → ℕ → Result Bool WireFault → Type 0
Finds l bytes position (Ok true) = (v : Data) × (value_at l l.depth bytes ≡ whole v (drop position bytes))
Finds l bytes position (Ok false) = value_at l l.depth bytes ≡ partial
Finds l bytes position (Err f) = value_at l l.depth bytes ≡ faulty f

-- a fault that is kept is one of the bytes
abbrev pub IsKept : Option WireFault → Type 0
IsKept None = Unit {0}
IsKept (Some fault) = fault ≢ NoMemory
