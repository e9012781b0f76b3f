-- What a value begins with, and reading on from there.
-- Only private functions cite it.
use Rattle.std.specs.Prelude.{◌≡◌, ℕ, suc, ◌<◌, length, List, [], ◌++◌, Option, Some, None, Result, Ok, Err}
use Rattle.resp_wire.specs.Data.{Data, array}
use Rattle.resp_wire.specs.LimitsModel.{LimitsModel}
use Rattle.resp_wire.specs.Reading.{Reading, whole, partial, faulty, then_read, value_at, items_at}
use Rattle.resp_wire.specs.declared.fault.WireFault.{WireFault}
use Rattle.resp_wire.specs.declared.head.Head.{Head}
use Rattle.resp_wire.specs.declared.head.Head.TheVariants.{Whole, Array}

-- A whole value, or an array whose items come, whatever bytes come later: what reading comes to when they have come.
abbrev pub IsHeadOf : LimitsModel → ℕ → Result (Option Head) WireFault → (List ℕ → Reading Data) → Type 0
IsHeadOf l room (Ok None) r = r [] ≡ partial
IsHeadOf l room (Ok (Some (Whole rest))) r = (v : Data) × ((more : List ℕ) → r more ≡ whole v (rest.now ++ more))
IsHeadOf l room (Ok (Some (Array n rest))) r = (inner : ℕ) × (room ≡ suc inner) × ((more : List ℕ) → r more ≡ then_read (items_at (value_at l inner) n (rest.now ++ more)) (λ vs after. whole (array vs) after))
IsHeadOf l room (Err f) r = r [] ≡ faulty f

abbrev pub IsHead : LimitsModel → ℕ → List ℕ → Result (Option Head) WireFault → Type 0
IsHead l room bytes result = IsHeadOf l room result (λ more. value_at l room (bytes ++ more))

-- what is left is behind the bytes that were read
abbrev pub IsBehind : List ℕ → Result (Option Head) WireFault → Type 0
IsBehind bytes (Ok None) = Unit {0}
IsBehind bytes (Ok (Some (Whole rest))) = (front : List ℕ) × (bytes ≡ front ++ rest.now)
IsBehind bytes (Ok (Some (Array n rest))) = (front : List ℕ) × (bytes ≡ front ++ rest.now)
IsBehind bytes (Err f) = Unit {0}

-- the same, and at least one byte was read
abbrev pub IsFurther : List ℕ → Result (Option Head) WireFault → Type 0
IsFurther bytes (Ok None) = Unit {0}
IsFurther bytes (Ok (Some (Whole rest))) = (front : List ℕ) × (0 < length front) × (bytes ≡ front ++ rest.now)
IsFurther bytes (Ok (Some (Array n rest))) = (front : List ℕ) × (0 < length front) × (bytes ≡ front ++ rest.now)
IsFurther bytes (Err f) = Unit {0}
