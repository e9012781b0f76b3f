-- Bytes cut in two, and references seen as what they point to.
-- For calls that read the lines and numbers of a script.
use Rattle.std.specs.Prelude.{◌≡◌, ◌⊎◌, ◌<◌, ◌≤◌, ◌+◌, ◌-◌, ◌*◌, ◌^◌, ◌==◌, ◌++◌, ℕ, true, false, List, length, Option, None, Some}
use Rattle.std.specs.Borrow.{Bor}
use Rattle.cluster_world.specs.Script.{is_digit}
use Rattle.std.specs.List.{before_first, after_first, position_or_len}

-- the bytes are cut at the first that is this one, where it is among them
abbrev pub Cuts : ℕ → List ℕ → Option (Bor (List ℕ) × Bor (List ℕ)) → Type 0
Cuts separator bytes None = position_or_len (λ b. b == separator) bytes ≡ length bytes
Cuts separator bytes (Some parts) =
    (position_or_len (λ b. b == separator) bytes < length bytes)
    × (parts.0.now ≡ before_first (λ b. b == separator) bytes) × (parts.1.now ≡ after_first (λ b. b == separator) bytes)

-- a digit follows those of a number; or it is none, or there is no room
abbrev pub Follows : ℕ → ℕ → Option ℕ → Type 0
Follows value byte None = (is_digit byte ≡ false) ⊎ (2 ^ 64 ≤ value * 10 + (byte - 48))
Follows value byte (Some longer) = (is_digit byte ≡ true) × (longer ≡ value * 10 + (byte - 48)) × (longer < 2 ^ 64)

-- a slice that is there shows the list that is there
abbrev pub Shows : {X : Type 0} → Option (List X) → Option (Bor (List X)) → Type 0
Shows list None = list ≡ None
Shows list (Some slice) = list ≡ Some slice.now

-- what was there stands at the front
abbrev pub Grows : List ℕ → List ℕ → Type 0
Grows old new = (added : List ℕ) × (new ≡ old ++ added)
