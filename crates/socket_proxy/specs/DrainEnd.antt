-- When a drain ends.
use Rattle.std.specs.Prelude.{◌≡◌, ◌⊎◌, ◌-◌, ◌/◌, ◌≤◌, ℕ, Bool, true, Option, Some, None}

-- It began at this time, in milliseconds, and this many seconds of it are over.
abbrev pub IsCut : Option ℕ → Option ℕ → ℕ → Type 0
IsCut (Some began) (Some seconds) now = seconds ≤ (now - began) / 1000
IsCut (Some began) None now = ⊥
IsCut None seconds now = ⊥

-- All clients that were to come came, and none is left; or the drain is cut.
abbrev pub IsOver : Bool → ℕ → Bool → Type 0
IsOver all_came clients cut = ((all_came ≡ true) × (clients ≡ 0)) ⊎ (cut ≡ true)
