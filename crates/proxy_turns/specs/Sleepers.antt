-- Which clients sleep, by a list of marks.
-- Only private functions cite it.
use Rattle.std.specs.Prelude.{◌≡◌, ◌≢◌, ◌<◌, ◌≤◌, ℕ, List, Option, Some, None, slice_get}
use Rattle.proxy_turns.specs.ClientModel.{ClientModel}
use Rattle.proxy_turns.specs.ClientRest.{IsAsleep}

-- there is a mark for the place, and it is not the one of those that are awake
abbrev pub IsMarked : List ℕ → ℕ → Type 0
IsMarked marks place = (mark : ℕ) × (slice_get marks place ≡ Some mark) × (mark ≢ 0)

-- from the one place on, the first before the other that has no mark
abbrev pub IsNextAwake : List ℕ → ℕ → ℕ → Option ℕ → Type 0
IsNextAwake marks from end None = (place : ℕ) → from ≤ place → place < end → IsMarked marks place
IsNextAwake marks from end (Some next) = (from ≤ next) × (next < end) × ((place : ℕ) → from ≤ place → place < next → IsMarked marks place)

module _ {C : Type 0} (gives_none : C → Type 0) where
  -- who stands at this place sleeps
  abbrev pub IsAsleepAt : List (ℕ × ClientModel C) → ℕ → Type 0
  IsAsleepAt entries place = (number : ℕ) × (client : ClientModel C) × (slice_get entries place ≡ Some (number, client)) × IsAsleep gives_none client

  -- each that is marked
  abbrev pub AreAsleep : List ℕ → List (ℕ × ClientModel C) → Type 0
  AreAsleep marks entries = (place : ℕ) → IsMarked marks place → IsAsleepAt entries place
