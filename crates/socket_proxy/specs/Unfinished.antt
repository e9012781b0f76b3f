-- What is known of a worker's unfinished requests: the bytes that are held of each are a list.

use Rattle.std.specs.Prelude.{◌≡◌, ◌⊎◌, ◌≤◌, ℕ, List, All, Contains}

-- How many bytes are held of one of them, or this is 0.
abbrev pub IsHeld : ℕ → List ℕ → Type 0
IsHeld known requests = (known ≡ 0) ⊎ Contains requests known

-- Of none more is held.
abbrev pub IsMost : ℕ → List ℕ → Type 0
IsMost known requests = All (λ bytes. bytes ≤ known) requests
