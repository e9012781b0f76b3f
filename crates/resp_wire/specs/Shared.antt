-- Bytes in a queue, until their buffer is shared.
-- The model of what a reader has not read.
use Rattle.std.specs.Prelude.{◌≡◌, ℕ, List, [], Option, Some, None}

abbrev pub unread_of : List ℕ → Option (List ℕ) → List ℕ
unread_of queue (Some part) = part
unread_of queue None = queue

-- nothing is in the queue while the buffer is shared
abbrev pub IsLeft : List ℕ → Option (List ℕ) → Type 0
IsLeft queue (Some part) = queue ≡ []
IsLeft queue None = Unit {0}
