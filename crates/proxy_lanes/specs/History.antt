-- The one history of published operations: its rule, what a step that adds to it tells, and its name.
-- All copies of the slot map keep a beginning of this one list, so no view contradicts another or goes back.
use Rattle.std.specs.Prelude.{ℕ, ◌≡◌, ◌==◌, true, List, [], ◌∷◌, ◌++◌, length, MatchBool}
use Rattle.logbook.specs.Pages.{Cell, Step, View, Book, Named}
use Rattle.slot_map.specs.declared.ops.MapOp.{MapOp}

-- the first word is the length of the history; the second is not used
abbrev pub IsCounted : List Cell → List MapOp → Type 0
IsCounted cells log = cells ≡ (length log, true) ∷ (0, true) ∷ []

-- the word that counts, of this history
abbrev pub head_of : Book → Named
head_of book = record { tracked = true; key = 0; book = book }

-- the operation was added to all that had been seen; or the history was as long as the number found
abbrev pub Adds : Step MapOp → View MapOp ℕ → ℕ → View MapOp ℕ → Type 0
Adds step before found after = MatchBool (found == step.old) (after.0 ≡ before.0 ++ step.ask ∷ []) (length after.0 ≡ found)
