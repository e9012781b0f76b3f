-- What one call on a stream of bytes moves, by its answer.
-- A socket keeps no list of its bytes, so its relation may hold of anything; a stream in memory keeps both lists.
use Rattle.std.specs.Prelude.{◌≤◌, List, [], ℕ, length, take}
use Rattle.node_link.specs.declared.stream.Flow.{Flow}
use Rattle.node_link.specs.declared.stream.Flow.TheVariants.{Bytes, Nothing, Gone}
use Rattle.node_link.specs.Port.{Rose}

-- the bytes at the front of the buffer were read
abbrev pub ReadOutcome : {S : Type 0} → (S → ℕ) → (S → List ℕ → List ℕ → S → Type 0) → S → List ℕ → Flow → S → Type 0
ReadOutcome failures moved old buffer (Bytes n) new = (n ≤ length buffer) × moved old [] (take n buffer) new
ReadOutcome failures moved old buffer Nothing new = moved old [] [] new
ReadOutcome failures moved old buffer Gone new = Rose (failures old) (failures new) × moved old [] [] new

-- the bytes at the front were written
abbrev pub WriteOutcome : {S : Type 0} → (S → ℕ) → (S → List ℕ → List ℕ → S → Type 0) → S → List ℕ → Flow → S → Type 0
WriteOutcome failures moved old bytes (Bytes n) new = (n ≤ length bytes) × moved old (take n bytes) [] new
WriteOutcome failures moved old bytes Nothing new = moved old [] [] new
WriteOutcome failures moved old bytes Gone new = Rose (failures old) (failures new) × moved old [] [] new
