-- A reader that notes how often it was read and what came last, and a writer that notes whether a write failed.
-- A program tells them what it did: a run's clauses say how many reads it made, and what it wrote where no write failed.
use Rattle.std.specs.Prelude.{◌≡◌, ◌≤◌, ◌<◌, ◌⊎◌, ℕ, ◌+◌, Bool, true, List, Option, Some, None, length, take}
use Rattle.std.specs.Io.KnownBytes.{Appends, Consumes, IsAtEnd, Keeps}
use Rattle.cluster_world.specs.declared.watched.LastRead.{LastRead}
use Rattle.cluster_world.specs.declared.watched.LastRead.TheVariants.{Bytes, End, Failure}

pub record WatchedReaderModel (R : Type 0) : Type 0 where
  pub reader : R
  -- how many reads were made
  pub reads : ℕ
  -- what the last of them gave
  pub last : LastRead

pub record WatchedWriterModel (W : Type 0) : Type 0 where
  pub writer : W
  -- whether a write failed
  pub has_failed : Bool

-- one read: `count` bytes came; or none, at the end; or it failed
abbrev pub Reads : {R : Type 0} → (R → Option (List ℕ)) → WatchedReaderModel R → List ℕ → Option ℕ → WatchedReaderModel R → Type 0
Reads remaining old room (Some count) new =
    (count ≤ length room) × Consumes (remaining old.reader) (remaining new.reader) (take count room) × (new.reads ≡ old.reads + 1)
    × (((0 < count) × (new.last ≡ Bytes)) ⊎ ((count ≡ 0) × (new.last ≡ End) × IsAtEnd (remaining new.reader)))
Reads remaining old room None new = (new.reads ≤ old.reads + 1) × (new.last ≡ Failure)

-- the input has more than `limit` bytes, or as many reads have not come to its end
abbrev pub IsTooLong : {R : Type 0} → ℕ → List ℕ → ℕ → WatchedReaderModel R → Type 0
IsTooLong limit input before now = (limit < length input) ⊎ ((now.reads ≡ before + limit) × (now.last ≡ Bytes))

-- A program ends: its text was written, or nothing where memory was wanting or a read failed; or a write failed, and then
-- nothing is said of how much went out.
abbrev pub EndsAs : (ℕ → List ℕ → Type 0) → ℕ → Option (List ℕ) → Option (List ℕ) → Bool → Type 0
EndsAs Says status old new has_failed =
    ((text : List ℕ) × Says status text × Appends old new text) ⊎ (((status ≡ 1) × Keeps old new) ⊎ ((status ≡ 1) × (has_failed ≡ true)))
