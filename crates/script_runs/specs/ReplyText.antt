-- The text of the replies of a run's clients.
-- This project's format.
use Rattle.std.specs.Prelude.{◌≡◌, ◌<◌, ◌+◌, ◌++◌, ℕ, List, [], ◌∷◌, Option, Some, None, codes, length}
use Rattle.std.specs.Fmt.{decimal}
use Rattle.resp_wire.specs.LimitsModel.{full}
use Rattle.resp_wire.specs.Data.{Data}
use Rattle.resp_wire.specs.FirstValue.{Whole, front}
use Rattle.resp_wire.specs.ReaderModel.{ReaderModel}
use Rattle.resp_wire.specs.Seen.{data_of}
use Rattle.resp_wire.specs.declared.value.Value.{Value}
use Rattle.cluster_world.specs.Report.{line, space, value_text}
use Rattle.script_runs.specs.Wanted.{IsOpen}

-- `reply CLIENT K VALUE`
unfoldable pub reply_line : ℕ → ℕ → Data → List ℕ
reply_line client number value = line (codes "reply " ++ decimal client ++ space ++ decimal number ++ space ++ value_text value)

-- a line for each value, of which the first has this number
abbrev pub reply_lines : ℕ → ℕ → List Data → List ℕ
reply_lines client number [] = []
reply_lines client number (value ∷ values) = reply_line client number value ++ reply_lines client (number + 1) values

-- the values that stand in bytes, one after another, up to where none is whole
pub data Holds : List ℕ → List Data → Type 0 where
  over : (bytes : List ℕ) → ((value : Data) (rest : List ℕ) → front full bytes ≡ Whole value rest → ⊥) → Holds bytes []
  value : (bytes rest : List ℕ) (first : Data) (values : List Data) → front full bytes ≡ Whole first rest → Holds rest values → Holds bytes (first ∷ values)

-- the lines of all clients from this one on, by their bytes
abbrev pub RepliesText : ℕ → List (List ℕ) → List ℕ → Type 0
RepliesText client [] text = text ≡ []
RepliesText client (bytes ∷ more) text =
    (values : List Data) × (later : List ℕ) × Holds bytes values × RepliesText (client + 1) more later × (text ≡ reply_lines client 0 values ++ later)

-- the next value leaves, or none is whole
abbrev pub Takes : ReaderModel → Option Value → ReaderModel → Type 0
Takes old (Some found) new = IsOpen new × (front full old.unread ≡ Whole (data_of found) new.unread) × (length new.unread < length old.unread)
Takes old None new = (value : Data) (rest : List ℕ) → front full old.unread ≡ Whole value rest → ⊥
