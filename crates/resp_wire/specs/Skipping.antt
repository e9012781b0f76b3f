-- What a reader passes over without making it.
-- A request with words is never passed over. What `skip_other` leaves is what taking the value off would leave.
use Rattle.std.specs.Prelude.{◌≡◌, ◌≢◌, ◌⊎◌, ℕ, List, ◌∷◌, Bool, true, false, Option, Some, None, Ok, MatchOption, is_some}
use Rattle.std.specs.Borrow.{Bor}
use Rattle.resp_wire.specs.Data.{Data, Items, array, null_array, no_items}
use Rattle.resp_wire.specs.Seen.{data_of}
use Rattle.resp_wire.specs.Words.{words_of, bulks_of, is_bulk}
use Rattle.resp_wire.specs.Reading.{Reading, whole}
use Rattle.resp_wire.specs.ReaderModel.{ReaderModel}
use Rattle.resp_wire.specs.FirstValue.{ReaderTakes, front, Whole}
use Rattle.resp_wire.specs.declared.value.Value.{Value}
use Rattle.resp_wire.specs.declared.skip.Skipped.{Skipped}
use Rattle.resp_wire.specs.declared.skip.Skipped.TheVariants.{Empty, Other}

-- it is an array of bulk strings, and there is at least one
abbrev pub HasWords : Data → Type 0
HasWords value = (first : List ℕ) × (more : List (List ℕ)) × (words_of value ≡ Some (first ∷ more))

-- it is an empty or a null array
abbrev pub IsEmptyArray : Data → Type 0
IsEmptyArray value = (value ≡ array no_items) ⊎ (value ≡ null_array)

-- it is neither
abbrev pub IsNoRequest : Data → Type 0
IsNoRequest value = (words_of value ≡ None) × (value ≢ null_array)

-- nothing is passed over where a request with words stands first, and else what the value is
abbrev pub IsAs : Data → Option Skipped → Type 0
IsAs value None = HasWords value
IsAs value (Some Empty) = IsEmptyArray value
IsAs value (Some Other) = IsNoRequest value

-- the value at the front is passed over, unless it is not whole or a request with words
abbrev pub Skips : ReaderModel → Option Skipped → ReaderModel → Type 0
Skips old None new = (new ≡ old) × (old.fault ≡ None → (value : Data) (after : List ℕ) → front old.bounds old.unread ≡ Whole value after → HasWords value)
Skips old (Some skipped) new = (value : Value) × ReaderTakes old (Ok (Some value)) new × IsAs (data_of value) (Some skipped)

-- ---- private: of what is read, if it is whole

abbrev pub IsSkipped : Reading Data → Option Skipped → Type 0
IsSkipped r skipped = (value : Data) (rest : List ℕ) → r ≡ whole value rest → IsAs value skipped

abbrev pub AreBulks : Reading Items → Bool → Type 0
AreBulks r test = (values : Items) (rest : List ℕ) → r ≡ whole values rest → is_some (bulks_of values) ≡ test

abbrev pub IsBehindBulk : Reading Data → Option (Bor (List ℕ)) → Type 0
IsBehindBulk r behind = (value : Data) (rest : List ℕ) → r ≡ whole value rest → MatchOption behind (is_bulk value ≡ false) (λ after. (is_bulk value ≡ true) × (rest ≡ after.now))
