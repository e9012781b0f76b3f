-- What a look at the bytes that were read finds.
-- `first_request` gives what stands for an opening (`opening_of`). Only private functions cite the rest.
use Rattle.std.specs.Prelude.{◌≡◌, ◌≢◌, ◌<◌, ◌++◌, ◌∷◌, ℕ, List, None, Some, length}
use Rattle.resp_wire.specs.Data.{Data, null_array}
use Rattle.resp_wire.specs.Words.{words_of}
use Rattle.resp_wire.specs.LimitsModel.{full}
use Rattle.resp_wire.specs.ReaderModel.{ReaderModel}
use Rattle.resp_wire.specs.Stream.{NoneWhole, NoFault}
use Rattle.cluster_world.specs.Opening.{Opening, Asks, Breaks, Ends, Opens, IsSkipped}
use Rattle.cluster_world.specs.declared.one.first.First.{First}
use Rattle.cluster_world.specs.declared.one.first.First.TheVariants as first
use Rattle.cluster_world.specs.declared.one.first.Look.{Look}
use Rattle.cluster_world.specs.declared.one.first.Look.TheVariants as look

-- an opening, without where it lies in memory
abbrev pub opening_of : First → Opening
opening_of (first.Asks words) = Asks words
opening_of first.Breaks = Breaks
opening_of first.Ends = Ends

-- a request has at least one word
abbrev pub HasWords : First → Type 0
HasWords (first.Asks words) = 0 < length words
HasWords first.Breaks = Unit {0}
HasWords first.Ends = Unit {0}

-- nothing has been found wrong in what is read
abbrev pub IsOpen : ReaderModel → Type 0
IsOpen input = (input.bounds ≡ full) × (input.fault ≡ None)

-- whatever more comes, what opens the rest opens the whole
abbrev pub GoesOn : List ℕ → List ℕ → Type 0
GoesOn whole rest = (more : List ℕ) (opening : Opening) → Opens (rest ++ more) opening → Opens (whole ++ more) opening

-- what is made of a value
abbrev pub Shows : Data → Look → Type 0
Shows value (look.Found (first.Asks words)) = (word : List ℕ) × (more : List (List ℕ)) × (words ≡ word ∷ more) × (words_of value ≡ Some (word ∷ more))
Shows value (look.Found first.Breaks) = (words_of value ≡ None) × (value ≢ null_array)
Shows value (look.Found first.Ends) = ⊥
Shows value look.Skipped = IsSkipped value
Shows value look.Partial = ⊥

-- what a look finds, and what it leaves
abbrev pub Looks : ReaderModel → Look → ReaderModel → Type 0
Looks old (look.Found opening) new = HasWords opening × ((more : List ℕ) → Opens (old.unread ++ more) (opening_of opening))
Looks old look.Skipped new = IsOpen new × GoesOn old.unread new.unread × (length new.unread < length old.unread)
Looks old look.Partial new = IsOpen new × (new ≡ old) × NoneWhole full old.unread × NoFault full old.unread
