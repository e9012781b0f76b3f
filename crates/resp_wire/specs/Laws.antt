-- Laws of spelling, for every bounds and depth.
-- Statements alone; the functions of src/laws.rt prove them.
use Rattle.std.specs.Prelude.{◌≡◌, ◌↔◌, ◌++◌, ℕ, List, Some, None, IsTrue}
use Rattle.resp_wire.specs.Data.{Data, items_of}
use Rattle.resp_wire.specs.LimitsModel.{LimitsModel}
use Rattle.resp_wire.specs.Spelling.{Spells, SpellsAll}
use Rattle.resp_wire.specs.Faults.{FirstFault}
use Rattle.resp_wire.specs.Canonical.{canonical}
use Rattle.resp_wire.specs.Same.{same_data}
use Rattle.resp_wire.specs.FirstValue.{front, Whole, Partial, Faulty}
use Rattle.resp_wire.specs.ReaderModel.{ReaderModel}
use Rattle.resp_wire.specs.Calls.{ReaderCall, fresh, Runs, bytes_of, values_of, IsDrained}
use Rattle.resp_wire.specs.Stream.{Begins, NoneWhole, NoFault, HasFault}
use Rattle.resp_wire.specs.declared.fault.WireFault.{WireFault}

-- two spellings that begin one text are one, of one value
abbrev pub OneSpelling : Type 0
OneSpelling = (l : LimitsModel) (room : ℕ) (a b x y : List ℕ) (v w : Data) → Spells l room a v → Spells l room b w → a ++ x ≡ b ++ y → (a ≡ b) × (v ≡ w)

abbrev pub OneFault : Type 0
OneFault = (l : LimitsModel) (room : ℕ) (text : List ℕ) (f : WireFault) → FirstFault l room text f
    → ((g : WireFault) → FirstFault l room text g → g ≡ f) × ((a x : List ℕ) (v : Data) → Spells l room a v → text ≡ a ++ x → ⊥)

-- the front is a whole value exactly where a spelling of it begins the text
abbrev pub FrontIsWhole : Type 0
FrontIsWhole = (l : LimitsModel) (text after : List ℕ) (value : Data) → (front l text ≡ Whole value after) ↔ Begins l text value after

-- it is a fault exactly where that is the text's first
abbrev pub FrontIsFaulty : Type 0
FrontIsFaulty = (l : LimitsModel) (text : List ℕ) (fault : WireFault) → (front l text ≡ Faulty fault) ↔ HasFault l text fault

-- it is neither exactly where no spelling begins the text and there is no fault in it
abbrev pub FrontIsPartial : Type 0
FrontIsPartial = (l : LimitsModel) (text : List ℕ) → (front l text ≡ Partial) ↔ (NoneWhole l text × NoFault l text)

-- what begins a text begins it whatever bytes come behind
abbrev pub FrontKeepsValue : Type 0
FrontKeepsValue = (l : LimitsModel) (text after more : List ℕ) (value : Data) → front l text ≡ Whole value after → front l (text ++ more) ≡ Whole value (after ++ more)

abbrev pub FrontKeepsFault : Type 0
FrontKeepsFault = (l : LimitsModel) (text more : List ℕ) (fault : WireFault) → front l text ≡ Faulty fault → front l (text ++ more) ≡ Faulty fault

-- the bytes fed are spellings of the values given, in order, and a rest, which is what is unread, or whose first fault was found
abbrev pub SpelledInOrder : Type 0
SpelledInOrder = (l : LimitsModel) (calls : List ReaderCall) (input : ReaderModel) → Runs (fresh l) calls input
    → (text : List ℕ) × (rest : List ℕ) × SpellsAll l l.depth text (items_of (values_of calls)) × (bytes_of calls ≡ text ++ rest)
    × (input.fault ≡ None → rest ≡ input.unread) × ((fault : WireFault) → input.fault ≡ Some fault → HasFault l rest fault)

-- however the same bytes are cut, they give the same values and the same fault
abbrev pub CutsAlike : Type 0
CutsAlike = (l : LimitsModel) (one other : List ReaderCall) (x y : ReaderModel) → Runs (fresh l) one x → Runs (fresh l) other y → bytes_of one ≡ bytes_of other
    → IsDrained x → IsDrained y → (values_of one ≡ values_of other) × (x.fault ≡ y.fault)

-- the canonical spelling is a spelling wherever there is one
abbrev pub CanonicalSpells : Type 0
CanonicalSpells = (l : LimitsModel) (room : ℕ) (bytes : List ℕ) (value : Data) → Spells l room bytes value → Spells l room (canonical value) value

-- and reading it gives the value back, whatever follows
abbrev pub CanonicalReads : Type 0
CanonicalReads = (l : LimitsModel) (bytes : List ℕ) (value : Data) → Spells l l.depth bytes value → (more : List ℕ) → front l (canonical value ++ more) ≡ Whole value more

-- the test of `==` tells values apart
abbrev pub SameValues : Type 0
SameValues = (x y : Data) → IsTrue (same_data x y) ↔ (x ≡ y)
