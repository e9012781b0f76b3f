-- What a reader answers, in the words of spelling and first fault.
-- This says what `ReaderTakes` (FirstValue.antt) says, by the standard's spellings in place of `front`. `Reader::next` meets
-- both.
use Rattle.std.specs.Prelude.{◌≡◌, ℕ, List, ◌++◌, Option, Some, None, Result, Ok, Err, MatchOption}
use Rattle.resp_wire.specs.Data.{Data}
use Rattle.resp_wire.specs.Seen.{data_of}
use Rattle.resp_wire.specs.LimitsModel.{LimitsModel}
use Rattle.resp_wire.specs.Spelling.{Spells}
use Rattle.resp_wire.specs.Faults.{FirstFault}
use Rattle.resp_wire.specs.ReaderModel.{ReaderModel}
use Rattle.resp_wire.specs.declared.value.Value.{Value}
use Rattle.resp_wire.specs.declared.fault.WireFault.{WireFault}
use Rattle.resp_wire.specs.declared.fault.WireFault.TheVariants.{NoMemory}

-- the text begins with a spelling of the value, and then comes `after`
abbrev pub Begins : LimitsModel → List ℕ → Data → List ℕ → Type 0
Begins l text value after = (bytes : List ℕ) × Spells l l.depth bytes value × (text ≡ bytes ++ after)

-- no front of the text is a spelling
abbrev pub NoneWhole : LimitsModel → List ℕ → Type 0
NoneWhole l text = (value : Data) (after : List ℕ) → Begins l text value after → ⊥

abbrev pub HasFault : LimitsModel → List ℕ → WireFault → Type 0
HasFault l text fault = FirstFault l l.depth text fault

abbrev pub NoFault : LimitsModel → List ℕ → Type 0
NoFault l text = (fault : WireFault) → HasFault l text fault → ⊥

-- what a reader may answer that has found no fault yet, and what it leaves
abbrev pub AnswersUnfaulty : ReaderModel → Result (Option Value) WireFault → ReaderModel → Type 0
-- a value, exactly where one is spelled at the front
AnswersUnfaulty old (Ok (Some value)) new = Begins old.bounds old.unread (data_of value) new.unread × (new ≡ record old { unread = new.unread })
-- none, exactly where no front is a spelling and there is no fault
AnswersUnfaulty old (Ok None) new = NoneWhole old.bounds old.unread × NoFault old.bounds old.unread × (new ≡ old)
-- want of memory, only where a value is spelled at the front
AnswersUnfaulty old (Err NoMemory) new = (value : Data) × (after : List ℕ) × Begins old.bounds old.unread value after × (new ≡ old)
-- another fault, exactly where it is the first
AnswersUnfaulty old (Err fault) new = NoneWhole old.bounds old.unread × HasFault old.bounds old.unread fault × (new ≡ record old { fault = Some fault })

-- the same, or the fault that was answered before
abbrev pub ReaderAnswers : ReaderModel → Result (Option Value) WireFault → ReaderModel → Type 0
ReaderAnswers old result new = MatchOption old.fault (AnswersUnfaulty old result new) (λ fault. (result ≡ Err fault) × (new ≡ old))
