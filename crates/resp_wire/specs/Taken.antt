-- What is taken off the front of what a reader holds.
-- Only private functions cite it.
use Rattle.std.specs.Prelude.{◌≡◌, Option, Some, None, Result, Ok, Err}
use Rattle.resp_wire.specs.ReaderModel.{ReaderModel}
use Rattle.resp_wire.specs.FirstValue.{ReaderTakes}
use Rattle.resp_wire.specs.Stream.{ReaderAnswers}
use Rattle.resp_wire.specs.Reading.{whole, partial, value_at}
use Rattle.resp_wire.specs.Gives.{Builds}
use Rattle.resp_wire.specs.Seen.{data_of}
use Rattle.resp_wire.specs.declared.value.Value.{Value}
use Rattle.resp_wire.specs.declared.fault.WireFault.{WireFault}

-- the value at the front, or why there is none
abbrev pub TakesOff : ReaderModel → Result (Option Value) WireFault → ReaderModel → Type 0
TakesOff old (Ok (Some value)) new = (value_at old.bounds old.bounds.depth old.unread ≡ whole (data_of value) new.unread) × (new ≡ record old { unread = new.unread })
TakesOff old (Ok None) new = (value_at old.bounds old.bounds.depth old.unread ≡ partial) × (new ≡ old)
TakesOff old (Err fault) new = Builds data_of (Err fault) (value_at old.bounds old.bounds.depth old.unread) × (new ≡ old)

-- the value at the front, or nothing
abbrev pub TakesAtOnce : ReaderModel → Option Value → ReaderModel → Type 0
TakesAtOnce old (Some value) new = TakesOff old (Ok (Some value)) new
TakesAtOnce old None new = new ≡ old

-- what a reader's call for the next value ensures
abbrev pub AnswersAndTakes : ReaderModel → Result (Option Value) WireFault → ReaderModel → Type 0
AnswersAndTakes old result new = ReaderAnswers old result new × ReaderTakes old result new
