use Rattle.resp_wire.specs.Seen.{data_of}
use Rattle.resp_wire.specs.declared.fault.WireFault.TheVariants as fault
use Rattle.turn_play.proofs.FirstValues.{none-faulty, none-short}
use Rattle.turn_play.proofs.Hears.{heard-words}
use Rattle.turn_play.proofs.first_words.first_words.Goals as goal

pub returns-in-Ok-Some : goal.returns-in-Ok-Some
returns-in-Ok-Some c = heard-words c.args.bytes.now (data_of c.in-Ok-Some.value) c.in-Ok-Some.count c.words_in.result (rw c.in-Ok-Some.field-0-is at c.in-Ok-Some.ensures) c.words_in.ensures

pub returns-in-Ok-None : goal.returns-in-Ok-None
returns-in-Ok-None c = none-short c.args.bytes.now (rw c.in-Ok-None.field-0-is at c.in-Ok-None.ensures)

pub returns-in-Err-BadType : goal.returns-in-Err-BadType
returns-in-Err-BadType c = none-faulty c.args.bytes.now fault.BadType (rw c.in-Err-BadType.field-0-is at c.in-Err-BadType.ensures)

pub returns-in-Err-BadNumber : goal.returns-in-Err-BadNumber
returns-in-Err-BadNumber c = none-faulty c.args.bytes.now fault.BadNumber (rw c.in-Err-BadNumber.field-0-is at c.in-Err-BadNumber.ensures)

pub returns-in-Err-TooLong : goal.returns-in-Err-TooLong
returns-in-Err-TooLong c = none-faulty c.args.bytes.now fault.TooLong (rw c.in-Err-TooLong.field-0-is at c.in-Err-TooLong.ensures)

pub returns-in-Err-TooMany : goal.returns-in-Err-TooMany
returns-in-Err-TooMany c = none-faulty c.args.bytes.now fault.TooMany (rw c.in-Err-TooMany.field-0-is at c.in-Err-TooMany.ensures)

pub returns-in-Err-TooDeep : goal.returns-in-Err-TooDeep
returns-in-Err-TooDeep c = none-faulty c.args.bytes.now fault.TooDeep (rw c.in-Err-TooDeep.field-0-is at c.in-Err-TooDeep.ensures)

pub returns-in-Err-BadEnd : goal.returns-in-Err-BadEnd
returns-in-Err-BadEnd c = none-faulty c.args.bytes.now fault.BadEnd (rw c.in-Err-BadEnd.field-0-is at c.in-Err-BadEnd.ensures)
