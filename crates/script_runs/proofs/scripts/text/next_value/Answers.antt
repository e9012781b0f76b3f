use Rattle.script_runs.proofs.Texting.{took, none-whole, fault-first}
use Rattle.script_runs.proofs.scripts.text.next_value.Goals as goal

pub returns-in-Ok-Some : goal.returns-in-Ok-Some
returns-in-Ok-Some c =
    took c.args.reader.now c.next.new.self c.in-Ok-Some.value c.front_is_whole.ensures c.requires (rw c.in-Ok-Some.field-0-is at c.in-Ok-Some.ensures.takes)

pub returns-in-Ok-None : goal.returns-in-Ok-None
returns-in-Ok-None c = none-whole c.args.reader.now c.next.new.self c.requires (rw c.in-Ok-None.field-0-is at c.in-Ok-None.ensures.takes)

pub returns-in_default : goal.returns-in_default
returns-in_default c = fault-first c.args.reader.now c.next.new.self c.in-Err.fault c.in_default.not-NoMemory c.requires c.in-Err.ensures.takes
