use Rattle.script_runs.proofs.Finding.{value-found, none-found, fault-found}
use Rattle.script_runs.proofs.wanted.next_wanted.Goals as goal

pub returns-in-Ok-Some : goal.returns-in-Ok-Some
returns-in-Ok-Some c =
    value-found c.args.number c.args.reader.now c.next.new.self c.in-Ok-Some.value c.wanted_by.result c.front_is_whole.ensures c.requires.open
    (rw c.in-Ok-Some.field-0-is at c.in-Ok-Some.ensures.takes) c.wanted_by.ensures

pub returns-in-Ok-None : goal.returns-in-Ok-None
returns-in-Ok-None c = (none-found c.args.number c.args.reader.now c.next.new.self c.requires.open (rw c.in-Ok-None.field-0-is at c.in-Ok-None.ensures.takes), tt)

pub returns-in_default : goal.returns-in_default
returns-in_default c = (fault-found c.args.number c.args.reader.now c.next.new.self c.in-Err.fault c.in_default.not-NoMemory c.requires.open c.in-Err.ensures.takes, tt)
