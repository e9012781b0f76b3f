use Rattle.node_link.proofs.OneLine.{target_one_line}
use Rattle.node_link.proofs.told.redirected.Goals as goal

pub intern_meant-requires-clause-one_line : goal.intern_meant-requires-clause-one_line
intern_meant-requires-clause-one_line c = target_one_line c.args.words.now _ c.in-Some.ensures.target c.requires.one_line

pub returns-in-Err-NoMemory : goal.returns-in-Err-NoMemory
returns-in-Err-NoMemory c =
    let would = rw c.in-Err-NoMemory.field-0-is at c.in-Err-NoMemory.ensures in
    (_, c.in-Some.ensures.target, would.0, would.1)
