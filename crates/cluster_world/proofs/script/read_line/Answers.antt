use Rattle.std.proofs.Common.{◌∙◌, sym}
use Rattle.cluster_world.proofs.Pieces.{last_line, line_off, no_lines}
use Rattle.cluster_world.proofs.script.read_line.Goals as goal

pub returns-then-is_empty : goal.returns-then-is_empty
returns-then-is_empty c = no_lines c.args.script.now (sym c.is_empty.ensures ∙ c.if-is_empty.true)

pub returns-in_ok-words-in-Some : goal.returns-in_ok-words-in-Some
returns-in_ok-words-in-Some c =
    let parts = c.in-Some.ensures in
    line_off c.args.script.now _ _ _ parts.0 parts.1 parts.2 c.in_ok-words-in-Some.ensures

pub returns-in-None : goal.returns-in-None
returns-in-None c = last_line c.args.script.now (sym c.is_empty.ensures ∙ c.if-is_empty.false) c.in-None.ensures
