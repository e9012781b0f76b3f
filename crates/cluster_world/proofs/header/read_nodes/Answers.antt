use Rattle.std.proofs.Common.{refl, arith}
use Rattle.cluster_world.specs.Schedule.{nodes_of}
use Rattle.cluster_world.specs.Script.{lines_of}
use Rattle.cluster_world.proofs.Headers.{first_bad, first_none, nodes-none}
use Rattle.cluster_world.proofs.header.read_nodes.Goals as goal

pub returns-in_default-clause-bad : goal.returns-in_default-clause-bad
returns-in_default-clause-bad c = (refl, first_none nodes_of (lines_of c.args.lines.now) nodes-none (rw c.in_default.is at c.in_ok-line.ensures))

pub returns-in_default-nodes_of-clause-bad : goal.returns-in_default-nodes_of-clause-bad
returns-in_default-nodes_of-clause-bad c =
    let line = rw c.in-Some.is at c.in_ok-line.ensures in (refl, first_bad nodes_of (lines_of c.args.lines.now) _ c.in-Some.line.words line.0 c.in_default-nodes_of.ensures)

pub returns-clause-says : goal.returns-clause-says
returns-clause-says c = let line = rw c.in-Some.is at c.in_ok-line.ensures in (c.in-Some.line.words, line.0, c.in-Some-nodes_of.ensures)

pub returns-clause-within : goal.returns-clause-within
returns-clause-within c = let line = rw c.in-Some.is at c.in_ok-line.ensures in omega (arith, line.1)
