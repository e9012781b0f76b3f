use Rattle.cluster_world.specs.Machine.{state_of}
use Rattle.cluster_world.proofs.Linking.{executes}
use Rattle.cluster_world.proofs.machine.Machine.serve_run.Goals as goal

pub execute-requires-clause-first : goal.execute-requires-clause-first
execute-requires-clause-first c = (c.requires.first.0, c.requires.first.1, (c.requires.first.2.0, c.requires.first.2.1))

pub returns : goal.returns
returns c = executes (state_of c.args.self.now) c.args.link c.args.verdict c.args.parts.items c.execute.result c.execute.new.self c.execute.new.cluster c.requires.named c.requires.serves c.requires.first c.execute.ensures
