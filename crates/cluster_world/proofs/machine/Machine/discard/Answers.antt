use Rattle.cluster_world.specs.Machine.{state_of}
use Rattle.cluster_world.proofs.Linking.{discards}
use Rattle.cluster_world.proofs.machine.Machine.discard.Goals as goal

pub returns : goal.returns
returns c = discards (state_of c.args.self.now) c.args.link c.discard.result c.discard.new.self c.discard.ensures
