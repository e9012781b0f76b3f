use Rattle.cluster_world.specs.Machine.{state_of}
use Rattle.cluster_world.proofs.Linking.{closes}
use Rattle.cluster_world.proofs.machine.Machine.close.Goals as goal

pub returns : goal.returns
returns c = closes (state_of c.args.self.now) c.args.link c.close.result c.close.new.self c.close.new.downs.items c.close.ensures
