use Rattle.std.proofs.Common.{refl}
use Rattle.cluster_world.specs.Machine.{state_of}
use Rattle.cluster_world.proofs.Asked.{any-rests}
use Rattle.cluster_world.proofs.machine.Machine.none_asks.Goals as goal

pub returns-then-rests : goal.returns-then-rests
returns-then-rests c = (λ t k x lt its. any-rests c.args.node _ (state_of c.args.self.now) (c.if-rests.ensures.0 refl), λ all. c.if-rests.true)
