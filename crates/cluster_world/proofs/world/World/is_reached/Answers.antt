use Rattle.std.proofs.Common.{subst}
use Rattle.world_laws.specs.Headline.{Headline}
use Rattle.cluster_world.specs.Machine.{state_of}
use Rattle.cluster_world.proofs.world.World.is_reached.Goals as goal

pub returns : goal.returns
returns c = subst Headline c.self.view_is (c.reached_worlds.ensures.headline (state_of c.self.inside.machine) c.self.invariant.reached)
