use Rattle.std.proofs.Common.{subst}
use Rattle.cluster_world.specs.Commands.{AreApart}
use Rattle.cluster_world.proofs.Found.{stand-apart}
use Rattle.cluster_world.proofs.commands.Commands.are_apart.Goals as goal

pub returns : goal.returns
returns c = subst AreApart c.self.view_is (stand-apart c.self.inside.arrivals.items c.self.inside.tables c.self.invariant)
