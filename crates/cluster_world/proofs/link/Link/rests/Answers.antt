use Rattle.std.proofs.Common.{rules}
use Rattle.cluster_world.specs.Rests.{LineRests}
use Rattle.cluster_world.proofs.link.Link.rests.Goals as goal

pub returns-then-requests_rest : goal.returns-then-requests_rest
unfolding LineRests
returns-then-requests_rest c = search rules

pub returns-else-requests_rest : goal.returns-else-requests_rest
unfolding LineRests
returns-else-requests_rest c = search rules
