use Rattle.std.proofs.Common.{◌≡◌, length}
use Rattle.world_laws.specs.Places.{in_requests}
use Rattle.cluster_world.specs.Rests.{sought}
use Rattle.cluster_world.proofs.link.Link.requests_rest.Given as goal

-- those before asked nothing
abbrev pub invariant-loop-rest : goal.invariant-loop-rest
invariant-loop-rest l = in_requests (sought l.sought) l.self.is_open l.self.node l.asking l.rest ≡ in_requests (sought l.sought) l.self.is_open l.self.node l.self.asking l.self.requests

abbrev pub decreases-loop-rest : goal.decreases-loop-rest
decreases-loop-rest l = length l.rest
