use Rattle.std.proofs.Common.{◌↔◌, [], take, drop}
use Rattle.cluster_world.specs.Posting.{way_for, ArePast, GoTogether}
use Rattle.cluster_world.proofs.posting.go_together.Given as goal

-- the whole goes exactly where the rest does; and `count` are past
abbrev pub invariant-loop-count : goal.invariant-loop-count
invariant-loop-count l =
    (GoTogether (way_for l.first) l.node (take l.count l.tickets) (drop l.count l.tickets) l.commands ↔ GoTogether (way_for l.first) l.node [] l.tickets l.commands)
    × ArePast (way_for l.first) (take l.count l.tickets) l.past l.commands
