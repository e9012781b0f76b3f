use Rattle.std.proofs.Common.{◌≡◌, length, map}
use Rattle.resp_wire.specs.Seen.{data_of}
use Rattle.local_cluster.specs.Foresight.{laid}
use Rattle.local_cluster.proofs.foresight.lay.Given as goal

abbrev pub invariant-loop-keys : goal.invariant-loop-keys
invariant-loop-keys l = laid l.store l.keys (map data_of l.found) ≡ laid l.initial.store l.initial.keys (map data_of l.initial.found)

abbrev pub decreases-loop-keys : goal.decreases-loop-keys
decreases-loop-keys l = length l.keys
