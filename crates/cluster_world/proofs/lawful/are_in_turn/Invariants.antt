use Rattle.std.proofs.Common.{◌↔◌, AllPairs, drop}
use Rattle.cluster_world.specs.Lawful.{MayPrecede}
use Rattle.cluster_world.proofs.Turning.{GoOn}
use Rattle.cluster_world.proofs.lawful.are_in_turn.Given as goal

abbrev pub invariant-loop-entry : goal.invariant-loop-entry
invariant-loop-entry l = AllPairs (MayPrecede l.ends) l.history ↔ GoOn l.ends l.latest.entries (drop l.entry-index l.history)
