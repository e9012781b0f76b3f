use Rattle.std.proofs.Common.{◌≡◌, length}
use Rattle.std.specs.List.{list_all}
use Rattle.relayed_keys.specs.Keys.{every, in_slot}
use Rattle.relayed_keys.proofs.keys.all_in.Given as goal

abbrev pub invariant-loop-rest : goal.invariant-loop-rest
invariant-loop-rest l = list_all (in_slot l.slot) (every 0 l.step l.words) ≡ list_all (in_slot l.slot) (every l.wait l.step l.rest)

abbrev pub decreases-loop-rest : goal.decreases-loop-rest
decreases-loop-rest l = length l.rest
