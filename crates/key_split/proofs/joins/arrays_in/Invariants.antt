use Rattle.std.proofs.Common.{◌≡◌, map, length, ◌++◌, ◌+◌, option_map}
use Rattle.resp_wire.specs.Seen.{data_of}
use Rattle.key_split.specs.Join.{arrays_in, reply_of}
use Rattle.key_split.proofs.joins.arrays_in.Given as goal

abbrev pub invariant-loop-rest : goal.invariant-loop-rest
invariant-loop-rest l =
    (arrays_in (map reply_of l.ends) ≡ option_map (λ more. map (λ list. map data_of list.now) l.lists.items ++ more) (arrays_in (map reply_of l.rest)))
    × (length l.lists.items + length l.rest ≡ length l.ends)

abbrev pub decreases-loop-rest : goal.decreases-loop-rest
decreases-loop-rest l = length l.rest
