use Rattle.std.proofs.Common.{◌≡◌, ◌<◌, map, length, ◌++◌, option_map}
use Rattle.std.specs.Prelude.{All}
use Rattle.resp_wire.specs.Seen.{data_of}
use Rattle.key_split.specs.Woven.{woven}
use Rattle.key_split.proofs.joins.woven.Given as goal

abbrev pub invariant-loop-rest : goal.invariant-loop-rest
invariant-loop-rest l =
    (woven l.numbers (map (λ list. map data_of list.now) l.fn.lists.items) ≡ option_map (λ more. map data_of l.items.items ++ more) (woven l.rest (map (λ list. map data_of list.now) l.lists.items)))
    × (length l.lists.items ≡ length l.fn.lists.items)
    × All (λ number. number < length l.lists.items) l.rest

abbrev pub decreases-loop-rest : goal.decreases-loop-rest
decreases-loop-rest l = length l.rest
