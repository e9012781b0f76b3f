use Rattle.std.proofs.Common.{◌≡◌, map, length}
use Rattle.std.specs.List.{list_all}
use Rattle.key_split.specs.Join.{is_ok_line, reply_of}
use Rattle.key_split.proofs.joins.are_ok_lines.Given as goal

abbrev pub invariant-loop-rest : goal.invariant-loop-rest
invariant-loop-rest l = list_all is_ok_line (map reply_of l.ends) ≡ list_all is_ok_line (map reply_of l.rest)

abbrev pub decreases-loop-rest : goal.decreases-loop-rest
decreases-loop-rest l = length l.rest
