use Rattle.std.proofs.Common.{◌≡◌, map, length, Some, ◌-◌, ◌*◌, ◌^◌, ◌≤◌, pos, neg_ℤ, ◌≤ℤ◌}
use Rattle.key_split.specs.Join.{plus, total, reply_of}
use Rattle.key_split.proofs.joins.total.Given as goal

abbrev pub invariant-loop-rest : goal.invariant-loop-rest
invariant-loop-rest l =
    let done = length l.ends - length l.rest in
    (total (map reply_of l.ends) ≡ plus (Some l.sum) (total (map reply_of l.rest)))
    × (length l.rest ≤ length l.ends)
    × (l.sum ≤ℤ pos (done * 2 ^ 63))
    × (neg_ℤ (pos (done * 2 ^ 63)) ≤ℤ l.sum)

abbrev pub decreases-loop-rest : goal.decreases-loop-rest
decreases-loop-rest l = length l.rest
