use Rattle.std.proofs.Common.{◌≡◌, ℕ, ◌<◌, ◌+◌, None, Some, length, leb, ltb, cond, ◌&&◌, get_or}
use Rattle.slot_map.proofs.map.fill.Given as goal

abbrev pub invariant-loop-slot : goal.invariant-loop-slot
invariant-loop-slot l =
    (length l.nodes ≡ 16384)
    × ((k : ℕ) → k < 16384 → get_or l.nodes k None ≡ cond (leb l.first k && ltb k l.slot) (Some l.node) (get_or l.fn.nodes k None))
    × (l.last + 1 < l.first → l.slot ≡ l.first)
