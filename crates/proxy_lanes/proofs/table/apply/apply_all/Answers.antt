use Rattle.std.proofs.Common.{◌≡◌, ℕ, ◌<◌, ◌+◌, List, [], ◌∷◌, ◌++◌, length, get_or, take, subst, arith, ap, ◌∙◌}
use Rattle.std.proofs.lemmas.Grind.{common_steps}
use Rattle.std.proofs.lemmas.List.{take_all}
use Rattle.slot_map.specs.declared.ops.MapOp.{MapOp}
use Rattle.slot_map.specs.Map.{MapShows}
use Rattle.proxy_lanes.proofs.table.apply.apply_all.Goals as goal

one_more : (before xs : List MapOp) (i : ℕ) (d : MapOp) → i < length xs → (before ++ take i xs) ++ get_or xs i d ∷ [] ≡ before ++ take (i + 1) xs
one_more before xs i d within = grind (arith, common_steps)

-- the item at this place comes next
next_item : (before xs : List MapOp) (i : ℕ) (x : MapOp) → x ≡ get_or xs i x → i < length xs
    → (before ++ take i xs) ++ x ∷ [] ≡ before ++ take (i + 1) xs
next_item before xs i x is within =
    ap (λ (item : MapOp). (before ++ take i xs) ++ item ∷ []) is ∙ one_more before xs i x within

pub loop-op-preserved : goal.loop-op-preserved
loop-op-preserved c = λ before shows.
    let ops = c.args.ops.now in
    let i = c.loop-op.op-index in
    subst (MapShows c.apply.new.self) (next_item before ops i c.op-item.result c.op-item.is c.loop-op-test.true)
    (c.apply.ensures (before ++ take i ops) (c.loop-op.invariant before shows))

pub returns : goal.returns
returns c before shows =
    subst (λ done. MapShows c.loop-op.map (before ++ done)) (take_all c.loop-op.op-index c.args.ops.now c.loop-op-test.false) (c.loop-op.invariant before shows)
