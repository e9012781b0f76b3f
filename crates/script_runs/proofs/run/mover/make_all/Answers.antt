use Rattle.std.proofs.Common.{◌≡◌, ℕ, ◌<◌, ◌+◌, List, [], ◌∷◌, ◌++◌, length, get_or, take, subst, arith, ap, sym, ◌∙◌}
use Rattle.std.proofs.lemmas.Grind.{common_steps}
use Rattle.script_runs.specs.Mover.{AllEnd}
use Rattle.local_cluster.specs.declared.step.MoveStep.{MoveStep}
use Rattle.script_runs.proofs.InTurn.{one_more}
use Rattle.script_runs.proofs.run.mover.make_all.Goals as goal

taken : (xs : List MoveStep) (i : ℕ) (d : MoveStep) → i < length xs → take i xs ++ get_or xs i d ∷ [] ≡ take (i + 1) xs
taken xs i d within = grind (arith, common_steps)

-- the item at this place comes next
next_item : (xs : List MoveStep) (i : ℕ) (x : MoveStep) → x ≡ get_or xs i x → i < length xs → take i xs ++ x ∷ [] ≡ take (i + 1) xs
next_item xs i x is within = ap (λ (item : MoveStep). take i xs ++ item ∷ []) is ∙ taken xs i x within

pub loop-step-preserved : goal.loop-step-preserved
loop-step-preserved g c =
    let xs = c.args.moves.now in
    let i = c.loop-step.step-index in
    let x = c.step-item.result in (
      subst (λ (done : List MoveStep). AllEnd done (c.loop-step.skipped + c.count_skipped-skipped.result)) (next_item xs i x c.step-item.is c.loop-step-test.true)
          (subst (λ (n : ℕ). AllEnd (take i xs ++ x ∷ []) (c.loop-step.skipped + n)) (sym c.count_skipped-skipped.ensures.value)
          (one_more (take i xs) x c.loop-step.skipped c.in_ok-made.made c.loop-step.invariant.0 c.in_ok-made.ensures)),
      omega (arith, c.loop-step.invariant.1, c.count_skipped-skipped.ensures.one),
    )
