use Rattle.std.proofs.Common.{to_z, of_z, w64, ap, ◌∙◌, refl, ◌+ℤ◌}
use Rattle.std.specs.Int.{w128}
use Rattle.std.proofs.Math.Facts.{to_z-of_z}
use Rattle.key_split.proofs.JoinLemmas.{step, total-fits}
use Rattle.key_split.proofs.joins.total.Goals as goal

pub loop-rest-preserved : goal.loop-rest-preserved
loop-rest-preserved c =
    step c.args.ends.now c.loop-rest.rest.now _ c.end-item.result (to_z w128 c.loop-rest.sum-bits) c.in_ok-number.number (to_z w128 (of_z w128 c.added-sum.result))
    c.loop-rest.invariant c.in-len1-up.len_at_least c.end-item.is c.in_ok-number.ensures.value
    c.in_ok-number.ensures.range.sfits
    (total-fits c.added-sum.result c.added-sum.type_inv ∙ c.added-sum.ensures ∙ ap (λ n. to_z w128 c.loop-rest.sum-bits +ℤ n) (to_z-of_z {w = w64} c.in_ok-number.ensures.range))
    refl
