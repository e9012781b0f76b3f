use Rattle.std.proofs.Common.{[], refl, ap, ◌∙◌, ◌++◌}
use Rattle.std.specs.FinMap.{get, get-empty}
use Rattle.std.specs.Ordering.{nat_cmp}
use Rattle.std.specs.Cmp.Lexicographic.{slice_cmp}
use Rattle.key_split.specs.PartModel.{keys_of}
use Rattle.node_model.proofs.AllDone.{nothing-copied, run-keys-more}
use Rattle.node_model.proofs.store.Store.copy_for.Goals as goal

pub loop-rest-init : goal.loop-rest-init
loop-rest-init c = ([], refl, nothing-copied _ _ (λ q. ap (λ s. get s q) c.new-copy.ensures ∙ get-empty (slice_cmp nat_cmp) q))

pub loop-rest-preserved : goal.loop-rest-preserved
loop-rest-preserved c =
    let done = c.loop-rest.invariant in (
      done.0 ++ keys_of c.part-item.result,
      run-keys-more done.0 _ c.loop-rest.rest.now c.part-item.result c.in-len1-up.len_at_least c.part-item.is done.1,
      c.in_ok-copy_part.ensures done.0 done.2,
    )
