use Rattle.std.proofs.Common.{[], ◌∷◌, map, sym, ap, subst, ◌∙◌, ◌++◌}
use Rattle.key_split.specs.PartModel.{Pair}
use Rattle.node_model.specs.Together.{IsCopy}
use Rattle.node_model.proofs.AllDone.{joins, keys-more}
use Rattle.node_model.proofs.store.Store.copy_part.Goals as goal

pub loop-rest-init : goal.loop-rest-init
loop-rest-init c = λ before h. (
  before ++ c.args.part.now.key ∷ [],
  joins before (c.args.part.now.key ∷ []) (map (λ pair. pair.0) c.rest-rest.result.now) ∙ ap (λ ps. before ++ (c.args.part.now.key ∷ map (λ (pair : Pair). pair.0) ps)) c.rest-rest.ensures.value,
  subst (λ k. IsCopy (before ++ k ∷ []) c.args.self.now c.copy_key.new.copy) c.key.ensures (c.in_ok-copy_key.ensures before h),
)

pub loop-rest-preserved : goal.loop-rest-preserved
loop-rest-preserved c = λ before h. let done = c.loop-rest.invariant before h in (
  done.0 ++ c.index-rest-0.result.0 ∷ [],
  keys-more done.0 _ c.loop-rest.rest.now c.index-rest-0.result c.in-len1-up.len_at_least c.index-rest-0.is done.1,
  subst (λ (p : Pair). IsCopy (done.0 ++ p.0 ∷ []) c.args.self.now c.copy_key-in-len1-up.new.copy) (sym c.index-rest-0.is) (c.in_ok-copy_key-2.ensures done.0 done.2),
)
