use Rattle.cluster_world.proofs.Ends.{one_more, no_more}
use Rattle.cluster_world.proofs.one.answer.ends_on_empty.Goals as goal

pub loop-rest-preserved : goal.loop-rest-preserved
loop-rest-preserved c = one_more _ _ _ _ _ _ _ _ _ c.in-len1-up.len_at_least c.part-item.is c.in_ok-apply.ensures c.in_ok-push.ensures.items
    c.loop-rest.invariant.0 c.loop-rest.invariant.1

pub returns-clause-ends : goal.returns-clause-ends
returns-clause-ends c = no_more _ _ _ _ _ c.in_default.len_below c.loop-rest.invariant.1
