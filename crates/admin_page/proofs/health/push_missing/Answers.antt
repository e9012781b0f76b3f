use Rattle.admin_page.specs.Health.{missing_line}
use Rattle.admin_page.proofs.Texts.{text-more}
use Rattle.admin_page.proofs.health.push_missing.Goals as goal

pub loop-node-preserved : goal.loop-node-preserved
loop-node-preserved c = text-more missing_line c.args.nodes.now c.loop-node.node-index c.node-item.result _ _ _ c.loop-node-test.true c.node-item.is c.loop-node.invariant c.in_ok-push_line.ensures
