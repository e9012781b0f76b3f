use Rattle.admin_page.specs.Text.{sample_text}
use Rattle.admin_page.specs.Page.{node_sample}
use Rattle.admin_page.proofs.Texts.{mapped-more}
use Rattle.admin_page.proofs.families.push_nodes.Goals as goal

pub loop-node-preserved : goal.loop-node-preserved
loop-node-preserved c = mapped-more (sample_text c.args.name.now) node_sample c.args.nodes.now c.loop-node.node-index c.node-item.result _ _ _ c.loop-node-test.true c.node-item.is c.loop-node.invariant c.in_ok-push_node.ensures
