use Rattle.admin_page.proofs.Texts.{after}
use Rattle.admin_page.proofs.page.push_node_up.Goals as goal

pub returns : goal.returns
returns c =
    let r = c.push_nodes.result in
    after r _ _ _ _ _ c.in_ok-push_head.ensures c.push_nodes.ensures
