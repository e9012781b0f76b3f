use Rattle.admin_page.proofs.Texts.{after}
use Rattle.admin_page.proofs.families.push_by_thread.Goals as goal

pub returns : goal.returns
returns c =
    let r = c.push_workers.result in
    after r _ _ _ _ _ c.in_ok-push_head.ensures c.push_workers.ensures
