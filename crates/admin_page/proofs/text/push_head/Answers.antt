use Rattle.admin_page.proofs.Texts.{after}
use Rattle.admin_page.proofs.text.push_head.Goals as goal

pub returns : goal.returns
returns c =
    let r = c.push_line-2.result in
    after r _ _ _ _ _ c.in_ok-push_line.ensures c.push_line-2.ensures
