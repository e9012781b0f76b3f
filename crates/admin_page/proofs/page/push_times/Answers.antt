use Rattle.admin_page.proofs.Texts.{the_last}
use Rattle.admin_page.proofs.page.push_times.Goals as goal

pub returns : goal.returns
returns c =
    let r = c.push_histogram.result in
    the_last r _ _ _ c.push_histogram.ensures
