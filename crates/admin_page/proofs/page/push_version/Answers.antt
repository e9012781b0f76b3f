use Rattle.std.proofs.Common.{ℕ, List, [], ◌++◌}
use Rattle.std.specs.Prelude.{codes}
use Rattle.admin_page.specs.Text.{head_text, sample_text}
use Rattle.admin_page.specs.Page.{build_info, gauge, labelled}
use Rattle.admin_page.proofs.Texts.{after, the_last}
use Rattle.admin_page.proofs.page.push_version.Goals as goal

pub returns : goal.returns
returns c =
    let r = c.push_own_version.result in
    let new = c.push_own_version.new.text.items in
    let b2 : List ℕ = (sample_text (codes "cluster_proxy_build_info") (labelled [] (codes "version") c.args.version.now 1)) ++ [] in
    after r c.args.text.now.items c.push_head.new.text.items new (head_text (codes "cluster_proxy_build_info") (codes "gauge") (codes "The version that runs.")) b2 c.in_ok-push_head.ensures
    (the_last r c.push_head.new.text.items new (sample_text (codes "cluster_proxy_build_info") (labelled [] (codes "version") c.args.version.now 1)) c.push_own_version.ensures)
