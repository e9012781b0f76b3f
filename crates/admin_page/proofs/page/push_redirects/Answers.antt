use Rattle.std.proofs.Common.{ℕ, List, [], ◌++◌}
use Rattle.std.specs.Prelude.{codes}
use Rattle.admin_page.specs.Text.{head_text, sample_text}
use Rattle.admin_page.specs.Page.{counter, labelled, redirects}
use Rattle.admin_page.proofs.Texts.{after, the_last}
use Rattle.admin_page.proofs.page.push_redirects.Goals as goal

pub returns : goal.returns
returns c =
    let r = c.push_redirect-4.result in
    let new = c.push_redirect-4.new.text.items in
    let b5 : List ℕ = (sample_text (codes "cluster_proxy_node_redirects_total") (labelled [] (codes "kind") (codes "clusterdown") c.args.carrier.now.clusterdown)) ++ [] in
    let b4 : List ℕ = (sample_text (codes "cluster_proxy_node_redirects_total") (labelled [] (codes "kind") (codes "tryagain") c.args.carrier.now.tryagain)) ++ b5 in
    let b3 : List ℕ = (sample_text (codes "cluster_proxy_node_redirects_total") (labelled [] (codes "kind") (codes "ask") c.args.carrier.now.ask)) ++ b4 in
    let b2 : List ℕ = (sample_text (codes "cluster_proxy_node_redirects_total") (labelled [] (codes "kind") (codes "moved") c.args.carrier.now.moved)) ++ b3 in
    after r c.args.text.now.items c.push_head.new.text.items new (head_text (codes "cluster_proxy_node_redirects_total") (codes "counter") (codes "Replies by which nodes refused a part, by their kind.")) b2 c.in_ok-push_head.ensures
    (after r c.push_head.new.text.items c.push_redirect.new.text.items new (sample_text (codes "cluster_proxy_node_redirects_total") (labelled [] (codes "kind") (codes "moved") c.args.carrier.now.moved)) b3 c.in_ok-push_redirect.ensures
    (after r c.push_redirect.new.text.items c.push_redirect-2.new.text.items new (sample_text (codes "cluster_proxy_node_redirects_total") (labelled [] (codes "kind") (codes "ask") c.args.carrier.now.ask)) b4 c.in_ok-push_redirect-2.ensures
    (after r c.push_redirect-2.new.text.items c.push_redirect-3.new.text.items new (sample_text (codes "cluster_proxy_node_redirects_total") (labelled [] (codes "kind") (codes "tryagain") c.args.carrier.now.tryagain)) b5 c.in_ok-push_redirect-3.ensures
    (the_last r c.push_redirect-3.new.text.items new (sample_text (codes "cluster_proxy_node_redirects_total") (labelled [] (codes "kind") (codes "clusterdown") c.args.carrier.now.clusterdown)) c.push_redirect-4.ensures))))
