use Rattle.std.proofs.Common.{ℕ, List, [], ◌++◌}
use Rattle.std.specs.Prelude.{codes}
use Rattle.admin_page.specs.Text.{family_text}
use Rattle.admin_page.specs.Page.{by_thread, counter, redirects}
use Rattle.admin_page.specs.declared.figures.WorkerFigure.TheVariants.{Parts, GaveUp, Lost}
use Rattle.admin_page.proofs.Texts.{after, the_last}
use Rattle.admin_page.proofs.page.push_parts.Goals as goal

pub returns : goal.returns
returns c =
    let r = c.push_redirects.result in
    let new = c.push_redirects.new.text.items in
    let f = c.args.figures.now in
    let b6 : List ℕ = (family_text (redirects f.carrier)) ++ [] in
    let b5 : List ℕ = (family_text (counter (codes "cluster_proxy_node_parts_unsent_total") (codes "Times that a part found no connection to its node.") f.carrier.unsent)) ++ b6 in
    let b4 : List ℕ = (family_text (counter (codes "cluster_proxy_node_parts_sent_total") (codes "Parts that were sent to nodes, again after a redirect.") f.carrier.sent)) ++ b5 in
    let b3 : List ℕ = (family_text (by_thread (codes "cluster_proxy_parts_lost_total") (codes "Parts whose connection broke, so that their outcome is unknown.") Lost f.workers.now)) ++ b4 in
    let b2 : List ℕ = (family_text (by_thread (codes "cluster_proxy_parts_given_up_total") (codes "Parts that were given up, and not executed.") GaveUp f.workers.now)) ++ b3 in
    after r c.args.text.now.items c.push_by_thread.new.text.items new (family_text (by_thread (codes "cluster_proxy_parts_total") (codes "Parts of requests that ended, each of one slot.") Parts f.workers.now)) b2 c.in_ok-push_by_thread.ensures
    (after r c.push_by_thread.new.text.items c.push_by_thread-2.new.text.items new (family_text (by_thread (codes "cluster_proxy_parts_given_up_total") (codes "Parts that were given up, and not executed.") GaveUp f.workers.now)) b3 c.in_ok-push_by_thread-2.ensures
    (after r c.push_by_thread-2.new.text.items c.push_by_thread-3.new.text.items new (family_text (by_thread (codes "cluster_proxy_parts_lost_total") (codes "Parts whose connection broke, so that their outcome is unknown.") Lost f.workers.now)) b4 c.in_ok-push_by_thread-3.ensures
    (after r c.push_by_thread-3.new.text.items c.push_counter.new.text.items new (family_text (counter (codes "cluster_proxy_node_parts_sent_total") (codes "Parts that were sent to nodes, again after a redirect.") f.carrier.sent)) b5 c.in_ok-push_counter.ensures
    (after r c.push_counter.new.text.items c.push_counter-2.new.text.items new (family_text (counter (codes "cluster_proxy_node_parts_unsent_total") (codes "Times that a part found no connection to its node.") f.carrier.unsent)) b6 c.in_ok-push_counter-2.ensures
    (the_last r c.push_counter-2.new.text.items new (family_text (redirects f.carrier)) c.push_redirects.ensures)))))
