use Rattle.std.proofs.Common.{ℕ, List, [], ◌++◌}
use Rattle.std.specs.Prelude.{codes}
use Rattle.admin_page.specs.Text.{family_text}
use Rattle.admin_page.specs.Page.{counter, node_up}
use Rattle.admin_page.proofs.Texts.{after, the_last}
use Rattle.admin_page.proofs.page.push_links.Goals as goal

pub returns : goal.returns
returns c =
    let r = c.push_node_up.result in
    let new = c.push_node_up.new.text.items in
    let f = c.args.figures.now in
    let b6 : List ℕ = (family_text (node_up f.nodes.now)) ++ [] in
    let b5 : List ℕ = (family_text (counter (codes "cluster_proxy_node_sent_bytes_total") (codes "Bytes that were written to nodes.") f.carrier.bytes_out)) ++ b6 in
    let b4 : List ℕ = (family_text (counter (codes "cluster_proxy_node_received_bytes_total") (codes "Bytes that were read from nodes.") f.carrier.bytes_in)) ++ b5 in
    let b3 : List ℕ = (family_text (counter (codes "cluster_proxy_node_links_closed_total") (codes "Connections to nodes that ended.") f.carrier.links_gone)) ++ b4 in
    let b2 : List ℕ = (family_text (counter (codes "cluster_proxy_node_links_opened_total") (codes "Connections to nodes that were opened.") f.carrier.links)) ++ b3 in
    after r c.args.text.now.items c.push_counter.new.text.items new (family_text (counter (codes "cluster_proxy_node_dials_failed_total") (codes "Dials of nodes that failed.") f.carrier.dials_failed)) b2 c.in_ok-push_counter.ensures
    (after r c.push_counter.new.text.items c.push_counter-2.new.text.items new (family_text (counter (codes "cluster_proxy_node_links_opened_total") (codes "Connections to nodes that were opened.") f.carrier.links)) b3 c.in_ok-push_counter-2.ensures
    (after r c.push_counter-2.new.text.items c.push_counter-3.new.text.items new (family_text (counter (codes "cluster_proxy_node_links_closed_total") (codes "Connections to nodes that ended.") f.carrier.links_gone)) b4 c.in_ok-push_counter-3.ensures
    (after r c.push_counter-3.new.text.items c.push_counter-4.new.text.items new (family_text (counter (codes "cluster_proxy_node_received_bytes_total") (codes "Bytes that were read from nodes.") f.carrier.bytes_in)) b5 c.in_ok-push_counter-4.ensures
    (after r c.push_counter-4.new.text.items c.push_counter-5.new.text.items new (family_text (counter (codes "cluster_proxy_node_sent_bytes_total") (codes "Bytes that were written to nodes.") f.carrier.bytes_out)) b6 c.in_ok-push_counter-5.ensures
    (the_last r c.push_counter-5.new.text.items new (family_text (node_up f.nodes.now)) c.push_node_up.ensures)))))
