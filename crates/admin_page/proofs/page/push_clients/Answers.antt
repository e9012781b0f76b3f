use Rattle.std.proofs.Common.{ℕ, List, [], ◌++◌}
use Rattle.std.specs.Prelude.{codes}
use Rattle.admin_page.specs.Text.{family_text}
use Rattle.admin_page.specs.Page.{by_thread, counter, gauge}
use Rattle.admin_page.specs.declared.figures.WorkerFigure.TheVariants.{ClientsGone, Requests, BytesIn, BytesOut}
use Rattle.admin_page.proofs.Texts.{after, the_last}
use Rattle.admin_page.proofs.page.push_clients.Goals as goal

pub returns : goal.returns
returns c =
    let r = c.push_by_thread-4.result in
    let new = c.push_by_thread-4.new.text.items in
    let f = c.args.figures.now in
    let b6 : List ℕ = (family_text (by_thread (codes "cluster_proxy_client_sent_bytes_total") (codes "Bytes that were written to clients.") BytesOut f.workers.now)) ++ [] in
    let b5 : List ℕ = (family_text (by_thread (codes "cluster_proxy_client_received_bytes_total") (codes "Bytes that were read from clients.") BytesIn f.workers.now)) ++ b6 in
    let b4 : List ℕ = (family_text (by_thread (codes "cluster_proxy_requests_total") (codes "Requests that were read from clients.") Requests f.workers.now)) ++ b5 in
    let b3 : List ℕ = (family_text (by_thread (codes "cluster_proxy_clients_closed_total") (codes "Clients that are gone.") ClientsGone f.workers.now)) ++ b4 in
    let b2 : List ℕ = (family_text (counter (codes "cluster_proxy_clients_accepted_total") (codes "Clients that were accepted.") f.carrier.clients)) ++ b3 in
    after r c.args.text.now.items c.push_gauge.new.text.items new (family_text (gauge (codes "cluster_proxy_clients") (codes "Clients that are connected.") f.process.clients)) b2 c.in_ok-push_gauge.ensures
    (after r c.push_gauge.new.text.items c.push_counter.new.text.items new (family_text (counter (codes "cluster_proxy_clients_accepted_total") (codes "Clients that were accepted.") f.carrier.clients)) b3 c.in_ok-push_counter.ensures
    (after r c.push_counter.new.text.items c.push_by_thread.new.text.items new (family_text (by_thread (codes "cluster_proxy_clients_closed_total") (codes "Clients that are gone.") ClientsGone f.workers.now)) b4 c.in_ok-push_by_thread.ensures
    (after r c.push_by_thread.new.text.items c.push_by_thread-2.new.text.items new (family_text (by_thread (codes "cluster_proxy_requests_total") (codes "Requests that were read from clients.") Requests f.workers.now)) b5 c.in_ok-push_by_thread-2.ensures
    (after r c.push_by_thread-2.new.text.items c.push_by_thread-3.new.text.items new (family_text (by_thread (codes "cluster_proxy_client_received_bytes_total") (codes "Bytes that were read from clients.") BytesIn f.workers.now)) b6 c.in_ok-push_by_thread-3.ensures
    (the_last r c.push_by_thread-3.new.text.items new (family_text (by_thread (codes "cluster_proxy_client_sent_bytes_total") (codes "Bytes that were written to clients.") BytesOut f.workers.now)) c.push_by_thread-4.ensures)))))
