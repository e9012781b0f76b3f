-- The page of figures: its families in order, with their names and what each counts.
use Rattle.std.specs.Prelude.{ℕ, List, [], ◌∷◌, ◌++◌, Option, Some, None, Bool, codes, decimal, map, option_to_list, if◌then◌else◌}
use Rattle.std.specs.List.{flat_map, range_with_len}
use Rattle.admin_page.specs.declared.figures.WorkerFigure.{WorkerFigure}
use Rattle.admin_page.specs.declared.figures.WorkerFigure.TheVariants.{ClientsGone, Requests, Parts, GaveUp, Lost, BytesIn, BytesOut}
use Rattle.admin_page.specs.declared.figures.WorkerFigures.{WorkerFigures}
use Rattle.admin_page.specs.declared.figures.CarrierFigures.{CarrierFigures}
use Rattle.admin_page.specs.declared.figures.NodeFigures.{NodeFigures}
use Rattle.admin_page.specs.declared.figures.Figures.{Figures}
use Rattle.admin_page.specs.declared.times.Times.{Times}
use Rattle.admin_page.specs.Text.{Sample, Family, family_text}
use Rattle.admin_page.specs.Times.{bound_at, bound_text, seconds_text, total, up_to}

-- a value without a label
abbrev pub plain : ℕ → Sample
plain value = record { suffix = []; label = None; value = decimal value }

-- a value with a label, under the family's name with a suffix
abbrev pub labelled : List ℕ → List ℕ → List ℕ → ℕ → Sample
labelled suffix name label value = record { suffix = suffix; label = Some (record { name = name; value = label }); value = decimal value }

-- a number that only rises, and one that may fall
abbrev pub counter : List ℕ → List ℕ → ℕ → Family
counter name help value = record { name = name; kind = codes "counter"; help = help; samples = plain value ∷ [] }

abbrev pub gauge : List ℕ → List ℕ → ℕ → Family
gauge name help value = record { name = name; kind = codes "gauge"; help = help; samples = plain value ∷ [] }

-- one that the system may not tell
abbrev pub known_gauge : List ℕ → List ℕ → Option ℕ → Family
known_gauge name help value = record { name = name; kind = codes "gauge"; help = help; samples = map plain (option_to_list value) }

-- a worker's figures

abbrev pub count_of : WorkerFigure → WorkerFigures → ℕ
count_of ClientsGone worker = worker.clients_gone
count_of Requests worker = worker.requests
count_of Parts worker = worker.parts
count_of GaveUp worker = worker.gave_up
count_of Lost worker = worker.lost
count_of BytesIn worker = worker.bytes_in
count_of BytesOut worker = worker.bytes_out

abbrev pub thread_sample : WorkerFigure → WorkerFigures → Sample
thread_sample figure worker = labelled [] (codes "thread") (decimal worker.number) (count_of figure worker)

abbrev pub by_thread : List ℕ → List ℕ → WorkerFigure → List WorkerFigures → Family
by_thread name help figure workers = record { name = name; kind = codes "counter"; help = help; samples = map (thread_sample figure) workers }

-- the nodes

abbrev pub one_if : Bool → ℕ
one_if holds = if holds then 1 else 0

abbrev pub node_sample : NodeFigures → Sample
node_sample node = labelled [] (codes "node") node.address (one_if node.has_link)

-- the buckets of the histogram, each with those before it

abbrev pub bucket_sample : List ℕ → ℕ → Sample
bucket_sample counts place = labelled (codes "_bucket") (codes "le") (bound_text (bound_at place)) (up_to place counts)

abbrev pub sum_samples : Times → List Sample
sum_samples times =
    record { suffix = codes "_sum"; label = None; value = seconds_text times.micros }
    ∷ record { suffix = codes "_count"; label = None; value = decimal (total times.counts) }
    ∷ []

abbrev pub histogram_samples : Times → List Sample
histogram_samples times = map (bucket_sample times.counts) (range_with_len 0 16) ++ sum_samples times

abbrev pub histogram : List ℕ → List ℕ → Times → Family
histogram name help times = record { name = name; kind = codes "histogram"; help = help; samples = histogram_samples times }

-- families with labels of their own

abbrev pub build_info : List ℕ → Family
build_info version = record {
  name = codes "cluster_proxy_build_info";
  kind = codes "gauge";
  help = codes "The version that runs.";
  samples = labelled [] (codes "version") version 1 ∷ [];
}

abbrev pub redirects : CarrierFigures → Family
redirects carrier = record {
  name = codes "cluster_proxy_node_redirects_total";
  kind = codes "counter";
  help = codes "Replies by which nodes refused a part, by their kind.";
  samples =
      labelled [] (codes "kind") (codes "moved") carrier.moved
      ∷ labelled [] (codes "kind") (codes "ask") carrier.ask
      ∷ labelled [] (codes "kind") (codes "tryagain") carrier.tryagain
      ∷ labelled [] (codes "kind") (codes "clusterdown") carrier.clusterdown
      ∷ [];
}

abbrev pub node_up : List NodeFigures → Family
node_up nodes = record {
  name = codes "cluster_proxy_node_up";
  kind = codes "gauge";
  help = codes "Whether there is a connection to the node.";
  samples = map node_sample nodes;
}

-- the families

abbrev pub build_families : Figures → List Family
build_families f =
    build_info f.version.now
    ∷ known_gauge (codes "process_resident_memory_bytes") (codes "Resident memory size in bytes.") f.process.resident_bytes
    ∷ known_gauge (codes "process_open_fds") (codes "Number of open file descriptors.") f.process.open_descriptors
    ∷ known_gauge (codes "process_max_fds") (codes "Maximum number of open file descriptors.") f.process.allowed_descriptors
    ∷ []

abbrev pub client_families : Figures → List Family
client_families f =
    gauge (codes "cluster_proxy_clients") (codes "Clients that are connected.") f.process.clients
    ∷ counter (codes "cluster_proxy_clients_accepted_total") (codes "Clients that were accepted.") f.carrier.clients
    ∷ by_thread (codes "cluster_proxy_clients_closed_total") (codes "Clients that are gone.") ClientsGone f.workers.now
    ∷ by_thread (codes "cluster_proxy_requests_total") (codes "Requests that were read from clients.") Requests f.workers.now
    ∷ by_thread (codes "cluster_proxy_client_received_bytes_total") (codes "Bytes that were read from clients.") BytesIn f.workers.now
    ∷ by_thread (codes "cluster_proxy_client_sent_bytes_total") (codes "Bytes that were written to clients.") BytesOut f.workers.now
    ∷ []

abbrev pub part_families : Figures → List Family
part_families f =
    by_thread (codes "cluster_proxy_parts_total") (codes "Parts of requests that ended, each of one slot.") Parts f.workers.now
    ∷ by_thread (codes "cluster_proxy_parts_given_up_total") (codes "Parts that were given up, and not executed.") GaveUp f.workers.now
    ∷ by_thread (codes "cluster_proxy_parts_lost_total") (codes "Parts whose connection broke, so that their outcome is unknown.") Lost f.workers.now
    ∷ counter (codes "cluster_proxy_node_parts_sent_total") (codes "Parts that were sent to nodes, again after a redirect.") f.carrier.sent
    ∷ counter (codes "cluster_proxy_node_parts_unsent_total") (codes "Times that a part found no connection to its node.") f.carrier.unsent
    ∷ redirects f.carrier
    ∷ []

abbrev pub node_families : Figures → List Family
node_families f =
    counter (codes "cluster_proxy_node_dials_failed_total") (codes "Dials of nodes that failed.") f.carrier.dials_failed
    ∷ counter (codes "cluster_proxy_node_links_opened_total") (codes "Connections to nodes that were opened.") f.carrier.links
    ∷ counter (codes "cluster_proxy_node_links_closed_total") (codes "Connections to nodes that ended.") f.carrier.links_gone
    ∷ counter (codes "cluster_proxy_node_received_bytes_total") (codes "Bytes that were read from nodes.") f.carrier.bytes_in
    ∷ counter (codes "cluster_proxy_node_sent_bytes_total") (codes "Bytes that were written to nodes.") f.carrier.bytes_out
    ∷ node_up f.nodes.now
    ∷ []

abbrev pub time_families : Figures → List Family
time_families f =
    histogram (codes "cluster_proxy_request_duration_seconds") (codes "Time from a request's reading to its reply's writing.") f.times.now ∷ []

abbrev pub families_text : List Family → List ℕ
families_text families = flat_map family_text families

abbrev pub page_text : Figures → List ℕ
page_text f =
    families_text (build_families f) ++ families_text (client_families f) ++ families_text (part_families f)
    ++ families_text (node_families f) ++ families_text (time_families f)
