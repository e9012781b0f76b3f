-- When the report of a run is lawful and of these scripts.
-- The parts are planned anew from the scripts, so the report alone decides, whatever threads did. The replies are
-- session_order's `output_of`.
use Rattle.std.specs.Prelude.{◌≡◌, ◌⊎◌, ◌+◌, ◌%◌, ◌&&◌, ◌++◌, ℕ, nat_eq, List, [], ◌∷◌, filter, All, Any}
use Rattle.std.specs.List.{flat_map}
use Rattle.key_split.specs.PartModel.{PartModel}
use Rattle.key_split.specs.declared.travel.Ticket.{Ticket}
use Rattle.key_split.specs.declared.travel.Ended.{Ended}
use Rattle.session_order.specs.Output.{output_of}
use Rattle.cluster_world.specs.Lawful.{IsLawful}
use Rattle.cluster_world.specs.declared.run_report.RunReport.{RunReport}
use Rattle.script_runs.specs.declared.client_id.ClientId.{ClientId}
use Rattle.script_runs.specs.Requests.{Requested, AsksFor, parts_for}

-- client c is on worker c modulo the workers
abbrev pub client_id_of : ℕ → ℕ → ClientId
client_id_of workers client = record { worker = client % workers; client = client }

abbrev pub ticket_at : ClientId → ℕ → Ticket
ticket_at client_id number = record { worker = client_id.worker; client = client_id.client; part = number }

-- parts of a client, numbered on from this number
abbrev pub numbered : ClientId → ℕ → List PartModel → List (Ticket × PartModel)
numbered client_id number [] = []
numbered client_id number (part ∷ parts) = (ticket_at client_id number, part) ∷ numbered client_id (number + 1) parts

-- all parts that a client asks for
abbrev pub parts_of : ClientId → Requested → List (Ticket × PartModel)
parts_of client_id asked = numbered client_id 0 (flat_map parts_for asked.requests)

-- all parts, client by client, from this client on
abbrev pub parts_from : ℕ → ℕ → List Requested → List (Ticket × PartModel)
parts_from workers client [] = []
parts_from workers client (asked ∷ more) = parts_of (client_id_of workers client) asked ++ parts_from workers (client + 1) more

-- the ends of a client's parts
abbrev pub ends_of : ClientId → List (Ticket × Ended) → List (Ticket × Ended)
ends_of client_id ends = filter (λ end. nat_eq end.0.worker client_id.worker && nat_eq end.0.client client_id.client) ends

-- what a client is answered that asks for this and whose parts end so
abbrev pub output_for : ClientId → List (Ticket × Ended) → Requested → List ℕ
output_for client_id ends asked = output_of asked.requests (ends_of client_id ends) asked.faulted

abbrev pub HaveEnds : List (Ticket × Ended) → List (Ticket × PartModel) → Type 0
HaveEnds ends parts = All (λ part. Any (λ end. end.0 ≡ part.0) ends) parts

abbrev pub IsStopped : List ℕ → ℕ → Type 0
IsStopped stopped worker = Any (λ one. one ≡ worker) stopped

abbrev pub IsFront : List ℕ → List ℕ → Type 0
IsFront bytes whole = (more : List ℕ) × (whole ≡ bytes ++ more)

-- Each part of the client has its end, and its bytes are the output. Where the gate stopped its worker parts may lack an
-- end, and the bytes are a front of the output.
abbrev pub IsAnswered : List ℕ → List (Ticket × Ended) → ClientId → Requested → List ℕ → Type 0
IsAnswered stopped ends client_id asked bytes =
    (HaveEnds ends (parts_of client_id asked) × (bytes ≡ output_for client_id ends asked))
    ⊎ (IsStopped stopped client_id.worker × IsFront bytes (output_for client_id ends asked))

-- each client, from this one on, was answered so
abbrev pub AreAnswered : ℕ → List ℕ → List (Ticket × Ended) → ℕ → List Requested → List (List ℕ) → Type 0
AreAnswered workers stopped ends client [] [] = Unit {0}
AreAnswered workers stopped ends client [] (bytes ∷ more) = ⊥
AreAnswered workers stopped ends client (asked ∷ later) [] = ⊥
AreAnswered workers stopped ends client (asked ∷ later) (bytes ∷ more) =
    IsAnswered stopped ends (client_id_of workers client) asked bytes × AreAnswered workers stopped ends (client + 1) later more

-- the scripts ask for this, each for its own
abbrev pub AskFor : List (List ℕ) → List Requested → Type 0
AskFor [] [] = Unit {0}
AskFor [] (asked ∷ later) = ⊥
AskFor (script ∷ scripts) [] = ⊥
AskFor (script ∷ scripts) (asked ∷ later) = AsksFor 0 script asked × AskFor scripts later

-- The report is lawful, its parts are those that the scripts ask for, client by client and numbered in order, and each
-- client was answered what its script and these ends say.
pub record IsRunOf (scripts : List (List ℕ)) (workers : ℕ) (report : RunReport) : Type 0 where
  pub asked : List Requested
  pub asks : AskFor scripts asked
  pub lawful : IsLawful report.parts.items report.ends.items report.history.items
  pub parts : report.parts.items ≡ parts_from workers 0 asked
  pub answered : AreAnswered workers report.stopped.items report.ends.items 0 asked report.replies.items
