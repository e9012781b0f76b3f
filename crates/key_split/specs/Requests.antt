-- What is sent to a node: Redis Cluster specification, "ASK redirection".
-- ASKING counts for the next request of its connection alone, so nothing may come between the two.
use Rattle.std.specs.Prelude.{List, [], ◌∷◌, ◌++◌, if◌then◌else◌}
use Rattle.key_split.specs.PartModel.{PartModel}
use Rattle.key_split.specs.declared.travel.Ticket.{Ticket}
use Rattle.key_split.specs.declared.travel.Batch.{Batch}

-- ASKING, a ticket's command, or CLUSTER SLOTS
pub data Request : Type 0 where
  Asking : Request
  Command : Ticket → PartModel → Request
  Slots : Request

-- a batch is its command, behind ASKING where it asks, with nothing between them
abbrev pub requests_of : Batch → List Request
requests_of batch = (if batch.asking then Asking ∷ [] else []) ++ Command batch.ticket batch.part ∷ []
