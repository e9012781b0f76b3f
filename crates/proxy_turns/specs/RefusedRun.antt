-- The tickets of a run that was refused, told one after the other.
use Rattle.std.specs.Prelude.{ℕ, List, [], Option, Some, None, drop, map}
use Rattle.key_split.specs.Runs.{RunModel, batches_in}
use Rattle.key_split.specs.declared.travel.Batch.{Batch}
use Rattle.key_split.specs.declared.travel.Ticket.{Ticket}

-- the tickets of a run, in order
abbrev pub tickets_in : RunModel → List Ticket
tickets_in run = map (λ (batch : Batch). batch.ticket) (batches_in run)

-- those that are still to be told, where `told` were
abbrev pub tickets_left : Option RunModel → ℕ → List Ticket
tickets_left None told = []
tickets_left (Some run) told = drop told (tickets_in run)
