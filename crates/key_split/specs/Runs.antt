-- Commands that travel together: one client's commands for one slot, which a node executes in order and at once, or not at all.
-- ASKING counts for the next request of its connection alone, so a command that asks goes by itself.
use Rattle.std.specs.Prelude.{◌≡◌, ℕ, ◌+◌, List, ◌∷◌, All, length, false}
use Rattle.std.specs.List.{flat_map}
use Rattle.slot_hash.specs.Slot.{slot_of}
use Rattle.key_split.specs.declared.travel.Batch.{Batch}
use Rattle.key_split.specs.Requests.{Request, requests_of}

-- a nonempty list: its first, and what goes behind it
pub record RunModel : Type 0 where
  pub first : Batch
  pub later : List Batch

-- one client's commands for one slot, on their way to one node, and none of them asks
pub record GoTogether (first : Batch) (next : Batch) : Type 0 where
  pub worker : next.ticket.worker ≡ first.ticket.worker
  pub client : next.ticket.client ≡ first.ticket.client
  pub node : next.node ≡ first.node
  pub slot : slot_of next.part.key ≡ slot_of first.part.key
  pub first_goes_plain : first.asking ≡ false
  pub next_goes_plain : next.asking ≡ false

-- what goes behind the first goes with it
abbrev pub IsTogether : RunModel → Type 0
IsTogether run = All (GoTogether run.first) run.later

abbrev pub batches_in : RunModel → List Batch
batches_in run = run.first ∷ run.later

abbrev pub count_in : RunModel → ℕ
count_in run = length run.later + 1

-- the requests of its commands, in order: a run of one is that command's requests
abbrev pub requests_of_run : RunModel → List Request
requests_of_run run = flat_map requests_of (batches_in run)
