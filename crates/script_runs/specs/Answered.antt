-- What the clients of a run were answered, and how their parts ended, as they were handed back.
-- Only private functions cite it.
use Rattle.std.specs.Prelude.{◌≡◌, ◌⊎◌, ℕ, Bool, IsTrue, List, [], replicate, slice_set}
use Rattle.std.specs.List.{fold}
use Rattle.key_split.specs.declared.travel.Ticket.{Ticket}
use Rattle.key_split.specs.declared.travel.Ended.{Ended}
use Rattle.script_runs.specs.declared.record.ClientRecord.{ClientRecord}
use Rattle.script_runs.specs.Run.{IsFront}

-- a client's bytes are put at its place
abbrev pub put_reply : List (List ℕ) → ClientRecord → List (List ℕ)
put_reply replies client = slice_set replies client.client client.replies

-- each client's bytes at its place; none for a client of which there is no record
abbrev pub replies_in : ℕ → List ClientRecord → List (List ℕ)
replies_in count clients = fold put_reply (replicate count []) clients

abbrev pub ends_noted : ClientRecord → List (Ticket × Ended)
ends_noted client = client.ends.items

-- a client's bytes are all of what it is to be answered, and no part of it lacks its end; or a front, where its worker was stopped
abbrev pub Agrees : Bool → List ℕ → Bool → List ℕ → Type 0
Agrees whole output stopped bytes = (IsTrue whole × (bytes ≡ output)) ⊎ (IsTrue stopped × IsFront bytes output)
