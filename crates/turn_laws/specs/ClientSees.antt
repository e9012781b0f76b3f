-- What one client sees of the events of its worker: its bytes come, its parts end, and bytes go to it.
use Rattle.std.specs.Prelude.{◌≡◌, ◌≢◌, ℕ, List, [], ◌∷◌, if◌then◌else◌, nat_eq}
use Rattle.key_split.specs.declared.travel.Ticket.{Ticket}
use Rattle.key_split.specs.declared.travel.Ended.{Ended}
use Rattle.proxy_turns.specs.ClientTurn.{ClientEvent, Pulled, Pushed}
use Rattle.proxy_turns.specs.WorkerModel.{WorkerEvent, Did, Finished}

-- what is seen by the one of this number of what happens to the other
abbrev pub if_own : {X : Type 0} → ℕ → ℕ → List X → List X
if_own number other seen = if nat_eq other number then seen else []

-- the bytes that come from a client
abbrev pub pulled_by : ClientEvent → List ℕ
pulled_by (Pulled bytes) = bytes
pulled_by event = []

-- the bytes that go to it
abbrev pub pushed_by : ClientEvent → List ℕ
pushed_by (Pushed bytes) = bytes
pushed_by event = []

-- the bytes that come from the client of this number
abbrev pub bytes_from : ℕ → WorkerEvent → List ℕ
bytes_from number (Did other event) = if_own number other (pulled_by event)
bytes_from number event = []

-- the ends of its parts, with their tickets
abbrev pub ends_for : ℕ → WorkerEvent → List (Ticket × Ended)
ends_for number (Finished other ticket end) = if_own number other ((ticket, end) ∷ [])
ends_for number event = []

-- the bytes that go to it
abbrev pub bytes_to : ℕ → WorkerEvent → List ℕ
bytes_to number (Did other event) = if_own number other (pushed_by event)
bytes_to number event = []

-- a client sees its own bytes, and none of another's
abbrev pub ClientsSeeTheirOwn : Type 0
ClientsSeeTheirOwn =
    (number other : ℕ) (event : ClientEvent)
    → ((bytes_from number (Did number event) ≡ pulled_by event) × (bytes_to number (Did number event) ≡ pushed_by event))
    × (other ≢ number → (bytes_from number (Did other event) ≡ []) × (bytes_to number (Did other event) ≡ []))
