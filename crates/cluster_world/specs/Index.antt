-- What the tables of an audit hold: where the things of a report stand, by their tickets.
-- Only private functions cite it.
use Rattle.std.specs.Prelude.{◌≡◌, ◌≢◌, ◌↔◌, ◌<◌, ℕ, Bool, List, length, Option, Some, None, AllPairs, slice_get}
use Rattle.std.specs.HashMap.{HashMap}
use Rattle.std.specs.Map.{lookup}
use Rattle.key_split.specs.declared.travel.Ticket.{Ticket}
use Rattle.node_model.specs.History.{EntryModel}
use Rattle.world_laws.specs.State.{slot_for}
use Rattle.cluster_world.specs.declared.places.Key.{Key}
use Rattle.cluster_world.specs.contracts.places.KeyPartialEq.TheImpl as key_eq

-- `==` on keys, as it is derived
abbrev pub same_key : Key → Key → Bool
same_key = (key_eq.ghosts).eq

abbrev pub ticket_key : Ticket → Key
ticket_key t = record { worker = t.worker; client = t.client; number = t.part }

-- a client's slot
abbrev pub turn_key : EntryModel → Key
turn_key e = record { worker = e.ticket.worker; client = e.ticket.client; number = slot_for e.part }

-- what a table says of a key
abbrev pub found : List (Key × ℕ) → Key → Option ℕ
found entries key = lookup (same_key key) entries

-- the place that a table gives a ticket
abbrev pub place_in : List (Key × ℕ) → Ticket → Option ℕ
place_in entries t = found entries (ticket_key t)

-- a thing of that ticket stands at k, below n
abbrev pub Stands : {X : Type 0} → (X → Ticket) → List X → ℕ → Ticket → ℕ → Type 0
Stands {X} of xs n t k = (k < n) × (x : X) × (slice_get xs k ≡ Some x) × (of x ≡ t)

-- each ticket has the place of its thing, if that stands below n
abbrev pub IsIndexTo : {X : Type 0} → (X → Ticket) → List X → ℕ → (Ticket → Option ℕ) → Type 0
IsIndexTo of xs n at = (t : Ticket) (k : ℕ) → (at t ≡ Some k) ↔ Stands of xs n t k

abbrev pub IsIndex : {X : Type 0} → (X → Ticket) → List X → (Ticket → Option ℕ) → Type 0
IsIndex of xs at = IsIndexTo of xs (length xs) at

abbrev pub Differ : {X : Type 0} → (X → Ticket) → List X → Type 0
Differ of xs = AllPairs (λ a b. of a ≢ of b) xs

-- where each thing stands; none where two have one ticket
abbrev pub Indexes : {X S : Type 0} → (X → Ticket) → List X → Option (HashMap Key ℕ S) → Type 0
Indexes of xs None = Differ of xs → ⊥
Indexes of xs (Some places) = Differ of xs × IsIndex of xs (place_in places.entries)
