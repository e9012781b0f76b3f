-- The ends of a run's parts, found by their tickets.
-- Only private functions cite it.
use Rattle.std.specs.Prelude.{◌≡◌, ℕ, Bool, List, [], ◌∷◌, Option, Some, None, drop, slice_get, if◌then◌else◌}
use Rattle.std.specs.Map.{lookup}
use Rattle.key_split.specs.Same.{same_ticket}
use Rattle.key_split.specs.declared.travel.Ticket.{Ticket}
use Rattle.key_split.specs.declared.travel.Ended.{Ended}
use Rattle.script_runs.specs.declared.ends.Key.{Key}
use Rattle.script_runs.specs.contracts.ends.KeyPartialEq.TheImpl as key_eq

abbrev pub Told : Type 0
Told = Ticket × Ended

-- the first end that was told of the ticket
abbrev pub end_for : List Told → Ticket → Option Ended
end_for [] ticket = None
end_for (told ∷ more) ticket = if same_ticket told.0 ticket then Some told.1 else end_for more ticket

-- `==` on keys, as it is derived
abbrev pub same_key : Key → Key → Bool
same_key = (key_eq.ghosts).eq

abbrev pub ticket_key : Ticket → Key
ticket_key t = record { worker = t.worker; client = t.client; part = t.part }

-- the place that a table gives a key
abbrev pub found : List (Key × ℕ) → Key → Option ℕ
found entries key = lookup (same_key key) entries

-- the place is that of the ticket's first end among those from n on
abbrev pub IsPlace : List Told → ℕ → Ticket → Option ℕ → Type 0
IsPlace ends n ticket None = end_for (drop n ends) ticket ≡ None
IsPlace ends n ticket (Some place) = (told : Told) × (slice_get ends place ≡ Some told) × (end_for (drop n ends) ticket ≡ Some told.1)

abbrev pub IsIndexFrom : List Told → ℕ → List (Key × ℕ) → Type 0
IsIndexFrom ends n entries = (ticket : Ticket) → IsPlace ends n ticket (found entries (ticket_key ticket))
