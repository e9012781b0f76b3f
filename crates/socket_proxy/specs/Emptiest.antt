-- A worker than which none has fewer clients.

use Rattle.std.specs.Prelude.{◌<◌, ◌≤◌, ◌-◌, ◌^◌, ℕ, Bool, true, false, List, length, slice_index}

-- there is such a worker, and none has fewer clients
abbrev pub IsEmptiest : List ℕ → ℕ → Type 0
IsEmptiest clients worker = (worker < length clients) × ((other : ℕ) → other < length clients → slice_index clients worker ≤ slice_index clients other)

-- in place of the number of its clients, of a worker that takes none now
abbrev pub closed : ℕ
closed = 2 ^ 64 - 1

-- how many clients a worker has: those that it was dealt and that are not gone, where it takes clients
abbrev pub clients_of : Bool → ℕ → ℕ → ℕ
clients_of true dealt gone = dealt - gone
clients_of false dealt gone = closed

-- it takes clients, and none has fewer
abbrev pub IsEmptiestOpen : List ℕ → ℕ → Type 0
IsEmptiestOpen clients worker = IsEmptiest clients worker × (slice_index clients worker < closed)

-- none takes clients
abbrev pub AreClosed : List ℕ → Type 0
AreClosed clients = (worker : ℕ) → worker < length clients → closed ≤ slice_index clients worker
