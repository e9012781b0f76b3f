-- For how many clients there is room beside the connections to nodes. A new client's descriptor tells how many descriptors are open.
use Rattle.std.specs.Prelude.{◌≤◌, ◌-◌, ◌*◌, ◌/◌, ◌^◌, ℕ, Option, Some, None, if◌then◌else◌, nat_le, max, min}
use Rattle.std.specs.Option.{unwrap_or}
use Rattle.socket_proxy.specs.declared.client_room.ClientRoom.{ClientRoom}

-- of this number of descriptors 64 are kept for each worker's connections to nodes, or a quarter where that is less
abbrev pub kept_for_nodes : ℕ → ℕ → ℕ
kept_for_nodes descriptors workers = min (64 * workers) (descriptors / 4)

-- the highest descriptor that is meant for a client; where their number is not known there are as many as 64 bits count
abbrev pub last_client : Option ℕ → ℕ → ℕ
last_client descriptors workers =
    let most : ℕ = unwrap_or descriptors (2 ^ 64 - 1) in
    most - kept_for_nodes most workers - 1

-- No client has come.
abbrev pub new_room : Option ℕ → ℕ → ClientRoom
new_room descriptors workers = record { last = last_client descriptors workers; most = None }

-- Where the newest of this number of clients has the last descriptor that is meant for one, no more come. Where it has a higher one, as
-- many are too many as it is higher, but one may always be there.
abbrev pub most_clients : ℕ → ℕ → ℕ → Option ℕ
most_clients last descriptor clients = if nat_le last descriptor then Some (max (clients - (descriptor - last)) 1) else None

abbrev pub IsFull : Option ℕ → ℕ → Type 0
IsFull None clients = ⊥
IsFull (Some most) clients = most ≤ clients
