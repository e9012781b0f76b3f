-- The commands between MULTI and EXEC on a plain connection: Redis documentation, "Transactions".
-- At most 1,024 wait. Of a block in which a command was refused none is executed, so nothing of it is kept.
use Rattle.std.specs.Prelude.{Bool, true, false, List, [], ◌∷◌, ◌++◌, length, nat_lt}
use Rattle.key_split.specs.PartModel.{PartModel}
use Rattle.node_server.specs.declared.block.Block.{Block}
use Rattle.node_server.specs.declared.block.Block.TheVariants.{Closed, Queued, Aborted}

-- MULTI came
abbrev pub is_open : Block → Bool
is_open Closed = false
is_open (Queued parts) = true
is_open Aborted = true

-- a command was refused
abbrev pub aborts : Block → Bool
aborts Closed = false
aborts (Queued parts) = false
aborts Aborted = true

-- the commands that wait
abbrev pub parts_in : Block → List PartModel
parts_in Closed = []
parts_in (Queued parts) = parts
parts_in Aborted = []

-- a further one may wait
abbrev pub has_room : Block → Bool
has_room block = nat_lt (length (parts_in block)) 1024

-- it waits behind the others
abbrev pub with_part : Block → PartModel → Block
with_part Closed part = Closed
with_part (Queued parts) part = Queued (parts ++ part ∷ [])
with_part Aborted part = Aborted
