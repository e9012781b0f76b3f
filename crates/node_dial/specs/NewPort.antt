-- A port over which nothing went.
use Rattle.std.specs.Prelude.{◌≡◌, ◌+◌, ℕ, [], Option, Some, None}
use Rattle.slot_map.specs.Table.{Endpoint}
use Rattle.resp_wire.specs.LimitsModel.{full}
use Rattle.node_link.specs.Blocks.{BlockPortModel}

-- no byte waits to be written, none was read, and no reply is awaited
abbrev pub IsUnused : {S : Type 0} → BlockPortModel S → Type 0
IsUnused port =
    (port.bytes.unsent ≡ []) × (port.bytes.input ≡ record { bounds = full; unread = []; fault = None })
    × (port.replies ≡ record { awaited = []; came = []; told = [] })

-- a port over which nothing went, or one more failure; to which machine the port leads no contract says
abbrev pub Dials : {S : Type 0} → Endpoint → Option (BlockPortModel S) → ℕ → ℕ → Type 0
Dials at (Some port) before now = IsUnused port × (now ≡ before)
Dials at None before now = now ≡ before + 1
