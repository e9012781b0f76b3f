-- A port of a play: the carrier's end of a connection in bytes, with a stream in memory, at whose other end a node of the play reads and
-- writes.
use Rattle.std.specs.Prelude.{◌≡◌, ℕ, true, Option, Some, None}
use Rattle.resp_wire.specs.LimitsModel.{full}
use Rattle.slot_map.specs.Table.{Endpoint}
use Rattle.node_link.specs.Blocks.{BlockPortModel, block_calls, longest_at}
use Rattle.node_link.specs.Port.{PortCalls}
use Rattle.turn_laws.specs.Wire.{Wire}
use Rattle.turn_laws.specs.ByteWires.{IsWiredTo, new_port}
use Rattle.turn_play.specs.Stream.{StreamAsked, StreamModel, StreamMoves, StreamOffered, far_end, new_stream, no_failures}

abbrev pub PortModel : Type 0
PortModel = BlockPortModel StreamModel

-- the port stands for this wire
abbrev pub IsEnd : PortModel → Wire → Type 0
IsEnd port wire = IsWiredTo far_end port wire

-- what it says of its calls: what any port over bytes does, of its stream
abbrev pub port_calls : PortCalls PortModel
port_calls = block_calls no_failures StreamMoves StreamAsked StreamOffered

abbrev pub longest_run : PortModel → ℕ
longest_run port = longest_at port

-- ---- a new one

-- how many bytes one call over a new connection moves at most
abbrev pub most_at_first : ℕ
most_at_first = 65536

abbrev pub fresh_port : PortModel
fresh_port = new_port (new_stream most_at_first) full true

-- a dial gives a port over which nothing went
abbrev pub IsFresh : Endpoint → Option PortModel → ℕ → ℕ → Type 0
IsFresh at (Some port) before now = port ≡ fresh_port
IsFresh at None before now = ⊥
