-- Bytes, however they are held.
-- The model of `Bytes`, which lie in place, in a vector, or in a shared buffer.
use Rattle.std.specs.Prelude.{List, ℕ}
use Rattle.resp_wire.specs.declared.bytes.Held.{Held}
use Rattle.resp_wire.specs.declared.bytes.Held.TheVariants.{Short, Owned, Shared}

abbrev pub bytes_of : Held → List ℕ
bytes_of (Short short) = short
bytes_of (Owned bytes) = bytes.items
bytes_of (Shared part) = part
