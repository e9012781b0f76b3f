use Rattle.std.proofs.Common.{◌≡◌, ◌≤◌, ◌<◌, ◌+◌, length}
use Rattle.std.specs.Io.KnownBytes.{Consumes}
use Rattle.cluster_world.specs.declared.watched.LastRead.TheVariants.{Bytes}
use Rattle.cluster_world.proofs.input.read_input.Given as goal

abbrev pub invariant-loop-reads : goal.invariant-loop-reads
invariant-loop-reads g l =
    Consumes (g.R.Read.remaining l.fn.reader.reader) (g.R.Read.remaining l.reader.reader) l.bytes.items × (length l.bytes.items ≤ 1048576)
    × (l.reader.reads ≡ l.fn.reader.reads + l.reads) × (0 < l.reads → l.reader.last ≡ Bytes)
