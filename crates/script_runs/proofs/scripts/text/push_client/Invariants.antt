use Rattle.std.proofs.Common.{◌≤◌, ◌+◌, length}
use Rattle.script_runs.specs.Wanted.{IsOpen}
use Rattle.script_runs.proofs.Texting.{LinesReach}
use Rattle.script_runs.proofs.scripts.text.push_client.Given as goal

abbrev pub invariant-loop-reader : goal.invariant-loop-reader
invariant-loop-reader l = record {
  is_open : IsOpen l.reader;
  few : l.number + length l.reader.unread ≤ length l.bytes;
  reaches : LinesReach l.client l.bytes l.fn.out.items l.number l.reader.unread l.out.items;
}

abbrev pub decreases-loop-reader : goal.decreases-loop-reader
decreases-loop-reader l = length l.reader.unread
