use Rattle.std.proofs.Common.{◌≡◌, ◌++◌, map}
use Rattle.std.specs.Vec.Iter.{into_iter_items}
use Rattle.resp_wire.specs.Data.{bulk}
use Rattle.resp_wire.specs.Seen.{data_of}
use Rattle.script_runs.proofs.scripts.line.request_of.Given as goal

abbrev pub invariant-loop-word : goal.invariant-loop-word
invariant-loop-word l = record { all : map data_of l.items.items ++ map bulk (into_iter_items l.word-iterator) ≡ map bulk l.fn.words }
