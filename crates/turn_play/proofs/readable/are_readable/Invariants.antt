use Rattle.std.proofs.Common.{ℕ, ◌<◌}
use Rattle.std.specs.Prelude.{slice_index_or}
use Rattle.resp_wire.specs.declared.value.Value.{Value}
use Rattle.turn_play.specs.Answering.{IsReadable}
use Rattle.turn_play.proofs.readable.are_readable.Given as goal

abbrev pub invariant-loop-at : goal.invariant-loop-at
invariant-loop-at l = (k : ℕ) (d : Value) → k < l.at → IsReadable (slice_index_or l.values.items k d)
