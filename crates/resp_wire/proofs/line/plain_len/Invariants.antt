use Rattle.std.proofs.Common.{IsTrue, take}
use Rattle.resp_wire.specs.Text.{is_one_line}
use Rattle.resp_wire.proofs.line.plain_len.Given as goal

abbrev pub invariant-loop-i : goal.invariant-loop-i
invariant-loop-i l = IsTrue (is_one_line (take l.i l.bytes))
