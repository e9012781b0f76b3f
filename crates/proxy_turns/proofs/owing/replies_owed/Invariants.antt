use Rattle.std.proofs.Common.{◌≡◌, ◌≤◌, ◌+◌, ◌^◌, None, length}
use Rattle.resp_wire.specs.LimitsModel.{full}
use Rattle.proxy_turns.proofs.Counting.{GoesOn}
use Rattle.proxy_turns.proofs.owing.replies_owed.Given as goal

abbrev pub invariant-loop-reader : goal.invariant-loop-reader
invariant-loop-reader l = record {
  bounds : l.reader.bounds ≡ full;
  faultless : l.reader.fault ≡ None;
  few : l.numbered ≤ 2 ^ 48;
  short : l.owed + length l.reader.unread ≤ length l.bytes;
  goes : GoesOn l.bytes l.owed l.numbered l.reader.unread;
}

abbrev pub decreases-loop-reader : goal.decreases-loop-reader
decreases-loop-reader l = length l.reader.unread
