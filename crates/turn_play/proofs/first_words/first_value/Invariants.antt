use Rattle.std.proofs.Common.{◌≡◌, take, None}
use Rattle.resp_wire.specs.LimitsModel.{full}
use Rattle.turn_play.specs.Hearing.{NoValue}
use Rattle.turn_play.proofs.first_words.first_value.Given as goal

abbrev pub invariant-loop-at : goal.invariant-loop-at
invariant-loop-at l = record {
  reader : l.reader ≡ record { bounds = full; unread = take l.at l.bytes; fault = None };
  none : NoValue (take l.at l.bytes);
}
