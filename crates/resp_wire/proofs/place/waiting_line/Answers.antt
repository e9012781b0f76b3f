use Rattle.resp_wire.proofs.PlaceLaws.{some_waits}
use Rattle.resp_wire.proofs.place.waiting_line.Goals as goal

pub returns : goal.returns
returns c = some_waits c.args.limits.now c.args.counts.now c.args.bytes.now c.line.result c.unfinished.result c.if-not-wants_item.ensures c.line.ensures.value c.unfinished.ensures
