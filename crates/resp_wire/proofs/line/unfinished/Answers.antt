use Rattle.std.proofs.Common.{arith, take, drop, length, ◌-◌, ◌+◌}
use Rattle.resp_wire.proofs.PlaceLaws.{sliced, unfinished_is}
use Rattle.resp_wire.proofs.line.unfinished.Goals as goal

pub returns-in-Ok-None : goal.returns-in-Ok-None
returns-in-Ok-None c =
    let text = take (length c.args.bytes.now - 1) (drop 1 c.args.bytes.now) in
    unfinished_is c.args.bytes.now text _ _ c.args.plain c.plain_len.result c.args.limit (record {
      some = omega arith;
      kind = c.in-Some.ensures.0;
      text_is = sliced c.args.bytes.now 1;
      known = c.requires.plain;
      behind_is = sliced text c.args.plain;
      within = c.plain_len.ensures.within;
      plain_count = c.plain_len.ensures.plain;
      short = omega arith;
      after_is = sliced text (c.args.plain + c.plain_len.result);
      ends = rw c.in-Ok-None.field-0-is at c.in-Ok-None.ensures;
    })
