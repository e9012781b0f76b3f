use Rattle.std.proofs.Common.{ap, arith, length}
use Rattle.script_runs.proofs.Texting.{lines-first, lines-next, lines-all}
use Rattle.script_runs.proofs.scripts.text.push_client.Goals as goal

pub loop-reader-init : goal.loop-reader-init
loop-reader-init c = record {
  is_open = c.in_ok-reader.ensures.open;
  few = omega (arith, ap length c.in_ok-reader.ensures.fed);
  reaches = lines-first c.args.client c.args.bytes.now c.args.out.now.items c.in_ok-reader.reader.unread c.in_ok-reader.ensures.fed;
}

pub loop-reader-preserved : goal.loop-reader-preserved
loop-reader-preserved c =
    let i = c.loop-reader.invariant in
    let takes = rw c.in-Some.is at c.in_ok-value.ensures in
    record {
      is_open = takes.0;
      few = omega (arith, i.few, takes.2);
      reaches = lines-next c.args.client c.loop-reader.number c.args.bytes.now c.args.out.now.items c.loop-reader.out.items c.push_reply.new.out.items
          c.loop-reader.reader c.next_value.new.reader c.in-Some.value takes c.in_ok-push_reply.ensures i.reaches;
    }

pub returns : goal.returns
returns c =
    let takes = rw c.in_default.is at c.in_ok-value.ensures in
    lines-all c.args.client c.loop-reader.number c.args.bytes.now c.args.out.now.items c.loop-reader.out.items c.loop-reader.reader c.next_value.new.reader takes
    c.loop-reader.invariant.reaches

pub overflow_add-number : goal.overflow_add-number
overflow_add-number c =
    let takes = rw c.in-Some.is at c.in_ok-value.ensures in
    omega (arith, c.loop-reader.invariant.few, takes.2, c.in_ok-reader.ensures.bound, ap length c.in_ok-reader.ensures.fed)
