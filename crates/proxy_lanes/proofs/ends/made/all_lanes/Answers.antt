use Rattle.std.proofs.Common.{◌≡◌, ◌+◌, length, arith, length-append, subst}
use Rattle.proxy_lanes.specs.Carrier.{AreLanesOf}
use Rattle.proxy_lanes.proofs.OneMore.{one_more}
use Rattle.proxy_lanes.proofs.ends.made.all_lanes.Goals as goal

pub loop-worker-preserved : goal.loop-worker-preserved
loop-worker-preserved g c =
    let kept = c.loop-worker.invariant in
    let place : c.loop-worker.worker ≡ 0 + length c.loop-worker.ends.items = omega (arith, kept.ends) in
    let own = c.in_ok-own.own in
    let lane = c.in_ok-own.lane in
    let of_new : AreLanesOf c.args.workers c.loop-worker.worker own lane = c.in_ok-own.ensures.lanes in
    let more = one_more c.args.workers 0 _ _ kept.lanes own lane (subst (λ n. AreLanesOf c.args.workers n own lane) place of_new) in
    record {
      ends = rw (c.in_ok-push.ensures.items, length-append) (omega (arith, kept.ends));
      count = rw (c.in_ok-push-2.ensures.items, length-append) (omega (arith, kept.count));
      lanes = rw (c.in_ok-push.ensures.items, c.in_ok-push-2.ensures.items) more;
    }
