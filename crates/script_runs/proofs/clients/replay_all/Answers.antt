use Rattle.std.proofs.Common.{◌≡◌, ◌<◌, ap, arith, length}
use Rattle.script_runs.specs.Replayed.{state_of}
use Rattle.script_runs.proofs.Judging.{reaches-first, reaches-on, found-all}
use Rattle.script_runs.proofs.clients.replay_all.Goals as goal

pub loop-client-init : goal.loop-client-init
loop-client-init c =
    reaches-first c.args.workers c.args.stopped.now c.args.ends.now c.args.scripts.now c.args.replies.now c.new-parts.result.items c.new-parts.ensures.items

pub loop-client-preserved : goal.loop-client-preserved
loop-client-preserved c =
    let here : c.loop-client.client < length c.args.replies.now = omega (arith, c.loop-client-test.true, c.requires.each) in
    reaches-on c.args.workers c.args.stopped.now c.args.ends.now c.in_ok-table.table c.args.scripts.now c.args.replies.now c.loop-client.client c.of-client_id.result
    c.loop-client.parts.items (state_of c.in_ok-made.made) c.loop-client.are_answered c.is_stopped.result c.agrees-agreed.result c.both-are_answered.result
    c.index-scripts-client.result c.index-replies-client.result c.into_parts-parts.result.items c.of-client_id.ensures c.in_ok-table.ensures c.loop-client-test.true here
    c.index-scripts-client.is c.index-replies-client.is
    c.in_ok-made.ensures (ap (λ v. v.items) c.into_parts-parts.ensures) c.is_stopped.ensures c.agrees-agreed.ensures c.both-are_answered.ensures c.loop-client.invariant

pub returns : goal.returns
returns c =
    let end : c.loop-client.client ≡ length c.args.scripts.now = omega (arith, c.loop-client-test.false, c.loop-client.auto.client-end) in
    let end' : c.loop-client.client ≡ length c.args.replies.now = omega (arith, end, c.requires.each) in
    found-all c.args.workers c.args.stopped.now c.args.ends.now c.args.scripts.now c.args.replies.now c.loop-client.client c.loop-client.parts.items
    c.loop-client.are_answered end end' c.loop-client.invariant
