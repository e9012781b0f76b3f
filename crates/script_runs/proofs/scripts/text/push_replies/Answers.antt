use Rattle.std.proofs.Common.{◌≡◌, arith, length}
use Rattle.script_runs.proofs.Texting.{text-first, text-next, text-all}
use Rattle.script_runs.proofs.scripts.text.push_replies.Goals as goal

pub loop-client-init : goal.loop-client-init
loop-client-init c = text-first c.args.replies.now c.args.out.now.items

pub loop-client-preserved : goal.loop-client-preserved
loop-client-preserved c =
    text-next c.args.replies.now c.loop-client.client c.args.out.now.items c.loop-client.out.items c.push_client.new.out.items c.index-replies-client.result
    c.loop-client-test.true c.index-replies-client.is c.in_ok-push_client.ensures c.loop-client.invariant

pub returns : goal.returns
returns c =
    let end : c.loop-client.client ≡ length c.args.replies.now = omega (arith, c.loop-client-test.false, c.loop-client.auto.client-end) in
    text-all c.args.replies.now c.loop-client.client c.args.out.now.items c.loop-client.out.items end c.loop-client.invariant
