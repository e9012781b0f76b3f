use Rattle.std.proofs.Common.{◌∙◌, ap, ◌<◌, arith, length}
use Rattle.key_split.specs.Runs.{RunModel}
use Rattle.proxy_turns.proofs.Posting.{one_more_goes, all_made}
use Rattle.proxy_turns.proofs.commands.posting.run_of.Goals as goal

pub loop-rest-preserved : goal.loop-rest-preserved
loop-rest-preserved c =
    let i = c.loop-rest.invariant in
    let pushed = c.in_ok-push_to.ensures in
    let more = one_more_goes c.args.first.now c.args.node c.args.later.now c.loop-rest.rest.now c.next-item.result c.loop-rest.run.later c.push_to.new.run.later c.in_ok-batch-2.batch
    c.in-len1-up.len_at_least c.next-item.is c.in_ok-batch-2.ensures.progress (ap (λ (r : RunModel). r.later) pushed) i.later i.goes in
    record { first = ap (λ (r : RunModel). r.first) pushed ∙ i.first; later = more.0; goes = more.1 }

pub returns : goal.returns
returns c =
    let i = c.loop-rest.invariant in
    let none : length c.loop-rest.rest.now < 1 = omega arith in
    all_made c.args.first.now c.args.node c.args.later.now c.loop-rest.rest.now c.loop-rest.run none i.first i.later
