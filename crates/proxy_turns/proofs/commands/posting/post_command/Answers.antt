use Rattle.proxy_turns.proofs.Posting.{came_back, not_made, was_posted}
use Rattle.std.proofs.lemmas.Result.{err_from_is_err_and}
use Rattle.std.proofs.Common.{◌∙◌, [], inl, refl}
use Rattle.proxy_turns.proofs.ClientResting.{refused_full}
use Rattle.proxy_turns.proofs.commands.posting.post_command.Goals as goal

pub returns-in_default-clause-full : goal.returns-in_default-clause-full
returns-in_default-clause-full g c = λ wants. absurd (c.in_default.ensures.none wants)

pub returns-then-not-post_run-clause-full : goal.returns-then-not-post_run-clause-full
returns-then-not-post_run-clause-full g c = λ wants. refused_full c.args.uplink.now.outlet c.post_run.new.outlet _ _ (rw c.if-not-post_run.true at c.post_run.ensures)

pub returns-in_default-clause-ok : goal.returns-in_default-clause-ok
returns-in_default-clause-ok g c = (refl, (inl c.in_default.ensures.aims, inl refl))

pub returns-in_err-batch-clause-err : goal.returns-in_err-batch-clause-err
returns-in_err-batch-clause-err g c =
    rw (err_from_is_err_and c.from_residual.result c.from_residual.ensures.1).1 (not_made c.args.command.now c.args.uplink.now.outlet c.args.uplink.now.view c.aim.new.view c.in-Some.node c.in-Some.ensures.aims)

pub returns-then-not-post_run-clause-ok : goal.returns-then-not-post_run-clause-ok
returns-then-not-post_run-clause-ok g c =
    came_back c.args.command.now c.args.uplink.now.outlet c.post_run.new.outlet c.args.uplink.now.view c.aim.new.view c.in-Some.node c.one.result c.in-Some.ensures.aims (rw c.if-not-post_run.true at c.post_run.ensures)

pub returns-clause-ok : goal.returns-clause-ok
returns-clause-ok g c =
    was_posted c.args.command.now c.posted.new.self c.args.uplink.now.outlet c.post_run.new.outlet c.args.uplink.now.view c.aim.new.view c.in-Some.node c.one.result c.in-Some.ensures.aims
    (c.one.ensures ∙ (λ i. record { first = c.in_ok-batch.ensures.progress i; later = [] })) (rw c.if-not-post_run.false at c.post_run.ensures) c.posted.ensures.progress
