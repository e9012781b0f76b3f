use Rattle.std.proofs.lemmas.Result.{err_from_is_err_and}
use Rattle.proxy_turns.proofs.Going.{goes_of, stays}
use Rattle.proxy_turns.specs.ClientTurn.{is_post}
use Rattle.proxy_turns.proofs.Settling.{posted_by}
use Rattle.proxy_turns.proofs.client_parts.ClientParts.repost.Goals as goal

pub returns-then-not-may_repost-clause-settled : goal.returns-then-not-may_repost-clause-settled
returns-then-not-may_repost-clause-settled g c = c.may_repost.ensures.none c.if-not-may_repost.true

pub returns-then-branch-clause-settled : goal.returns-then-branch-clause-settled
returns-then-branch-clause-settled g c =
    posted_by c.args.self.now.commands c.post_again.new.self c.args.number c.args.uplink.now.outlet c.post_again.new.uplink.outlet c.args.uplink.now.view c.post_again.new.uplink.view c.in_ok-post_again.field-0 c.if-branch.true c.in_ok-post_again.ensures.commands

pub returns-then-not-may_repost-clause-settles : goal.returns-then-not-may_repost-clause-settles
returns-then-not-may_repost-clause-settles g c = goes_of g.C.ClientPort.moves is_post _ _ _ (stays g.C.ClientPort.moves is_post _)

pub returns-in_err-post_again-clause-settles : goal.returns-in_err-post_again-clause-settles
returns-in_err-post_again-clause-settles g c =
    let is = (err_from_is_err_and c.from_residual.result c.from_residual.ensures.1).1 in
    let done = c.in_err-post_again.ensures.posts in
    rw is (done.0, goes_of g.C.ClientPort.moves is_post _ _ _ done.1)

pub returns-then-branch-clause-settles : goal.returns-then-branch-clause-settles
returns-then-branch-clause-settles g c = goes_of g.C.ClientPort.moves is_post _ _ _ (rw c.if-branch.true at c.in_ok-post_again.ensures.posts)

pub returns-clause-settles : goal.returns-clause-settles
returns-clause-settles g c = goes_of g.C.ClientPort.moves is_post _ _ _ (rw c.if-branch.false at c.in_ok-post_again.ensures.posts)

pub returns-clause-settled : goal.returns-clause-settled
returns-clause-settled g c = rw c.if-branch.false at c.in_ok-post_again.ensures.full

pub post_again-requires : goal.post_again-requires
post_again-requires g c = c.may_repost.ensures.may.0 c.if-not-may_repost.false
