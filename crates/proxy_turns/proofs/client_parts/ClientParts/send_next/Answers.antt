use Rattle.std.proofs.Common.{◌≡◌, true}
use Rattle.std.proofs.lemmas.Result.{err_from_is_err_and}
use Rattle.proxy_turns.specs.ClientTurn.{is_begin, is_drop, is_post, is_send}
use Rattle.proxy_turns.proofs.Going.{err_wider, goes_then, goes_wider, turns_err_wider}
use Rattle.proxy_turns.proofs.EventKinds.{command_begun, command_dropped, command_posted}
use Rattle.proxy_turns.proofs.ClientResting.{drops_none, if_still, sends_none, two_still}
use Rattle.proxy_turns.proofs.client_parts.ClientParts.send_next.Goals as goal

pub returns-then-self-clause-sends : goal.returns-then-self-clause-sends
returns-then-self-clause-sends g c = goes_wider g.C.ClientPort.moves is_send is_drop command_dropped _ _ _ (c.drop_fresh.ensures.drops c.args.uplink.now.outlet c.args.uplink.now.view)

pub returns-in_err-posted-clause-sends : goal.returns-in_err-posted-clause-sends
returns-in_err-posted-clause-sends g c =
    let is = (err_from_is_err_and c.from_residual-in_err-posted.result c.from_residual-in_err-posted.ensures.1).1 in
    let one = goes_wider g.C.ClientPort.moves is_send is_begin command_begun _ _ _ (c.in_ok-begun.ensures.begins _ _) in
    turns_err_wider g.C.ClientPort.moves is_send is_post command_posted _ _ _ _ _ _ _ one c.in_err-posted.ensures.posts is

pub returns-clause-sends : goal.returns-clause-sends
returns-clause-sends g c =
    let one = goes_wider g.C.ClientPort.moves is_send is_begin command_begun _ _ _ (c.in_ok-begun.ensures.begins _ _) in
    goes_then g.C.ClientPort.moves is_send _ _ _ _ _ one (goes_wider g.C.ClientPort.moves is_send is_post command_posted _ _ _ c.in_ok-posted.ensures.posts)

pub returns-then-self-clause-none : goal.returns-then-self-clause-none
returns-then-self-clause-none g c =
    let gone : c.args.self.now.gone ≡ true = rw (← c.self.view_is) c.if-self.true in
    if_still c.drop_fresh.result (λ not_so. drops_none _ _ _ gone (c.drop_fresh.ensures.none not_so gone))

pub returns-clause-none : goal.returns-clause-none
returns-clause-none g c =
    two_still c.in_ok-begun.begun c.in_ok-posted.posted c.in_ok-begun.ensures.none c.in_ok-posted.ensures.none (sends_none _ _ _ _)

pub returns-in_err-begun-clause-sends : goal.returns-in_err-begun-clause-sends
returns-in_err-begun-clause-sends g c =
    let is = (err_from_is_err_and c.from_residual.result c.from_residual.ensures.1).1 in
    err_wider g.C.ClientPort.moves is_send is_begin command_begun _ _ _ _ _ (c.in_err-begun.ensures.begins _ _) is
