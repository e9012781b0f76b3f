use Rattle.std.proofs.Common.{◌≡◌, ◌||◌, true, rules, Ok}
use Rattle.std.proofs.lemmas.Result.{err_from_is_err_and}
use Rattle.proxy_turns.specs.ClientRest.{IfStill, IsClientAtRest}
use Rattle.proxy_turns.specs.ClientTurn.{is_pull, is_work}
use Rattle.proxy_turns.proofs.ClientResting.{idle_of, idle_on, idle_rests, if_turned, three_still, with_still, worked_rests}
use Rattle.proxy_turns.proofs.Going.{goes_of, goes_seen, goes_then, goes_wider, turns_err_wider, turns_of}
use Rattle.proxy_turns.proofs.EventKinds.{in_clients_turn, whatever}
use Rattle.proxy_turns.proofs.client_state.ClientState.pull_and_work.Goals as goal

pub returns-in_err-pulled-clause-turns : goal.returns-in_err-pulled-clause-turns
returns-in_err-pulled-clause-turns g c =
    let is = (err_from_is_err_and c.from_residual.result c.from_residual.ensures.1).1 in
    let more = c.in_err-pulled.ensures.pulls c.args.uplink.now.outlet c.args.uplink.now.view in
    rw is (rw (← c.self.view_is) (more.0, goes_of g.C.ClientPort.moves is_pull _ _ _ more.1))

pub returns-then-stays_idle-clause-turns : goal.returns-then-stays_idle-clause-turns
returns-then-stays_idle-clause-turns g c =
    let still = c.stays_idle.ensures c.if-stays_idle.true in
    rw (← c.self.view_is) (goes_of g.C.ClientPort.moves is_pull _ _ _ (rw still.2 at (c.in_ok-pulled.ensures.pulls c.args.uplink.now.outlet c.args.uplink.now.view)))

pub returns-then-stays_idle-clause-rests : goal.returns-then-stays_idle-clause-rests
returns-then-stays_idle-clause-rests g c =
    let still = c.stays_idle.ensures c.if-stays_idle.true in
    let was : c.self.inside.is_idle ≡ true = search (rules, still.0) in
    idle_rests g.C.ClientPort.takes_none g.C.ClientPort.gives_none c.is_held_back-is_held_back.result _ _ c.args.uplink.now.outlet still.1 (c.self.invariant was) (if_turned _ c.in_ok-pulled.ensures.none still.2)

pub invariant_of-self-then-stays_idle : goal.invariant_of-self-then-stays_idle
invariant_of-self-then-stays_idle g c =
    let still = c.stays_idle.ensures c.if-stays_idle.true in
    let was : c.self.inside.is_idle ≡ true = search (rules, still.0) in
    λ is. idle_on g.C.ClientPort.takes_none g.C.ClientPort.gives_none _ _ _ (c.self.invariant was) (if_turned _ c.in_ok-pulled.ensures.none still.2)

pub returns-in_err-worked-clause-turns : goal.returns-in_err-worked-clause-turns
returns-in_err-worked-clause-turns g c =
    let is = (err_from_is_err_and c.from_residual-in_err-worked.result c.from_residual-in_err-worked.ensures.1).1 in
    let one = goes_wider g.C.ClientPort.moves whatever is_pull (in_clients_turn is_pull) _ _ _ (c.in_ok-pulled.ensures.pulls c.args.uplink.now.outlet c.args.uplink.now.view) in
    rw (← c.self.view_is) (turns_of g.C.ClientPort.moves whatever _ _ _ (turns_err_wider g.C.ClientPort.moves whatever is_work (in_clients_turn is_work) _ _ _ _ _ _ _ one c.in_err-worked.ensures.works is))

pub returns-in_err-more-clause-turns : goal.returns-in_err-more-clause-turns
returns-in_err-more-clause-turns g c =
    let is = (err_from_is_err_and c.from_residual-in_err-more.result c.from_residual-in_err-more.ensures.1).1 in
    let one = goes_wider g.C.ClientPort.moves whatever is_pull (in_clients_turn is_pull) _ _ _ (c.in_ok-pulled.ensures.pulls c.args.uplink.now.outlet c.args.uplink.now.view) in
    let two = goes_then g.C.ClientPort.moves whatever _ _ _ _ _ one (goes_wider g.C.ClientPort.moves whatever is_work (in_clients_turn is_work) _ _ _ c.in_ok-worked.ensures.works) in
    let three = goes_seen g.C.ClientPort.moves whatever _ _ _ _ _ _ c.forget_asked-is_asked_again.ensures.same two in
    rw (← c.self.view_is) (turns_of g.C.ClientPort.moves whatever _ _ _
    (turns_err_wider g.C.ClientPort.moves whatever is_pull (in_clients_turn is_pull) _ _ _ _ _ _ _ three (c.in_err-more.ensures.pulls c.work.new.uplink.outlet c.work.new.uplink.view) is))

pub returns-clause-turns : goal.returns-clause-turns
returns-clause-turns g c =
    let one = goes_wider g.C.ClientPort.moves whatever is_pull (in_clients_turn is_pull) _ _ _ (c.in_ok-pulled.ensures.pulls c.args.uplink.now.outlet c.args.uplink.now.view) in
    let two = goes_then g.C.ClientPort.moves whatever _ _ _ _ _ one (goes_wider g.C.ClientPort.moves whatever is_work (in_clients_turn is_work) _ _ _ c.in_ok-worked.ensures.works) in
    let three = goes_seen g.C.ClientPort.moves whatever _ _ _ _ _ _ c.forget_asked-is_asked_again.ensures.same two in
    rw (← c.self.view_is) (goes_of g.C.ClientPort.moves whatever _ _ _
    (goes_then g.C.ClientPort.moves whatever _ _ _ _ _ three (goes_wider g.C.ClientPort.moves whatever is_pull (in_clients_turn is_pull) _ _ _ (c.in_ok-more.ensures.pulls c.work.new.uplink.outlet c.work.new.uplink.view))))

pub invariant_of-self-2 : goal.invariant_of-self-2
invariant_of-self-2 g c = λ becomes.
    let quiet = c.becomes_idle-self-inside.ensures becomes in
    let rests : IfStill (Ok ((c.in_ok-pulled.pulled || c.in_ok-worked.worked) || c.in_ok-more.more)) (IsClientAtRest g.C.ClientPort.gives_none g.C.ClientPort.takes_none c.pull-2.new.self c.work.new.uplink.outlet) =
    three_still c.in_ok-pulled.pulled c.in_ok-worked.worked c.in_ok-more.more c.in_ok-pulled.ensures.none (with_still _ c.in_ok-worked.worked c.in_ok-worked.ensures.none) c.in_ok-more.ensures.none
    (λ pulls works more. worked_rests g.C.ClientPort.takes_none g.C.ClientPort.gives_none _ c.forget_asked-is_asked_again.result _ _ _ _ _ _ c.forget_asked-is_asked_again.ensures.same c.forget_asked-is_asked_again.ensures.again
    (λ held. c.forget_asked-is_asked_again.ensures.is_again held works.1) pulls works.0 more) in
    idle_of g.C.ClientPort.takes_none g.C.ClientPort.gives_none _ c.work.new.uplink.outlet (if_turned _ rests quiet.0) (c.is_quiet.ensures quiet.1)

pub returns-clause-rests : goal.returns-clause-rests
returns-clause-rests g c =
    three_still c.in_ok-pulled.pulled c.in_ok-worked.worked c.in_ok-more.more c.in_ok-pulled.ensures.none (with_still _ c.in_ok-worked.worked c.in_ok-worked.ensures.none) c.in_ok-more.ensures.none
    (λ pulls works more. worked_rests g.C.ClientPort.takes_none g.C.ClientPort.gives_none _ c.forget_asked-is_asked_again.result _ _ _ _ _ _ c.forget_asked-is_asked_again.ensures.same c.forget_asked-is_asked_again.ensures.again
    (λ held. c.forget_asked-is_asked_again.ensures.is_again held works.1) pulls works.0 more)
