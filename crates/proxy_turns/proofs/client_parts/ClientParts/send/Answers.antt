use Rattle.std.proofs.Common.{Bool, nat_lt, refl, subst}
use Rattle.std.proofs.lemmas.Result.{err_from_is_err_and}
use Rattle.proxy_turns.specs.ClientTurn.{ClientGoesBy, is_send}
use Rattle.proxy_turns.specs.ClientRest.{SendsNone}
use Rattle.proxy_turns.proofs.ClientResting.{if_turned, still_first}
use Rattle.proxy_turns.proofs.Going.{goes_then, stays, turns_err}
use Rattle.proxy_turns.proofs.Places.{none_moved, one_moved, some_after, some_moved}
use Rattle.proxy_turns.proofs.client_parts.ClientParts.send.Goals as goal

pub loop-sent-init : goal.loop-sent-init
loop-sent-init g c = record { goes = stays g.C.ClientPort.moves is_send _; same = λ none. refl }

pub loop-sent-preserved : goal.loop-sent-preserved
loop-sent-preserved g c =
    let Q : Bool → Type 0 = λ moved. ClientGoesBy g.C.ClientPort.moves is_send (record { client = c.args.self.now; outlet = c.args.uplink.now.outlet; view = c.args.uplink.now.view }) moved (record { client = c.send_next.new.self; outlet = c.send_next.new.uplink.outlet; view = c.send_next.new.uplink.view }) in
    record { goes = subst Q (one_moved c.loop-sent.sent c.in_ok-moved.moved c.if-not-moved.false) (goes_then g.C.ClientPort.moves is_send _ _ _ _ _ c.loop-sent.invariant.goes c.in_ok-moved.ensures.sends); same = λ none. absurd (some_after c.loop-sent.sent none) }

pub returns-in_err-moved-clause-sends : goal.returns-in_err-moved-clause-sends
returns-in_err-moved-clause-sends g c =
    let is = (err_from_is_err_and c.from_residual.result c.from_residual.ensures.1).1 in
    turns_err g.C.ClientPort.moves is_send _ _ _ _ _ _ _ c.loop-sent.invariant.goes c.in_err-moved.ensures.sends is

pub returns-then-not-moved-clause-sends : goal.returns-then-not-moved-clause-sends
returns-then-not-moved-clause-sends g c =
    let Q : Bool → Type 0 = λ moved. ClientGoesBy g.C.ClientPort.moves is_send (record { client = c.args.self.now; outlet = c.args.uplink.now.outlet; view = c.args.uplink.now.view }) moved (record { client = c.send_next.new.self; outlet = c.send_next.new.uplink.outlet; view = c.send_next.new.uplink.view }) in
    subst Q (none_moved c.loop-sent.sent c.in_ok-moved.moved c.if-not-moved.true) (goes_then g.C.ClientPort.moves is_send _ _ _ _ _ c.loop-sent.invariant.goes c.in_ok-moved.ensures.sends)

pub returns-then-not-moved-clause-none : goal.returns-then-not-moved-clause-none
returns-then-not-moved-clause-none g c =
    still_first (λ client. SendsNone client c.send_next.new.self c.send_next.new.uplink.outlet) (nat_lt 0 c.loop-sent.sent) c.args.self.now c.loop-sent.self c.loop-sent.invariant.same (if_turned _ c.in_ok-moved.ensures.none c.if-not-moved.true)

pub returns-clause-sends : goal.returns-clause-sends
returns-clause-sends g c =
    let Q : Bool → Type 0 = λ moved. ClientGoesBy g.C.ClientPort.moves is_send (record { client = c.args.self.now; outlet = c.args.uplink.now.outlet; view = c.args.uplink.now.view }) moved (record { client = c.loop-sent.self; outlet = c.loop-sent.uplink.outlet; view = c.loop-sent.uplink.view }) in
    subst Q (some_moved c.loop-sent.sent _ c.loop-sent-test.false) c.loop-sent.invariant.goes
