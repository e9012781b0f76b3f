use Rattle.std.proofs.Common.{ap, true, false, nat_lt, refl}
use Rattle.std.proofs.lemmas.Result.{err_from_is_err_and}
use Rattle.proxy_turns.specs.ClientTurn.{is_pull}
use Rattle.proxy_turns.proofs.Going.{err_turn, goes_then, parted, pulled, takes_none, takes_nothing, stays}
use Rattle.proxy_turns.proofs.ClientResting.{pull_bytes, pull_nothing, unasked}
use Rattle.proxy_turns.proofs.client_parts.ClientParts.pull.Goals as goal

pub returns-in_err-count-clause-pulls : goal.returns-in_err-count-clause-pulls
returns-in_err-count-clause-pulls g c = λ outlet view.
    let clear = rw (← c.self.view_is) at (c.may_pull.ensures.0 c.if-not-may_pull.false) in
    let is = (err_from_is_err_and c.from_residual.result c.from_residual.ensures.1).1 in
    rw (← c.self.view_is) (err_turn g.C.ClientPort.moves is_pull _ _ false _ _ is (takes_nothing g.C.ClientPort.moves is_pull _ outlet view refl c.in_err-count.field-0.0 _ _ clear.2 c.in_err-count.ensures.takes))

pub returns-in-Bytes-clause-pulls : goal.returns-in-Bytes-clause-pulls
returns-in-Bytes-clause-pulls g c = λ outlet view.
    let clear = rw (← c.self.view_is) at (c.may_pull.ensures.0 c.if-not-may_pull.false) in
    let done = rw c.in-Bytes.is at c.in_ok-count.ensures.takes in
    rw (← c.self.view_is) (pulled g.C.ClientPort.moves is_pull _ outlet view (λ bytes. refl) _ _ _ clear.2 done.0 (ap (nat_lt 0) done.1))

pub returns-in-Nothing-clause-pulls : goal.returns-in-Nothing-clause-pulls
returns-in-Nothing-clause-pulls g c = λ outlet view.
    let clear = rw (← c.self.view_is) at (c.may_pull.ensures.0 c.if-not-may_pull.false) in
    rw (← c.self.view_is) (takes_none g.C.ClientPort.moves is_pull _ outlet view refl _ _ clear.2 (rw c.in-Nothing.is at c.in_ok-count.ensures.takes))

pub returns-in-Gone-clause-pulls : goal.returns-in-Gone-clause-pulls
returns-in-Gone-clause-pulls g c = λ outlet view.
    let clear = rw (← c.self.view_is) at (c.may_pull.ensures.0 c.if-not-may_pull.false) in
    let done = rw c.in-Gone.is at c.in_ok-count.ensures.takes in
    rw (← c.self.view_is) (goes_then g.C.ClientPort.moves is_pull _ false _ true _ (takes_none g.C.ClientPort.moves is_pull _ outlet view refl _ _ clear.2 (done.0, done.1)) (parted g.C.ClientPort.moves is_pull _ outlet view refl _ clear.1 done.2 c.leave.ensures.hung_up c.leave.ensures.kept))

pub returns-then-not-may_pull-clause-none : goal.returns-then-not-may_pull-clause-none
returns-then-not-may_pull-clause-none g c = unasked _ g.C.ClientPort.gives_none c.args.is_held_back c.may_pull.result c.may_pull.ensures c.if-not-may_pull.true

pub returns-in-Bytes-clause-none : goal.returns-in-Bytes-clause-none
returns-in-Bytes-clause-none g c =
    let clear = rw (← c.self.view_is) at (c.may_pull.ensures.0 c.if-not-may_pull.false) in
    let done = rw c.in-Bytes.is at c.in_ok-count.ensures.takes in
    rw (← c.self.view_is) (pull_bytes _ g.C.ClientPort.gives_none c.args.is_held_back _ _ c.in-Bytes.count clear done.1 (rw c.in-Bytes.is at c.in_ok-count.ensures.none))

pub returns-in-Nothing-clause-none : goal.returns-in-Nothing-clause-none
returns-in-Nothing-clause-none g c =
    let clear = rw (← c.self.view_is) at (c.may_pull.ensures.0 c.if-not-may_pull.false) in
    let done = rw c.in-Nothing.is at c.in_ok-count.ensures.takes in
    rw (← c.self.view_is) (pull_nothing _ g.C.ClientPort.gives_none c.args.is_held_back _ _ clear done.1 ((rw c.in-Nothing.is at c.in_ok-count.ensures.none) tt))

pub returns-then-not-may_pull-clause-pulls : goal.returns-then-not-may_pull-clause-pulls
returns-then-not-may_pull-clause-pulls g c = λ outlet view. stays g.C.ClientPort.moves is_pull _

pub invariant_of-self : goal.invariant_of-self
invariant_of-self g c = c.self.invariant

pub invariant_of-self-in-Bytes : goal.invariant_of-self-in-Bytes
invariant_of-self-in-Bytes g c = c.self.invariant

pub invariant_of-self-in-Nothing : goal.invariant_of-self-in-Nothing
invariant_of-self-in-Nothing g c = c.self.invariant

pub invariant_of-self-in-Gone : goal.invariant_of-self-in-Gone
invariant_of-self-in-Gone g c = c.self.invariant
