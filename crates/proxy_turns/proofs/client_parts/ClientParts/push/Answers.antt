use Rattle.std.proofs.Common.{true, false, refl}
use Rattle.std.proofs.lemmas.Result.{err_from_is_err_and}
use Rattle.proxy_turns.specs.ClientTurn.{is_push}
use Rattle.proxy_turns.proofs.Going.{err_turn, front_left, front_moves, goes_then, parted, pushed, tried}
use Rattle.proxy_turns.proofs.ClientResting.{push_bytes, push_nothing, unoffered}
use Rattle.proxy_turns.proofs.client_parts.ClientParts.push.Goals as goal

pub returns-in_err-count-clause-pushes : goal.returns-in_err-count-clause-pushes
returns-in_err-count-clause-pushes g c = λ outlet view.
    let is = (err_from_is_err_and c.from_residual.result c.from_residual.ensures.1).1 in
    rw (← c.self.view_is) (err_turn g.C.ClientPort.moves is_push _ _ false _ _ is (tried g.C.ClientPort.moves is_push _ outlet view refl _ c.in_err-count.ensures.pushed))

pub returns-in-Bytes-clause-pushes : goal.returns-in-Bytes-clause-pushes
returns-in-Bytes-clause-pushes g c = λ outlet view.
    let done = rw (c.in-Bytes.is, c.as_slices.ensures.value) at c.in_ok-count.ensures.pushed in
    rw (← c.self.view_is) (pushed g.C.ClientPort.moves is_push _ outlet view (λ bytes. refl) _ _ _ _ done.1 (front_left c.in-Bytes.count _ _ c.count_pushed.ensures) (front_moves c.in-Bytes.count _ done.0))

pub returns-in-Nothing-clause-pushes : goal.returns-in-Nothing-clause-pushes
returns-in-Nothing-clause-pushes g c = λ outlet view. rw (← c.self.view_is) (tried g.C.ClientPort.moves is_push _ outlet view refl _ (rw c.in-Nothing.is at c.in_ok-count.ensures.pushed))

pub returns-in-Gone-clause-pushes : goal.returns-in-Gone-clause-pushes
returns-in-Gone-clause-pushes g c = λ outlet view.
    let here = rw (← c.self.view_is) at (c.may_push.ensures.0 c.if-not-may_push.false) in
    let done = rw c.in-Gone.is at c.in_ok-count.ensures.pushed in
    rw (← c.self.view_is) (goes_then g.C.ClientPort.moves is_push _ false _ true _ (tried g.C.ClientPort.moves is_push _ outlet view refl _ done.0) (parted g.C.ClientPort.moves is_push _ outlet view refl _ here.0 done.1 c.leave.ensures.hung_up c.leave.ensures.kept))

pub returns-then-not-may_push-clause-none : goal.returns-then-not-may_push-clause-none
returns-then-not-may_push-clause-none g c = unoffered _ g.C.ClientPort.takes_none c.may_push.result c.may_push.ensures c.if-not-may_push.true

pub returns-in-Bytes-clause-none : goal.returns-in-Bytes-clause-none
returns-in-Bytes-clause-none g c =
    let here = rw (← c.self.view_is) at (c.may_push.ensures.0 c.if-not-may_push.false) in
    rw (← c.self.view_is) (push_bytes _ g.C.ClientPort.takes_none _ _ c.in-Bytes.count here.1 c.count_pushed.ensures (rw c.in-Bytes.is at c.in_ok-count.ensures.none))

pub returns-in-Nothing-clause-none : goal.returns-in-Nothing-clause-none
returns-in-Nothing-clause-none g c =
    let here = rw (← c.self.view_is) at (c.may_push.ensures.0 c.if-not-may_push.false) in
    rw (← c.self.view_is) (push_nothing _ g.C.ClientPort.takes_none _ here.1 ((rw c.in-Nothing.is at c.in_ok-count.ensures.none) tt))
