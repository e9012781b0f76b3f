use Rattle.std.proofs.lemmas.Result.{err_from_is_err_and}
use Rattle.std.proofs.Common.{refl, false}
use Rattle.proxy_turns.specs.ClientTurn.{is_drain}
use Rattle.proxy_turns.proofs.Draining.{behind_keeps}
use Rattle.proxy_turns.proofs.Going.{drained, drains_nothing, stays}
use Rattle.proxy_turns.proofs.Sound.{sound_kept}
use Rattle.proxy_turns.proofs.ClientResting.{drain_none, undrained, drains_held}
use Rattle.proxy_turns.proofs.client_parts.ClientParts.drain.Goals as goal

pub invariant_of-self-2 : goal.invariant_of-self-2
invariant_of-self-2 g c =
    let keeps = behind_keeps _ c.self.inside.session c.self.inside.unpushed c.drain.result c.drain.new.session c.drain.new.self c.drain.ensures.does in
    sound_kept c.self.inside.session c.drain.new.session c.self.inside.commands keeps.order keeps.parts c.self.invariant

pub returns-clause-drains : goal.returns-clause-drains
returns-clause-drains g c = λ outlet view.
    let there = rw (← c.self.view_is) at (c.may_drain.ensures.there c.if-not-may_drain.false) in
    let does = rw c.in-Some.is at c.in_ok-count.ensures.does in
    rw (← c.self.view_is) (drained g.C.ClientPort.moves is_drain _ outlet view (λ n. refl) _ c.in-Some.count _ _ there does refl)

pub returns-clause-none : goal.returns-clause-none
returns-clause-none g c =
    let does = rw c.in-Some.is at c.in_ok-count.ensures.does in
    rw (← c.self.view_is) (drain_none _ _ _ c.in-Some.count does)

pub returns-then-not-may_drain-clause-none : goal.returns-then-not-may_drain-clause-none
returns-then-not-may_drain-clause-none g c = undrained _ c.may_drain.result c.may_drain.ensures.may c.if-not-may_drain.true

pub returns-then-not-may_drain-clause-drains : goal.returns-then-not-may_drain-clause-drains
returns-then-not-may_drain-clause-drains g c = λ outlet view. stays g.C.ClientPort.moves is_drain _

pub invariant_of-self : goal.invariant_of-self
invariant_of-self g c =
    let keeps = behind_keeps _ c.self.inside.session c.self.inside.unpushed c.drain.result c.drain.new.session c.drain.new.self c.drain.ensures.does in
    sound_kept c.self.inside.session c.drain.new.session c.self.inside.commands keeps.order keeps.parts c.self.invariant

pub invariant_of-self-in_default : goal.invariant_of-self-in_default
invariant_of-self-in_default g c =
    let keeps = behind_keeps _ c.self.inside.session c.self.inside.unpushed c.drain.result c.drain.new.session c.drain.new.self c.drain.ensures.does in
    sound_kept c.self.inside.session c.drain.new.session c.self.inside.commands keeps.order keeps.parts c.self.invariant

pub returns-in_err-count-clause-drains : goal.returns-in_err-count-clause-drains
returns-in_err-count-clause-drains g c = λ outlet view.
    let is = (err_from_is_err_and c.from_residual.result c.from_residual.ensures.1).1 in
    let does = c.in_err-count.ensures.does in
    rw is (rw (← c.self.view_is) (false, drains_nothing g.C.ClientPort.moves is_drain _ outlet view c.drain.new.session c.drain.new.self does.1 does.0))

pub returns-in_default-clause-drains : goal.returns-in_default-clause-drains
returns-in_default-clause-drains g c = λ outlet view.
    let does = rw c.in_default.is at c.in_ok-count.ensures.does in
    rw (← c.self.view_is) (drains_nothing g.C.ClientPort.moves is_drain _ outlet view c.drain.new.session c.drain.new.self does.1 does.2)

pub returns-in_default-clause-none : goal.returns-in_default-clause-none
returns-in_default-clause-none g c =
    let does = rw c.in_default.is at c.in_ok-count.ensures.does in
    rw (← c.self.view_is) (drains_held _ c.drain.new.session c.drain.new.self does.0 does.1 does.2)
