use Rattle.std.proofs.lemmas.Result.{err_from_is_err_and}
use Rattle.std.proofs.Common.{refl, Ok, Err}
use Rattle.proxy_turns.specs.ClientTurn.{is_begin}
use Rattle.proxy_turns.proofs.Going.{begins, stays}
use Rattle.proxy_turns.proofs.Sound.{sound_begins}
use Rattle.proxy_turns.proofs.ClientResting.{begins_held, begins_none, begins_waiting}
use Rattle.proxy_turns.proofs.client_parts.ClientParts.begin_first.Goals.{then-has_fresh-via-then-has_fresh, then-has_fresh-via-else-has_fresh+then-holds_next}
use Rattle.proxy_turns.proofs.client_parts.ClientParts.begin_first.Goals as goal

pub returns-then-has_fresh-clause-none : goal.returns-then-has_fresh-clause-none
returns-then-has_fresh-clause-none g c = rw (← c.self.view_is) (elim c.then-has_fresh.branch [
  | then-has_fresh-via-then-has_fresh w ↦ begins_waiting _ (c.has_fresh.ensures.there w.if-has_fresh.true)
  | then-has_fresh-via-else-has_fresh+then-holds_next w ↦ (
      let held = w.holds_next.ensures w.if-holds_next.true in
      begins_held _ (rw (← c.self.view_is) at held)
      )
])

pub invariant_of-self-then-begun : goal.invariant_of-self-then-begun
invariant_of-self-then-begun g c =
    sound_begins c.self.inside.session c.begin.new.session c.self.inside.commands c.begin.new.self c.begin.result (c.has_fresh.ensures.none c.if-has_fresh.false) c.begin.ensures c.self.invariant

pub returns-then-begun-clause-begins : goal.returns-then-begun-clause-begins
returns-then-begun-clause-begins g c = λ outlet view.
    rw (← c.self.view_is) (begins g.C.ClientPort.moves is_begin _ outlet view (λ ticket part. refl) c.begin.new.session c.begin.new.self (Ok c.in_ok-begun.begun) (rw (← c.self.view_is) at c.requires)
    (c.has_fresh.ensures.none c.if-has_fresh.false) c.in_ok-begun.ensures)

pub returns-else-begun-clause-none : goal.returns-else-begun-clause-none
returns-else-begun-clause-none g c = rw (← c.self.view_is) (begins_none _ c.begin.new.session c.begin.new.self (Ok c.in_ok-begun.begun) c.in_ok-begun.ensures)

pub returns-then-has_fresh-clause-begins : goal.returns-then-has_fresh-clause-begins
returns-then-has_fresh-clause-begins g c = λ outlet view. stays g.C.ClientPort.moves is_begin _

pub invariant_of-self : goal.invariant_of-self
invariant_of-self g c = sound_begins c.self.inside.session c.begin.new.session c.self.inside.commands c.begin.new.self c.begin.result (c.has_fresh.ensures.none c.if-has_fresh.false) c.begin.ensures c.self.invariant

pub invariant_of-self-else-begun : goal.invariant_of-self-else-begun
invariant_of-self-else-begun g c = sound_begins c.self.inside.session c.begin.new.session c.self.inside.commands c.begin.new.self c.begin.result (c.has_fresh.ensures.none c.if-has_fresh.false) c.begin.ensures c.self.invariant

pub returns-in_err-begun-clause-begins : goal.returns-in_err-begun-clause-begins
returns-in_err-begun-clause-begins g c = λ outlet view.
    let is = (err_from_is_err_and c.from_residual.result c.from_residual.ensures.1).1 in
    rw is (rw (← c.self.view_is) (begins g.C.ClientPort.moves is_begin _ outlet view (λ ticket part. refl) c.begin.new.session c.begin.new.self (Err _) (rw (← c.self.view_is) at c.requires)
    (c.has_fresh.ensures.none c.if-has_fresh.false) c.in_err-begun.ensures))

pub returns-in_err-begun-clause-gone : goal.returns-in_err-begun-clause-gone
returns-in_err-begun-clause-gone g c = rw (← c.self.view_is) refl

pub returns-then-begun-clause-gone : goal.returns-then-begun-clause-gone
returns-then-begun-clause-gone g c = rw (← c.self.view_is) refl

pub returns-then-begun-clause-none : goal.returns-then-begun-clause-none
returns-then-begun-clause-none g c = rw (← c.self.view_is) (begins_none _ c.begin.new.session c.begin.new.self (Ok c.in_ok-begun.begun) c.in_ok-begun.ensures)

pub returns-else-begun-clause-begins : goal.returns-else-begun-clause-begins
returns-else-begun-clause-begins g c = λ outlet view.
    rw (← c.self.view_is) (begins g.C.ClientPort.moves is_begin _ outlet view (λ ticket part. refl) c.begin.new.session c.begin.new.self (Ok c.in_ok-begun.begun) (rw (← c.self.view_is) at c.requires)
    (c.has_fresh.ensures.none c.if-has_fresh.false) c.in_ok-begun.ensures)

pub returns-else-begun-clause-gone : goal.returns-else-begun-clause-gone
returns-else-begun-clause-gone g c = rw (← c.self.view_is) refl
