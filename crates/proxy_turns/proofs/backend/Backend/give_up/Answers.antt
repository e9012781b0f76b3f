use Rattle.std.proofs.Common.{false, refl, sym}
use Rattle.std.proofs.lemmas.Bool.{false≢true}
use Rattle.proxy_turns.proofs.backend.Backend.give_up.Goals as goal

pub returns-in_default-lose : goal.returns-in_default-lose
returns-in_default-lose g c = λ unanswered nodes published.
    ((c.in-Some.link, c.requires.owes_nothing, c.in-Some.is, rw c.in-Some.is at c.requires.failed, c.in_default-lose.ensures.next.0, λ i. record { backend = record c.args.self.now { link = c.put.ensures i; asked = false }; nodes = nodes; published = published }), refl, λ still. absurd (false≢true (sym still)))

pub returns : goal.returns
returns g c = λ unanswered nodes published. (
  (
    c.in-Some.link,
    c.lose.new.self,
    c.in-Some-lose.ticket,
    c.requires.owes_nothing,
    c.in-Some.is,
    rw c.in-Some.is at c.requires.failed,
    c.in-Some-lose.ensures.next,
    c.in-Some-lose.ensures.same,
    λ i. record { backend = c.hold_told.ensures i; nodes = nodes; published = published },
  ),
  refl,
  λ still. absurd (false≢true (sym still)),
)
