use Rattle.std.proofs.Common.{ap, sym, ◌∙◌, subst}
use Rattle.session_order.specs.Ahead.{words_ahead, IsAhead}
use Rattle.session_order.proofs.Taking.{given, taken}
use Rattle.session_order.proofs.request_reader.RequestReader.next.Goals as goal

pub returns-in-Ok-Some-clause-does : goal.returns-in-Ok-Some-clause-does
returns-in-Ok-Some-clause-does c =
    rw (← c.self.view_is) (taken _ c.in-Ok-Some.value c.next.new.self _ c.classify-in-Ok-Some.new.ahead
    (ap words_ahead (sym c.replace.ensures.value ∙ c.in-Nothing.is)) (rw c.in-Ok-Some.field-0-is at c.in-Ok-Some.ensures.takes) c.classify-in-Ok-Some.ensures)

pub returns-in-Value-clause-does : goal.returns-in-Value-clause-does
returns-in-Value-clause-does c =
    let is = sym c.replace.ensures.value ∙ c.in-Value.is in
    rw (← c.self.view_is) (given _ c.in-Value.value _ c.classify.new.ahead (ap words_ahead is) (subst IsAhead is c.self.invariant) c.classify.ensures)
