use Rattle.std.proofs.Common.{◌∙◌, ap, not, sym}
use Rattle.std.proofs.lemmas.Bool.{false≢true}
use Rattle.proxy_turns.proofs.newcomer.is_new.Goals as goal

pub returns-then-not-has : goal.returns-then-not-has
returns-then-not-has g c =
    let none = c.has.ensures.0 c.if-not-has.true in
    (λ above. (c.is_above.ensures.0 above, none), λ new. c.is_above.ensures.1 new.0)

pub returns-else-not-has : goal.returns-else-not-has
returns-else-not-has g c = (
  λ f. absurd (false≢true (sym (ap (λ b. not b) c.if-not-has.false) ∙ f)),
  λ new. absurd (false≢true (sym (c.has.ensures.1 new.1) ∙ c.if-not-has.false)),
)
