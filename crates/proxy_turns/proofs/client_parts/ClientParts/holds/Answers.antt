use Rattle.std.proofs.Common.{arith}
use Rattle.std.proofs.lemmas.Bool.Decides.{nat_tests}
use Rattle.proxy_turns.proofs.client_parts.ClientParts.holds.Goals as goal

pub returns-then-place-parts_at_once : goal.returns-then-place-parts_at_once
returns-then-place-parts_at_once g c = λ oldest.
    rw (← c.self.view_is) (
      grind (arith, nat_tests, oldest, c.parts_of_oldest.ensures),
      grind (arith, nat_tests, c.if-place-parts_at_once.true, c.parts_at_once.ensures),
    )
