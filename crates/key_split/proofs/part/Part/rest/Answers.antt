use Rattle.std.proofs.Common.{subst}
use Rattle.key_split.specs.Laws.{IsPlain}
use Rattle.key_split.proofs.Plain.{part-plain}
use Rattle.key_split.proofs.part.Part.rest.Goals as goal

pub returns-clause-plain : goal.returns-clause-plain
returns-clause-plain c =
    subst IsPlain c.self.view_is
    (part-plain (record { op = c.self.inside.op; key = c.self.inside.key; arg = c.self.inside.arg; rest = c.self.inside.rest.items })
    c.self.invariant.1 c.self.invariant.2 c.self.invariant.3 c.self.invariant.4 c.number_is_in_range.ensures)
