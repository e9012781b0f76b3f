use Rattle.key_split.specs.Same.{same_part-Decides, told}
use Rattle.key_split.proofs.part.PartPartialEq.eq.Goals as goal

pub returns-clause-same : goal.returns-clause-same
returns-clause-same c = told _ _ c.same_part.ensures (same_part-Decides _ _)
