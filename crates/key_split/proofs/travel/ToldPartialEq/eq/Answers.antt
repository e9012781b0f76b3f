use Rattle.key_split.specs.Same.{same_told-Decides, told}
use Rattle.key_split.proofs.travel.ToldPartialEq.eq.Goals as goal

pub returns-clause-same : goal.returns-clause-same
returns-clause-same c = told _ _ c.same_told.ensures (same_told-Decides _ _)
