use Rattle.std.proofs.Common.{◌≡◌, rules}
use Rattle.key_split.specs.Same.{same_end, same_end-Decides, told}
use Rattle.key_split.proofs.travel.EndedPartialEq.eq.Goals as goal

pub returns-in-Answered-Answered-clause-same : goal.returns-in-Answered-Answered-clause-same
returns-in-Answered-Answered-clause-same c =
    let value : c.eq.result ≡ same_end c.args.self.now c.args.other.now = search rules in told _ _ value (same_end-Decides _ _)
