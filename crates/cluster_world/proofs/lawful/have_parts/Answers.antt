use Rattle.std.proofs.Common.{refl, subst}
use Rattle.cluster_world.specs.Index.{Indexes}
use Rattle.cluster_world.proofs.Lists.{never}
use Rattle.cluster_world.proofs.lawful.have_parts.Goals as goal

pub returns-in_default : goal.returns-in_default
returns-in_default c = (λ n. absurd (never n), λ have. absurd (subst (Indexes (λ part. part.0) c.args.parts.now) c.in_default.is c.in_ok-places.ensures have.0))

pub returns-then-not-ends_have_parts : goal.returns-then-not-ends_have_parts
returns-then-not-ends_have_parts c = (λ n. absurd (never n), λ have. absurd (never (c.if-not-ends_have_parts.ensures.1 have.1)))

pub returns : goal.returns
returns c =
    let by_part = subst (Indexes (λ part. part.0) c.args.parts.now) c.in-Some.is c.in_ok-places.ensures in
    (λ yes. (by_part.0, c.if-not-ends_have_parts.ensures.0 refl, c.entries_have_parts.ensures.0 yes), λ have. c.entries_have_parts.ensures.1 have.2)
