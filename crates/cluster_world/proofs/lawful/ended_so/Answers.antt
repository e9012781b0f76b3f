use Rattle.std.proofs.Common.{subst}
use Rattle.cluster_world.specs.Index.{place_in, Indexes}
use Rattle.cluster_world.proofs.Lists.{never}
use Rattle.cluster_world.proofs.Replies.{at-most-one, of-entry}
use Rattle.cluster_world.proofs.lawful.ended_so.Goals as goal

pub returns-in_default : goal.returns-in_default
returns-in_default c = (
  (λ n. absurd (never n), λ so. absurd (subst (Indexes of-entry c.args.history.now) c.in_default.is c.in_ok-places.ensures so.0)),
  λ n. absurd (never n),
)

pub returns : goal.returns
returns c =
    let by_entry = subst (Indexes of-entry c.args.history.now) c.in-Some.is c.in_ok-places.ensures in (
      (λ so. (by_entry.0, c.are_as_ended.ensures.0 so), λ both. c.are_as_ended.ensures.1 both.1),
      λ so ticket. at-most-one c.args.history.now (place_in c.in-Some.places.entries) ticket by_entry.1,
    )
