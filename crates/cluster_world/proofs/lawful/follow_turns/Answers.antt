use Rattle.std.proofs.Common.{subst}
use Rattle.cluster_world.specs.Index.{Indexes}
use Rattle.cluster_world.proofs.Lists.{never, of-ok}
use Rattle.cluster_world.proofs.lawful.follow_turns.Goals as goal

pub returns-in_default : goal.returns-in_default
returns-in_default c = (λ n. absurd (never n), λ follow. absurd (subst (Indexes (λ end. end.0) c.args.ends.now) c.in_default.is c.in_ok-places.ensures follow.0))

pub returns : goal.returns
returns c =
    let by_end = subst (Indexes (λ end. end.0) c.args.ends.now) c.in-Some.is c.in_ok-places.ensures in
    of-ok _ _ c.are_in_turn.result (λ b turn. (λ on. (by_end.0, turn.0 on), λ follow. turn.1 follow.1)) c.are_in_turn.ensures
