use Rattle.std.proofs.Common.{refl, subst, sym, Some}
use Rattle.proxy_lanes.specs.Ends.{Gives}
use Rattle.proxy_lanes.proofs.ends.lane_ends.LaneEnds.give.Goals as goal

pub returns-in-Some : goal.returns-in-Some
returns-in-Some g c = (
  refl,
  subst (λ down. Gives down (Some c.post.new.self) (c.args.ticket, c.args.told) c.post.result) (sym c.in-Some.is) (c.post.new.self, refl, c.post.ensures),
)
