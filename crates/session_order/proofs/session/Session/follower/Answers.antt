use Rattle.std.proofs.Common.{refl}
use Rattle.session_order.proofs.session.Session.follower.Goals as goal

pub returns-in_default : goal.returns-in_default
returns-in_default c = rw (← c.self.view_is) (record { does = (c.in_default.ensures.0, rw c.in_default.ensures.1 refl) })

pub returns : goal.returns
returns c =
    rw (← c.self.view_is) (record {
      does = (
        c.in-Some.ensures.0,
        rw (c.in-Some.part-is) c.in-Some.ensures.1,
        rw (c.in-Some.number-is, c.in-Some.ensures.2) refl,
        rw (c.in-Some.part-is, c.in-Some.ensures.3) refl,
      );
    })
