use Rattle.session_order.proofs.session.Session.follower_place.Goals as goal

pub returns-in_default : goal.returns-in_default
returns-in_default c = rw (← c.self.view_is) c.in_default.ensures

pub returns : goal.returns
returns c = rw (← c.self.view_is) (rw c.first.ensures (c.in-Some.ensures.0, c.in-Some.ensures.2))
