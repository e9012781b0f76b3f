use Rattle.session_order.proofs.session.Session.next_place.Goals as goal

pub returns : goal.returns
returns c = rw (← c.self.view_is) c.next_place.ensures
