use Rattle.session_order.specs.contracts.session.Session.{the_view}
use Rattle.session_order.proofs.Behind.{none_in_turn, next_in_turn}
use Rattle.session_order.proofs.session.Session.next_in_turn.Goals as goal

pub returns-in_default : goal.returns-in_default
returns-in_default c = rw (← c.self.view_is) (none_in_turn (the_view c.self.inside) c.args.ticket c.in_default.ensures)

pub returns : goal.returns
returns c = rw (← c.self.view_is) (next_in_turn (the_view c.self.inside) c.args.ticket c.in-Some.part (rw (← c.self.view_is) at c.requires).1 c.in-Some.ensures)
