use Rattle.proxy_turns.proofs.ClientResting.{held_next}
use Rattle.proxy_turns.proofs.client_parts.ClientParts.holds_next.Goals as goal

pub returns : goal.returns
returns g c = λ held. (let oldest = c.holds.ensures held in rw (← c.self.view_is) (held_next c.self.inside.session c.in-Some.place c.in-Some.ensures (rw (← c.self.view_is) at oldest).0 (rw (← c.self.view_is) at oldest).1))
