use Rattle.std.proofs.Common.{rules, ◌≡◌}
use Rattle.session_order.proofs.session.Session.is_next.Goals as goal

pub returns-then-ticket-self-2 : goal.returns-then-ticket-self-2
returns-then-ticket-self-2 c =
    let worker : c.args.ticket.worker ≡ c.self.inside.worker = search rules in
    let client : c.args.ticket.client ≡ c.self.inside.client = search rules in
    rw (← c.self.view_is) (
      λ yes. (let turn = c.is_next.ensures.0 yes in (turn.0, turn.1, turn.2, worker, client, turn.3)),
      λ turn. c.is_next.ensures.1 (turn.0, turn.1, turn.2, turn.5),
    )
