use Rattle.proxy_turns.proofs.Tables.{empty_by, none_by}
use Rattle.proxy_turns.proofs.worker_state.WorkerState.is_served.Goals as goal

pub returns-then-is_none_to_come : goal.returns-then-is_none_to_come
returns-then-is_none_to_come g c =
    let entries = c.args.self.now.clients.entries in (
      λ yes. (c.is_none_to_come.ensures.0 c.if-is_none_to_come.true, empty_by entries (c.is_empty.ensures.0 yes)),
      λ served. c.is_empty.ensures.1 (none_by entries served.1),
    )
