use Rattle.node_server.proofs.Answering.{keeps-together, on-err}
use Rattle.node_server.proofs.block_answer.execute_together.Goals as goal

pub returns-in-Ok-clause-refused : goal.returns-in-Ok-clause-refused
returns-in-Ok-clause-refused c =
    on-err c.value_of_tolds.result (keeps-together c.args.state.now c.serve_run.new.self c.ticket.result c.args.caller.node c.args.parts.now c.in-Ok.tolds c.in-Ok.ensures.served) c.value_of_tolds.ensures.refused
