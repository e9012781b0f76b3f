use Rattle.node_server.proofs.Answering.{keeps-data, on-err}
use Rattle.node_server.proofs.answer.execute.Goals as goal

pub returns-in-Ok-clause-refused : goal.returns-in-Ok-clause-refused
returns-in-Ok-clause-refused c =
    on-err c.value_of_told.result (keeps-data c.args.state.now c.serve.new.self c.batch.result c.in-Ok.told c.in-Ok.ensures) c.value_of_told.ensures.refused
