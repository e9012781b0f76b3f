use Rattle.local_cluster.proofs.KeptTold.{kept}
use Rattle.local_cluster.proofs.Told.{was_said}
use Rattle.local_cluster.proofs.answer.answer_command.Goals as goal

pub write-requires-clause-said : goal.write-requires-clause-said
write-requires-clause-said g c = was_said _ _ c.in_ok-said.ensures

pub returns-in-Err-clause-err : goal.returns-in-Err-clause-err
returns-in-Err-clause-err g c =
    kept c.args.node c.args.asking c.args.ticket c.args.part.now c.put.new.place c.in_ok-said.said c.in-Err.said c.put.ensures c.in-Err.ensures c.in_ok-said.ensures
