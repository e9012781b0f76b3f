use Rattle.shared_laws.proofs.Others.{any_change, keys_go, true_asks}
use Rattle.shared_laws.proofs.laws.others_do_anything.Goals as goal

pub returns-clause-change : goal.returns-clause-change
returns-clause-change c = any_change

pub returns-clause-asks : goal.returns-clause-asks
returns-clause-asks c = true_asks

pub returns-clause-goes : goal.returns-clause-goes
returns-clause-goes c = keys_go
