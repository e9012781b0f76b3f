use Rattle.shared_laws.proofs.Others.{take_stays, serve_stays}
use Rattle.shared_laws.proofs.laws.nothing_gets_stuck.Goals as goal

pub returns-clause-take : goal.returns-clause-take
returns-clause-take c = take_stays

pub returns-clause-serve : goal.returns-clause-serve
returns-clause-serve c = serve_stays
