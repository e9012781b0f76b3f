use Rattle.turn_laws.proofs.SingleSteps.{posted-runs-fit, posted-runs-lead}
use Rattle.turn_laws.proofs.parts.posted_runs_fit.Goals as goal

pub returns-clause-fit : goal.returns-clause-fit
returns-clause-fit g c = posted-runs-fit g.row.C.Denot g.row.J.Denot

pub returns-clause-lead : goal.returns-clause-lead
returns-clause-lead g c = posted-runs-lead g.row.C.Denot g.row.J.Denot
