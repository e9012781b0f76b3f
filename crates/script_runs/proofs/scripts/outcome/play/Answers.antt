use Rattle.local_cluster.specs.Local.{IsSound}
use Rattle.script_runs.proofs.Verdicts.{verdict-reports}
use Rattle.script_runs.proofs.scripts.outcome.play.Goals as goal

pub returns-clause-text : goal.returns-clause-text
returns-clause-text g c =
    verdict-reports c.args.scripts.now.clients.items c.args.workers (λ state. IsSound state) c.run_local-made.result c.verdict_of.result
    (rw c.deref.ensures.value at c.run_local-made.ensures) c.verdict_of.ensures.text
