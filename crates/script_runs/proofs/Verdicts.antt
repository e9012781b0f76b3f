-- What is written of what a run answers is what is written of a report.
use Rattle.std.proofs.Common.{ℕ, List, inl, inr}
use Rattle.std.specs.Prelude.{Result, Ok, Err, IfOk}
use Rattle.cluster_world.specs.declared.outcome.Outcome.{Outcome}
use Rattle.cluster_world.specs.declared.run_report.RunReport.{RunReport}
use Rattle.local_cluster.specs.Local.{LocalStateModel}
use Rattle.script_runs.specs.declared.local_fault.LocalFault.{LocalFault}
use Rattle.script_runs.specs.declared.local_fault.LocalFault.TheVariants.{NoMemory, NoThread, Audit}
use Rattle.script_runs.specs.declared.scripts.fault.ScriptsFault.{ScriptsFault}
use Rattle.script_runs.specs.Judged.{RunOutcome}
use Rattle.script_runs.specs.RunText.{WritesReport, WritesVerdict}

module _ (scripts : List (List ℕ)) (workers : ℕ) (given_up : LocalStateModel → Type 0) where
  reports : (made : Result (RunReport × LocalStateModel) LocalFault) (status : ℕ) (text : List ℕ)
      → RunOutcome scripts workers given_up made → WritesVerdict made status text → WritesReport scripts workers status text
  reports (Ok given) status text run writes = (given.0, inl (run.0, writes.0, writes.1))
  reports (Err NoMemory) status text run writes = absurd writes
  reports (Err NoThread) status text run writes = absurd writes
  reports (Err (Audit report)) status text run writes = (report, inr (run.0, writes.0, writes.1))

  pub verdict-reports : (made : Result (RunReport × LocalStateModel) LocalFault) (written : Result Outcome ScriptsFault)
      → RunOutcome scripts workers given_up made → IfOk written (λ o. WritesVerdict made o.status o.text.items)
      → IfOk written (λ o. WritesReport scripts workers o.status o.text.items)
  verdict-reports made (Ok o) run writes = reports made o.status o.text.items run writes
  verdict-reports made (Err fault) run writes = writes
