-- What a run answers, and what judging what its threads hand back does.
-- An answer Ok has a report of these scripts. Audit is answered only where the run gave no such report.
use Rattle.std.specs.Prelude.{◌≡◌, ℕ, List, length, Result, Ok, Err}
use Rattle.std.specs.List.{flat_map}
use Rattle.cluster_world.specs.declared.run_report.RunReport.{RunReport}
use Rattle.script_runs.specs.declared.local_fault.LocalFault.{LocalFault}
use Rattle.script_runs.specs.declared.local_fault.LocalFault.TheVariants.{NoMemory, NoThread, Audit}
use Rattle.script_runs.specs.declared.record.RunRecord.{RunRecord}
use Rattle.script_runs.specs.Answered.{ends_noted, replies_in}
use Rattle.local_cluster.specs.Local.{LocalStateModel}
use Rattle.script_runs.specs.Run.{IsRunOf}

-- What a run answers: a report of these scripts, with the state that was given up; Audit only where the report is none. Either
-- report has the history of a state that was given up.
abbrev pub RunOutcome : List (List ℕ) → ℕ → (LocalStateModel → Type 0) → Result (RunReport × LocalStateModel) LocalFault → Type 0
RunOutcome scripts workers given_up (Ok given) = IsRunOf scripts workers given.0 × (given.0.history.items ≡ given.1.history) × given_up given.1
RunOutcome scripts workers given_up (Err NoMemory) = Unit {0}
RunOutcome scripts workers given_up (Err NoThread) = Unit {0}
RunOutcome scripts workers given_up (Err (Audit report)) =
    (IsRunOf scripts workers report → ⊥) × (state : LocalStateModel) × (report.history.items ≡ state.history) × given_up state

-- the report says what was handed back, and what the state behind the lock holds
pub record Reports (count : ℕ) (run : RunRecord) (state : LocalStateModel) (report : RunReport) : Type 0 where
  pub ends : report.ends.items ≡ flat_map ends_noted run.clients.items
  pub history : report.history.items ≡ state.history
  pub replies : report.replies.items ≡ replies_in count run.clients.items
  pub skipped : report.skipped ≡ run.skipped
  pub stopped : report.stopped.items ≡ run.stopped.items

-- The report is given with the state where it is a run of the scripts, and else alone.
abbrev pub Judges : List (List ℕ) → ℕ → RunRecord → LocalStateModel → Result (RunReport × LocalStateModel) LocalFault → Type 0
Judges scripts workers run state (Ok given) = Reports (length scripts) run state given.0 × IsRunOf scripts workers given.0 × (given.1 ≡ state)
Judges scripts workers run state (Err NoMemory) = Unit {0}
Judges scripts workers run state (Err NoThread) = ⊥
Judges scripts workers run state (Err (Audit report)) = Reports (length scripts) run state report × (IsRunOf scripts workers report → ⊥)
