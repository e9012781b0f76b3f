-- What a run of scripts writes.
-- This project's format. Status 0 only behind the line that says that the report is a lawful run of the scripts.
use Rattle.std.specs.Prelude.{◌≡◌, ◌⊎◌, ◌≤◌, ◌++◌, ℕ, List, length, Result, Ok, Err, codes}
use Rattle.cluster_world.specs.Report.{bad_line, line}
use Rattle.cluster_world.specs.Script.{lines_of}
use Rattle.cluster_world.specs.Simulate.{too_long_text, read_failed_text}
use Rattle.cluster_world.specs.Watched.{IsTooLong, WatchedReaderModel}
use Rattle.cluster_world.specs.declared.watched.LastRead.TheVariants.{End, Failure}
use Rattle.cluster_world.specs.declared.input.Input.{Input}
use Rattle.cluster_world.specs.declared.input.Input.TheVariants.{Whole, TooLong, Failed}
use Rattle.cluster_world.specs.declared.run_report.RunReport.{RunReport}
use Rattle.local_cluster.specs.Local.{LocalStateModel}
use Rattle.script_runs.specs.declared.local_fault.LocalFault.{LocalFault}
use Rattle.script_runs.specs.declared.local_fault.LocalFault.TheVariants.{NoMemory, NoThread, Audit}
use Rattle.script_runs.specs.ReplyText.{RepliesText}
use Rattle.script_runs.specs.Run.{IsRunOf}
use Rattle.script_runs.specs.Scripts.{Task, nothing, task_from}

abbrev pub lawful_text : List ℕ
lawful_text = line (codes "audit ok")

abbrev pub unlawful_text : List ℕ
unlawful_text = line (codes "audit failed")

-- the replies of a report, and then a line
abbrev pub WritesReplies : RunReport → List ℕ → List ℕ → Type 0
WritesReplies report last text = (replies : List ℕ) × RepliesText 0 report.replies.items replies × (text ≡ replies ++ last)

-- the replies of a report, and then that it is a lawful run of the scripts, or that it is none
abbrev pub WritesReport : List (List ℕ) → ℕ → ℕ → List ℕ → Type 0
WritesReport scripts workers status text =
    (report : RunReport)
    × ((IsRunOf scripts workers report × (status ≡ 0) × WritesReplies report lawful_text text)
    ⊎ ((IsRunOf scripts workers report → ⊥) × (status ≡ 1) × WritesReplies report unlawful_text text))

-- what is written of what a run answers
abbrev pub WritesVerdict : Result (RunReport × LocalStateModel) LocalFault → ℕ → List ℕ → Type 0
WritesVerdict (Ok given) status text = (status ≡ 0) × WritesReplies given.0 lawful_text text
WritesVerdict (Err (Audit report)) status text = (status ≡ 1) × WritesReplies report unlawful_text text
WritesVerdict (Err NoMemory) status text = ⊥
WritesVerdict (Err NoThread) status text = ⊥

-- the status and the text for what the lines say, or for the first of them that does not fit
abbrev pub WritesTask : ℕ → Result Task ℕ → ℕ → List ℕ → Type 0
WritesTask workers (Ok task) status text = WritesReport task.clients workers status text
WritesTask workers (Err number) status text = (status ≡ 1) × (text ≡ bad_line number)

-- the same for an input that was read whole
abbrev pub Writes : ℕ → List ℕ → ℕ → List ℕ → Type 0
Writes workers input status text = WritesTask workers (task_from 1 nothing (lines_of input)) status text

-- the same for what was read
abbrev pub WritesRead : ℕ → Input → ℕ → List ℕ → Type 0
WritesRead workers (Whole input) status text = Writes workers input.items status text
WritesRead workers TooLong status text = (status ≡ 1) × (text ≡ too_long_text)
WritesRead workers Failed status text = (status ≡ 1) × (text ≡ read_failed_text)

-- the same for an input of which at most `limit` bytes are read, in as many reads: it was read to its end, or is too long, or a read failed
abbrev pub WritesFor : {R : Type 0} → ℕ → ℕ → List ℕ → ℕ → WatchedReaderModel R → ℕ → List ℕ → Type 0
WritesFor limit workers input before now status text =
    ((length input ≤ limit) × (now.last ≡ End) × Writes workers input status text)
    ⊎ ((IsTooLong limit input before now × (status ≡ 1) × (text ≡ too_long_text))
    ⊎ ((now.last ≡ Failure) × (status ≡ 1) × (text ≡ read_failed_text)))
