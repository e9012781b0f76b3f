-- The report of a run, judged.
use Rattle.std.proofs.Common.{◌≡◌, ◌∙◌, ◌<◌, ◌+◌, ◌++◌, sym, ap, subst, List, ℕ, Bool, true, false, refl, ◌∷◌, [], arith, get_or, take}
use Rattle.std.specs.Prelude.{length, replicate}
use Rattle.std.specs.List.{fold}
use Rattle.std.proofs.lemmas.Grind.{common_steps}
use Rattle.std.proofs.lemmas.List.{length-set, take_more}
use Rattle.cluster_world.specs.Lawful.{IsLawful}
use Rattle.cluster_world.specs.declared.run_report.RunReport.{RunReport}
use Rattle.script_runs.specs.Answered.{put_reply, replies_in}
use Rattle.script_runs.specs.declared.record.ClientRecord.{ClientRecord}
use Rattle.script_runs.specs.Requests.{Requested}
use Rattle.script_runs.specs.Run.{AreAnswered, IsRunOf}
use Rattle.script_runs.proofs.Asking.{all-asked}
use Rattle.script_runs.proofs.Judging.{Found}

-- the item at this place comes next
pub next-item : {X : Type 0} (xs : List X) (i : ℕ) (x : X) → x ≡ get_or xs i x → i < length xs → take i xs ++ x ∷ [] ≡ take (i + 1) xs
next-item xs i x is within = ap (λ item. take i xs ++ item ∷ []) is ∙ sym (take_more xs i x within)

length-put : (clients : List ClientRecord) (replies : List (List ℕ)) → length (fold put_reply replies clients) ≡ length replies
length-put [] replies = refl
length-put (client ∷ clients) replies = length-put clients (put_reply replies client) ∙ length-set replies client.client client.replies

as-many : (n : ℕ) → length (replicate n (let none : List ℕ = [] in none)) ≡ n
as-many n = grind (arith, common_steps)

-- as many as there are clients
pub replies-for-all : (n : ℕ) (clients : List ClientRecord) → length (replies_in n clients) ≡ n
replies-for-all n clients = length-put clients (replicate n []) ∙ as-many n

-- ---- the report

pub is-run : (workers : ℕ) (scripts : List (List ℕ)) (report : RunReport) (answered : Bool) → Found workers report.stopped.items report.ends.items scripts report.replies.items report.parts.items answered
    → answered ≡ true → IsLawful report.parts.items report.ends.items report.history.items → IsRunOf scripts workers report
is-run workers scripts report answered found all lawful = record { asked = found.0; asks = found.1; lawful = lawful; parts = found.2; answered = found.3.0 all }

pub is-no-run : (workers : ℕ) (scripts : List (List ℕ)) (report : RunReport) (answered : Bool) → Found workers report.stopped.items report.ends.items scripts report.replies.items report.parts.items answered
    → answered ≡ false → IsRunOf scripts workers report → ⊥
is-no-run workers scripts report answered found no-answer run =
    let same = all-asked scripts run.asked found.0 run.asks found.1 in
    let P : List Requested → Type 0 = λ a. AreAnswered workers report.stopped.items report.ends.items 0 a report.replies.items in
    let all = found.3.1 (subst P same run.answered) in
    absurd (let no-truth : false ≡ true = sym no-answer ∙ all in cc)
