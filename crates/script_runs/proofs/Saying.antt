-- Lines, said one after another.
use Rattle.std.proofs.Common.{◌≡◌, ◌≤◌, ◌+◌, ◌==◌, ◌++◌, ◌∷◌, [], List, ℕ, suc, Bool, true, false, cond, Option, Some, None, Err, length, length-append, refl, sym, ap, ◌∙◌, arith}
use Rattle.std.specs.Prelude.{option_map}
use Rattle.cluster_world.specs.Schedule.{word_at}
use Rattle.cluster_world.specs.Script.{ScriptLine, Words}
use Rattle.script_runs.specs.declared.scripts.line.Kind.{Kind}
use Rattle.script_runs.specs.declared.scripts.line.Kind.TheVariants.{Client, Move, Recall, Request}
use Rattle.local_cluster.specs.declared.step.MoveStep.{MoveStep}
use Rattle.script_runs.specs.Scripts.{Task, with_clients, with_moves, with_kind, with_words, with_line, task_from, add_last, kind_of, move_steps, recall_steps, places_in, spelled}

add-last : (front : List (List ℕ)) (last bytes : List ℕ) → add_last (front ++ last ∷ []) bytes ≡ Some (front ++ (last ++ bytes) ∷ [])
add-last [] last bytes = refl
add-last (x ∷ []) last bytes = refl
add-last (x ∷ y ∷ zs) last bytes = ap (option_map (λ (later : List (List ℕ)). x ∷ later)) (add-last (y ∷ zs) last bytes)

pub fits : (n : ℕ) (t next : Task) (line : ScriptLine) (lines : List ScriptLine) → with_line t line ≡ Some next → task_from n t (line ∷ lines) ≡ task_from (n + 1) next lines
fits n t next line lines is = rw (is, task_from) refl

pub fits-not : (n : ℕ) (t : Task) (line : ScriptLine) (lines : List ScriptLine) → with_line t line ≡ None → task_from n t (line ∷ lines) ≡ Err n
fits-not n t line lines is = rw (is, task_from) refl

-- bytes were added to the last client's
pub added : (t : Task) (old front new : List (List ℕ)) (last bytes written : List ℕ) → old ≡ front ++ last ∷ [] → written ≡ last ++ bytes → new ≡ front ++ written ∷ []
    → option_map (with_clients t) (add_last old bytes) ≡ Some (with_clients t new)
added t old front new last bytes written was wrote is =
    ap (λ (cs : List (List ℕ)). option_map (with_clients t) (add_last cs bytes)) was ∙ ap (option_map (with_clients t)) (add-last front last bytes)
    ∙ ap (λ (b : List ℕ). Some (with_clients t (front ++ b ∷ []))) (sym wrote) ∙ ap (λ (cs : List (List ℕ)). Some (with_clients t cs)) (sym is)

-- ---- one line adds one client at most

kept-behind : (first : List ℕ) (count : ℕ) (kept : Option (List (List ℕ))) (after : List (List ℕ)) → ((later : List (List ℕ)) → kept ≡ Some later → length later ≡ count)
    → option_map (λ (later : List (List ℕ)). first ∷ later) kept ≡ Some after → length after ≡ suc count
kept-behind first count None after same is = absurd (cc)
kept-behind first count (Some later) after same is = let all : after ≡ first ∷ later = cc in ap length all ∙ ap suc (same later refl)

kept-last : (clients after : List (List ℕ)) (bytes : List ℕ) → add_last clients bytes ≡ Some after → length after ≡ length clients
kept-last [] after bytes is = absurd (cc)
kept-last (last ∷ []) after bytes is = let same : after ≡ (last ++ bytes) ∷ [] = cc in ap length same
kept-last (first ∷ next ∷ more) after bytes is =
    kept-behind first (length (next ∷ more)) (add_last (next ∷ more) bytes) after (λ later was. kept-last (next ∷ more) later bytes was) is

by-moves : (t next : Task) (steps : ℕ × ℕ → List MoveStep) (places : Option (ℕ × ℕ)) → option_map (λ p. with_moves t (steps p)) places ≡ Some next → next.clients ≡ t.clients
by-moves t next steps None is = absurd (cc)
by-moves t next steps (Some p) is = let same : next ≡ with_moves t (steps p) = cc in ap (λ (u : Task). u.clients) same

by-request : (t next : Task) (clients : Option (List (List ℕ))) → option_map (with_clients t) clients ≡ Some next → clients ≡ Some next.clients
by-request t next None is = absurd (cc)
by-request t next (Some cs) is = let same : with_clients t cs ≡ next = cc in ap (λ (u : Task). Some u.clients) same

by-client : (t next : Task) (alone : Bool) → cond alone (Some (with_clients t (t.clients ++ [] ∷ []))) None ≡ Some next → length next.clients ≡ length t.clients + 1
by-client t next false is = absurd (cc)
by-client t next true is =
    let same : with_clients t (t.clients ++ [] ∷ []) ≡ next = cc in
    sym (ap (λ (u : Task). length u.clients) same) ∙ length-append t.clients ([] ∷ [])

by-kind : (t next : Task) (kind : Kind) (words : Words) → with_kind t kind words ≡ Some next → length next.clients ≤ length t.clients + 1
by-kind t next Client words is = omega (arith, by-client t next (length words == 1) is)
by-kind t next Move words is = omega (arith, ap length (by-moves t next (λ p. move_steps p.0 p.1) (places_in words) is))
by-kind t next Recall words is = omega (arith, ap length (by-moves t next (λ p. recall_steps p.0 p.1) (places_in words) is))
by-kind t next Request words is = omega (arith, kept-last t.clients next.clients (spelled words) (by-request t next (add_last t.clients (spelled words)) is))

pub one-more : (t next : Task) (words : Words) → with_words t words ≡ Some next → length next.clients ≤ length t.clients + 1
unfolding with_words
one-more t next words is = by-kind t next (kind_of (word_at words 0)) words is
