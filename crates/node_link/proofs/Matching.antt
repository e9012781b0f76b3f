-- The k-th value belongs to the k-th request.
use Rattle.std.proofs.Common.{◌≡◌, ◌≤◌, ◌<◌, ◌+◌, ◌++◌, ◌∷◌, [], List, ℕ, zero, suc, length, map, drop, refl, ap, sym, ◌∙◌, inl, inr, arith, Some, None, length-append}
use Rattle.std.specs.Prelude.{slice_get}
use Rattle.std.proofs.lemmas.List.{drop-append-le}
use Rattle.std.proofs.lemmas.Grind.{common_steps}
use Rattle.resp_wire.specs.declared.value.Value.{Value}
use Rattle.key_split.specs.Requests.{Request}
use Rattle.node_link.specs.declared.link.Due.{Due}
use Rattle.node_link.specs.LinkModel.{LinkModel}
use Rattle.node_link.specs.LinkCalls.{due_of}
use Rattle.node_link.specs.Laws.{StandsFor, AnswersDue, MatchesReplies}
use Rattle.node_link.specs.Port.{PortCalls}

map_more : (a b : List Request) → map due_of (a ++ b) ≡ map due_of a ++ map due_of b
map_more [] b = refl
map_more (x ∷ a) b = ap (λ ds. due_of x ∷ ds) (map_more a b)

-- what stands at a place, and what stands behind it
at_place : (requests : List Request) (k : ℕ) (first : Due) (rest : List Due) → first ∷ rest ≡ map due_of (drop k requests)
    → (slice_get (map due_of requests) k ≡ Some first) × (rest ≡ map due_of (drop (suc k) requests)) × (suc k ≤ length requests)
at_place [] zero first rest e = absurd (cc)
at_place [] (suc k) first rest e = absurd (cc)
at_place (x ∷ xs) zero first rest e = (cc, cc, omega arith)
at_place (x ∷ xs) (suc k) first rest e = let h = at_place xs k first rest e in (h.0, h.1, omega (arith, h.2))

module _ {P : Type 0} where
  sent_behind : (requests more : List Request) (values : List Value) (old new : LinkModel P) → StandsFor requests values old
      → new.due ≡ old.due ++ map due_of more → StandsFor (requests ++ more) values new
  sent_behind requests more values old new s due = record {
    answered = omega (arith, s.answered, length-append requests more);
    due = rw (due, s.due, drop-append-le (length values) requests more s.answered) (sym (map_more (drop (length values) requests) more));
  }

  pub came : (requests : List Request) (values : List Value) (old new : LinkModel P) (first : Due) (value : Value) → StandsFor requests values old
      → old.due ≡ first ∷ new.due → AnswersDue requests values first value new
  came requests values old new first value s due =
      let h = at_place requests (length values) first new.due (sym due ∙ s.due) in
      let longer : length (values ++ value ∷ []) ≡ suc (length values) = grind (arith, common_steps) in
      (h.0, record { answered = omega (arith, longer, h.2); due = rw longer h.1 })

  same_due : (requests : List Request) (values : List Value) (old new : LinkModel P) → StandsFor requests values old → new.due ≡ old.due
      → StandsFor requests values new
  same_due requests values old new s due = record { answered = s.answered; due = due ∙ s.due }

  abbrev due_in : LinkModel P → List Due
  due_in link = link.due

  pub replies_match : (calls : PortCalls P) → MatchesReplies calls
  replies_match calls = record {
    sent = λ requests more values old new s does. sent_behind requests more values old new s (ap due_in does.2);
    told = λ requests values old new before after ticket told s does. (does.0, came requests values old new _ does.0 s does.3, does.4);
    slots = λ requests values old new before after value s does. came requests values old new _ value s does.2;
    none = λ requests values old new before after s does. elim does.2 [
      | inl still ↦ inl (same_due requests values old new s (ap due_in still.1))
      | inr asked ↦ inr (asked.0, came requests values old new _ asked.0 s asked.2)
    ];
  }
