-- What was reached where nobody else acted.
use Rattle.std.proofs.Common.{List, [], ◌∷◌}
use Rattle.std.specs.Prelude.{All}
use Rattle.std.proofs.lemmas.List.Elements.{All-head, All-tail}
use Rattle.turn_laws.specs.System.{System}
use Rattle.turn_laws.specs.Sharing.{SharedEvent}
use Rattle.turn_play.specs.Played.{AreGiven, Leads, PlaysRefine, Step}
use Rattle.turn_play.specs.Beside.{AreGivenBeside, LeadsBeside, StepBeside}
use Rattle.turn_play.specs.Deeds.{IsOwn, ReachedAlone}

module _ {C J : Type 0} where
  -- the same steps, of a system alone
  abbrev AsAlone : List (StepBeside C J) → Type 0
  AsAlone steps =
      (own : List (Step C J)) × ((s s' : System C J) → LeadsBeside s steps s' → Leads s own s') × ((s : System C J) → AreGivenBeside s steps → AreGiven s own)

  one-alone : (event : SharedEvent) (next : System C J) → IsOwn event → (steps : List (StepBeside C J)) → AsAlone steps → AsAlone (record { event = event; next = next } ∷ steps)
  one-alone (SharedEvent.Ours event) next own steps later =
      (record { event = event; next = next } ∷ later.0, (λ s s' x. (x.0, later.1 next s' x.1)), (λ s x. (x.0, later.2 next x.1)))
  one-alone (SharedEvent.Led event) next own steps later = absurd own
  one-alone (SharedEvent.Theirs node asking done) next own steps later = absurd own

  all-alone : (steps : List (StepBeside C J)) → All (λ (step : StepBeside C J). IsOwn step.event) steps → AsAlone steps
  all-alone [] own = ([], (λ s s' x. x), (λ s x. tt))
  all-alone (step ∷ steps) own =
      one-alone step.event step.next (All-head (λ (x : StepBeside C J). IsOwn x.event) step steps own) steps (all-alone steps (All-tail (λ (x : StepBeside C J). IsOwn x.event) step steps own))

module _ (C J : Type 0) where
  pub reached-alone : PlaysRefine C J → ReachedAlone C J
  reached-alone refine start s steps reached own =
      let alone = all-alone steps own in
      let holds = refine start s alone.0 reached.starts reached.hears (alone.1 start s reached.leads) (alone.2 start reached.given) in
      (holds.1, holds.2)
