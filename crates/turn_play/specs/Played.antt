-- A list of steps that the code made, and what follows where the premises hold along it.
use Rattle.std.specs.Prelude.{◌≡◌, List, [], ◌∷◌}
use Rattle.std.specs.List.{FoldsTo}
use Rattle.world_laws.specs.State.{WorldModel}
use Rattle.world_laws.specs.Headline.{Headline}
use Rattle.turn_laws.specs.Walks.{IsWalked}
use Rattle.turn_laws.specs.System.{System}
use Rattle.turn_laws.specs.Shadow.{IsShadow}
use Rattle.turn_laws.specs.Steps.{SystemEvent, SystemStep}
use Rattle.turn_laws.specs.Refines.{IsStart}
use Rattle.turn_laws.specs.LogHeadline.{LogHeadline, IsHeld}
use Rattle.turn_play.specs.May.{MayStep, HearsItsNodes, MayNow}

-- an event, and the system that it led to
pub record Step (C J : Type 0) : Type 0 where
  pub event : SystemEvent
  pub next : System C J

abbrev pub events_of : {C J : Type 0} → List (Step C J) → List SystemEvent
events_of [] = []
events_of (step ∷ steps) = step.event ∷ events_of steps

module _ {C J : Type 0} where
  -- these steps lead from the one to the other
  abbrev pub Leads : System C J → List (Step C J) → System C J → Type 0
  Leads s [] s' = s ≡ s'
  Leads s (step ∷ steps) s' = MayStep s step.event step.next × Leads step.next steps s'

  -- the premises hold at each of them
  abbrev pub AreGiven : System C J → List (Step C J) → Type 0
  AreGiven s [] = Unit {0}
  AreGiven s (step ∷ steps) = MayNow s step.event step.next × AreGiven step.next steps

  -- some steps lead there
  abbrev pub Plays : System C J → System C J → Type 0
  Plays s s' = (steps : List (Step C J)) × Leads s steps s'

  -- These steps are steps of the system. So the headline holds of its log, and its nodes hold the store that the log leaves; and the
  -- machine may do what they did.
  abbrev pub Holds : System C J → List (Step C J) → System C J → Type 0
  Holds start steps s' =
      FoldsTo SystemStep start (events_of steps) s' × LogHeadline s'.initial s'.log × IsHeld s'.initial s'.log s'.cluster
      × ((w : WorldModel) × IsWalked w × IsShadow s' w × Headline w)

module _ (C J : Type 0) where
  -- From a start that hears its nodes, where the premises hold along them, steps that the code made are steps of the system: so the
  -- headline holds.
  abbrev pub PlaysRefine : Type 0
  PlaysRefine = (start s' : System C J) (steps : List (Step C J)) → IsStart start → HearsItsNodes start → Leads start steps s' → AreGiven start steps → Holds start steps s'
