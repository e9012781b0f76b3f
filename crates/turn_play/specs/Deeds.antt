-- What a play did, order by order: the steps that each order made, and the system that it left. So the premises are said of what each order
-- finds, and what one call of a play leaves is what the next goes on from.
use Rattle.std.specs.Prelude.{◌≡◌, ◌⊎◌, ℕ, Bool, List, [], ◌∷◌, ◌++◌, All, Result, Ok, Err}
use Rattle.key_split.specs.PartModel.{PartModel}
use Rattle.node_model.specs.declared.role.Verdict.{Verdict}
use Rattle.node_model.specs.declared.role.Verdict.TheVariants.{TryAgain}
use Rattle.proxy_turns.specs.Port.{Moves}
use Rattle.shared_laws.specs.Shared.{AskIsTrue}
use Rattle.turn_laws.specs.System.{System}
use Rattle.turn_laws.specs.Steps.{SystemEvent, AtNode, Moved}
use Rattle.turn_laws.specs.Sharing.{SharedEvent}
use Rattle.turn_laws.specs.Refines.{IsStart}
use Rattle.turn_laws.specs.LogHeadline.{IsHeld, LogHeadline}
use Rattle.turn_play.specs.declared.fault.PlayFault.{PlayFault}
use Rattle.turn_play.specs.declared.order.Order.{Order}
use Rattle.turn_play.specs.declared.order.Order.TheVariants as order
use Rattle.turn_play.specs.May.{HearsItsNodes, ListsItsNodes, MayMoveNow}
use Rattle.turn_play.specs.Moving.{event_of}
use Rattle.turn_play.specs.Turns.{IsTurns}
use Rattle.turn_play.specs.Beside.{AreGivenBeside, HoldsBeside, LeadsBeside, StepBeside, parts_of}
use Rattle.turn_play.specs.Playing.{PlayModel, Shows}
use Rattle.turn_play.specs.Obeying.{Obeys, ObeysAll, StaysInOrder}

-- an order, the steps that it made, and the system to which they led
pub record Deed (C J : Type 0) : Type 0 where
  pub order : Order
  pub steps : List (StepBeside C J)
  pub next : System C J

-- these commands come to this node
abbrev pub IsEventOfOthers : ℕ → Bool → List PartModel → SharedEvent → Type 0
IsEventOfOthers node asking parts (SharedEvent.Ours event) = ⊥
IsEventOfOthers node asking parts (SharedEvent.Led event) = ⊥
IsEventOfOthers node asking parts (SharedEvent.Theirs n a done) = (n ≡ node) × (a ≡ asking) × (parts_of done ≡ parts)

-- The node serves, as the verdict says; or it refuses by TRYAGAIN, as which a block is heard that it refused by CLUSTERDOWN or TRYAGAIN.
abbrev pub IsServing : ℕ → Verdict → SystemEvent → Type 0
IsServing node verdict event = (event ≡ AtNode node verdict) ⊎ (event ≡ AtNode node TryAgain)

-- the event is one of those that the order makes
abbrev pub IsEventOf : Order → SharedEvent → Type 0
IsEventOf order.Turn (SharedEvent.Ours event) = IsTurns event
IsEventOf (order.Serve node verdict) (SharedEvent.Ours event) = IsServing node verdict event
IsEventOf (order.Break node) (SharedEvent.Ours event) = ⊥
IsEventOf (order.Cut node most) (SharedEvent.Ours event) = ⊥
IsEventOf (order.Move step) (SharedEvent.Ours event) = event ≡ Moved (event_of step)
IsEventOf (order.Others node asking parts) event = IsEventOfOthers node asking parts.items event
IsEventOf order (SharedEvent.Led event) = ⊥
IsEventOf order (SharedEvent.Theirs n a done) = ⊥

-- it is a step of the system alone
abbrev pub IsOwn : SharedEvent → Type 0
IsOwn (SharedEvent.Ours event) = Unit {0}
IsOwn (SharedEvent.Led event) = ⊥
IsOwn (SharedEvent.Theirs node asking done) = ⊥

module _ {C J : Type 0} where
  -- all their steps
  abbrev pub steps_of : List (Deed C J) → List (StepBeside C J)
  steps_of [] = []
  steps_of (deed ∷ deeds) = deed.steps ++ steps_of deeds

  -- the system that they left
  abbrev pub left_by : System C J → List (Deed C J) → System C J
  left_by s [] = s
  left_by s (deed ∷ deeds) = left_by deed.next deeds

  -- Each order was obeyed in a play that the system before it shows, by steps of its own to a system that shows the play after it; the last
  -- of them where a fault came.
  module _ (moves : Moves C) (gives_none takes_none : C → Type 0) where
    abbrev pub AreDeeds : System C J → PlayModel C J → List Order → Result (Unit {0}) PlayFault → List (Deed C J) → PlayModel C J → Type 0
    AreDeeds s old [] result [] new = (result ≡ Ok tt) × (new ≡ old)
    AreDeeds s old [] result (deed ∷ deeds) new = ⊥
    AreDeeds s old (order ∷ orders) result [] new = ⊥
    AreDeeds s old (order ∷ orders) result (deed ∷ deeds) new =
        (deed.order ≡ order) × LeadsBeside s deed.steps deed.next × All (λ (step : StepBeside C J). IsEventOf order step.event) deed.steps
        × (((mid : PlayModel C J) × Obeys moves gives_none takes_none old order (Ok tt) mid × Shows mid deed.next × AreDeeds deed.next mid orders result deeds new)
        ⊎ ((why : PlayFault) × (result ≡ Err why) × Obeys moves gives_none takes_none old order (Err why) new × Shows new deed.next × (deeds ≡ [])))

  -- ---- the premises

  -- what an order asks of the system that it finds: an import waits, and an ASK that others follow is true
  abbrev pub IsGranted : System C J → Order → Type 0
  IsGranted s order.Turn = Unit {0}
  IsGranted s (order.Serve node verdict) = Unit {0}
  IsGranted s (order.Break node) = Unit {0}
  IsGranted s (order.Cut node most) = Unit {0}
  IsGranted s (order.Move step) = MayMoveNow s (event_of step)
  IsGranted s (order.Others node asking parts) = All (λ (part : PartModel). AskIsTrue s.cluster node asking part) parts.items

  -- each order finds what it asks, and behind each step the carrier's table lists nodes of the cluster
  abbrev pub AreGranted : System C J → List (Deed C J) → Type 0
  AreGranted s [] = Unit {0}
  AreGranted s (deed ∷ deeds) = IsGranted s deed.order × All (λ (step : StepBeside C J). ListsItsNodes step.next) deed.steps × AreGranted deed.next deeds

  -- these steps led there from a start that hears its nodes, with the premises along them
  pub record IsReached (start : System C J) (steps : List (StepBeside C J)) (s : System C J) : Type 0 where
    pub starts : IsStart start
    pub hears : HearsItsNodes start
    pub leads : LeadsBeside start steps s
    pub given : AreGivenBeside start steps

  -- The system is reached so, and the headline holds of it.
  abbrev pub Reaches : System C J → List (StepBeside C J) → System C J → Type 0
  Reaches start steps s = IsReached start steps s × HoldsBeside start steps s

  module _ (moves : Moves C) (gives_none takes_none : C → Type 0) where
    -- Of each system that shows the old play there are such deeds, to a system that shows the new. Where the first was reached, and they are
    -- granted what they ask, the last is reached, and the headline holds of it.
    abbrev pub PlaysOn : PlayModel C J → List Order → Result (Unit {0}) PlayFault → PlayModel C J → Type 0
    PlaysOn old orders result new = (s : System C J) → Shows old s → (deeds : List (Deed C J)) × AreDeeds moves gives_none takes_none s old orders result deeds new × Shows new (left_by s deeds)
        × ((start : System C J) (before : List (StepBeside C J)) → IsReached start before s → AreGranted s deeds → Reaches start (before ++ steps_of deeds) (left_by s deeds))

module _ (C J : Type 0) where
  -- where a system was reached and nobody else acted, the headline holds of the whole log
  abbrev pub ReachedAlone : Type 0
  ReachedAlone = (start s : System C J) (steps : List (StepBeside C J)) → IsReached start steps s → All (λ (step : StepBeside C J). IsOwn step.event) steps → LogHeadline s.initial s.log × IsHeld s.initial s.log s.cluster

module _ (C J : Type 0) (moves : Moves C) (gives_none takes_none : C → Type 0) where
  -- whatever orders were obeyed, the play goes on so
  abbrev pub ObeyedPlaysOn : Type 0
  ObeyedPlaysOn = (old new : PlayModel C J) (orders : List Order) (result : Result (Unit {0}) PlayFault) → ObeysAll moves gives_none takes_none old orders result new → StaysInOrder result → PlaysOn moves gives_none takes_none old orders result new
