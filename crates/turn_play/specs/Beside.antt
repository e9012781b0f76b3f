-- The steps of a play in which others act: what the code made, and runs of others at its nodes.
use Rattle.std.specs.Prelude.{◌≡◌, ℕ, Bool, List, [], ◌∷◌, ◌++◌, All, length, map}
use Rattle.std.specs.List.{FoldsTo}
use Rattle.key_split.specs.PartModel.{PartModel}
use Rattle.node_model.specs.History.{IsLegal}
use Rattle.node_model.specs.Nodes.{store_at, with_store}
use Rattle.node_model.specs.Runs.{deed_for, HaveOneSlot, store_after_all}
use Rattle.node_model.specs.declared.role.Deed.TheVariants.{Executes}
use Rattle.node_model.specs.declared.role.Verdict.TheVariants.{Plain}
use Rattle.world_laws.specs.State.{WorldModel}
use Rattle.world_laws.specs.World.{IsNode}
use Rattle.shared_laws.specs.Shared.{AskIsTrue, IsOwn}
use Rattle.shared_laws.specs.SharedHeadline.{SharedHeadline}
use Rattle.turn_laws.specs.Walks.{IsSharedWalked}
use Rattle.turn_laws.specs.Wire.{Execution}
use Rattle.turn_laws.specs.System.{System}
use Rattle.turn_laws.specs.Shadow.{IsShadow, entry_at}
use Rattle.turn_laws.specs.Steps.{log_of}
use Rattle.turn_laws.specs.Sharing.{SharedEvent, SharedSystemStep}
use Rattle.turn_laws.specs.Refines.{IsStart}
use Rattle.turn_laws.specs.LogHeadline.{IsHeld}
use Rattle.turn_laws.specs.BytesHeadline.{BytesHeadline, sent_by, written_to}
use Rattle.turn_play.specs.May.{MayStep, HearsItsNodes, MayNow}

abbrev pub parts_of : List Execution → List PartModel
parts_of done = map (λ (e : Execution). e.part) done

-- an event, ours or others', and the system that it led to
pub record StepBeside (C J : Type 0) : Type 0 where
  pub event : SharedEvent
  pub next : System C J

abbrev pub shared_events_of : {C J : Type 0} → List (StepBeside C J) → List SharedEvent
shared_events_of [] = []
shared_events_of (step ∷ steps) = step.event ∷ shared_events_of steps

module _ {C J : Type 0} where
  -- A node executed these commands of others at once, whoever sent them there: tickets of one client, none of them ours, for keys of one
  -- slot, and each told what its store replied.
  pub record OthersMay (s : System C J) (node : ℕ) (asking : Bool) (done : List Execution) (s' : System C J) : Type 0 where
    pub client : ℕ
    pub theirs : All (λ (e : Execution). (e.ticket.client ≡ client) × (IsOwn (length s.workers) e.ticket → ⊥)) done
    pub one_slot : HaveOneSlot (parts_of done)
    pub there : IsNode s.cluster node
    pub executes : deed_for s.cluster node asking (parts_of done) Plain ≡ Executes
    pub legal : (moment : ℕ) → IsLegal (store_at s.cluster node) (map (entry_at moment) done)
    pub leaves : s' ≡ record s {
      cluster = with_store s.cluster node (store_after_all (store_at s.cluster node) (parts_of done));
      log = s.log ++ log_of done;
    }

  -- (The nodes of a play have one address each.)
  abbrev pub MayStepBeside : System C J → SharedEvent → System C J → Type 0
  MayStepBeside s (SharedEvent.Ours event) s' = MayStep s event s'
  MayStepBeside s (SharedEvent.Led event) s' = ⊥
  MayStepBeside s (SharedEvent.Theirs node asking done) s' = OthersMay s node asking done s'

  -- these steps lead from the one to the other
  abbrev pub LeadsBeside : System C J → List (StepBeside C J) → System C J → Type 0
  LeadsBeside s [] s' = s ≡ s'
  LeadsBeside s (step ∷ steps) s' = MayStepBeside s step.event step.next × LeadsBeside step.next steps s'

  -- a premise of a step of others: an ASK that they followed is true
  abbrev pub MayNowBeside : System C J → SharedEvent → System C J → Type 0
  MayNowBeside s (SharedEvent.Ours event) s' = MayNow s event s'
  MayNowBeside s (SharedEvent.Led event) s' = Unit {0}
  MayNowBeside s (SharedEvent.Theirs node asking done) s' = All (λ (e : Execution). AskIsTrue s.cluster node asking e.part) done

  -- the premises hold at each of them
  abbrev pub AreGivenBeside : System C J → List (StepBeside C J) → Type 0
  AreGivenBeside s [] = Unit {0}
  AreGivenBeside s (step ∷ steps) = MayNowBeside s step.event step.next × AreGivenBeside step.next steps

  -- some steps lead there
  abbrev pub PlaysBeside : System C J → System C J → Type 0
  PlaysBeside s s' = (steps : List (StepBeside C J)) × LeadsBeside s steps s'

  -- These steps are steps of the system and of others. So the headline holds in bytes: of what the clients sent and were written, in one legal
  -- history of everybody's commands. The nodes hold the store that the log leaves; and the machine beside others may do what they did.
  abbrev pub HoldsBeside : System C J → List (StepBeside C J) → System C J → Type 0
  HoldsBeside start steps s' =
      FoldsTo SharedSystemStep start (shared_events_of steps) s'
      × BytesHeadline s'.initial (length s'.workers) (sent_by (shared_events_of steps)) (written_to (shared_events_of steps)) s'.log
      × IsHeld s'.initial s'.log s'.cluster
      × ((w : WorldModel) × IsSharedWalked w × IsShadow s' w × SharedHeadline w)

module _ (C J : Type 0) where
  -- From a start that hears its nodes, where the premises hold along them, such steps are steps of the system and of others: so the
  -- headline holds.
  abbrev pub PlaysRefineBeside : Type 0
  PlaysRefineBeside = (start s' : System C J) (steps : List (StepBeside C J)) → IsStart start → HearsItsNodes start → LeadsBeside start steps s' → AreGivenBeside start steps
      → HoldsBeside start steps s'
