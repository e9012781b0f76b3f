-- The steps of a play in which others act are steps of the system and of others.
use Rattle.std.proofs.Common.{◌∙◌, ℕ, Bool, List, [], ◌∷◌, ◌++◌, refl, sym, subst}
use Rattle.std.specs.Prelude.{All}
use Rattle.std.specs.List.{FoldsTo}
use Rattle.std.proofs.lemmas.List.Elements.{All-cons, All-head, All-nil, All-tail}
use Rattle.node_model.specs.Nodes.{ClusterModel, standing_at, with_store}
use Rattle.node_model.specs.Store.{StoreModel}
use Rattle.world_laws.specs.State.{WorldModel}
use Rattle.world_laws.proofs.Nodes.{size-with_store}
use Rattle.turn_laws.specs.Wire.{Execution}
use Rattle.turn_laws.specs.System.{System}
use Rattle.turn_laws.specs.Steps.{SystemEvent}
use Rattle.turn_laws.specs.Shadow.{IsShadow}
use Rattle.turn_laws.specs.Sharing.{SharedEvent, SharedRefines, SharedSystemStep}
use Rattle.turn_laws.specs.Naming.{NamesNodes}
use Rattle.turn_laws.specs.Refines.{IsStart}
use Rattle.turn_laws.specs.BytesHeadline.{HeadlineOfBytes}
use Rattle.turn_laws.specs.SharedLog.{SharedLogsAreHeld}
use Rattle.turn_laws.specs.Writing.{StandsAmong, StandsAtItsNodes}
use Rattle.turn_play.specs.May.{HearsItsNodes, ListsItsNodes}
use Rattle.turn_play.specs.Beside.{AreGivenBeside, LeadsBeside, MayNowBeside, MayStepBeside, OthersMay, PlaysRefineBeside, StepBeside, shared_events_of}
use Rattle.turn_play.specs.Played.{Leads, Step}
use Rattle.turn_play.specs.Playing.{PlayModel, PlaysSoundlyBeside, PlaysToBeside}
use Rattle.turn_play.specs.Deeds.{IsReached, Reaches}
use Rattle.turn_play.proofs.Playing.{AreMay, AreMayBeside, EachIs, PlaysWhere, PlaysWhereBeside}
use Rattle.turn_play.proofs.Refining.{Laws, hears-on, step-holds}
use Rattle.turn_play.proofs.Theirs.{others-do}

-- ---- lists of steps

module _ {C J : Type 0} where
  abbrev lifted : List (Step C J) → List (StepBeside C J)
  lifted [] = []
  lifted (step ∷ steps) = record { event = SharedEvent.Ours step.event; next = step.next } ∷ lifted steps

  leads-lifted : (s : System C J) (steps : List (Step C J)) (s' : System C J) → Leads s steps s' → LeadsBeside s (lifted steps) s'
  leads-lifted s [] s' x = x
  leads-lifted s (step ∷ steps) s' x = (x.0, leads-lifted step.next steps s' x.1)

  pub joined : (a : System C J) (steps : List (StepBeside C J)) (b : System C J) (later : List (StepBeside C J)) (c : System C J) → LeadsBeside a steps b → LeadsBeside b later c → LeadsBeside a (steps ++ later) c
  joined a [] b later c x y = subst (λ (s : System C J). LeadsBeside s later c) (sym x) y
  joined a (step ∷ steps) b later c x y = (x.0, joined step.next steps b later c x.1 y)

  pub goes-beside : (a b c : PlayModel C J) → PlaysToBeside a b → PlaysToBeside b c → PlaysToBeside a c
  goes-beside a b c x y s shows =
      let one = x s shows in
      let two = y one.0 one.2 in
      (two.0, (one.1.0 ++ two.1.0, joined s one.1.0 one.0 two.1.0 two.0 one.1.1 two.1.1), two.2)

  may-lifted : (s : System C J) (steps : List (Step C J)) → AreMay s steps → AreMayBeside s (lifted steps)
  may-lifted s [] x = tt
  may-lifted s (step ∷ steps) x = (x.0, may-lifted step.next steps x.1)

  each-lifted : (Is : SystemEvent → Type 0) (Also : SharedEvent → Type 0) → ((event : SystemEvent) → Is event → Also (SharedEvent.Ours event)) → (steps : List (Step C J)) → EachIs Is steps
      → All (λ (step : StepBeside C J). Also step.event) (lifted steps)
  each-lifted Is Also same [] all = All-nil (λ (step : StepBeside C J). Also step.event)
  each-lifted Is Also same (step ∷ steps) all =
      All-cons (λ (x : StepBeside C J). Also x.event) (record { event = SharedEvent.Ours step.event; next = step.next }) (lifted steps)
      (same step.event (All-head (λ (x : Step C J). Is x.event) step steps all)) (each-lifted Is Also same steps (All-tail (λ (x : Step C J). Is x.event) step steps all))

  pub plainly-beside : (Given : System C J → Type 0) (Is : SharedEvent → Type 0) (old new : PlayModel C J) → PlaysWhereBeside Given Is old new → PlaysToBeside old new
  plainly-beside Given Is old new x s shows = let one = x s shows in (one.0, (one.1.0, one.1.1), one.2)

  -- what the play does alone it does beside others
  pub beside : (Given : System C J → Type 0) (Is : SystemEvent → Type 0) (Also : SharedEvent → Type 0) → ((event : SystemEvent) → Is event → Also (SharedEvent.Ours event)) → (a b : PlayModel C J) → PlaysWhere Given Is a b
      → PlaysWhereBeside Given Also a b
  beside Given Is Also same a b x s shows =
      let one = x s shows in
      (one.0, (lifted one.1.0, leads-lifted s one.1.0 one.0 one.1.1, (λ given. may-lifted s one.1.0 (one.1.2 given)), each-lifted Is Also same one.1.0 one.1.3), one.2)

  -- ---- premises along steps

  pub premises : (s : System C J) (steps : List (StepBeside C J)) → AreMayBeside s steps → All (λ (step : StepBeside C J). ListsItsNodes step.next) steps → AreGivenBeside s steps
  premises s [] may all = tt
  premises s (step ∷ steps) may all =
      (may.0 (All-head (λ (x : StepBeside C J). ListsItsNodes x.next) step steps all), premises step.next steps may.1 (All-tail (λ (x : StepBeside C J). ListsItsNodes x.next) step steps all))

  pub premises-join : (a : System C J) (steps : List (StepBeside C J)) (b : System C J) (later : List (StepBeside C J)) → LeadsBeside a steps b → AreGivenBeside a steps → AreGivenBeside b later → AreGivenBeside a (steps ++ later)
  premises-join a [] b later leads x y = subst (λ (s : System C J). AreGivenBeside s later) (sym leads) y
  premises-join a (step ∷ steps) b later leads x y = (x.0, premises-join step.next steps b later leads.1 x.1 y)

  -- behind what was reached, more is
  pub reach : PlaysRefineBeside C J → (start : System C J) (before : List (StepBeside C J)) (s : System C J) (steps : List (StepBeside C J)) (s' : System C J) → IsReached start before s → LeadsBeside s steps s' → AreGivenBeside s steps
      → Reaches start (before ++ steps) s'
  reach refine start before s steps s' reached leads given =
      let all = joined start before s steps s' reached.leads leads in
      let premised = premises-join start before s steps reached.leads reached.given given in (
        record { starts = reached.starts; hears = reached.hears; leads = all; given = premised },
        refine start s' (before ++ steps) reached.starts reached.hears all premised,
      )

  pub soundly-beside : PlaysRefineBeside C J → (a b : PlayModel C J) → PlaysToBeside a b → PlaysSoundlyBeside a b
  soundly-beside refine a b x s shows =
      let one = x s shows in (
        one.0,
        one.1.0,
        one.1.1,
        one.2,
        λ start before fresh hears go given. refine start one.0 (before ++ one.1.0) fresh hears (joined start before s one.1.0 one.0 go one.1.1) given,
      )

-- ---- a run of others

same-standing : (k : ClusterModel) (node : ℕ) (store : StoreModel) → StandsAtItsNodes k → StandsAtItsNodes (with_store k node store)
same-standing k node store stands slot small = subst (λ (n : ℕ). StandsAmong n (standing_at k slot)) (sym (size-with_store k node store)) (stands slot small)

module _ {C J : Type 0} where
  others-hear : (s s' : System C J) (node : ℕ) (asking : Bool) (done : List Execution) → OthersMay s node asking done s' → HearsItsNodes s → HearsItsNodes s'
  others-hear s s' node asking done x hears = subst HearsItsNodes (sym x.leaves) (record { named = hears.named; stands = same-standing s.cluster node _ hears.stands })

  others-name : (s s' : System C J) (node : ℕ) (asking : Bool) (done : List Execution) → OthersMay s node asking done s' → NamesNodes s → NamesNodes s'
  others-name s s' node asking done x names = subst NamesNodes (sym x.leaves) (record {
    seed = names.seed;
    each = names.each ∙ sym (size-with_store s.cluster node _);
    published = names.published;
    backends = names.backends;
    downs = names.downs;
    posted = names.posted;
  })

  folds-beside : (events : List SharedEvent) (a b : System C J) (event : SharedEvent) (c : System C J) → FoldsTo SharedSystemStep a events b → SharedSystemStep b event c → FoldsTo SharedSystemStep a (events ++ event ∷ []) c
  folds-beside [] a b event c f x = (c, subst (λ s. SharedSystemStep s event c) (sym f) x, refl)
  folds-beside (e ∷ events) a b event c f x = (f.0, f.1, folds-beside events f.0 b event c f.2 x)

module _ (C J : Type 0) (laws : Laws C J) (shared : SharedRefines C J) (start : System C J) (fresh : IsStart start) where
  -- what is known of each system on the way
  abbrev Known : System C J → Type 0
  Known s = NamesNodes s × HearsItsNodes s

  one-step : (s s' : System C J) (w : WorldModel) → IsShadow s w → Known s → (event : SharedEvent) → MayStepBeside s event s' → MayNowBeside s event s' → SharedSystemStep s event s' × Known s'
  one-step s s' w h known (SharedEvent.Ours event) may now =
      let x = step-holds laws.heard s s' w h known.0 known.1 event may now in
      (x, (laws.names event s s' w h known.0 x, hears-on C J laws start fresh s s' event may x known.1))
  one-step s s' w h known (SharedEvent.Led event) may now = absurd may
  one-step s s' w h known (SharedEvent.Theirs node asking done) may now =
      (others-do s s' node asking done may now, (others-name s s' node asking done may known.0, others-hear s s' node asking done may known.1))

  -- the steps after some that were made
  along : (before : List SharedEvent) (s s' : System C J) (steps : List (StepBeside C J)) → FoldsTo SharedSystemStep start before s → Known s → LeadsBeside s steps s' → AreGivenBeside s steps → FoldsTo SharedSystemStep s (shared_events_of steps) s'
  along before s s' [] f known go given = go
  along before s s' (step ∷ steps) f known go given =
      let r = shared start s before fresh f in
      let x = one-step s step.next r.0 r.2 known step.event go.0 given.0 in
      let later = along (before ++ step.event ∷ []) step.next s' steps (folds-beside before start s step.event step.next f x.0) x.1 go.1 given.1 in
      (step.next, x.0, later)

module _ (C J : Type 0) (laws : Laws C J) (shared : SharedRefines C J) (headline : HeadlineOfBytes C J) (held : SharedLogsAreHeld C J) where
  pub plays-refine-beside : PlaysRefineBeside C J
  plays-refine-beside start s' steps fresh hears go given =
      let f = along C J laws shared start fresh [] start s' steps refl ((laws.starts start fresh).3, hears) go given in
      let events = shared_events_of steps in
      (f, headline start s' events fresh f, held start s' events fresh f, shared start s' events fresh f)
