-- Steps that the code made, with their premises, are steps of a system.
use Rattle.std.proofs.Common.{◌≡◌, inl, inr, ⊎_elim, ℕ, zero, suc, List, [], ◌∷◌, ◌++◌, Some, refl, sym, ap, ◌∙◌, subst, arith, length}
use Rattle.std.specs.Prelude.{All, slice_get}
use Rattle.std.specs.List.{FoldsTo}
use mathlib.Core.List.{IsPrefix}
use Rattle.slot_map.specs.Table.{Endpoint}
use Rattle.node_link.specs.LinkModel.{LinkModel}
use Rattle.proxy_turns.specs.WorkerModel.{WorkerEvent}
use Rattle.world_laws.specs.State.{WorldModel}
use Rattle.world_laws.specs.declared.event.Event.{Event}
use Rattle.world_laws.specs.declared.event.Event.TheVariants as core
use Rattle.node_model.specs.Nodes.{ClusterModel}
use Rattle.node_model.specs.declared.role.Verdict.{Verdict}
use Rattle.node_model.specs.Runs.{deed_for, DoesRun}
use Rattle.resp_wire.specs.declared.value.Value.{Value}
use Rattle.key_split.specs.declared.travel.Told.{Told}
use Rattle.key_split.specs.declared.travel.Told.TheVariants.{TryAgain}
use Rattle.turn_laws.specs.Wire.{Wire, Execution, AreTold, ServesNext, heard_in, parts_in}
use Rattle.turn_laws.specs.System.{System}
use Rattle.turn_laws.specs.Shadow.{IsShadow}
use Rattle.turn_laws.specs.Underway.{IsWorking}
use Rattle.turn_laws.specs.Steps.{SystemEvent, AtWorker, AtCarrier, Handed, AtNode, AtBroken, Thrown, Moved, SystemStep, WorkerStep, Serves, MovesOn}
use Rattle.turn_laws.specs.Naming.{NamesNodes}
use Rattle.turn_laws.specs.Refines.{NamesStay, Refines, StartsRefine, IsStart}
use Rattle.turn_laws.specs.LogHeadline.{HeadlineOfLogs, LogsAreHeld}
use Rattle.turn_laws.specs.Writing.{AreEndpointsOf, CanBeNamed, SlotsStay, StandsAtItsNodes, WrittenIsHeard}
use Rattle.turn_play.specs.May.{AreSaid, AreSaidAgain, again, MayStep, WorkerMay, ServesMay, MayServeNext, ClusterMoves, HearsItsNodes, MayMoveNow, MayNow}
use Rattle.turn_play.specs.Played.{Step, events_of, Leads, AreGiven, PlaysRefine}

-- a list as long as another has an item at each of its places
beside : {X Y : Type 0} (xs : List X) (ys : List Y) (i : ℕ) (y : Y) → length xs ≡ length ys → slice_get ys i ≡ Some y → (x : X) × (slice_get xs i ≡ Some x)
beside [] [] i y e at = absurd (cc)
beside [] (z ∷ ys) i y e at = absurd (omega (arith, e))
beside (x ∷ xs) [] i y e at = absurd (omega (arith, e))
beside (x ∷ xs) (z ∷ ys) zero y e at = (x, refl)
beside (x ∷ xs) (z ∷ ys) (suc i) y e at = beside xs ys i y (omega (arith, e)) at

-- TRYAGAIN is heard in the line that stands for it
heard-again : (table : List Endpoint) (node : ℕ) (tolds : List Told) (values : List Value) → AreSaidAgain tolds values → AreTold table node values tolds
heard-again table node [] [] x = tt
heard-again table node [] (value ∷ values) x = absurd x
heard-again table node (told ∷ tolds) [] x = absurd x
heard-again table node (told ∷ tolds) (value ∷ values) x =
    let first : heard_in again node table ≡ (TryAgain, table) = refl in
    ((λ i. heard_in (x.1 i) node table) ∙ first ∙ (λ i. (sym x.0 i, table)), heard-again table node tolds values x.2)

-- what a node of the cluster tells is heard in what it writes, so it serves the wire that leads to it
next-holds : WrittenIsHeard → (table : List Endpoint) (cluster : ClusterModel) → AreEndpointsOf cluster table → StandsAtItsNodes cluster → (k : ℕ) (old : Wire) (verdict : Verdict) (cluster' : ClusterModel) (new : Wire) (values : List Value) (done : List Execution) → k ≡ old.node
    → MayServeNext table cluster k old verdict cluster' new values done → ServesNext table cluster old verdict cluster' new values done
next-holds heard table cluster ends stands k old verdict cluster' new values done there (inl x) = inl x
next-holds heard table cluster ends stands k old verdict cluster' new values done there (inr (inl x)) = inr (inl (
  x.0,
  x.1,
  x.2,
  x.3,
  x.4,
  subst (λ (n : ℕ). DoesRun (deed_for cluster n old.asking (parts_in x.1) verdict) cluster n (parts_in x.1) x.2 cluster') there x.5,
  subst (λ (n : ℕ). AreTold table n values x.2) there (said x.6),
  x.7,
  x.8,
))
  where
    said : AreSaid table x.2 values → AreTold table k values x.2
    said (inl written) = heard table cluster k old.asking (parts_in x.1) verdict x.2 cluster' values ends stands x.4 x.5 written
    said (inr again) = heard-again table k x.2 values again
next-holds heard table cluster ends stands k old verdict cluster' new values done there (inr (inr x)) = inr (inr x)

module _ {C J : Type 0} where
  -- one more step
  folds-on : (events : List SystemEvent) (a b : System C J) (event : SystemEvent) (c : System C J) → FoldsTo SystemStep a events b → SystemStep b event c → FoldsTo SystemStep a (events ++ event ∷ []) c
  folds-on [] a b event c f x = (c, subst (λ s. SystemStep s event c) (sym f) x, refl)
  folds-on (e ∷ events) a b event c f x = (f.0, f.1, folds-on events f.0 b event c f.2 x)

  worker-holds : (s s' : System C J) (w : WorldModel) → IsShadow s w → (k : ℕ) (event : WorkerEvent) → WorkerMay s k event s' → WorkerStep s k event s'
  worker-holds s s' w h k event x =
      let lane = beside s.carrier.lanes s.workers k x.old (sym h.sides) x.at in
      record {
        old = x.old;
        new = x.new;
        lane = lane.0;
        marks = x.marks;
        at = x.at;
        beside = lane.1;
        does = x.does;
        seen = x.seen;
        leaves = x.leaves;
        in_step = x.in_step lane.0 lane.1;
        shown = x.shown;
      }

  -- of a system that stands for a world, the connection at a backend leads to its node
  leads-there : (s : System C J) (w : WorldModel) → IsShadow s w → (k : ℕ) (link : LinkModel Wire) → IsWorking s.carrier k link → link.port.node ≡ k
  leads-there s w h k link works =
      let r = h.links.backends k link works in
      ⊎_elim (λ y. y.4.wired) (λ y. y.1.wired) r.2 ∙ r.0

  -- the endpoints of a system that hears its nodes are those of its cluster
  endpoints : (s : System C J) (w : WorldModel) → IsShadow s w → NamesNodes s → HearsItsNodes s → AreEndpointsOf s.cluster s.nodes
  endpoints s w h names hears = record { each = names.each; apart = h.apart; named = hears.named }

  serves-holds : WrittenIsHeard → (s s' : System C J) (w : WorldModel) → IsShadow s w → NamesNodes s → HearsItsNodes s → (k : ℕ) (verdict : Verdict) → ServesMay s k verdict s' → Serves s k verdict s'
  serves-holds heard s s' w h names hears k verdict x =
      let works : IsWorking s.carrier k x.1 = (x.0, x.5, x.6, x.7) in
      let there : k ≡ x.1.port.node = sym (leads-there s w h k x.1 works) in
      (x.0, x.1, x.2, x.3, x.4, x.5, x.6, x.7, next-holds heard s.nodes s.cluster (endpoints s w h names hears) hears.stands k x.1.port verdict s'.cluster x.2 x.3 x.4 there x.8, x.9, x.10)

  moves-hold : (s : System C J) (event : Event) (k : ClusterModel) → ClusterMoves s.cluster event k → MayMoveNow s event → MovesOn s event k
  moves-hold s (core.Import slot target) k x now = (now, x.0, x.1)
  moves-hold s (core.Migrate slot) k x now = x
  moves-hold s (core.MoveKey slot key) k x now = x
  moves-hold s (core.Own slot) k x now = x
  moves-hold s (core.Release slot) k x now = x
  moves-hold s (core.Forget slot) k x now = x
  moves-hold s (core.Stay slot) k x now = x
  moves-hold s (core.Arrive client part) k x now = x
  moves-hold s (core.Post ticket node) k x now = x
  moves-hold s (core.Carry lane link) k x now = x
  moves-hold s (core.Refuse lane) k x now = x
  moves-hold s (core.Serve link verdict) k x now = x
  moves-hold s (core.Fetch link) k x now = x
  moves-hold s (core.Take lane) k x now = x
  moves-hold s (core.Drop link) k x now = x
  moves-hold s (core.Discard link) k x now = x
  moves-hold s (core.Answer client) k x now = x

  pub step-holds : WrittenIsHeard → (s s' : System C J) (w : WorldModel) → IsShadow s w → NamesNodes s → HearsItsNodes s → (event : SystemEvent) → MayStep s event s' → MayNow s event s' → SystemStep s event s'
  step-holds heard s s' w h names hears (AtWorker k event) x now = worker-holds s s' w h k event x
  step-holds heard s s' w h names hears (AtCarrier event) x now = record { longest = x.longest; does = x.does; breaks = x.breaks; leaves = x.leaves; in_step = x.in_step; table = subst (λ (nodes : List Endpoint). IsPrefix s'.carrier.nodes nodes) (ap (λ (t : System C J). t.nodes) x.leaves) now }
  step-holds heard s s' w h names hears (Handed k number) x now = x
  step-holds heard s s' w h names hears (AtNode k verdict) x now = serves-holds heard s s' w h names hears k verdict x
  step-holds heard s s' w h names hears (AtBroken j verdict) x now = x
  step-holds heard s s' w h names hears (Thrown j) x now = x
  step-holds heard s s' w h names hears (Moved event) x now = (moves-hold s event s'.cluster x.0 now, x.1)

  -- no step changes the nodes' endpoints
  same-nodes : (s s' : System C J) (event : SystemEvent) → MayStep s event s' → s'.nodes ≡ s.nodes
  same-nodes s s' (AtWorker k event) x = ap (λ (t : System C J). t.nodes) x.leaves
  same-nodes s s' (AtCarrier event) x = ap (λ (t : System C J). t.nodes) x.leaves
  same-nodes s s' (Handed k number) x = ap (λ (t : System C J). t.nodes) x.4
  same-nodes s s' (AtNode k verdict) x = ap (λ (t : System C J). t.nodes) x.10
  same-nodes s s' (AtBroken j verdict) x = ap (λ (t : System C J). t.nodes) x.7
  same-nodes s s' (Thrown j) x = ap (λ (t : System C J). t.nodes) x.2
  same-nodes s s' (Moved event) x = ap (λ (t : System C J). t.nodes) x.1

-- what is brought in of the system's laws
pub record Laws (C J : Type 0) : Type 0 where
  pub starts : StartsRefine C J
  pub refines : Refines C J
  pub names : NamesStay C J
  pub slots : SlotsStay C J
  pub heard : WrittenIsHeard

module _ (C J : Type 0) (laws : Laws C J) (start : System C J) (fresh : IsStart start) where
  -- the nodes are heard after a step too
  pub hears-on : (s s' : System C J) (event : SystemEvent) → MayStep s event s' → SystemStep s event s' → HearsItsNodes s → HearsItsNodes s'
  hears-on s s' event may x hears = record { named = subst (λ (nodes : List Endpoint). All CanBeNamed nodes) (sym (same-nodes s s' event may)) hears.named; stands = laws.slots event s s' x hears.stands }

  -- the steps after some that the system made
  along : (before : List SystemEvent) (s s' : System C J) (steps : List (Step C J)) → FoldsTo SystemStep start before s → NamesNodes s → HearsItsNodes s → Leads s steps s' → AreGiven s steps → FoldsTo SystemStep s (events_of steps) s'
  along before s s' [] f names hears go given = go
  along before s s' (step ∷ steps) f names hears go given =
      let r = laws.refines start s before fresh f in
      let x = step-holds laws.heard s step.next r.0 r.2 names hears step.event go.0 given.0 in
      let named = laws.names step.event s step.next r.0 r.2 names x in
      let later = along (before ++ step.event ∷ []) step.next s' steps (folds-on before start s step.event step.next f x) named (hears-on s step.next step.event go.0 x hears) go.1 given.1 in
      (step.next, x, later)

module _ (C J : Type 0) (laws : Laws C J) (headline : HeadlineOfLogs C J) (held : LogsAreHeld C J) where
  pub plays-refine : PlaysRefine C J
  plays-refine start s' steps fresh hears go given =
      let f = along C J laws start fresh [] start s' steps refl (laws.starts start fresh).3 hears go given in
      let events = events_of steps in
      (f, headline start s' events fresh f, held start s' events fresh f, laws.refines start s' events fresh f)
