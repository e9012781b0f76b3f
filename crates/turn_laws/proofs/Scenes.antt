-- Systems of one worker, and their steps.
use Rattle.std.proofs.Common.{◌≡◌, ◌⊎◌, inl, inr, ⊎_elim, ℕ, zero, suc, Bool, true, false, List, [], ◌∷◌, ◌++◌, Some, None, Ok, refl, sym, ap, ◌∙◌, subst}
use Rattle.std.specs.Prelude.{slice_get, slice_set, take, drop, length, Option, IsSome, is_none, is_some, unwrap_or, cond}
use Rattle.std.specs.List.{FoldsTo}
use mathlib.Core.List.{IsPrefix}
use Rattle.std.proofs.lemmas.List.{take-append-drop}
use Rattle.std.specs.FinMap.{FinMap, empty, get, insert, get-insert}
use Rattle.std.specs.Ordering.{nat_cmp, eq_by_cmp}
use Rattle.std.specs.Cmp.{nat_cmp_total}
use Rattle.key_split.specs.Runs.{RunModel}
use Rattle.key_split.specs.declared.travel.Ticket.{Ticket}
use Rattle.key_split.specs.declared.travel.Told.{Told}
use Rattle.slot_map.specs.declared.ops.MapOp.{MapOp}
use Rattle.node_model.specs.Nodes.{ClusterModel}
use Rattle.node_link.specs.LinkModel.{LinkModel}
use Rattle.proxy_lanes.specs.declared.ends.lane_ends.LaneEnds.{LaneEnds}
use Rattle.proxy_lanes.specs.declared.ring.Outlet.{Outlet}
use Rattle.proxy_lanes.specs.Ends.{HandsOver}
use Rattle.proxy_lanes.specs.View.{new_view}
use Rattle.proxy_turns.specs.declared.newcomer.Newcomer.{Newcomer}
use Rattle.proxy_turns.specs.declared.backend.Backend.{Backend}
use Rattle.proxy_turns.specs.ClientModel.{ClientModel}
use Rattle.proxy_turns.specs.ClientTurn.{ClientEvent, ClientDoes}
use Rattle.proxy_turns.specs.WorkerModel.{WorkerModel, WorkerEvent, Did, WorkerDoes}
use Rattle.proxy_turns.specs.CarrierModel.{CarrierModel, CarrierEvent, CarrierDoes}
use Rattle.turn_laws.specs.Wire.{Wire, Dials}
use Rattle.turn_laws.specs.System.{System, Mark, IsInStep}
use Rattle.turn_laws.specs.Underway.{DownInStep}
use Rattle.turn_laws.specs.Steps.{WorkerStep, CarrierStep, Hands, IsSeen, UpsInStep, opened_by, seen_at}
use Rattle.turn_laws.specs.PortsMay.{any_moves, any_calls}
use Rattle.turn_laws.proofs.Elements.{nothing-there}
use Rattle.turn_laws.proofs.ScriptFacts.{table}

-- what is put in at a number stands there
pub put : {X : Type 0} (m : FinMap nat_cmp X) (x : X) (k : ℕ) → get (insert m k x) k ≡ cond (eq_by_cmp nat_cmp k k) (Some x) (get m k)
put m x k = get-insert nat_cmp_total m k x k

-- some steps, and then others
pub and-then : {P A : Type 0} (R : P → A → P → Type 0) (p : P) (xs : List A) (j : P) (ys : List A) (q : P) → FoldsTo R p xs j → FoldsTo R j ys q → FoldsTo R p (xs ++ ys) q
and-then R p [] j ys q e h = subst (λ x. FoldsTo R x ys q) (sym e) h
and-then R p (x ∷ xs) j ys q first h = (first.0, first.1, and-then R first.0 xs j ys q first.2 h)

-- how long a run may be
abbrev pub some_length : Wire → ℕ
some_length wire = 64

-- ---- connections that did not fail

abbrev pub works : {P : Type 0} → Option (LinkModel P) → Bool
works None = true
works (Some link) = is_none link.failure

abbrev pub AllWork : List (Backend Wire) → Type 0
AllWork [] = Unit {0}
AllWork (b ∷ bs) = (works b.link ≡ true) × AllWork bs

work-there : (bs : List (Backend Wire)) → AllWork bs → (k : ℕ) (b : Backend Wire) → slice_get bs k ≡ Some b → works b.link ≡ true
work-there [] all k b e = absurd (nothing-there k b e)
work-there (x ∷ bs) all zero b e = ap (λ (o : Option (Backend Wire)). works (unwrap_or o x).link) (sym e) ∙ all.0
work-there (x ∷ bs) all (suc k) b e = work-there bs all.1 k b e

no-failure : (o : Option (LinkModel Wire)) (link : LinkModel Wire) → works o ≡ true → o ≡ Some link → IsSome link.failure → ⊥
no-failure None link w e f = absurd (cc)
no-failure (Some l) link w e f = absurd (both l.failure w (ap (λ (o : Option (LinkModel Wire)). is_some (unwrap_or o l).failure) e ∙ f))
  where
    both : {X : Type 0} (o : Option X) → is_none o ≡ true → IsSome o → ⊥
    both None p q = absurd (cc)
    both (Some x) p q = absurd (cc)

-- which did not work before, or work still
abbrev pub Steady : List (Backend Wire) → List (Backend Wire) → Type 0
Steady [] ns = Unit {0}
Steady (o ∷ os) [] = Unit {0}
Steady (o ∷ os) (n ∷ ns) = ((works o.link ≡ false) ⊎ (works n.link ≡ true)) × Steady os ns

not-both : (o : Option (LinkModel Wire)) (link : LinkModel Wire) → works o ≡ false → o ≡ Some link → link.failure ≡ None → ⊥
not-both None link w e f = absurd (cc)
not-both (Some l) link w e f = absurd (either l.failure w (ap (λ (o : Option (LinkModel Wire)). (unwrap_or o l).failure) e ∙ f))
  where
    either : {X : Type 0} (o : Option X) → is_none o ≡ false → o ≡ None → ⊥
    either None p q = absurd (cc)
    either (Some x) p q = absurd (cc)

steady-there : (os ns : List (Backend Wire)) → Steady os ns → (k : ℕ) (o n : Backend Wire) → slice_get os k ≡ Some o → slice_get ns k ≡ Some n → (works o.link ≡ false) ⊎ (works n.link ≡ true)
steady-there [] ns all k o n e f = absurd (nothing-there k o e)
steady-there (x ∷ os) [] all k o n e f = absurd (nothing-there k n f)
steady-there (x ∷ os) (y ∷ ns) all zero o n e f =
    subst (λ (b : Option (Backend Wire)). (works (unwrap_or b x).link ≡ false) ⊎ (works n.link ≡ true)) e
    (subst (λ (b : Option (Backend Wire)). (works x.link ≡ false) ⊎ (works (unwrap_or b y).link ≡ true)) f all.0)
steady-there (x ∷ os) (y ∷ ns) all (suc k) o n e f = steady-there os ns all.1 k o n e f

-- the first of them are a front
front-of : {X : Type 0} (xs all : List X) → take (length xs) all ≡ xs → IsPrefix xs all
front-of xs all first = (drop (length xs) all, ap (λ ys. ys ++ drop (length xs) all) (sym first) ∙ take-append-drop (length xs) all)

module _ {C J : Type 0} where
  abbrev pub scene : WorkerModel C J → CarrierModel (Newcomer C J) Wire → List Wire → ℕ → ClusterModel → List Mark → System C J
  scene worker carrier closed opened cluster log = record { workers = worker ∷ []; carrier = carrier; closed = closed; opened = opened; cluster = cluster; initial = empty; nodes = table; log = log }

  -- ---- lanes in order

  pub down-in : (lane : LaneEnds (Newcomer C J)) (model : WorkerModel C J) (outlet : Outlet (Ticket × Told)) → lane.down ≡ Some outlet → IsInStep outlet model.inlet → DownInStep lane model
  down-in lane model outlet e h other is = subst (λ o. IsInStep o model.inlet) (ap (λ o. unwrap_or o outlet) (sym e ∙ is)) h

  pub ups-in : (worker : WorkerModel C J) (carrier : CarrierModel (Newcomer C J) Wire) (closed : List Wire) (opened : ℕ) (cluster : ClusterModel) (log : List Mark) (lane : LaneEnds (Newcomer C J))
      → carrier.lanes ≡ lane ∷ [] → IsInStep worker.outlet lane.up → UpsInStep (scene worker carrier closed opened cluster log)
  ups-in worker carrier closed opened cluster log lane only h zero model other p q =
      subst (λ l. IsInStep model.outlet l.up) (ap (λ o. unwrap_or o lane) (sym (ap (λ ls. slice_get ls 0) only) ∙ q))
      (subst (λ (m : WorkerModel C J). IsInStep m.outlet lane.up) (ap (λ o. unwrap_or o worker) p) h)
  ups-in worker carrier closed opened cluster log lane only h (suc k) model other p q = absurd (nothing-there k model p)

  -- ---- steps

  module _ {old : WorkerModel C J} {carrier : CarrierModel (Newcomer C J) Wire} {closed : List Wire} {opened : ℕ} {cluster : ClusterModel} {log : List Mark} where
    pub at-worker : {new : WorkerModel C J} {event : WorkerEvent} (lane : LaneEnds (Newcomer C J)) (marks : List Mark)
        → slice_get carrier.lanes 0 ≡ Some lane → WorkerDoes any_moves old event new → IsSeen old event new marks → DownInStep lane new → take (length new.view.known) carrier.published ≡ new.view.known
        → WorkerStep (scene old carrier closed opened cluster log) 0 event (scene new carrier closed opened cluster (log ++ marks))
    at-worker {new} lane marks at does seen down front = record {
      old = old;
      new = new;
      lane = lane;
      marks = marks;
      at = refl;
      beside = at;
      does = does;
      seen = seen;
      leaves = refl;
      in_step = down;
      shown = front-of new.view.known carrier.published front;
    }

    -- what happens to one client
    pub at-client : {event : ClientEvent} (lane : LaneEnds (Newcomer C J)) (number : ℕ) (client client' : ClientModel C) (outlet : Outlet RunModel) (view : List MapOp)
        → slice_get carrier.lanes 0 ≡ Some lane → get old.clients number ≡ Some client
        → ClientDoes any_moves (record { client = client; outlet = old.outlet; view = old.view }) event (record { client = client'; outlet = outlet; view = new_view view })
        → get (insert old.clients number client') number ≡ Some client' → DownInStep lane old → take (length view) carrier.published ≡ view
        → WorkerStep (scene old carrier closed opened cluster log) 0 (Did number event) (scene (record old { clients = insert old.clients number client'; outlet = outlet; view = new_view view }) carrier closed opened cluster (log ++ seen_at event client.session client'.session))
    at-client {event} lane number client client' outlet view at is does put-in down front =
        at-worker lane (seen_at event client.session client'.session) at (client, client', is, does, refl) (client, client', is, put-in, refl) down front

  pub at-carrier : {worker : WorkerModel C J} {old new : CarrierModel (Newcomer C J) Wire} {closed : List Wire} {opened : ℕ} {cluster : ClusterModel} {log : List Mark} {event : CarrierEvent} (lane : LaneEnds (Newcomer C J))
      → CarrierDoes any_calls (Dials old.nodes opened) some_length old event new
      → AllWork new.backends → new.lanes ≡ lane ∷ [] → IsInStep worker.outlet lane.up → take (length new.nodes) table ≡ new.nodes
      → CarrierStep (scene worker old closed opened cluster log) event (scene worker new closed (opened_by event opened) cluster log)
  at-carrier {worker} {old} {new} {closed} {opened} {cluster} {log} {event} lane does work only up first = record {
    longest = some_length;
    does = does;
    breaks = inl (refl, λ k link link' fails. no-failure fails.1.link link' (work-there new.backends work k fails.1 fails.2) fails.3 fails.4);
    leaves = refl;
    in_step = ups-in worker new closed (opened_by event opened) cluster log lane only up;
    table = front-of new.nodes table first;
  }

  -- where a connection failed before
  pub past-failure : {worker : WorkerModel C J} {old new : CarrierModel (Newcomer C J) Wire} {closed : List Wire} {opened : ℕ} {cluster : ClusterModel} {log : List Mark} {event : CarrierEvent} (lane : LaneEnds (Newcomer C J))
      → CarrierDoes any_calls (Dials old.nodes opened) some_length old event new
      → Steady old.backends new.backends → new.lanes ≡ lane ∷ [] → IsInStep worker.outlet lane.up → take (length new.nodes) table ≡ new.nodes
      → CarrierStep (scene worker old closed opened cluster log) event (scene worker new closed (opened_by event opened) cluster log)
  past-failure {worker} {old} {new} {closed} {opened} {cluster} {log} {event} lane does steady only up first = record {
    longest = some_length;
    does = does;
    breaks = inl (
      refl,
      λ k link link' fails. ⊎_elim
          (λ w. not-both fails.0.0.link link w fails.0.2 fails.0.3)
          (λ w. no-failure fails.1.link link' w fails.3 fails.4)
          (steady-there old.backends new.backends steady k fails.0.0 fails.1 fails.0.1 fails.2),
    );
    leaves = refl;
    in_step = ups-in worker new closed (opened_by event opened) cluster log lane only up;
    table = front-of new.nodes table first;
  }

  -- a client is handed to the worker
  pub handing : {worker : WorkerModel C J} {closed : List Wire} {opened : ℕ} {cluster : ClusterModel} {log : List Mark} (old new : CarrierModel (Newcomer C J) Wire) (x y : LaneEnds (Newcomer C J)) (client : Newcomer C J)
      → slice_get old.lanes 0 ≡ Some x → HandsOver x y client (Ok tt) → new.lanes ≡ slice_set old.lanes 0 y → new ≡ record old { lanes = new.lanes }
      → Hands (scene worker old closed opened cluster log) 0 client.number (scene worker new closed opened cluster log)
  handing {worker} {closed} {opened} {cluster} {log} old new x y client at hands lanes only =
      (client, Ok tt, refl, (x, y, at, lanes, hands), ap (λ c. scene worker c closed opened cluster log) only)

  -- where one fails
  pub breaking : {worker : WorkerModel C J} {old new : CarrierModel (Newcomer C J) Wire} {closed : List Wire} {opened : ℕ} {cluster : ClusterModel} {log : List Mark} {event : CarrierEvent} (lane : LaneEnds (Newcomer C J))
      (k : ℕ) (b b' : Backend Wire) (link link' : LinkModel Wire)
      → CarrierDoes any_calls (Dials old.nodes opened) some_length old event new
      → slice_get old.backends k ≡ Some b → b.link ≡ Some link → link.failure ≡ None → slice_get new.backends k ≡ Some b' → b'.link ≡ Some link' → IsSome link'.failure
      → new.lanes ≡ lane ∷ [] → IsInStep worker.outlet lane.up → take (length new.nodes) table ≡ new.nodes
      → CarrierStep (scene worker old closed opened cluster log) event (scene worker new (closed ++ record link'.port { values = [] } ∷ []) (opened_by event opened) cluster log)
  breaking {worker} {old} {new} {closed} {opened} {cluster} {log} {event} lane k b b' link link' does at is works there has failed only up first = record {
    longest = some_length;
    does = does;
    breaks = inr (k, link, link', ((b, at, is, works), b', there, has, failed), refl);
    leaves = refl;
    in_step = ups-in worker new (closed ++ record link'.port { values = [] } ∷ []) (opened_by event opened) cluster log lane only up;
    table = front-of new.nodes table first;
  }
