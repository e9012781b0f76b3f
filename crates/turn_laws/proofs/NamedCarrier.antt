-- What the carrier names are nodes of the cluster, after each of its events.
use Rattle.std.proofs.Common.{◌≡◌, ◌≢◌, ◌⊎◌, ⊎_elim, inl, inr, ℕ, ◌≤◌, Bool, true, false, List, [], ◌∷◌, ◌++◌, Some, None, length, refl, sym, ap, ◌∙◌, subst, arith}
use Rattle.std.specs.Prelude.{slice_get, slice_set, Option, Ok, All}
use Rattle.std.specs.List.{list_any}
use Rattle.std.proofs.lemmas.List.Elements.{All-nil, All-cons, All-append}
use Rattle.key_split.specs.declared.travel.Ticket.{Ticket}
use Rattle.key_split.specs.declared.travel.Told.{Told}
use Rattle.key_split.specs.declared.travel.Told.TheVariants.{Reply, Moved, Ask, TryAgain, ClusterDown, Unclear, Lost, Unsent}
use Rattle.slot_map.specs.declared.ops.MapOp.{MapOp}
use Rattle.slot_map.specs.declared.ops.MapOp.TheVariants.{SetSlot}
use Rattle.slot_map.specs.Table.{Endpoint}
use Rattle.proxy_lanes.specs.declared.ends.lane_ends.LaneEnds.{LaneEnds}
use Rattle.proxy_lanes.specs.Ends.{ChangesAt, GivesDown, TakesUp}
use Rattle.proxy_lanes.specs.Publishing.{IsPublished}
use Rattle.node_link.specs.Port.{PortCalls}
use Rattle.proxy_turns.specs.declared.newcomer.Newcomer.{Newcomer}
use Rattle.proxy_turns.specs.declared.pending_run.PendingRun.{PendingRun}
use Rattle.proxy_turns.specs.declared.backend.Backend.{Backend}
use Rattle.proxy_turns.specs.declared.backend.PendingTold.{PendingTold}
use Rattle.proxy_turns.specs.declared.backend_step.BackendStep.{BackendStep}
use Rattle.proxy_turns.specs.declared.backend_step.BackendStep.TheVariants.{Idle, Waited, Broke, Fetched, Answered, GaveUp, Closed, Published, Asked, Spared, Read, Unread, Renewed}
use Rattle.proxy_turns.specs.Backend.{BackendContext, BackendDoes, Starves, change_in, new_backend, new_pending_told, is_unanswered}
use Rattle.proxy_turns.specs.PendingRun.{Delivers, ComesBack, GiveOutcome, TellOutcome, TakeOutcome, IsPending, WaitsToGive, WaitsToTell, no_pending_run}
use Rattle.proxy_turns.specs.WorkerModel.{WorkerModel}
use Rattle.proxy_turns.specs.CarrierModel.{CarrierModel, CarrierEvent, CarrierDoes, ChangesBackend, context_of, AtBackend, Starved, WorkerAdded, BackendAdded, Looked, Took, Opened, Refused, Missed, SeedReached, Sought, Reached, NotFound, Sent, Gave, GaveUnsent}
use Rattle.world_laws.proofs.Recorded.{at-set, at-last}
use Rattle.turn_laws.specs.Wire.{Wire}
use Rattle.turn_laws.specs.Underway.{DownInStep, down_in}
use Rattle.turn_laws.specs.Naming.{SaysOneOf, SetsOneOf, PendsOneOf}
use Rattle.turn_laws.proofs.Downs.{Pair}
use Rattle.turn_laws.proofs.AtLanes.{given, came-back}
use Rattle.turn_laws.proofs.Named.{says-more, sets-more, told-says, slots-set}

-- a slot's change is that of a MOVED
change-of : (n : ℕ) (told : Told) (op : MapOp) → SaysOneOf n told → change_in told ≡ Some op → SetsOneOf n op
change-of n (Moved slot node) op h e = let it : SetSlot slot node ≡ op = cc in subst (SetsOneOf n) it h
change-of n (Reply v) op h e = absurd (cc)
change-of n (Ask slot node) op h e = absurd (cc)
change-of n TryAgain op h e = absurd (cc)
change-of n ClusterDown op h e = absurd (cc)
change-of n Unclear op h e = absurd (cc)
change-of n Lost op h e = absurd (cc)
change-of n Unsent op h e = absurd (cc)

one-pending : (o : Option PendingTold) (a b : PendingTold) → o ≡ Some a → o ≡ Some b → a ≡ b
one-pending o a b p q = let one : Some a ≡ Some b = sym p ∙ q in cc

no-op : (op : MapOp) → None ≡ Some op → ⊥
no-op op e = cc

-- ---- a backend

module _ {P : Type 0} (n : ℕ) where
  pub pends-still : (old new : Backend P) → new.pending_told ≡ old.pending_told → new.changes ≡ old.changes → PendsOneOf n old → PendsOneOf n new
  pends-still old new told changes h = record {
    told = λ p e. h.told p (sym told ∙ e);
    change = λ p op e f. h.change p op (sym told ∙ e) f;
    changes = λ ops e. h.changes ops (sym changes ∙ e);
  }

  pends-told : (old new : Backend P) (ticket : Ticket) (told : Told) → SaysOneOf n told → new.pending_told ≡ Some (new_pending_told ticket told) → new.changes ≡ old.changes → PendsOneOf n old → PendsOneOf n new
  pends-told old new ticket told says is changes h = record {
    told = λ p e. subst (λ (x : PendingTold). SaysOneOf n x.told) (one-pending new.pending_told (new_pending_told ticket told) p is e) says;
    change = λ p op e f. change-of n told op says (ap (λ (x : PendingTold). x.change) (one-pending new.pending_told (new_pending_told ticket told) p is e) ∙ f);
    changes = λ ops e. h.changes ops (sym changes ∙ e);
  }

  pends-new : PendsOneOf n (new_backend {P = P})
  pends-new = record { told = λ p e. absurd (none p e); change = λ p op e f. absurd (none p e); changes = λ ops e. absurd (none ops e) }
    where
      none : {X : Type 0} (x : X) → None ≡ Some x → ⊥
      none x e = cc

-- one more operation is published, or none
set-more : (n : ℕ) (old : List MapOp) (op : MapOp) (new : List MapOp) → IsPublished old op new → All (SetsOneOf n) old → SetsOneOf n op → All (SetsOneOf n) new
set-more n old op new (inl more) sets one =
    subst (All (SetsOneOf n)) (sym more) (All-append (SetsOneOf n) old (op ∷ []) sets (All-cons (SetsOneOf n) op [] one (All-nil (SetsOneOf n))))
set-more n old op new (inr none) sets one = subst (All (SetsOneOf n)) (sym none.1) sets

module _ {P : Type 0} (n : ℕ) where
  -- what was pending stays, and what was published
  fine-still : (old new : BackendContext P) → new.backend.pending_told ≡ old.backend.pending_told → new.backend.changes ≡ old.backend.changes → new.published ≡ old.published
      → PendsOneOf n old.backend × All (SetsOneOf n) old.published → PendsOneOf n new.backend × All (SetsOneOf n) new.published
  fine-still old new told changes published h = (pends-still n old.backend new.backend told changes h.0, subst (All (SetsOneOf n)) (sym published) h.1)

module _ {P : Type 0} (calls : PortCalls P) (n : ℕ) where
  pub step-names : (unanswered : Bool) (old : BackendContext P) (step : BackendStep) (new : BackendContext P) → BackendDoes calls unanswered old step new
      → length new.nodes ≤ n → PendsOneOf n old.backend × All (SetsOneOf n) old.published → PendsOneOf n new.backend × All (SetsOneOf n) new.published
  step-names unanswered old Idle new x few h = fine-still n old new (ap (λ (c : BackendContext P). c.backend.pending_told) x) (ap (λ (c : BackendContext P). c.backend.changes) x) (ap (λ (c : BackendContext P). c.published) x) h
  step-names unanswered old Waited new x few h = fine-still n old new (ap (λ (c : BackendContext P). c.backend.pending_told) x.4) (ap (λ (c : BackendContext P). c.backend.changes) x.4) (ap (λ (c : BackendContext P). c.published) x.4) h
  step-names unanswered old Broke new x few h = fine-still n old new (ap (λ (c : BackendContext P). c.backend.pending_told) x.5) (ap (λ (c : BackendContext P). c.backend.changes) x.5) (ap (λ (c : BackendContext P). c.published) x.5) h
  step-names unanswered old Fetched new x few h = (
    pends-told n old.backend new.backend x.2 x.3 (says-more (length new.nodes) n x.3 few (told-says x.5.1.0 (x.0).node old.nodes x.3 new.nodes x.5.1.4))
        (ap (λ (c : BackendContext P). c.backend.pending_told) x.6) (ap (λ (c : BackendContext P). c.backend.changes) x.6) h.0,
    subst (All (SetsOneOf n)) (sym (ap (λ (c : BackendContext P). c.published) x.6)) h.1,
  )
  step-names unanswered old Answered new x few h = fine-still n old new (ap (λ (c : BackendContext P). c.backend.pending_told) x.5) (ap (λ (c : BackendContext P). c.backend.changes) x.5) (ap (λ (c : BackendContext P). c.published) x.5) h
  step-names unanswered old GaveUp new x few h = (
    pends-told n old.backend new.backend x.2 Lost tt (ap (λ (c : BackendContext P). c.backend.pending_told) x.8) (ap (λ (c : BackendContext P). c.backend.changes) x.8) h.0,
    subst (All (SetsOneOf n)) (sym (ap (λ (c : BackendContext P). c.published) x.8)) h.1,
  )
  step-names unanswered old Closed new x few h = fine-still n old new (ap (λ (c : BackendContext P). c.backend.pending_told) x.5) (ap (λ (c : BackendContext P). c.backend.changes) x.5) (ap (λ (c : BackendContext P). c.published) x.5) h
  step-names unanswered old Published new x few h = (
    record {
      told = λ p e. subst (λ (y : PendingTold). SaysOneOf n y.told) (one-pending new.backend.pending_told (record x.0 { change = None }) p (ap (λ (c : BackendContext P). c.backend.pending_told) x.4) e) ((h.0).told x.0 x.2);
      change = λ p op e f. absurd (no-op op (ap (λ (y : PendingTold). y.change) (one-pending new.backend.pending_told (record x.0 { change = None }) p (ap (λ (c : BackendContext P). c.backend.pending_told) x.4) e) ∙ f));
      changes = λ ops e. (h.0).changes ops (sym (ap (λ (c : BackendContext P). c.backend.changes) x.4) ∙ e);
    },
    set-more n old.published x.1 new.published x.5 h.1 ((h.0).change x.0 x.1 x.2 x.3),
  )
  step-names unanswered old Asked new x few h = fine-still n old new (ap (λ (c : BackendContext P). c.backend.pending_told) x.6) (ap (λ (c : BackendContext P). c.backend.changes) x.6) (ap (λ (c : BackendContext P). c.published) x.6) h
  step-names unanswered old Spared new x few h = fine-still n old new (ap (λ (c : BackendContext P). c.backend.pending_told) x.2) (ap (λ (c : BackendContext P). c.backend.changes) x.2) (ap (λ (c : BackendContext P). c.published) x.2) h
  step-names unanswered old Read new x few h = (
    record {
      told = λ p e. (h.0).told p (sym (ap (λ (c : BackendContext P). c.backend.pending_told) x.7) ∙ e);
      change = λ p op e f. (h.0).change p op (sym (ap (λ (c : BackendContext P). c.backend.pending_told) x.7) ∙ e) f;
      changes = λ ops e.
          let one : Some ops ≡ Some (x.2).ops = sym e ∙ ap (λ (c : BackendContext P). c.backend.changes) x.7 in
          subst (All (SetsOneOf n)) (one-list ops (x.2).ops one)
          (sets-more (length (x.2).table) n (x.2).ops (omega (arith, few, ap (λ (c : BackendContext P). length c.nodes) x.7)) (slots-set x.1 (x.0).node old.nodes x.2 x.6));
    },
    subst (All (SetsOneOf n)) (sym (ap (λ (c : BackendContext P). c.published) x.7)) h.1,
  )
    where
      one-list : (a b : List MapOp) → Some a ≡ Some b → b ≡ a
      one-list a b e = cc
  step-names unanswered old Unread new x few h = fine-still n old new (ap (λ (c : BackendContext P). c.backend.pending_told) x.3) (ap (λ (c : BackendContext P). c.backend.changes) x.3) (ap (λ (c : BackendContext P). c.published) x.3) h
  step-names unanswered old Renewed new x few h = (
    record {
      told = λ p e. (h.0).told p (sym (ap (λ (c : BackendContext P). c.backend.pending_told) x.2) ∙ e);
      change = λ p op e f. (h.0).change p op (sym (ap (λ (c : BackendContext P). c.backend.pending_told) x.2) ∙ e) f;
      changes = λ ops e. absurd (none ops (sym (ap (λ (c : BackendContext P). c.backend.changes) x.2) ∙ e));
    },
    subst (All (SetsOneOf n)) (sym (ap (λ (c : BackendContext P). c.published) x.2)) (All-append (SetsOneOf n) old.published x.0 h.1 ((h.0).changes x.0 x.1)),
  )
    where
      none : (ops : List MapOp) → None ≡ Some ops → ⊥
      none ops e = cc

-- ---- lanes

abbrev pub AllSay : ℕ → List Pair → Type 0
AllSay n pairs = All (λ (q : Pair). SaysOneOf n q.1) pairs

module _ {C J : Type 0} (n : ℕ) (workers : List (WorkerModel C J)) where
  abbrev pub DownsSay : List (LaneEnds (Newcomer C J)) → Type 0
  DownsSay lanes = (k : ℕ) (model : WorkerModel C J) (lane : LaneEnds (Newcomer C J)) → slice_get workers k ≡ Some model → slice_get lanes k ≡ Some lane → AllSay n (down_in lane.down model.inlet)

  module _ (lanes lanes' : List (LaneEnds (Newcomer C J))) (steps : (k : ℕ) (model : WorkerModel C J) (lane : LaneEnds (Newcomer C J)) → slice_get workers k ≡ Some model → slice_get lanes k ≡ Some lane → DownInStep lane model)
      (h : DownsSay lanes) where
    lane-says : (k : ℕ) (y : LaneEnds (Newcomer C J)) → lanes' ≡ slice_set lanes k y → ((model : WorkerModel C J) → slice_get workers k ≡ Some model → AllSay n (down_in y.down model.inlet)) → DownsSay lanes'
    lane-says k y is one j model lane p q = ⊎_elim
        (λ (z : (j ≡ k) × (lane ≡ y)). subst (λ (l : LaneEnds (Newcomer C J)). AllSay n (down_in l.down model.inlet)) (sym z.1) (one model (sym (ap (slice_get workers) z.0) ∙ p)))
        (λ (z : (j ≢ k) × (slice_get lanes j ≡ Some lane)). h j model lane p z.1)
        (at-set lanes k y j lane (sym (ap (λ xs. slice_get xs j) is) ∙ q))

    lanes-kept : lanes' ≡ lanes → DownsSay lanes'
    lanes-kept is j model lane p q = h j model lane p (sym (ap (λ xs. slice_get xs j) is) ∙ q)

    up-taken : (k : ℕ) (taken : _) → ChangesAt lanes k lanes' (λ lane lane'. TakesUp lane lane' taken) → DownsSay lanes'
    up-taken k taken c = lane-says k c.1 c.3 (λ model p. subst (λ o. AllSay n (down_in o model.inlet)) (sym (ap (λ (l : LaneEnds (Newcomer C J)). l.down) c.4.0)) (h k model c.0 p c.2))

    given-back : (pair : Pair) → ComesBack lanes pair lanes' → DownsSay lanes'
    given-back pair c = lane-says pair.0.worker c.1 c.3
        (λ model p. subst (AllSay n) (sym (came-back (c.0).down (c.1).down pair c.4.1 model.inlet (steps pair.0.worker model c.0 p c.2)).0) (h pair.0.worker model c.0 p c.2))

    delivered : (pair : Pair) → SaysOneOf n pair.1 → Delivers lanes pair lanes' → DownsSay lanes'
    delivered pair says d = ⊎_elim
        (λ (c : ChangesAt lanes pair.0.worker lanes' (λ lane lane'. GivesDown lane lane' pair (Ok tt))).
        lane-says pair.0.worker c.1 c.3
        (λ model p. subst (AllSay n) (sym (given (c.0).down (c.1).down pair c.4.1 model.inlet (steps pair.0.worker model c.0 p c.2)).0)
        (All-append (λ (q : Pair). SaysOneOf n q.1) (down_in (c.0).down model.inlet) (pair ∷ []) (h pair.0.worker model c.0 p c.2)
        (All-cons (λ (q : Pair). SaysOneOf n q.1) pair [] says (All-nil (λ (q : Pair). SaysOneOf n q.1))))))
        (λ (c : (length lanes ≤ pair.0.worker) × (lanes' ≡ lanes)). lanes-kept c.1)
        d

    waits-give : (o : Option PendingTold) → WaitsToGive o lanes lanes' → DownsSay lanes'
    waits-give None x = lanes-kept x
    waits-give (Some p) x = ⊎_elim (λ y. lanes-kept y.1) (λ y. given-back (p.ticket, p.told) y.1) x

    waits-tell : (tickets : List Ticket) → WaitsToTell tickets lanes lanes' → DownsSay lanes'
    waits-tell [] x = lanes-kept x
    waits-tell (ticket ∷ later) x = given-back (ticket, Unsent) x

    looks : (backend : Backend Wire) → GiveOutcome backend lanes false backend lanes' → DownsSay lanes'
    looks backend x = waits-give backend.pending_told x.1

    looks-up : (k : ℕ) (pending_run : PendingRun) → TakeOutcome k pending_run lanes false pending_run lanes' → DownsSay lanes'
    looks-up k pending_run x = ⊎_elim
        (λ (y : IsPending pending_run × (lanes' ≡ lanes)). lanes-kept y.1)
        (λ (y : (pending_run ≡ no_pending_run) × ChangesAt lanes k lanes' (λ lane lane'. TakesUp lane lane' None)). up-taken k None y.1)
        x.1

-- ---- the events

module _ {C J : Type 0} (n : ℕ) (workers : List (WorkerModel C J)) where
  abbrev pub BackendsPend : List (Backend Wire) → Type 0
  BackendsPend backends = (k : ℕ) (backend : Backend Wire) → slice_get backends k ≡ Some backend → PendsOneOf n backend

  abbrev pub CarrierNames : CarrierModel (Newcomer C J) Wire → Type 0
  CarrierNames carrier = All (SetsOneOf n) carrier.published × BackendsPend carrier.backends × DownsSay n workers carrier.lanes

  set-pends : (backends : List (Backend Wire)) (k : ℕ) (backend : Backend Wire) → PendsOneOf n backend → BackendsPend backends → BackendsPend (slice_set backends k backend)
  set-pends backends k backend one h j b e = ⊎_elim
      (λ (z : (j ≡ k) × (b ≡ backend)). subst (PendsOneOf n) (sym z.1) one)
      (λ (z : (j ≢ k) × (slice_get backends j ≡ Some b)). h j b z.1)
      (at-set backends k backend j b e)

  -- a link changes
  link-pends : (backends : List (Backend Wire)) (k : ℕ) (backend backend' : Backend Wire) → slice_get backends k ≡ Some backend → backend'.pending_told ≡ backend.pending_told → backend'.changes ≡ backend.changes
      → BackendsPend backends → BackendsPend (slice_set backends k backend')
  link-pends backends k backend backend' at told changes h = set-pends backends k backend' (pends-still n backend backend' told changes (h k backend at)) h

module _ {C J : Type 0} (calls : PortCalls Wire) (opens : Endpoint → Option Wire → ℕ → ℕ → Type 0) (longest : Wire → ℕ)
    (n : ℕ) (workers : List (WorkerModel C J)) (old new : CarrierModel (Newcomer C J) Wire) (few : length new.nodes ≤ n)
    (steps : (k : ℕ) (model : WorkerModel C J) (lane : LaneEnds (Newcomer C J)) → slice_get workers k ≡ Some model → slice_get old.lanes k ≡ Some lane → DownInStep lane model)
    (h : CarrierNames n workers old) where
  at-backend : (step : BackendStep) → ChangesBackend old new (λ context context'. BackendDoes calls (list_any is_unanswered old.backends) context step context') → CarrierNames n workers new
  at-backend step d =
      let r = step-names calls n (list_any is_unanswered old.backends) (context_of old d.1) step (context_of new d.2) d.4 few (h.1 d.0 d.1 d.3, h.0) in
      subst (CarrierNames n workers) (sym d.5) (r.1, set-pends n workers old.backends d.0 d.2 r.0 h.1, h.2)

  starved : ChangesBackend old new (Starves calls) → CarrierNames n workers new
  starved d = ⊎_elim
      (λ (x : context_of new d.2 ≡ context_of old d.1).
      subst (CarrierNames n workers) (sym d.5) (
        subst (All (SetsOneOf n)) (sym (ap (λ (c : BackendContext Wire). c.published) x)) h.0,
        link-pends n workers old.backends d.0 d.1 d.2 d.3 (ap (λ (c : BackendContext Wire). c.backend.pending_told) x) (ap (λ (c : BackendContext Wire). c.backend.changes) x) h.1,
        h.2,
      ))
      (λ x.
      subst (CarrierNames n workers) (sym d.5) (
        subst (All (SetsOneOf n)) (sym (ap (λ (c : BackendContext Wire). c.published) x.4)) h.0,
        link-pends n workers old.backends d.0 d.1 d.2 d.3 (ap (λ (c : BackendContext Wire). c.backend.pending_told) x.4) (ap (λ (c : BackendContext Wire). c.backend.changes) x.4) h.1,
        h.2,
      ))
      d.4

  added : BackendsPend n workers (old.backends ++ new_backend ∷ [])
  added k b e = ⊎_elim
      (λ (z : slice_get old.backends k ≡ Some b). h.1 k b z)
      (λ (z : (k ≡ length old.backends) × (b ≡ new_backend)). subst (PendsOneOf n) (sym z.1) (pends-new n))
      (at-last old.backends new_backend k b e)

  pub does-names : (event : CarrierEvent) → CarrierDoes calls opens longest old event new → CarrierNames n workers new
  does-names (AtBackend step) d = at-backend step d
  does-names Starved d = ⊎_elim (λ x. starved x)
      (λ x. subst (CarrierNames n workers) (sym x.7) (
        h.0,
        link-pends n workers old.backends x.0 x.1 x.2 x.5 (ap (λ (b : Backend Wire). b.pending_told) x.6.4) (ap (λ (b : Backend Wire). b.changes) x.6.4) h.1,
        h.2,
      ))
      d
  does-names WorkerAdded d = subst (CarrierNames n workers) (sym d) (h.0, h.1, h.2)
  does-names BackendAdded d = subst (CarrierNames n workers) (sym d) (h.0, added, h.2)
  does-names Looked d = subst (CarrierNames n workers) (sym d.0) (
    h.0,
    h.1,
    ⊎_elim
        (λ (x : (k : ℕ) × (backend : Backend Wire) × (slice_get old.backends k ≡ Some backend) × GiveOutcome backend old.lanes false backend new.lanes). looks n workers old.lanes new.lanes steps h.2 x.1 x.3)
        (λ (x : (k : ℕ) × (pending_run : PendingRun) × (slice_get old.pending_runs k ≡ Some pending_run)
        × (TellOutcome pending_run old.lanes false pending_run new.lanes ⊎ TakeOutcome k pending_run old.lanes false pending_run new.lanes)).
        ⊎_elim
        (λ (y : TellOutcome x.1 old.lanes false x.1 new.lanes). waits-tell n workers old.lanes new.lanes steps h.2 (x.1).refused y.1)
        (λ (y : TakeOutcome x.0 x.1 old.lanes false x.1 new.lanes). looks-up n workers old.lanes new.lanes steps h.2 x.0 x.1 y)
        x.3)
        d.1,
  )
  does-names Took d = subst (CarrierNames n workers) (sym d.5) (h.0, h.1, up-taken n workers old.lanes new.lanes steps h.2 d.0 (Some d.4.0) d.4.3)
  does-names Opened d = subst (CarrierNames n workers) (sym d.8) (h.0, link-pends n workers old.backends d.0 d.1 _ d.4 refl refl h.1, h.2)
  does-names Refused d = subst (CarrierNames n workers) (sym d.9) (h.0, h.1, h.2)
  does-names Missed d = subst (CarrierNames n workers) (sym d.2) (h.0, h.1, h.2)
  does-names SeedReached d = subst (CarrierNames n workers) (sym d.3) (h.0, link-pends n workers old.backends 0 d.0 (record d.0 { to_ask = true }) d.2 refl refl h.1, h.2)
  does-names Sought d = subst (CarrierNames n workers) (sym d.5) (h.0, link-pends n workers old.backends d.0 d.1 (record d.1 { to_ask = true }) d.2 refl refl h.1, h.2)
  does-names Reached d = subst (CarrierNames n workers) (sym d.9) (h.0, link-pends n workers old.backends d.0 d.1 _ d.4 refl refl h.1, h.2)
  does-names NotFound d = subst (CarrierNames n workers) (sym d.2) (h.0, h.1, h.2)
  does-names Sent d = subst (CarrierNames n workers) (sym d.9) (
    h.0,
    link-pends n workers old.backends (d.2).first.node d.3 d.4 d.7 (ap (λ (b : Backend Wire). b.pending_told) d.8.5) (ap (λ (b : Backend Wire). b.changes) d.8.5) h.1,
    h.2,
  )
  does-names Gave d = subst (CarrierNames n workers) (sym d.5) (
    h.0,
    set-pends n workers old.backends d.0 d.2 (subst (PendsOneOf n) (sym d.4.4) (record {
      told = λ p e. absurd (no-told p e);
      change = λ p op e f. absurd (no-told p e);
      changes = (h.1 d.0 d.1 d.3).changes;
    })) h.1,
    delivered n workers old.lanes new.lanes steps h.2 (d.4.0.ticket, d.4.0.told) ((h.1 d.0 d.1 d.3).told d.4.0 d.4.1) d.4.3,
  )
    where
      no-told : (p : PendingTold) → None ≡ Some p → ⊥
      no-told p e = cc
  does-names GaveUnsent d = subst (CarrierNames n workers) (sym d.5) (h.0, h.1, delivered n workers old.lanes new.lanes steps h.2 (d.4.0, Unsent) tt d.4.3)
