-- A client is handed to a worker: the machine does nothing.
use Rattle.std.proofs.Common.{◌≡◌, ◌≢◌, ⊎_elim, ℕ, zero, suc, ◌%◌, List, [], ◌∷◌, ◌++◌, Some, refl, sym, ap, ◌∙◌, subst, arith, length}
use Rattle.std.specs.Prelude.{slice_get, slice_set, IsSome, All}
use Rattle.proxy_lanes.specs.declared.ends.lane_ends.LaneEnds.{LaneEnds}
use Rattle.proxy_turns.specs.declared.newcomer.Newcomer.{Newcomer}
use Rattle.proxy_turns.specs.WorkerModel.{WorkerModel}
use Rattle.world_laws.specs.State.{WorldModel}
use Rattle.world_laws.specs.Places.{total, is}
use Rattle.world_laws.proofs.Nodes.{set-size}
use Rattle.world_laws.proofs.Recorded.{at-set}
use Rattle.turn_laws.specs.System.{System, IsInStep}
use Rattle.turn_laws.specs.Shadow.{IsShadow, LinksShadow, ListShadow, ClientShadow}
use Rattle.turn_laws.specs.Underway.{downs_in, down_in, downs_of}
use Rattle.turn_laws.specs.Naming.{NamesNodes, SaysOneOf}
use Rattle.turn_laws.specs.Steps.{Handed, Hands}
use Rattle.turn_laws.specs.Refines.{Simulates}
use Rattle.turn_laws.proofs.Downs.{Pair}
use Rattle.turn_laws.proofs.Bags.{refusals, debts}
use Rattle.turn_laws.proofs.AtLanes.{ups-up}

module _ {C J : Type 0} where
  first-ring : (z : WorkerModel C J) (l x y : LaneEnds (Newcomer C J)) (rest : List Pair) → Some l ≡ Some x → y.down ≡ x.down → down_in y.down z.inlet ++ rest ≡ down_in l.down z.inlet ++ rest
  first-ring z l x y rest at down =
      let same : l ≡ x = cc in
      ap (λ o. down_in o z.inlet ++ rest) (down ∙ ap (λ (e : LaneEnds (Newcomer C J)). e.down) (sym same))

  -- the rings to the workers are those that they were
  rings : (workers : List (WorkerModel C J)) (lanes : List (LaneEnds (Newcomer C J))) (k : ℕ) (x y : LaneEnds (Newcomer C J)) → slice_get lanes k ≡ Some x → y.down ≡ x.down
      → downs_in workers (slice_set lanes k y) ≡ downs_in workers lanes
  rings [] lanes k x y at down = refl
  rings (z ∷ workers) [] k x y at down = refl
  rings (z ∷ workers) (l ∷ lanes) zero x y at down = first-ring z l x y (downs_in workers lanes) at down
  rings (z ∷ workers) (l ∷ lanes) (suc k) x y at down = ap (λ ps. down_in l.down z.inlet ++ ps) (rings workers lanes k x y at down)

  -- Of one lane the end of new clients changes, and no other.
  module _ (s : System C J) (k : ℕ) (x y : LaneEnds (Newcomer C J)) (at : slice_get s.carrier.lanes k ≡ Some x) (up : y.up ≡ x.up) (down : y.down ≡ x.down) where
    abbrev lanes : List (LaneEnds (Newcomer C J))
    lanes = slice_set s.carrier.lanes k y

    abbrev after : System C J
    after = record s { carrier = record s.carrier { lanes = lanes } }

    -- each lane has the other two ends that it had
    was : (j : ℕ) (lane : LaneEnds (Newcomer C J)) → slice_get lanes j ≡ Some lane → (old : LaneEnds (Newcomer C J)) × (slice_get s.carrier.lanes j ≡ Some old) × (lane.up ≡ old.up) × (lane.down ≡ old.down)
    was j lane e = ⊎_elim
        (λ (z : (j ≡ k) × (lane ≡ y)). (x, ap (slice_get s.carrier.lanes) z.0 ∙ at, ap (λ (l : LaneEnds (Newcomer C J)). l.up) z.1 ∙ up, ap (λ (l : LaneEnds (Newcomer C J)). l.down) z.1 ∙ down))
        (λ (z : (j ≢ k) × (slice_get s.carrier.lanes j ≡ Some lane)). (lane, z.1, refl, refl))
        (at-set s.carrier.lanes k y j lane e)

    same-downs : downs_of after ≡ downs_of s
    same-downs = ap (λ ps. ps ++ refusals s.carrier.pending_runs ++ debts s.carrier.backends) (rings s.workers s.carrier.lanes k x y at down)

    there : (i : ℕ) (pair : Pair) → slice_get (downs_of after) i ≡ Some pair → slice_get (downs_of s) i ≡ Some pair
    there i pair e = sym (ap (λ ps. slice_get ps i) same-downs) ∙ e

    as-many : length lanes ≡ length s.carrier.lanes
    as-many = set-size s.carrier.lanes k y

    same-links : (w : WorldModel) → LinksShadow s.nodes s.carrier s.closed s.opened w → LinksShadow s.nodes after.carrier s.closed s.opened w
    same-links w h = record {
      ids = h.ids;
      all = h.all;
      below = h.below;
      once = h.once;
      backends = h.backends;
      wires = h.wires;
      seen = h.seen;
      apart = h.apart;
      aside = h.aside;
      each = h.each;
    }

    shadow-after : (w : WorldModel) → IsShadow s w → IsShadow after w
    shadow-after w h = record {
      workers = h.workers;
      limit = h.limit;
      cluster = h.cluster;
      initial = h.initial;
      apart = h.apart;
      room = h.room;
      table = h.table;
      listed = h.listed;
      numbered = h.numbered;
      sides = h.sides ∙ sym as-many;
      seated = λ j b run p q. omega (arith, as-many, h.seated j b run p q);
      up_steps = λ j model lane p q. let old = was j lane q in subst (IsInStep model.outlet) (sym old.2) (h.up_steps j model old.0 p old.1);
      down_steps = λ j model lane p q outlet e. let old = was j lane q in h.down_steps j model old.0 p old.1 outlet (sym old.3 ∙ e);
      unfinished = λ j lane q. let old = was j lane q in subst IsSome (sym old.3) (h.unfinished j old.0 old.1);
      within = λ i pair e. omega (arith, as-many, h.within i pair (there i pair e));
      to_worker = λ j model lane p q.
          let old = was j lane q in subst (λ d. All (λ (pair : Pair). pair.0.worker ≡ j) (down_in d model.inlet)) (sym old.3) (h.to_worker j model old.0 p old.1);
      told = h.told;
      lanes = λ j model lane p q.
          let old = was j lane q in subst (ListShadow w j) (sym (ups-up model old.0 lane old.2 (slice_get s.carrier.pending_runs j))) (h.lanes j model old.0 p old.1);
      links = same-links w h.links;
      clients = λ j model number client p q.
          subst (λ ps. (number % w.workers ≡ j) × ClientShadow ps j number client w.commands) (sym same-downs) (h.clients j model number client p q);
      unseen = h.unseen;
      downs = λ t. omega (arith, h.downs t, ap (total (λ (p : Pair). is t p.0)) same-downs);
      awaited = λ i pair e. h.awaited i pair (there i pair e);
      waiting = h.waiting;
      asking = h.asking;
      log = h.log;
    }

    names-after : NamesNodes s → NamesNodes after
    names-after names = record {
      seed = names.seed;
      each = names.each;
      published = names.published;
      backends = names.backends;
      downs = λ j model lane p q.
          let old = was j lane q in
          subst (λ d. All (λ (pair : Pair). SaysOneOf (length s.nodes) pair.1) (down_in d model.inlet)) (sym old.3) (names.downs j model old.0 p old.1);
      posted = names.posted;
    }

  module _ (s s' : System C J) (k number : ℕ) (on : Hands s k number s') where
    abbrev old : LaneEnds (Newcomer C J)
    old = on.3.0

    abbrev new : LaneEnds (Newcomer C J)
    new = on.3.1

    up : new.up ≡ old.up
    up = ap (λ (l : LaneEnds (Newcomer C J)). l.up) on.3.4.0

    down : new.down ≡ old.down
    down = ap (λ (l : LaneEnds (Newcomer C J)). l.down) on.3.4.0

    leads : s' ≡ record s { carrier = record s.carrier { lanes = slice_set s.carrier.lanes k new } }
    leads = on.4 ∙ ap (λ ls. record s { carrier = record s.carrier { lanes = ls } }) on.3.3

    pub hands-shadow : (w : WorldModel) → IsShadow s w → IsShadow s' w
    hands-shadow w h = subst (λ (z : System C J). IsShadow z w) (sym leads) (shadow-after s k old new on.3.2 up down w h)

    pub hands-names : NamesNodes s → NamesNodes s'
    hands-names names = subst NamesNodes (sym leads) (names-after s k old new on.3.2 up down names)

module _ (C J : Type 0) where
  pub handed : (k number : ℕ) → Simulates C J (Handed k number)
  handed k number s s' w h _ on = ([], w, refl, hands-shadow s s' k number on w h)
