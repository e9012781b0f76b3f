-- The start of the system is that of the machine.
use Rattle.std.proofs.Common.{◌≡◌, ℕ, suc, List, [], ◌∷◌, Some, None, refl, sym, ap, ◌∙◌, subst, arith, length, length-append}
use Rattle.std.specs.Prelude.{slice_get, All}
use Rattle.std.specs.FinMap.{get, empty, get-empty}
use Rattle.std.specs.Ordering.{nat_cmp}
use Rattle.proxy_lanes.specs.declared.ends.lane_ends.LaneEnds.{LaneEnds}
use Rattle.proxy_turns.specs.declared.newcomer.Newcomer.{Newcomer}
use Rattle.proxy_turns.specs.declared.pending_run.PendingRun.{PendingRun}
use Rattle.proxy_turns.specs.ClientModel.{ClientModel}
use Rattle.proxy_turns.specs.Commands.{most_together}
use Rattle.proxy_turns.specs.WorkerModel.{WorkerModel}
use Rattle.world_laws.specs.State.{WorldModel, start_from}
use Rattle.world_laws.specs.Places.{total, is}
use Rattle.world_laws.proofs.Tally.{total-append, total-one}
use Rattle.turn_laws.specs.Walks.{IsWalked}
use Rattle.turn_laws.specs.System.{System}
use Rattle.turn_laws.specs.Shadow.{IsShadow, LinksShadow, LogShadow, ListShadow}
use Rattle.turn_laws.specs.Underway.{downs_of, downs_in, down_in, ups_in}
use Rattle.turn_laws.specs.Naming.{NamesNodes, SaysOneOf, SetsOneOf}
use Rattle.turn_laws.specs.Refines.{IsStart}
use Rattle.turn_laws.proofs.Downs.{Pair}
use Rattle.turn_laws.proofs.Bags.{refusals, debts, bag-parts}
use Rattle.turn_laws.proofs.Elements.{nothing-there}

no-client : {C : Type 0} (clients : _) (number : ℕ) (client : ClientModel C) → clients ≡ empty {R = nat_cmp} → get clients number ≡ Some client → ⊥
no-client clients number client e at = let none : get clients number ≡ None = ap (λ m. get m number) e ∙ get-empty nat_cmp number in absurd (cc)

no-item : {X : Type 0} (xs : List X) (k : ℕ) (x : X) → xs ≡ [] → slice_get xs k ≡ Some x → ⊥
no-item xs k x e at = nothing-there k x (ap (λ ys. slice_get ys k) (sym e) ∙ at)

module _ {C J : Type 0} where
  no-rings : (f : Pair → ℕ) (workers : List (WorkerModel C J)) (lanes : List (LaneEnds (Newcomer C J)))
      → ((k : ℕ) (model : WorkerModel C J) (lane : LaneEnds (Newcomer C J)) → slice_get workers k ≡ Some model → slice_get lanes k ≡ Some lane → down_in lane.down model.inlet ≡ [])
      → total f (downs_in workers lanes) ≡ 0
  no-rings f [] lanes h = refl
  no-rings f (z ∷ workers) [] h = refl
  no-rings f (z ∷ workers) (l ∷ lanes) h = omega (
    arith,
    total-append f (down_in l.down z.inlet) (downs_in workers lanes),
    ap (total f) (h 0 z l refl refl),
    no-rings f workers lanes (λ k model lane p q. h (suc k) model lane p q),
  )

  module _ (s : System C J) (h : IsStart s) where
    abbrev pub first : WorldModel
    first = start_from (length s.workers) most_together s.initial s.cluster

    no-downs : (f : Pair → ℕ) → total f (downs_of s) ≡ 0
    no-downs f = omega (
      arith,
      bag-parts f s,
      no-rings f s.workers s.carrier.lanes (λ k model lane p q. (h.ups k model lane p q).1),
      ap (λ hs. total f (refusals hs)) h.pending_runs,
      ap (λ ls. total f (debts ls)) h.backends,
    )

    no-links : LinksShadow s.nodes s.carrier s.closed s.opened first
    no-links = record {
      ids = [];
      all = refl;
      below = λ i id e. absurd (nothing-there i id e);
      once = λ i j id e f. absurd (nothing-there i id e);
      backends = λ k link works. absurd (no-item s.carrier.backends k works.0 h.backends works.1);
      wires = λ j wire e. absurd (no-item s.closed j wire h.closed e);
      apart = λ k m a b p q e. absurd (no-item s.carrier.backends k p.0 h.backends p.1);
      aside = λ k j a wire p q e. absurd (no-item s.closed j wire h.closed q);
      each = λ i j a b p q e. absurd (no-item s.closed i a h.closed p);
      seen = λ i id e. absurd (nothing-there i id e);
    }

    no-marks : LogShadow [] first
    no-marks = record {
      clock = λ n. n;
      rises = λ i j lt short. absurd (omega (arith, short));
      past = λ i short. absurd (omega (arith, short));
      arrived = refl;
      executed = refl;
      answered = refl;
    }

    pub shadow : IsShadow s first
    shadow = record {
      workers = refl;
      limit = omega arith;
      cluster = refl;
      initial = refl;
      apart = h.apart;
      room = h.room;
      table = h.table;
      listed = λ k backend link e. absurd (no-item s.carrier.backends k backend h.backends e);
      numbered = λ k model p. (h.idle k model p).0;
      sides = h.sides;
      seated = λ k b run e. absurd (no-item s.carrier.pending_runs k b h.pending_runs e);
      up_steps = h.up_steps;
      down_steps = h.down_steps;
      unfinished = h.unfinished;
      within = λ i pair e. absurd (no-pair i pair e);
      to_worker = λ k model lane p q. subst (All (λ (pair : Pair). pair.0.worker ≡ k)) (sym (h.ups k model lane p q).1) (λ i x lt. absurd (omega arith));
      told = refl;
      lanes = λ k model lane p q.
          let none : slice_get s.carrier.pending_runs k ≡ None = ap (λ (hs : List PendingRun). slice_get hs k) h.pending_runs in
          let empty : ups_in model lane (slice_get s.carrier.pending_runs k) ≡ [] = ap (ups_in model lane) none ∙ (h.ups k model lane p q).0 in
          subst (ListShadow first k) (sym empty) (refl, λ j d lt. absurd (omega arith));
      links = no-links;
      clients = λ k model number client p q. absurd (no-client model.clients number client (h.idle k model p).1 q);
      unseen = λ k model number p e above. (refl, ap (λ m. get m number) (h.idle k model p).1 ∙ get-empty nat_cmp number);
      downs = λ t. omega (arith, no-downs (λ (p : Pair). is t p.0));
      awaited = λ i pair e. absurd (no-pair i pair e);
      waiting = λ j c e. absurd (nothing-there j c e);
      asking = λ j c node e. absurd (nothing-there j c e);
      log = subst (λ l. LogShadow l first) (sym h.log) no-marks;
    }
      where
        no-pair : (i : ℕ) (pair : Pair) → slice_get (downs_of s) i ≡ Some pair → ⊥
        no-pair i pair e = omega (arith, total-one (λ (p : Pair). 1) (downs_of s) i pair e, no-downs (λ (p : Pair). 1))

    pub names : NamesNodes s
    names = record {
      seed = omega (arith, h.seed, ap length h.table.1, length-append s.carrier.nodes h.table.0);
      each = h.each;
      published = subst (All (SetsOneOf (length s.nodes))) (sym h.published) (λ i op lt. absurd (omega arith));
      backends = λ k backend e. absurd (no-item s.carrier.backends k backend h.backends e);
      downs = λ k model lane p q. subst (All (λ (pair : Pair). SaysOneOf (length s.nodes) pair.1)) (sym (h.ups k model lane p q).1) (λ i x lt. absurd (omega arith));
      posted = λ k model number client part c p q. absurd (no-client model.clients number client (h.idle k model p).1 q);
    }

    pub alone : IsWalked first
    alone = (length s.workers, most_together, s.initial, s.cluster, [], h.sound, refl)

module _ (C J : Type 0) where
  pub start-shadow : (s : System C J) → IsStart s → (w : WorldModel) × IsWalked w × IsShadow s w × NamesNodes s
  start-shadow s h = (_, alone s h, shadow s h, names s h)
