-- What a carrier does whose ends know more, one does whose ends know less.
use Rattle.std.proofs.Common.{◌≡◌, ◌⊎◌, ⊎_elim, inl, inr, ℕ, zero, suc, List, [], ◌∷◌, ◌++◌, Bool, true, false, Option, Some, None, Result, Ok, Err, refl, sym, ap, ◌∙◌, subst, length, ◌≤◌}
use Rattle.std.specs.Prelude.{slice_get, slice_set}
use Rattle.key_split.specs.Runs.{RunModel}
use Rattle.key_split.specs.declared.travel.Ticket.{Ticket}
use Rattle.key_split.specs.declared.travel.Told.{Told}
use Rattle.slot_map.specs.Table.{Endpoint}
use Rattle.proxy_lanes.specs.declared.ring.Outlet.{Outlet}
use Rattle.proxy_lanes.specs.declared.ends.lane_ends.LaneEnds.{LaneEnds}
use Rattle.proxy_lanes.specs.Ends.{ChangesAt, Gives, GivesDown, TakesUp}
use Rattle.node_link.specs.Port.{PortCalls}
use Rattle.proxy_turns.specs.declared.pending_run.PendingRun.{PendingRun}
use Rattle.proxy_turns.specs.declared.backend.Backend.{Backend}
use Rattle.proxy_turns.specs.declared.backend.PendingTold.{PendingTold}
use Rattle.proxy_turns.specs.Backend.{fresh_link, new_backend}
use Rattle.proxy_turns.specs.RefusedRun.{tickets_in}
use Rattle.proxy_turns.specs.PendingRun.{ComesBack, Delivers, GiveOutcome, TakeOutcome, TellOutcome, WaitsToGive, WaitsToTell, no_pending_run}
use Rattle.proxy_turns.specs.CarrierModel.{CarrierModel, CarrierDoes, CarrierEvent, AtBackend, Starved, WorkerAdded, BackendAdded, Looked, Took, Opened, Refused, Missed, SeedReached, Sought, Reached, NotFound, Sent, Gave, GaveUnsent}
use Rattle.proxy_engine.specs.Unseen.{CarrierDoesUnseen, CarrierKnows, DownKnows, LaneKnows, LanesKnow}
use Rattle.proxy_engine.proofs.Pairs.{nothing-there, some-same}
use Rattle.proxy_engine.proofs.Unseen.{items-themselves, places-themselves, posts-unseen, takes-unseen}

abbrev Pair : Type 0
Pair = Ticket × Told

down-themselves : (down : Option (Outlet Pair)) → DownKnows down down
down-themselves None = refl
down-themselves (Some outlet) = (outlet, refl, places-themselves outlet)

-- what is given down a lane that knows more is given down one that knows less, and they know alike then
gives-unseen : (less more new : Option (Outlet Pair)) (pair : Pair) (given : Result (Unit {0}) Pair) → DownKnows less more → Gives more new pair given → Gives less new pair given
gives-unseen None more new pair given k g = subst (λ o. Gives o new pair given) k g
gives-unseen (Some less) more new pair given k g =
    let at : Gives (Some k.0) new pair given = subst (λ o. Gives o new pair given) k.1 g in
    (at.0, at.1, posts-unseen less k.0 at.0 pair given k.2 at.2)

module _ {H : Type 0} where
  pub lane-themselves : (lane : LaneEnds H) → LaneKnows lane lane
  lane-themselves lane = (items-themselves lane.up, down-themselves lane.down, places-themselves lane.door)

  abbrev Absorbs : (LaneEnds H → LaneEnds H → Type 0) → Type 0
  Absorbs R = (less more new : LaneEnds H) → LaneKnows less more → R more new → (after : LaneEnds H) × R less after × LaneKnows after new

  takes-up : (taken : Option RunModel) → Absorbs (λ old new. TakesUp old new taken)
  takes-up taken less more new k t =
      let after : LaneEnds H = record less { up = new.up } in
      (after, (refl, takes-unseen less.up more.up new.up taken k.0 t.1), subst (λ l. LaneKnows after l) (sym t.0) (items-themselves new.up, k.1, k.2))

  gives-down : (pair : Pair) (given : Result (Unit {0}) Pair) → Absorbs (λ old new. GivesDown old new pair given)
  gives-down pair given less more new k g =
      let after : LaneEnds H = record less { down = new.down } in
      (after, (refl, gives-unseen less.down more.down new.down pair given k.1 g.1), subst (λ l. LaneKnows after l) (sym g.0) (k.0, down-themselves new.down, k.2))

  -- the lane at a place
  know-at : (less more : List (LaneEnds H)) (k : ℕ) (x : LaneEnds H) → LanesKnow less more → slice_get more k ≡ Some x → (w : LaneEnds H) × (slice_get less k ≡ Some w) × LaneKnows w x
  know-at [] [] k x p e = absurd (nothing-there k x e)
  know-at [] (y ∷ ys) k x p e = absurd p
  know-at (w ∷ ws) [] k x p e = absurd p
  know-at (w ∷ ws) (y ∷ ys) zero x p e = (w, refl, subst (λ v. LaneKnows w v) (some-same y x e) p.0)
  know-at (w ∷ ws) (y ∷ ys) (suc k) x p e = know-at ws ys k x p.1 e

  know-set : (less more : List (LaneEnds H)) (k : ℕ) (w x : LaneEnds H) → LanesKnow less more → LaneKnows w x → LanesKnow (slice_set less k w) (slice_set more k x)
  know-set [] [] k w x p q = tt
  know-set [] (y ∷ ys) k w x p q = absurd p
  know-set (v ∷ ws) [] k w x p q = absurd p
  know-set (v ∷ ws) (y ∷ ys) zero w x p q = (q, p.1)
  know-set (v ∷ ws) (y ∷ ys) (suc k) w x p q = (p.0, know-set ws ys k w x p.1 q)

  know-count : (less more : List (LaneEnds H)) → LanesKnow less more → length less ≡ length more
  know-count [] [] p = refl
  know-count [] (y ∷ ys) p = absurd p
  know-count (v ∷ ws) [] p = absurd p
  know-count (v ∷ ws) (y ∷ ys) p = ap suc (know-count ws ys p.1)

  abbrev After : List (LaneEnds H) → (List (LaneEnds H) → List (LaneEnds H) → Type 0) → List (LaneEnds H) → Type 0
  After less R new = (after : List (LaneEnds H)) × R less after × LanesKnow after new

  changes : (R : LaneEnds H → LaneEnds H → Type 0) → Absorbs R → (less more new : List (LaneEnds H)) (k : ℕ) → LanesKnow less more → ChangesAt more k new R → After less (λ old after. ChangesAt old k after R) new
  changes R absorbs less more new k p c =
      let was = know-at less more k c.0 p c.2 in
      let one = absorbs was.0 c.0 c.1 was.2 c.4 in
      (slice_set less k one.0, (was.0, one.0, was.1, refl, one.1), subst (λ xs. LanesKnow (slice_set less k one.0) xs) (sym c.3) (know-set less more k one.0 c.1 p one.2))

  stays : (less more new : List (LaneEnds H)) → LanesKnow less more → new ≡ more → LanesKnow less new
  stays less more new p e = subst (λ xs. LanesKnow less xs) (sym e) p

  delivers : (pair : Pair) (less more new : List (LaneEnds H)) → LanesKnow less more → Delivers more pair new → After less (λ old after. Delivers old pair after) new
  delivers pair less more new p d =
      ⊎_elim
      (λ c. let a = changes _ (gives-down pair (Ok tt)) less more new pair.0.worker p c in (a.0, inl a.1, a.2))
      (λ e. (less, inr (subst (λ n. n ≤ pair.0.worker) (sym (know-count less more p)) e.0, refl), stays less more new p e.1))
      d

  comes-back : (pair : Pair) (less more new : List (LaneEnds H)) → LanesKnow less more → ComesBack more pair new → After less (λ old after. ComesBack old pair after) new
  comes-back pair less more new p c = changes _ (gives-down pair (Err pair)) less more new pair.0.worker p c

  waits-to-give : (told : Option PendingTold) (less more new : List (LaneEnds H)) → LanesKnow less more → WaitsToGive told more new → After less (λ old after. WaitsToGive told old after) new
  waits-to-give None less more new p w = (less, refl, stays less more new p w)
  waits-to-give (Some told) less more new p w =
      ⊎_elim
      (λ e. (less, inl (e.0, refl), stays less more new p e.1))
      (λ c. let a = comes-back (told.ticket, told.told) less more new p c.1 in (a.0, inr (c.0, a.1), a.2))
      w

  waits-to-tell : (tickets : List Ticket) (less more new : List (LaneEnds H)) → LanesKnow less more → WaitsToTell tickets more new → After less (λ old after. WaitsToTell tickets old after) new
  waits-to-tell [] less more new p w = (less, refl, stays less more new p w)
  waits-to-tell (ticket ∷ later) less more new p w = comes-back _ less more new p w

  give-unseen : {P : Type 0} (moved : Bool) (b b' : Backend P) (less more new : List (LaneEnds H)) → LanesKnow less more → GiveOutcome b more moved b' new → After less (λ old after. GiveOutcome b old moved b' after) new
  give-unseen true b b' less more new p g = let a = delivers _ less more new p g.3 in (a.0, (g.0, g.1, g.2, a.1, g.4), a.2)
  give-unseen false b b' less more new p g = let a = waits-to-give b.pending_told less more new p g.1 in (a.0, (g.0, a.1), a.2)

  tell-unseen : (moved : Bool) (r r' : PendingRun) (less more new : List (LaneEnds H)) → LanesKnow less more → TellOutcome r more moved r' new → After less (λ old after. TellOutcome r old moved r' after) new
  tell-unseen true r r' less more new p t = let a = delivers _ less more new p t.3 in (a.0, (t.0, t.1, t.2, a.1, t.4), a.2)
  tell-unseen false r r' less more new p t = let a = waits-to-tell r.refused less more new p t.1 in (a.0, (t.0, a.1), a.2)

  take-unseen : (moved : Bool) (k : ℕ) (r r' : PendingRun) (less more new : List (LaneEnds H)) → LanesKnow less more → TakeOutcome k r more moved r' new → After less (λ old after. TakeOutcome k r old moved r' after) new
  take-unseen true k r r' less more new p t = let a = changes _ (takes-up (Some t.0)) less more new k p t.3 in (a.0, (t.0, t.1, t.2, a.1), a.2)
  take-unseen false k r r' less more new p t =
      ⊎_elim
      (λ e. (less, (t.0, inl (e.0, refl)), stays less more new p e.1))
      (λ c. let a = changes _ (takes-up None) less more new k p c.1 in (a.0, (t.0, inr (c.0, a.1)), a.2))
      t.1

module _ (H : Type 0) {P : Type 0} (calls : PortCalls P) (opens : Endpoint → Option P → ℕ → ℕ → Type 0) (longest : P → ℕ) where
  abbrev Unseen : CarrierModel H P → CarrierEvent → CarrierModel H P → Type 0
  Unseen less event new = (after : CarrierModel H P) × CarrierDoes calls opens longest less event after × CarrierKnows after new

  -- nothing is done at the lanes
  elsewhere : (after new mid : CarrierModel H P) (more : List (LaneEnds H)) → LanesKnow after.lanes more → new ≡ mid → mid ≡ record after { lanes = more } → CarrierKnows after new
  elsewhere after new mid more p e same = subst (λ (c : CarrierModel H P). CarrierKnows after c) (sym (e ∙ same)) (p, refl)

  ends-know : (less : CarrierModel H P) (more : List (LaneEnds H)) (event : CarrierEvent) (new : CarrierModel H P) → LanesKnow less.lanes more → CarrierDoes calls opens longest (record less { lanes = more }) event new → Unseen less event new
  ends-know less more (AtBackend step) new p d =
      let after : CarrierModel H P = record less { backends = slice_set less.backends d.0 d.2; nodes = new.nodes; published = new.published } in
      (after, (d.0, d.1, d.2, d.3, d.4, refl), elsewhere after new _ more p d.5 refl)
  ends-know less more Starved new p d =
      ⊎_elim
      (λ s. let after : CarrierModel H P = record less { backends = slice_set less.backends s.0 s.2; nodes = new.nodes; published = new.published } in (after, inl (s.0, s.1, s.2, s.3, s.4, refl), elsewhere after new _ more p s.5 refl))
      (λ s. let after : CarrierModel H P = record less { backends = slice_set less.backends s.0 s.2 } in (after, inr (s.0, s.1, s.2, s.3, s.4, s.5, s.6, refl), elsewhere after new _ more p s.7 refl))
      d
  ends-know less more WorkerAdded new p d =
      let after : CarrierModel H P = record less { pending_runs = less.pending_runs ++ no_pending_run ∷ [] } in (after, refl, elsewhere after new _ more p d refl)
  ends-know less more BackendAdded new p d = let after : CarrierModel H P = record less { backends = less.backends ++ new_backend ∷ [] } in (after, refl, elsewhere after new _ more p d refl)
  ends-know less more Looked new p d =
      ⊎_elim
      (λ g. let a = give-unseen false g.1 g.1 less.lanes more new.lanes p g.3 in let after : CarrierModel H P = record less { lanes = a.0 } in (after, (refl, inl (g.0, g.1, g.2, a.1)), elsewhere after new _ new.lanes a.2 d.0 refl))
      (λ r. ⊎_elim
      (λ t. let a = tell-unseen false r.1 r.1 less.lanes more new.lanes p t in let after : CarrierModel H P = record less { lanes = a.0 } in (after, (refl, inr (r.0, r.1, r.2, inl a.1)), elsewhere after new _ new.lanes a.2 d.0 refl))
      (λ t. let a = take-unseen false r.0 r.1 r.1 less.lanes more new.lanes p t in let after : CarrierModel H P = record less { lanes = a.0 } in (after, (refl, inr (r.0, r.1, r.2, inr a.1)), elsewhere after new _ new.lanes a.2 d.0 refl))
      r.3)
      d.1
  ends-know less more Took new p d =
      let a = take-unseen true d.0 d.1 d.2 less.lanes more new.lanes p d.4 in
      let after : CarrierModel H P = record less { lanes = a.0; pending_runs = slice_set less.pending_runs d.0 d.2 } in
      (after, (d.0, d.1, d.2, d.3, a.1, refl), elsewhere after new _ new.lanes a.2 d.5 refl)
  ends-know less more Opened new p d =
      let after : CarrierModel H P = record less { backends = slice_set less.backends d.0 (record d.1 { link = Some (fresh_link d.3 d.0); asked = false }); failures = new.failures } in
      (after, (d.0, d.1, d.2, d.3, d.4, d.5, d.6, d.7, refl), elsewhere after new _ more p d.8 refl)
  ends-know less more Refused new p d =
      let after : CarrierModel H P = record less { pending_runs = slice_set less.pending_runs d.0 (record { run = None; refused = tickets_in d.2 }); failures = new.failures } in
      (after, (d.0, d.1, d.2, d.3, d.4, d.5, d.6, d.7, d.8, refl), elsewhere after new _ more p d.9 refl)
  ends-know less more Missed new p d =
      let after : CarrierModel H P = record less { seed_to_dial = false; failures = new.failures } in (after, (d.0, d.1, refl), elsewhere after new _ more p d.2 refl)
  ends-know less more SeedReached new p d =
      let after : CarrierModel H P = record less { seed_to_dial = false; backends = slice_set less.backends 0 (record d.0 { to_ask = true }) } in
      (after, (d.0, d.1, d.2, refl), elsewhere after new _ more p d.3 refl)
  ends-know less more Sought new p d =
      let after : CarrierModel H P = record less { backends = slice_set less.backends d.0 (record d.1 { to_ask = true }) } in
      (after, (d.0, d.1, d.2, d.3, d.4, refl), elsewhere after new _ more p d.5 refl)
  ends-know less more Reached new p d =
      let after : CarrierModel H P = record less { backends = slice_set less.backends d.0 (record d.1 { link = Some (fresh_link d.3 d.0); to_ask = true; asked = false }); failures = new.failures } in
      (after, (d.0, d.1, d.2, d.3, d.4, d.5, d.6, d.7, d.8, refl), elsewhere after new _ more p d.9 refl)
  ends-know less more NotFound new p d = let after : CarrierModel H P = record less { failures = new.failures } in (after, (d.0, d.1, refl, d.3), elsewhere after new _ more p d.2 refl)
  ends-know less more Sent new p d =
      let after : CarrierModel H P = record less { pending_runs = slice_set less.pending_runs d.0 (record d.1 { run = None }); backends = slice_set less.backends d.2.first.node d.4 } in
      (after, (d.0, d.1, d.2, d.3, d.4, d.5, d.6, d.7, d.8, refl), elsewhere after new _ more p d.9 refl)
  ends-know less more Gave new p d =
      let a = give-unseen true d.1 d.2 less.lanes more new.lanes p d.4 in
      let after : CarrierModel H P = record less { lanes = a.0; backends = slice_set less.backends d.0 d.2 } in
      (after, (d.0, d.1, d.2, d.3, a.1, refl), elsewhere after new _ new.lanes a.2 d.5 refl)
  ends-know less more GaveUnsent new p d =
      let a = tell-unseen true d.1 d.2 less.lanes more new.lanes p d.4 in
      let after : CarrierModel H P = record less { lanes = a.0; pending_runs = slice_set less.pending_runs d.0 d.2 } in
      (after, (d.0, d.1, d.2, d.3, a.1, refl), elsewhere after new _ new.lanes a.2 d.5 refl)

  pub carrier-unseen : CarrierDoesUnseen H calls opens longest
  carrier-unseen less old new event k d = ends-know less old.lanes event new k.0 (subst (λ (c : CarrierModel H P). CarrierDoes calls opens longest c event new) k.1 d)
