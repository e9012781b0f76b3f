-- The first run of a lane leaves it: it is refused whole, and the machine tells each of its commands so at once.
use Rattle.std.proofs.Common.{◌≡◌, ◌≢◌, ⊎_elim, ℕ, zero, suc, ◌+◌, ◌<◌, ◌==◌, Bool, true, false, List, [], ◌∷◌, ◌++◌, Some, None, refl, sym, ap, ◌∙◌, subst, arith, length}
use Rattle.std.specs.Prelude.{slice_get, slice_set, Option, All, map, filter, remove, if◌then◌else◌}
use Rattle.std.specs.List.{position_from}
use Rattle.std.proofs.lemmas.Iterator.Adapters.{position_from-zero}
use Rattle.std.proofs.lemmas.Bool.Decides.{eqb_tells}
use Rattle.key_split.specs.Runs.{RunModel}
use Rattle.proxy_lanes.specs.declared.ends.lane_ends.LaneEnds.{LaneEnds}
use Rattle.proxy_turns.specs.declared.newcomer.Newcomer.{Newcomer}
use Rattle.proxy_turns.specs.declared.pending_run.PendingRun.{PendingRun}
use Rattle.proxy_turns.specs.WorkerModel.{WorkerModel}
use Rattle.proxy_turns.specs.CarrierModel.{CarrierModel, Refused}
use Rattle.world_laws.specs.State.{WorldModel}
use Rattle.world_laws.specs.declared.state.Posted.{Posted}
use Rattle.world_laws.specs.World.{IsFirst, lies_in}
use Rattle.world_laws.specs.declared.event.Event.{Event}
use Rattle.world_laws.specs.declared.event.Event.TheVariants.{Refuse}
use Rattle.world_laws.specs.Places.{total}
use Rattle.world_laws.proofs.Tally.{total-append}
use Rattle.world_laws.proofs.Recorded.{set-same}
use Rattle.turn_laws.specs.Walks.{Walk, IsSharedWalked}
use Rattle.turn_laws.specs.Wire.{Wire}
use Rattle.turn_laws.specs.System.{System, between}
use Rattle.turn_laws.specs.Shadow.{IsShadow, UpsShadow, RunShadow, lane_of, lying, tickets_in, ListShadow}
use Rattle.turn_laws.specs.Underway.{ups_in, run_in, downs_of, downs_in, refused_in}
use Rattle.turn_laws.specs.Steps.{AtCarrier, CarrierStep}
use Rattle.turn_laws.specs.Refines.{Simulates}
use Rattle.turn_laws.proofs.Downs.{Pair, SameBag, total-set-flat}
use Rattle.turn_laws.proofs.Frames.{beside, set-seats, down-fits, links-still, still-closed, still-opened, works-still, no-failure, seen-same}
use Rattle.turn_laws.proofs.Bags.{refusals, debts, bag-parts}
use Rattle.turn_laws.proofs.AtLanes.{same-backends, get-other}
use Rattle.turn_laws.proofs.Settled.{goes-of, settles-so}

-- the first that passes, and the list without it
pub record FrontOf {X : Type 0} (p : X → Bool) (xs : List X) (y : X) (ys : List X) (n : ℕ) : Type 0 where
  pub at : ℕ
  pub place : position_from p n xs ≡ Some (n + at)
  pub here : slice_get xs at ≡ Some y
  pub rest : filter p (remove xs at) ≡ ys
  pub others : (q : X → Bool) → q y ≡ false → filter q (remove xs at) ≡ filter q xs

filtered : {X : Type 0} → (X → Bool) → X → List X → Bool → List X
filtered p x xs b = if b then x ∷ filter p xs else filter p xs

pub front-of : {X : Type 0} (p : X → Bool) (xs : List X) (y : X) (ys : List X) (n : ℕ) → filter p xs ≡ y ∷ ys → FrontOf p xs y ys n
front-of {X} p [] y ys n e = absurd (cc)
front-of {X} p (x ∷ xs) y ys n e = go (p x) refl (λ f. front-of p xs y ys (n + 1) f)
  where
    skips : (q : X → Bool) → q x ≡ false → (zs : List X) → filter q (x ∷ zs) ≡ filter q zs
    skips q f zs = ap (λ b. if b then x ∷ filter q zs else filter q zs) f

    keeps : (q : X → Bool) → q x ≡ true → (zs : List X) → filter q (x ∷ zs) ≡ x ∷ filter q zs
    keeps q f zs = ap (λ b. if b then x ∷ filter q zs else filter q zs) f

    head : (u : X) (us : List X) → u ∷ us ≡ y ∷ ys → u ≡ y
    head u us e = cc

    tail : (u : X) (us : List X) → u ∷ us ≡ y ∷ ys → us ≡ ys
    tail u us e = cc

    alike : (q : X → Bool) (b : Bool) → q x ≡ b → (zs ws : List X) → filter q zs ≡ filter q ws → filter q (x ∷ zs) ≡ filter q (x ∷ ws)
    alike q true f zs ws g = keeps q f zs ∙ ap (λ us. x ∷ us) g ∙ sym (keeps q f ws)
    alike q false f zs ws g = skips q f zs ∙ g ∙ sym (skips q f ws)

    go : (b : Bool) → p x ≡ b → (filter p xs ≡ y ∷ ys → FrontOf p xs y ys (n + 1)) → FrontOf p (x ∷ xs) y ys n
    go true f later =
        let first : x ∷ filter p xs ≡ y ∷ ys = sym (keeps p f xs) ∙ e in
        let same : x ≡ y = head x (filter p xs) first in
        record {
          at = 0;
          place = ap (λ b. if b then Some n else position_from p (n + 1) xs) f ∙ ap Some (omega arith);
          here = ap Some same;
          rest = tail x (filter p xs) first;
          others = λ q no. sym (skips q (ap q same ∙ no) xs);
        }
    go false f later =
        let r = later (sym (skips p f xs) ∙ e) in
        record {
          at = suc r.at;
          place = ap (λ b. if b then Some n else position_from p (n + 1) xs) f ∙ r.place ∙ ap Some (omega arith);
          here = r.here;
          rest = skips p f (remove xs r.at) ∙ r.rest;
          others = λ q no. alike q (q x) refl (remove xs r.at) xs (r.others q no);
        }

pub first-of-front : {X : Type 0} (p : X → Bool) (xs : List X) (y : X) (ys : List X) → (f : FrontOf p xs y ys 0) → IsFirst p xs f.at y
first-of-front p xs y ys f = (position_from-zero p xs ∙ (f.place ∙ ap Some (omega arith)), f.here)

-- a run of another lane
pub other-lane : (run : RunModel) (k j : ℕ) → run.first.ticket.worker ≡ k → j ≢ k → lies_in j (lying run) ≡ false
other-lane run k j e ne = ⊎_elim
    (λ (z : ((run.first.ticket.worker == j) ≡ true) × (run.first.ticket.worker ≡ j)). absurd (ne (sym z.1 ∙ e)))
    (λ (z : ((run.first.ticket.worker == j) ≡ false) × (run.first.ticket.worker ≢ j)). z.0)
    (eqb_tells run.first.ticket.worker j)

some-run : (o : Option PendingRun) (b : PendingRun) (run : RunModel) → o ≡ Some b → b.run ≡ Some run → {C J : Type 0} (model : WorkerModel C J) (lane : LaneEnds (Newcomer C J)) → ups_in model lane o ≡ run ∷ between model.outlet lane.up
some-run o b run e f model lane = ap (ups_in model lane) e ∙ ap (λ x. run_in x ++ between model.outlet lane.up) f

pub no-run : (o : Option PendingRun) (b : PendingRun) → o ≡ Some b → b.run ≡ None → {C J : Type 0} (model : WorkerModel C J) (lane : LaneEnds (Newcomer C J)) → ups_in model lane o ≡ between model.outlet lane.up
no-run o b e f model lane = ap (ups_in model lane) e ∙ ap (λ x. run_in x ++ between model.outlet lane.up) f

all-tail : {X : Type 0} (P : X → Type 0) (x : X) (xs : List X) → All P (x ∷ xs) → All P xs
all-tail P x xs h i d lt = h (suc i) d (omega (arith, lt))

all-head : {X : Type 0} (P : X → Type 0) (x : X) (xs : List X) → All P (x ∷ xs) → P x
all-head P x xs h = h 0 x (omega arith)

module _ {C J : Type 0} where
  -- The run that is pending at k is the first of its lane, and can leave it.
  pub record Leaving (s : System C J) (w : WorldModel) (k : ℕ) (run : RunModel) : Type 0 where
    pub rest : List Posted
    pub all : lane_of k w ≡ lying run ∷ rest
    pub front : FrontOf (lies_in k) w.ups (lying run) rest 0
    pub known : RunShadow w.commands k run
    pub mine : run.first.ticket.worker ≡ k

  pub leaving : (s : System C J) (w : WorldModel) → IsShadow s w → (k : ℕ) (b : PendingRun) (run : RunModel) → slice_get s.carrier.pending_runs k ≡ Some b → b.run ≡ Some run → Leaving s w k run
  leaving s w h k b run at full =
      let lane = there (s.carrier.lanes) k (h.seated k b run at full) in
      let model = beside s.workers s.carrier.lanes k lane.0 h.sides lane.1 in
      let ups : ups_in model.0 lane.0 (slice_get s.carrier.pending_runs k) ≡ run ∷ between (model.0).outlet (lane.0).up = some-run (slice_get s.carrier.pending_runs k) b run at full model.0 lane.0 in
      let x : ListShadow w k (ups_in model.0 lane.0 (slice_get s.carrier.pending_runs k)) = h.lanes k model.0 lane.0 model.1 lane.1 in
      let y : ListShadow w k (run ∷ between (model.0).outlet (lane.0).up) = subst (ListShadow w k) ups x in
      let one : RunShadow w.commands k run = all-head (RunShadow w.commands k) run (between (model.0).outlet (lane.0).up) y.1 in
      record {
        rest = map lying (between (model.0).outlet (lane.0).up);
        all = y.0;
        front = front-of (lies_in k) w.ups (lying run) (map lying (between (model.0).outlet (lane.0).up)) 0 y.0;
        known = one;
        mine = (one.1 0 run.first (omega arith)).1;
      }
    where
      there : {X : Type 0} (xs : List X) (k : ℕ) → k < length xs → (x : X) × (slice_get xs k ≡ Some x)
      there [] k lt = absurd (omega (arith, lt))
      there (x ∷ xs) zero lt = (x, refl)
      there (x ∷ xs) (suc k) lt = there xs k (omega (arith, lt))

  -- the lanes without it
  pub left-lanes : (s s' : System C J) (w : WorldModel) (h : IsShadow s w) (k : ℕ) (b b' : PendingRun) (run : RunModel) (at : slice_get s.carrier.pending_runs k ≡ Some b) (full : b.run ≡ Some run)
      → b'.run ≡ None → s'.carrier.lanes ≡ s.carrier.lanes → s'.carrier.pending_runs ≡ slice_set s.carrier.pending_runs k b'
      → UpsShadow s.workers s'.carrier (record w { ups = remove w.ups (leaving s w h k b run at full).front.at })
  left-lanes s s' w h k b b' run at full none lanes pending_runs j model lane p q = ⊎_elim
      (λ (z : ((j == k) ≡ true) × (j ≡ k)).
      let one : slice_get s'.carrier.pending_runs j ≡ Some b' = ap (λ xs. slice_get xs j) pending_runs ∙ ap (slice_get (slice_set s.carrier.pending_runs k b')) z.1 ∙ set-same s.carrier.pending_runs k b b' at in
      let was : slice_get s.carrier.pending_runs j ≡ Some b = ap (slice_get s.carrier.pending_runs) z.1 ∙ at in
      let now : ups_in model lane (slice_get s'.carrier.pending_runs j) ≡ between model.outlet lane.up = no-run (slice_get s'.carrier.pending_runs j) b' one none model lane in
      let old : ListShadow w j (run ∷ between model.outlet lane.up) = subst (ListShadow w j) (some-run (slice_get s.carrier.pending_runs j) b run was full model lane) (x0 j model lane p q) in
      let f = leaving s w h k b run at full in
      let g : lane_of k w' ≡ f.rest = (f.front).rest in
      let same : (lying run ∷ f.rest) ≡ map lying (run ∷ between model.outlet lane.up) = sym f.all ∙ ap (λ n. lane_of n w) (sym z.1) ∙ old.0 in
      let tail : f.rest ≡ map lying (between model.outlet lane.up) = tails (lying run) f.rest (map lying (between model.outlet lane.up)) same in
      let x : ListShadow w' j (between model.outlet lane.up) = (ap (λ n. lane_of n w') z.1 ∙ g ∙ tail, all-tail (RunShadow w.commands j) run (between model.outlet lane.up) old.1) in
      let y : ListShadow w' j (ups_in model lane (slice_get s'.carrier.pending_runs j)) = subst (ListShadow w' j) (sym now) x in y)
      (λ (z : ((j == k) ≡ false) × (j ≢ k)).
      let f = leaving s w h k b run at full in
      let same : slice_get s'.carrier.pending_runs j ≡ slice_get s.carrier.pending_runs j = ap (λ xs. slice_get xs j) pending_runs ∙ get-other s.carrier.pending_runs k j b' z.1 in
      let old = x0 j model lane p q in
      let lanes' : lane_of j w' ≡ lane_of j w = (f.front).others (lies_in j) (other-lane run k j f.mine z.1) in
      let x : ListShadow w' j (ups_in model lane (slice_get s.carrier.pending_runs j)) = (lanes' ∙ old.0, old.1) in
      let y : ListShadow w' j (ups_in model lane (slice_get s'.carrier.pending_runs j)) = subst (ListShadow w' j) (sym (ap (ups_in model lane) same)) x in y)
      (eqb_tells j k)
    where
      w' : WorldModel
      w' = record w { ups = remove w.ups (leaving s w h k b run at full).front.at }

      x0 : (j : ℕ) (model : WorkerModel C J) (lane : LaneEnds (Newcomer C J)) → slice_get s.workers j ≡ Some model → slice_get s'.carrier.lanes j ≡ Some lane → ListShadow w j (ups_in model lane (slice_get s.carrier.pending_runs j))
      x0 j model lane p q = h.lanes j model lane p (sym (ap (λ xs. slice_get xs j) lanes) ∙ q)

      tails : (x : Posted) (xs ys : List Posted) → x ∷ xs ≡ x ∷ ys → xs ≡ ys
      tails x xs ys e = cc

module _ {C J : Type 0} (s s' : System C J) (w : WorldModel) (h : IsShadow s w) (walked : IsSharedWalked w) (on : CarrierStep s Refused s') where
  abbrev k : ℕ
  k = on.does.0

  abbrev b : PendingRun
  b = on.does.1

  abbrev run : RunModel
  run = on.does.2

  abbrev b' : PendingRun
  b' = record { run = None; refused = tickets_in run }

  -- each of its commands is told Unsent
  abbrev told : List Pair
  told = refused_in (tickets_in run)

  abbrev Carried : Type 0
  Carried = CarrierModel (Newcomer C J) Wire

  backends : s'.carrier.backends ≡ s.carrier.backends
  backends = ap (λ (c : Carried). c.backends) on.does.9

  lanes : s'.carrier.lanes ≡ s.carrier.lanes
  lanes = ap (λ (c : Carried). c.lanes) on.does.9

  pending_runs : s'.carrier.pending_runs ≡ slice_set s.carrier.pending_runs k b'
  pending_runs = ap (λ (c : Carried). c.pending_runs) on.does.9

  bag : SameBag (downs_of s ++ told) (downs_of s')
  bag f =
      let fl : s'.workers ≡ s.workers = ap (λ (x : System C J). x.workers) on.leaves in
      let rings : total f (downs_in s'.workers s'.carrier.lanes) ≡ total f (downs_in s.workers s.carrier.lanes) = λ i. total f (downs_in (fl i) (lanes i)) in
      omega (
        arith,
        total-append f (downs_of s) told,
        bag-parts f s,
        bag-parts f s',
        rings,
        ap (λ ls. total f (debts ls)) backends,
        ap (λ hs. total f (refusals hs)) pending_runs,
        total-set-flat f (λ (pending_run : PendingRun). refused_in pending_run.refused) s.carrier.pending_runs k b b' on.does.4,
        ap (λ o. total f (refused_in o)) on.does.6,
      )

  pub refuses : (events : List Event) × (w' : WorldModel) × Walk w events w' × IsShadow s' w'
  refuses =
      let f = leaving s w h k b run on.does.4 on.does.5 in
      let same = same-backends s s' backends in
      settles-so (Refuse k) s s' w (remove w.ups f.front.at) w.links told walked h (goes-of Refused s s' on)
      (f.front.at, lying run, first-of-front (lies_in k) w.ups (lying run) f.rest f.front, refl)
      (links-still s.nodes s.carrier s'.carrier s.closed s'.closed s.opened s'.opened w (works-still s s' same) (seen-same s s' backends) (still-closed s s' (no-failure s s' same) on.breaks) (still-opened Refused s s' on refl) h.links)
      bag
      (set-seats s s' k b' (ap length lanes) pending_runs (λ x e seated. absurd (nothing x e)))
      (λ j model lane p q. down-fits s w h j model lane p (sym (ap (λ xs. slice_get xs j) lanes) ∙ q))
      (left-lanes s s' w h k b b' run on.does.4 on.does.5 refl lanes pending_runs)
    where
      nothing : (x : RunModel) → None ≡ Some x → ⊥
      nothing x e = cc

module _ (C J : Type 0) where
  pub refused : Simulates C J (AtCarrier Refused)
  refused s s' w h walked on = refuses s s' w h walked on
