-- What one proxy does, each other sees as a step of its own machine in which others act.
use Rattle.std.proofs.Common.{◌≡◌, ◌≢◌, ◌⊎◌, inl, inr, ⊎_elim, ℕ, ◌+◌, ◌<◌, ◌==◌, true, false, List, [], ◌∷◌, ◌++◌, map, Option, Some, refl, sym, ap, ◌∙◌, subst}
use Rattle.std.specs.Prelude.{slice_get, if◌then◌else◌}
use Rattle.std.proofs.lemmas.Bool.{false≢true}
use Rattle.std.proofs.lemmas.Bool.Decides.{eqb_tells}
use Rattle.node_model.specs.History.{EntryModel}
use Rattle.node_model.specs.Moves.{import_done, migrate_done, move_key_done, own_done, release_done, forget_done, stay_done}
use Rattle.node_model.specs.Nodes.{ClusterModel}
use Rattle.node_model.specs.Runs.{deed_for}
use Rattle.node_model.specs.declared.role.Deed.TheVariants.{Executes}
use Rattle.node_model.specs.declared.role.Verdict.{Verdict}
use Rattle.world_laws.specs.State.{WorldModel, Link, parts_told, tolds_of}
use Rattle.world_laws.specs.World.{IsNode, NoneAsks, ServesAsking, ServesRun, ServesRunAt, FetchesWelcome, FetchesReply, WorldDoes, entries_of, last_moment}
use Rattle.world_laws.specs.declared.event.Event.{Event}
use Rattle.world_laws.specs.declared.event.Event.TheVariants.{Arrive, Post, Carry, Refuse, Serve, Fetch, Take, Drop, Discard, Import, Migrate, MoveKey, Own, Release, Forget, Stay}
use Rattle.world_laws.specs.declared.event.Event.TheVariants as ev
use Rattle.world_laws.proofs.Flow.{all_at}
use Rattle.world_laws.proofs.Lives.{does-moment, no-more}
use Rattle.world_laws.proofs.Nodes.{ExecutedAll, SaidAll, runs}
use Rattle.world_laws.proofs.Serves.{entries-says}
use Rattle.world_laws.proofs.Sizes.{does-initial, does-sizes}
use Rattle.shared_laws.specs.Proxies.{Act, ActDoes, EachIsShared, EveryProxy, Proxies, ProxiesRun, as_foreign, is_of, proxies_start, seen_by, view, world_of}
use Rattle.shared_laws.specs.Shared.{SharedRun, SharedStep, Step}
use Rattle.shared_laws.proofs.Executed.{executed-others}
use Rattle.shared_laws.proofs.SharedRuns.{Steady, every_shared_schedule, start-steady, step-steady}

-- lists

map-joins : {X Y : Type 0} (f : X → Y) (xs ys : List X) → map f (xs ++ ys) ≡ map f xs ++ map f ys
map-joins f [] ys = refl
map-joins f (x ∷ xs) ys = ap (λ zs. f x ∷ zs) (map-joins f xs ys)

cancel : {X : Type 0} (xs ys zs : List X) → xs ++ ys ≡ xs ++ zs → ys ≡ zs
cancel [] ys zs e = e
cancel (x ∷ xs) ys zs e = let rest : xs ++ ys ≡ xs ++ zs = cc in cancel xs ys zs rest

-- whose entries are

eqb-same : (p : ℕ) → (p == p) ≡ true
eqb-same p = ⊎_elim (λ (x : ((p == p) ≡ true) × (p ≡ p)). x.0) (λ (x : ((p == p) ≡ false) × (p ≢ p)). absurd (x.1 refl)) (eqb_tells p p)

eqb-apart : (p q : ℕ) → p ≢ q → (p == q) ≡ false
eqb-apart p q ne = ⊎_elim (λ (x : ((p == q) ≡ true) × (p ≡ q)). absurd (ne x.1)) (λ (x : ((p == q) ≡ false) × (p ≢ q)). x.0) (eqb_tells p q)

seen-own : (p n : ℕ) (es : List EntryModel) → map (seen_by p n) (map (λ e. (Some p, e)) es) ≡ es
seen-own p n [] = refl
seen-own p n (e ∷ es) = λ i. (if eqb-same p i then e else as_foreign n e) ∷ seen-own p n es i

seen-other : (q n : ℕ) (whose : Option ℕ) (es : List EntryModel) → is_of q whose ≡ false → map (seen_by q n) (map (λ e. (whose, e)) es) ≡ map (as_foreign n) es
seen-other q n whose [] no' = refl
seen-other q n whose (e ∷ es) no' = λ i. (if no' i then e else as_foreign n e) ∷ seen-other q n whose es no' i

-- What proxy p does, as proxy q sees it.
module _ (n : ℕ) (s s' : Proxies) (p : ℕ) (st : Steady n (view s p)) (q : ℕ) (ne : q ≢ p) (lt : s.moment < last_moment) (same : s'.proxy q ≡ s.proxy q) (es : List EntryModel) (writes : s'.history ≡ s.history ++ map (λ e. (Some p, e)) es)
    (moment : s'.moment ≡ s.moment + 1) (initial : s'.initial ≡ s.initial) (workers : (view s' p).workers ≡ (view s p).workers) where
  abbrev nq : ℕ
  nq = (s.proxy q).workers

  abbrev Sees : Type 0
  Sees = (step : Step) × SharedStep (view s q) step (view s' q)

  -- the entries are what p's history gains
  own-history : (view s' p).history ≡ (view s p).history ++ es
  own-history =
      (λ i. map (seen_by p (workers i)) (writes i))
      ∙ map-joins (seen_by p (s.proxy p).workers) s.history (map (λ e. (Some p, e)) es)
      ∙ ap (λ zs. map (seen_by p (s.proxy p).workers) s.history ++ zs) (seen-own p (s.proxy p).workers es)

  they-are : (fs : List EntryModel) → (view s' p).history ≡ (view s p).history ++ fs → es ≡ fs
  they-are fs e = cancel (view s p).history es fs (sym own-history ∙ e)

  after : (k : ClusterModel) → s'.cluster ≡ k → view s' q ≡ world_of (s.proxy q) k s.initial ((view s q).history ++ map (as_foreign nq) es) (s.moment + 1)
  after k e =
      (λ i. world_of (same i) (e i) (initial i) (map (seen_by q (same i).workers) (writes i)) (moment i))
      ∙ ap (λ hs. world_of (s.proxy q) k s.initial hs (s.moment + 1)) (map-joins (seen_by q nq) s.history (map (λ e. (Some p, e)) es) ∙ ap (λ zs. map (seen_by q nq) s.history ++ zs) (seen-other q nq (Some p) es (eqb-apart p q (λ x. ne (sym x)))))

  still : (k : ClusterModel) → s'.cluster ≡ k → (view s' p).history ≡ (view s p).history → view s' q ≡ world_of (s.proxy q) k s.initial (view s q).history (s.moment + 1)
  still k e h =
      after k e
      ∙ ap (λ zs. world_of (s.proxy q) k s.initial ((view s q).history ++ map (as_foreign nq) zs) (s.moment + 1)) (they-are [] (h ∙ sym (no-more (view s p).history)))
      ∙ ap (λ hs. world_of (s.proxy q) k s.initial hs (s.moment + 1)) (no-more (view s q).history)

  passes : s'.cluster ≡ s.cluster → (view s' p).history ≡ (view s p).history → Sees
  passes k h = (Step.Passes, (lt, still s.cluster k h))

  abbrev w1 : WorldModel
  w1 = record (view s p) { moment = s.moment + 1 }

  -- p's run is executed: to q it is one of others
  ran : (link node : ℕ) (l : Link) (v : Verdict) (at_l : slice_get (view s p).links link ≡ Some l) → IsNode s.cluster node → (l.asking ≡ true → l.node ≡ node) → (y : ServesRunAt w1 node link l v (view s' p))
      → deed_for s.cluster node l.asking (parts_told y.1) v ≡ Executes → ExecutedAll s.cluster node (parts_told y.1) (tolds_of y.1) y.2 → Sees
  ran link node l v at_l there leads y e did = (Step.Theirs node l.asking fs, (lt, (s'.cluster, executed-others n (view s p) (view s' p) st link node l v at_l there leads y e did (s.proxy q).workers (s.moment + 1), path)))
    where
      fs : List EntryModel
      fs = map (as_foreign (s.proxy q).workers) (entries_of (s.moment + 1) y.1)

      path : view s' q ≡ record (view s q) { moment = s.moment + 1; cluster = s'.cluster; history = (view s q).history ++ fs }
      path =
          after s'.cluster refl
          ∙ ap (λ zs. world_of (s.proxy q) s'.cluster s.initial ((view s q).history ++ map (as_foreign (s.proxy q).workers) zs) (s.moment + 1)) (they-are (entries_of (s.moment + 1) y.1) (ap (λ (z : WorldModel). z.history) y.7))

  pub served : (link node : ℕ) (l : Link) (v : Verdict) (at_l : slice_get (view s p).links link ≡ Some l) → IsNode s.cluster node → (l.asking ≡ true → l.node ≡ node) → ServesRunAt w1 node link l v (view s' p) → Sees
  served link node l v at_l there leads y = ⊎_elim
      (λ (x : (deed_for s.cluster node l.asking (parts_told y.1) v ≡ Executes) × ExecutedAll s.cluster node (parts_told y.1) (tolds_of y.1) y.2). ran link node l v at_l there leads y x.0 x.1)
      (λ (x : SaidAll (deed_for s.cluster node l.asking (parts_told y.1) v) s.cluster (parts_told y.1) (tolds_of y.1) y.2).
      passes (ap (λ (z : WorldModel). z.cluster) y.7 ∙ x.3) (ap (λ (z : WorldModel). z.history) y.7 ∙ ap (λ zs. (view s p).history ++ zs) (entries-says w1 node l y.1 v x.0 x.1 x.2) ∙ no-more (view s p).history))
      (runs s.cluster y.2 node (parts_told y.1) (tolds_of y.1) (deed_for s.cluster node l.asking (parts_told y.1) v) y.6)

-- An event of proxy p, as proxy q sees it.
module _ (n : ℕ) (s s' : Proxies) (p : ℕ) (st : Steady n (view s p)) (q : ℕ) (ne : q ≢ p) (lt : s.moment < last_moment) (same : s'.proxy q ≡ s.proxy q) (es : List EntryModel) (writes : s'.history ≡ s.history ++ map (λ e. (Some p, e)) es)
    (event : Event) (d : WorldDoes (record (view s p) { moment = s.moment + 1 }) event (view s' p)) (waits : (slot target : ℕ) → event ≡ Import slot target → NoneAsks (view s q) slot target) where
  abbrev w0 : WorldModel
  w0 = record (view s p) { moment = s.moment + 1 }

  abbrev SeesIt : Type 0
  SeesIt = (step : Step) × SharedStep (view s q) step (view s' q)

  moment-on : s'.moment ≡ s.moment + 1
  moment-on = does-moment event (record (view s p) { moment = s.moment + 1 }) (view s' p) d

  initial-on : s'.initial ≡ s.initial
  initial-on = does-initial event (record (view s p) { moment = s.moment + 1 }) (view s' p) d

  workers-on : (view s' p).workers ≡ (view s p).workers
  workers-on = (does-sizes event (record (view s p) { moment = s.moment + 1 }) (view s' p) d).0

  pass : s'.cluster ≡ s.cluster → (view s' p).history ≡ (view s p).history → SeesIt
  pass = passes n s s' p st q ne lt same es writes moment-on initial-on workers-on

  rest : (k : ClusterModel) → s'.cluster ≡ k → (view s' p).history ≡ (view s p).history → view s' q ≡ world_of (s.proxy q) k s.initial (view s q).history (s.moment + 1)
  rest = still n s s' p st q ne lt same es writes moment-on initial-on workers-on

  serves : (link : ℕ) (l : Link) (v : Verdict) (at_l : slice_get (view s p).links link ≡ Some l) → ServesAsking w0 link l v (view s' p) ⊎ ServesRun w0 link l v (view s' p) → SeesIt
  serves link l v at_l (inl y) = pass (ap (λ (z : WorldModel). z.cluster) y.3) (ap (λ (z : WorldModel). z.history) y.3)
  serves link l v at_l (inr y) = served n s s' p st q ne lt same es writes moment-on initial-on workers-on link l.node l v at_l (all_at (λ (x : Link). IsNode s.cluster x.node) (view s p).links link l at_l (st.there).links) (λ _. refl) y

  sees : (e : Event) → e ≡ event → WorldDoes w0 e (view s' p) → SeesIt
  sees (Arrive client part) is x = pass (ap (λ (z : WorldModel). z.cluster) x.1) (ap (λ (z : WorldModel). z.history) x.1)
  sees (Post tickets node) is x = pass (ap (λ (z : WorldModel). z.cluster) x.5) (ap (λ (z : WorldModel). z.history) x.5)
  sees (Carry lane link) is x = pass (ap (λ (z : WorldModel). z.cluster) x.5) (ap (λ (z : WorldModel). z.history) x.5)
  sees (Refuse lane) is x = pass (ap (λ (z : WorldModel). z.cluster) x.3) (ap (λ (z : WorldModel). z.history) x.3)
  sees (Serve link v) is x = serves link x.0 v x.1 x.2
  sees (Fetch link) is x = ⊎_elim
      (λ (y : FetchesWelcome w0 link x.0 (view s' p)). pass (ap (λ (z : WorldModel). z.cluster) y.2) (ap (λ (z : WorldModel). z.history) y.2))
      (λ (y : FetchesReply w0 link x.0 (view s' p)). pass (ap (λ (z : WorldModel). z.cluster) y.4) (ap (λ (z : WorldModel). z.history) y.4))
      x.3
  sees (Take lane) is x = pass (ap (λ (z : WorldModel). z.cluster) x.7) (ap (λ (z : WorldModel). z.history) x.7)
  sees (Drop link) is x = pass (ap (λ (z : WorldModel). z.cluster) x.3) (ap (λ (z : WorldModel). z.history) x.3)
  sees (Discard link) is x = pass (ap (λ (z : WorldModel). z.cluster) x.4) (ap (λ (z : WorldModel). z.history) x.4)
  sees (ev.Answer client) is x = pass (ap (λ (z : WorldModel). z.cluster) x.8) (ap (λ (z : WorldModel). z.history) x.8)
  sees (Import slot target) is x = (Step.Ours (Import slot target), (lt, (waits slot target (sym is), x.1, rest (import_done s.cluster slot target) (ap (λ (z : WorldModel). z.cluster) x.2) (ap (λ (z : WorldModel). z.history) x.2))))
  sees (Migrate slot) is x = (Step.Ours (Migrate slot), (lt, (x.0, rest (migrate_done s.cluster slot) (ap (λ (z : WorldModel). z.cluster) x.1) (ap (λ (z : WorldModel). z.history) x.1))))
  sees (MoveKey slot key) is x = (Step.Ours (MoveKey slot key), (lt, (x.0, rest (move_key_done s.cluster slot key) (ap (λ (z : WorldModel). z.cluster) x.1) (ap (λ (z : WorldModel). z.history) x.1))))
  sees (Own slot) is x = (Step.Ours (Own slot), (lt, (x.0, rest (own_done s.cluster slot) (ap (λ (z : WorldModel). z.cluster) x.1) (ap (λ (z : WorldModel). z.history) x.1))))
  sees (Release slot) is x = (Step.Ours (Release slot), (lt, (x.0, rest (release_done s.cluster slot) (ap (λ (z : WorldModel). z.cluster) x.1) (ap (λ (z : WorldModel). z.history) x.1))))
  sees (Forget slot) is x = (Step.Ours (Forget slot), (lt, (x.0, rest (forget_done s.cluster slot) (ap (λ (z : WorldModel). z.cluster) x.1) (ap (λ (z : WorldModel). z.history) x.1))))
  sees (Stay slot) is x = (Step.Ours (Stay slot), (lt, (x.0, rest (stay_done s.cluster slot) (ap (λ (z : WorldModel). z.cluster) x.1) (ap (λ (z : WorldModel). z.history) x.1))))

  pub seen-event : (step : Step) × SharedStep (view s q) step (view s' q)
  seen-event = sees event refl d

-- an act, as proxy q sees it
seen-act : (n : ℕ → ℕ) (s s' : Proxies) → ((p : ℕ) → Steady (n p) (view s p)) → (a : Act) → ActDoes s a s' → (q : ℕ) → (step : Step) × SharedStep (view s q) step (view s' q)
seen-act n s s' inv (Act.By p event) d q = ⊎_elim
    (λ (x : ((q == p) ≡ true) × (q ≡ p)). subst (λ z. (step : Step) × SharedStep (view s z) step (view s' z)) (sym x.1) (Step.Ours event, d.0))
    (λ (x : ((q == p) ≡ false) × (q ≢ p)). seen-event (n p) s s' p (inv p) q x.1 d.0.0 (d.2 q x.1) d.3.0 d.3.1 event d.0.1 (λ slot target is. d.1 slot target is q))
    (eqb_tells q p)
seen-act n s s' inv (Act.Led p link node v) d q = ⊎_elim
    (λ (x : ((q == p) ≡ true) × (q ≡ p)). subst (λ z. (step : Step) × SharedStep (view s z) step (view s' z)) (sym x.1) (Step.Led link node v, d.0))
    (λ (x : ((q == p) ≡ false) × (q ≢ p)).
    let (l, at_l, there, asks, y) = d.0.1 in
    served (n p) s s' p (inv p) q x.1 d.0.0 (d.1 q x.1) d.2.0 d.2.1 (ap (λ (z : WorldModel). z.moment) y.7) (ap (λ (z : WorldModel). z.initial) y.7) (ap (λ (z : WorldModel). z.workers) y.7)
    link node l v at_l there (λ asking. absurd (false≢true (sym asks ∙ asking))) y)
    (eqb_tells q p)
seen-act n s s' inv (Act.Outside node asking es) d q = (Step.Theirs node asking (map (as_foreign (s.proxy q).workers) es), (d.1 q).1)

each : (n : ℕ → ℕ) (acts : List Act) (s s' : Proxies) → ((p : ℕ) → Steady (n p) (view s p)) → ProxiesRun s acts s' → (q : ℕ) → (steps : List Step) × SharedRun (view s q) steps (view s' q)
each n [] s s' inv r q = ([], ap (λ z. view z q) r)
each n (a ∷ as') s s' inv r q =
    let st = seen-act n s r.0 inv a r.1 in
    let rest = each n as' r.0 s' (λ p. step-steady (n p) (st p).0 (view s p) (view r.0 p) (inv p) (st p).1) r.2 q in
    ((st q).0 ∷ rest.0, (view r.0 q, (st q).1, rest.1))

pub each_is_shared : EachIsShared
each_is_shared workers run_limit initial k acts s sound r p = each workers acts (proxies_start workers run_limit initial k) s (λ q. start-steady (workers q) (run_limit q) initial k sound) r p

pub every_proxy : EveryProxy
every_proxy workers run_limit initial k acts s sound r p =
    let x = each_is_shared workers run_limit initial k acts s sound r p in
    every_shared_schedule (workers p) (run_limit p) initial k x.0 (view s p) sound x.1
