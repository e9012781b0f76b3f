-- What one proxy of a fleet does, step after step, is a run of the fleet, of which the others see what was executed.
use Rattle.std.proofs.Common.{◌≡◌, ◌≢◌, ⊎_elim, ℕ, ◌==◌, Bool, true, false, List, [], ◌∷◌, ◌++◌, map, length, refl, sym, ap, ◌∙◌, subst, append_assoc}
use Rattle.std.specs.Prelude.{if◌then◌else◌}
use Rattle.std.specs.List.{FoldsTo}
use Rattle.std.proofs.lemmas.Bool.Decides.{eqb_tells}
use Rattle.std.proofs.lemmas.List.{append-nil}
use Rattle.node_model.specs.Nodes.{ClusterModel}
use Rattle.world_laws.specs.declared.event.Event.TheVariants as core
use Rattle.turn_laws.specs.Wire.{Execution}
use Rattle.turn_laws.specs.System.{System, Mark, Executed}
use Rattle.turn_laws.specs.Asking.{NoneAsksIn}
use Rattle.turn_laws.specs.Steps.{SystemEvent, Moved, SystemStep, log_of}
use Rattle.turn_laws.specs.LogHeadline.{history}
use Rattle.turn_laws.specs.Fleet.{Fleet, FleetEvent, FleetRun, FleetStep, foreign}
use Rattle.turn_laws.proofs.Impacts.{shows}

-- each event passes the test
abbrev pub every : (SystemEvent → Bool) → List SystemEvent → Bool
every passes [] = true
every passes (event ∷ events) = if passes event then every passes events else false

every-first : (a b : Bool) → (if a then b else false) ≡ true → a ≡ true
every-first true b e = refl
every-first false b e = e

every-later : (a b : Bool) → (if a then b else false) ≡ true → b ≡ true
every-later true b e = e
every-later false b e = absurd (cc)

-- ---- what others see

-- executions, in lists of those that were executed at once
abbrev pub all_of : List (List Execution) → List Execution
all_of [] = []
all_of (done ∷ later) = done ++ all_of later

-- how a proxy with `workers` workers logs them
abbrev pub seen_of : ℕ → List (List Execution) → List Mark
seen_of workers [] = []
seen_of workers (done ∷ later) = log_of (map (foreign workers) done) ++ seen_of workers later

pub seen-none : (workers : ℕ) (dones : List (List Execution)) → all_of dones ≡ [] → seen_of workers dones ≡ []
seen-none workers [] e = refl
seen-none workers ([] ∷ later) e = seen-none workers later e
seen-none workers ((x ∷ xs) ∷ later) e = absurd (cc)

pub seen-one : (workers : ℕ) (dones : List (List Execution)) (x : Execution) → all_of dones ≡ x ∷ [] → seen_of workers dones ≡ Executed (foreign workers x ∷ []) ∷ []
seen-one workers [] x e = absurd (cc)
seen-one workers ([] ∷ later) x e = seen-one workers later x e
seen-one workers ((y ∷ []) ∷ later) x e =
    let same : y ≡ x = cc in
    let rest : all_of later ≡ [] = cc in
    (λ i. Executed (foreign workers (same i) ∷ []) ∷ seen_of workers later) ∙ ap (λ marks. Executed (foreign workers x ∷ []) ∷ marks) (seen-none workers later rest)
seen-one workers ((y ∷ z ∷ ys) ∷ later) x e = absurd (cc)

seen-more : (workers : ℕ) (dones : List (List Execution)) (done : List Execution) → seen_of workers (dones ++ done ∷ []) ≡ seen_of workers dones ++ log_of (map (foreign workers) done)
seen-more workers [] done = append-nil (log_of (map (foreign workers) done))
seen-more workers (d ∷ dones) done =
    ap (λ marks. log_of (map (foreign workers) d) ++ marks) (seen-more workers dones done)
    ∙ sym (append_assoc (log_of (map (foreign workers) d)) (seen_of workers dones) (log_of (map (foreign workers) done)))

module _ {C J : Type 0} where
  -- a proxy that did nothing, while the nodes became these, and these were executed
  abbrev pub aside : System C J → ClusterModel → List (List Execution) → System C J
  aside t k dones = record t { cluster = k; log = t.log ++ seen_of (length t.workers) dones }

  -- the fleet, where proxy p alone has gone on
  abbrev pub after : Fleet C J → ℕ → System C J → List (List Execution) → Fleet C J
  after f p s dones = λ q. if q == p then s else aside (f q) s.cluster dones

  own : (f : Fleet C J) (p : ℕ) (s : System C J) (dones : List (List Execution)) → after f p s dones p ≡ s
  own f p s dones = ⊎_elim
      (λ (y : ((p == p) ≡ true) × (p ≡ p)). ap (λ b. if b then s else aside (f p) s.cluster dones) y.0)
      (λ (y : ((p == p) ≡ false) × (p ≢ p)). absurd (y.1 refl))
      (eqb_tells p p)

  another : (f : Fleet C J) (p : ℕ) (s : System C J) (dones : List (List Execution)) (q : ℕ) → q ≢ p → after f p s dones q ≡ aside (f q) s.cluster dones
  another f p s dones q ne = ⊎_elim
      (λ (y : ((q == p) ≡ true) × (q ≡ p)). absurd (ne y.1))
      (λ (y : ((q == p) ≡ false) × (q ≢ p)). ap (λ b. if b then s else aside (f q) s.cluster dones) y.0)
      (eqb_tells q p)

  pub same-nodes : (f : Fleet C J) (p : ℕ) (s : System C J) (dones : List (List Execution)) (q : ℕ) → (after f p s dones q).cluster ≡ s.cluster
  same-nodes f p s dones q = go (q == p)
    where
      go : (b : Bool) → (if b then s else aside (f q) s.cluster dones).cluster ≡ s.cluster
      go true = refl
      go false = refl

  -- nobody has done anything yet
  at-first : (f : Fleet C J) (p : ℕ) → ((q : ℕ) → (f q).cluster ≡ (f p).cluster) → after f p (f p) [] ≡ f
  at-first f p shared = λ i q. each q i
    where
      each : (q : ℕ) → after f p (f p) [] q ≡ f q
      each q = ⊎_elim
          (λ (y : ((q == p) ≡ true) × (q ≡ p)). subst (λ z. after f p (f p) [] z ≡ f z) (sym y.1) (own f p (f p) []))
          (λ (y : ((q == p) ≡ false) × (q ≢ p)). another f p (f p) [] q y.1 ∙ (λ i. record (f q) { cluster = sym (shared q) i; log = append-nil (f q).log i }))
          (eqb_tells q p)

  -- the others wait where the event imports a slot
  abbrev pub Waits : Fleet C J → ℕ → SystemEvent → Type 0
  Waits f p event = (slot target : ℕ) → event ≡ Moved (core.Import slot target) → (q : ℕ) → q ≢ p → (k : ClusterModel) (dones : List (List Execution)) → NoneAsksIn (aside (f q) k dones) slot target

  one-step : (f : Fleet C J) (p : ℕ) (event : SystemEvent) (s mid : System C J) (dones : List (List Execution)) (done : List Execution) → Waits f p event
      → SystemStep s event mid → history mid.log ≡ history s.log ++ done
      → FleetStep C J (after f p s dones) (FleetEvent.By p event) (after f p mid (dones ++ done ∷ []))
  one-step f p event s mid dones done waits step is = (
    subst (λ (z : System C J × System C J). SystemStep z.0 event z.1) (λ i. (sym here i, sym there i)) step,
    all-wait,
    (done, ap (λ (z : System C J). history z.log) there ∙ is ∙ ap (λ (z : System C J). history z.log ++ done) (sym here), grown),
  )
    where
      here : after f p s dones p ≡ s
      here = own f p s dones

      there : after f p mid (dones ++ done ∷ []) p ≡ mid
      there = own f p mid (dones ++ done ∷ [])

      all-wait : (slot target : ℕ) → event ≡ Moved (core.Import slot target) → (q : ℕ) → NoneAsksIn (after f p s dones q) slot target
      all-wait slot target imports q = ⊎_elim
          (λ (y : ((q == p) ≡ true) × (q ≡ p)).
          let own-step : SystemStep s (Moved (core.Import slot target)) mid = subst (λ e. SystemStep s e mid) imports step in
          subst (λ z. NoneAsksIn (after f p s dones z) slot target) (sym y.1) (subst (λ (z : System C J). NoneAsksIn z slot target) (sym here) own-step.0.0))
          (λ (y : ((q == p) ≡ false) × (q ≢ p)).
          subst (λ (z : System C J). NoneAsksIn z slot target) (sym (another f p s dones q y.1)) (waits slot target imports q y.1 s.cluster dones))
          (eqb_tells q p)

      longer : (t : System C J) → t.log ++ seen_of (length t.workers) (dones ++ done ∷ []) ≡ (t.log ++ seen_of (length t.workers) dones) ++ log_of (map (foreign (length t.workers)) done)
      longer t = ap (λ marks. t.log ++ marks) (seen-more (length t.workers) dones done) ∙ sym (append_assoc t.log (seen_of (length t.workers) dones) (log_of (map (foreign (length t.workers)) done)))

      grown : (q : ℕ) → q ≢ p → after f p mid (dones ++ done ∷ []) q
          ≡ record (after f p s dones q) { cluster = (after f p mid (dones ++ done ∷ []) p).cluster; log = (after f p s dones q).log ++ log_of (map (foreign (length (after f p s dones q).workers)) done) }
      grown q ne =
          another f p mid (dones ++ done ∷ []) q ne
          ∙ (λ i. record (f q) { cluster = (sym there i).cluster; log = longer (f q) i })
          ∙ (λ i. record (sym (another f p s dones q ne) i) { cluster = (after f p mid (dones ++ done ∷ []) p).cluster; log = (sym (another f p s dones q ne) i).log ++ log_of (map (foreign (length (sym (another f p s dones q ne) i).workers)) done) })

  -- what was executed, and the run of the fleet
  abbrev pub Follows : Fleet C J → Fleet C J → ℕ → List SystemEvent → System C J → System C J → List (List Execution) → Type 0
  Follows f g p events s s' before =
      (dones : List (List Execution)) × (history s'.log ≡ history s.log ++ all_of dones) × FleetRun C J g (map (FleetEvent.By p) events) (after f p s' (before ++ dones))

  steps : (f : Fleet C J) (p : ℕ) (passes : SystemEvent → Bool) → ((event : SystemEvent) → passes event ≡ true → Waits f p event)
      → (events : List SystemEvent) (s s' : System C J) (before : List (List Execution)) → every passes events ≡ true → FoldsTo SystemStep s events s'
      → Follows f (after f p s before) p events s s' before
  steps f p passes waits [] s s' before each r = (
    [],
    ap (λ (z : System C J). history z.log) (sym r) ∙ sym (append-nil (history s.log)),
    (λ i. after f p (sym r i) (append-nil before i)),
  )
  steps f p passes waits (event ∷ events) s s' before each r =
      let d = shows event s r.0 r.1 in
      let rest = steps f p passes waits events r.0 s' (before ++ d.0 ∷ []) (every-later (passes event) (every passes events) each) r.2 in (
        d.0 ∷ rest.0,
        rest.1 ∙ ap (λ xs. xs ++ all_of rest.0) d.1 ∙ append_assoc (history s.log) d.0 (all_of rest.0),
        (
          after f p r.0 (before ++ d.0 ∷ []),
          one-step f p event s r.0 before d.0 (waits event (every-first (passes event) (every passes events) each)) r.1 d.1,
          subst (λ xs. FleetRun C J (after f p r.0 (before ++ d.0 ∷ [])) (map (FleetEvent.By p) events) (after f p s' xs)) (append_assoc before (d.0 ∷ []) rest.0) rest.2,
        ),
      )

  pub run-of-one : (f : Fleet C J) (p : ℕ) (passes : SystemEvent → Bool) → ((q : ℕ) → (f q).cluster ≡ (f p).cluster)
      → ((event : SystemEvent) → passes event ≡ true → Waits f p event)
      → (events : List SystemEvent) (s' : System C J) → every passes events ≡ true → FoldsTo SystemStep (f p) events s' → Follows f f p events (f p) s' []
  run-of-one f p passes shared waits events s' each r =
      let it = steps f p passes waits events (f p) s' [] each r in
      (it.0, it.1, subst (λ g. FleetRun C J g (map (FleetEvent.By p) events) (after f p s' it.0)) (at-first f p shared) it.2)

  pub runs-join : (xs ys : List FleetEvent) (f g h : Fleet C J) → FleetRun C J f xs g → FleetRun C J g ys h → FleetRun C J f (xs ++ ys) h
  runs-join [] ys f g h e r = subst (λ z. FleetRun C J z ys h) e r
  runs-join (x ∷ xs) ys f g h first r = (first.0, first.1, runs-join xs ys first.0 g h first.2 r)
