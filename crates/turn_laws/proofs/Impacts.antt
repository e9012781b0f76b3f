-- What a step of a system does to the nodes, and what its log shows executed then: nothing, a run that others see as one of theirs, or a step
-- of a slot.
use Rattle.std.proofs.Common.{◌≡◌, ◌⊎◌, inl, inr, ⊎_elim, ℕ, suc, ◌+◌, ◌-◌, take, drop, Bool, true, false, List, [], ◌∷◌, ◌++◌, map, length, Some, refl, sym, ap, ◌∙◌, subst}
use Rattle.std.specs.Prelude.{All, slice_get, slice_set}
use Rattle.std.proofs.lemmas.Grind.{flat_map-append}
use Rattle.std.proofs.lemmas.List.{append-nil}
use Rattle.resp_wire.specs.declared.value.Value.{Value}
use Rattle.key_split.specs.PartModel.{PartModel}
use Rattle.key_split.specs.declared.travel.Told.{Told}
use Rattle.key_split.specs.declared.travel.Ended.{Ended}
use Rattle.node_model.specs.History.{EntryModel}
use Rattle.node_model.specs.Nodes.{ClusterModel}
use Rattle.node_model.specs.Runs.{deed_for, DoesRun}
use Rattle.node_model.specs.declared.role.Deed.TheVariants.{Executes}
use Rattle.node_model.specs.declared.role.Verdict.{Verdict}
use Rattle.session_order.specs.SessionModel.{SessionModel}
use Rattle.session_order.specs.declared.queue.PartStage.{PartStage}
use Rattle.session_order.specs.declared.queue.PartStage.TheVariants.{Waiting, Out, Done}
use Rattle.proxy_turns.specs.ClientTurn.{ClientEvent, Pulled, Fed, Read, HandedOut, Followed, Looked, CameBack, Posted, Drained, Pushed, Tried, Parted, Dropped}
use Rattle.proxy_turns.specs.WorkerModel.{WorkerModel, WorkerEvent, Did, Finished, Took, FoundNone, Came, TurnedAway, FoundNobody, Left}
use Rattle.world_laws.specs.State.{WorldModel, Link, all_replied, parts_told, tolds_of}
use Rattle.world_laws.specs.declared.state.LinkRequest.{LinkRequest}
use Rattle.world_laws.specs.declared.state.LinkRequest.TheVariants as asked
use Rattle.world_laws.specs.World.{IsNode, NamesNode, ServesRunAt, entries_of}
use Rattle.world_laws.proofs.Flow.{all_at}
use Rattle.world_laws.specs.declared.event.Event.{Event}
use Rattle.world_laws.proofs.Nodes.{ExecutedAll, SaidAll, runs}
use Rattle.world_laws.proofs.Serves.{entries-says}
use Rattle.shared_laws.specs.Proxies.{as_foreign}
use Rattle.shared_laws.specs.Shared.{OthersExecute}
use Rattle.shared_laws.proofs.Executed.{executed-others}
use Rattle.turn_laws.specs.Wire.{Wire, Part, Runs, Execution, ServesNext, ServesRun, executions, parts_in, tickets_for}
use Rattle.turn_laws.specs.System.{System, Mark}
use Rattle.turn_laws.specs.Shadow.{IsShadow, IsKnown, HasPart, OpenShadow, ClosedShadow, IsIdle, IsUnnumbered, Numbers, entry_at, requests_in}
use Rattle.turn_laws.specs.Steps.{SystemEvent, AtWorker, AtCarrier, Handed, AtNode, AtBroken, Thrown, Moved, SystemStep, Serves, ServesBy, ServesLate, ServesLateBy, IsSeen, arrivals, answers, seen_at, log_of}
use Rattle.turn_laws.specs.Addresses.{LeadsTo, LedEvent, LedStep}
use Rattle.turn_laws.specs.Walks.{IsSharedWalked, ticked}
use Rattle.turn_laws.specs.LogHeadline.{executed_by, history}
use Rattle.turn_laws.specs.Fleet.{foreign}
use Rattle.turn_laws.proofs.ServedRuns.{each-told}
use Rattle.turn_laws.proofs.Serving.{MachineRun, all-first, machine-run, some-request}
use Rattle.turn_laws.proofs.Walks.{walked-stands, walked-steady}

-- ---- a run

-- nothing happened, or these were executed, and others see a run of theirs
abbrev pub RunImpact : ClusterModel → ClusterModel → List Execution → Type 0
RunImpact k k' done =
    ((k' ≡ k) × (done ≡ []))
    ⊎ ((node : ℕ) × (asking : Bool) × ((workers moment : ℕ) → OthersExecute workers moment k node asking (map (entry_at moment) (map (foreign workers) done)) k'))

no-map : {X Y : Type 0} (f : X → Y) (xs : List X) → map f xs ≡ [] → xs ≡ []
no-map f [] e = refl
no-map f (x ∷ xs) e = absurd (cc)

swap : (n m : ℕ) (es : List Execution) → map (as_foreign n) (map (entry_at m) es) ≡ map (entry_at m) (map (foreign n) es)
swap n m [] = refl
swap n m (e ∷ es) = ap (λ xs. entry_at m (foreign n e) ∷ xs) (swap n m es)

run-impact : (w : WorldModel) → IsSharedWalked w → (k k' : ClusterModel) (i : ℕ) (l : Link) (node : ℕ) (asking : Bool) (parts : List Part) (verdict : Verdict) (tolds : List Told) (rest : List LinkRequest)
    → slice_get w.links i ≡ Some l → w.cluster ≡ k → IsNode w.cluster node → (l.asking ≡ true → l.node ≡ node) → l.asking ≡ asking → l.requests ≡ asked.Runs (tickets_for parts) ∷ rest
    → All (λ (part : Part). HasPart w.commands part.0 part.1) parts → NamesNode k verdict
    → DoesRun (deed_for k node asking (parts_in parts) verdict) k node (parts_in parts) tolds k' → RunImpact k k' (executions parts tolds)
run-impact w walked k k' i l node asking parts verdict tolds rest at cluster there leads is-asked requests known names does =
    ⊎_elim
    (λ (x : (deed_for w.cluster node l.asking (parts_told m.run) verdict ≡ Executes) × ExecutedAll w.cluster node (parts_told m.run) (tolds_of m.run) k').
    inr (
      node,
      asking,
      λ workers moment.
          let es : map (as_foreign workers) (entries_of moment m.run) ≡ map (entry_at moment) (map (foreign workers) (executions parts tolds)) = ap (map (as_foreign workers)) (m.entries moment) ∙ swap workers moment (executions parts tolds) in
          subst (λ (z : ClusterModel × Bool × List EntryModel). OthersExecute workers moment z.0 node z.1 z.2 k') (λ j. (cluster j, is-asked j, es j))
          (executed-others walked.0 w w' (walked-steady w walked) i node l verdict at there leads y x.0 x.1 workers moment),
    ))
    (λ (x : SaidAll (deed_for w.cluster node l.asking (parts_told m.run) verdict) w.cluster (parts_told m.run) (tolds_of m.run) k').
    inl (x.3 ∙ cluster, no-map (entry_at w.moment) (executions parts tolds) (sym (m.entries w.moment) ∙ entries-says w node l m.run verdict x.0 x.1 x.2)))
    (runs w.cluster k' node (parts_told m.run) (tolds_of m.run) (deed_for w.cluster node l.asking (parts_told m.run) verdict) does')
  where
    m : MachineRun w.commands parts tolds
    m = machine-run w (walked-stands w walked) parts tolds (each-told (deed_for k node asking (parts_in parts) verdict) k node (parts_in parts) tolds k' does) known

    w' : WorldModel
    w' = record (ticked w) { cluster = k'; links = slice_set w.links i (all_replied (record l { requests = rest; asking = false }) m.run); history = w.history ++ entries_of (w.moment + 1) m.run }

    does' : DoesRun (deed_for w.cluster node l.asking (parts_told m.run) verdict) w.cluster node (parts_told m.run) (tolds_of m.run) k'
    does' = subst (λ (x : ClusterModel × Bool × List PartModel × List Told). DoesRun (deed_for x.0 node x.1 x.2 verdict) x.0 node x.2 x.3 k') (λ j. (sym cluster j, sym is-asked j, sym m.parts_are j, sym m.tolds_are j)) does

    y : ServesRunAt (ticked w) node i l verdict w'
    y = (rest, m.run, k', requests ∙ ap (λ ts. asked.Runs ts ∷ rest) (sym m.tickets), m.are_of, subst (λ x. NamesNode x verdict) (sym cluster) names, does', refl)

not-both : {X : Type 0} → true ≡ false → X
not-both e = absurd (cc)

-- the nodes of links are nodes
there-is : (w : WorldModel) → IsSharedWalked w → (i : ℕ) (l : Link) → slice_get w.links i ≡ Some l → (node : ℕ) → l.node ≡ node → IsNode w.cluster node
there-is w walked i l at node is = subst (IsNode w.cluster) is (all_at (λ (z : Link). IsNode w.cluster z.node) w.links i l at (walked-steady w walked).there.links)

module _ {C J : Type 0} where
  -- a run of a connection that works
  module _ (s s' : System C J) (w : WorldModel) (h : IsShadow s w) (walked : IsSharedWalked w) (k : ℕ) (how : Wire → ClusterModel → Wire → List Value → List Execution → Type 0) (on : ServesBy how s k s') where
    run-at : (node : ℕ) (verdict : Verdict) → ((l : Link) → l.node ≡ (on.1).port.node → l.asking ≡ (on.1).port.asking → l.asking ≡ true → l.node ≡ node)
        → ((i : ℕ) (l : Link) → slice_get w.links i ≡ Some l → l.node ≡ (on.1).port.node → IsNode w.cluster node)
        → ServesRun s.nodes s.cluster node (on.1).port verdict s'.cluster on.2 on.3 on.4 → RunImpact s.cluster s'.cluster on.4
    run-at node verdict leads there x = subst (RunImpact s.cluster s'.cluster) (sym x.7) (⊎_elim
        (λ (y : (i : ℕ) × (l : Link) × Numbers (h.links).ids (on.1).port.id i × (slice_get w.links i ≡ Some l) × OpenShadow s.nodes w.commands on.1 l).
        let place : (y.1).node ≡ (on.1).port.node = (y.4).node ∙ sym (y.4).wired in
        run-impact w walked s.cluster s'.cluster y.0 y.1 node (on.1).port.asking x.1 verdict x.2 (requests_in x.0) y.3 h.cluster (there y.0 y.1 y.3 place) (leads y.1 place (y.4).asking) (y.4).asking
        ((y.4).requests ∙ ap requests_in x.3) (all-first (IsKnown w.commands) (Runs x.1) x.0 (subst (All (IsKnown w.commands)) x.3 (y.4).known)) x.4 x.5)
        (λ (y : IsUnnumbered (h.links).ids (on.1).port.id × IsIdle on.1). absurd (some-request (asked.Runs (tickets_for x.1)) (requests_in x.0) (sym (ap requests_in x.3) ∙ (y.1).requests)))
        ((h.links).backends k on.1 (on.0, on.5, on.6, on.7)).2)

  at-node : (s s' : System C J) (w : WorldModel) → IsShadow s w → IsSharedWalked w → (k : ℕ) (verdict : Verdict) (on : Serves s k verdict s') → RunImpact s.cluster s'.cluster on.4
  at-node s s' w h walked k verdict on = cases on.8
    where
      cases : ServesNext s.nodes s.cluster (on.1).port verdict s'.cluster on.2 on.3 on.4 → RunImpact s.cluster s'.cluster on.4
      cases (inl x) = inl (x.4, x.5)
      cases (inr (inl x)) = run-at s s' w h walked k (λ old. ServesNext s.nodes s.cluster old verdict) on (on.1).port.node verdict (λ l place asks yes. place) (λ i l at place. there-is w walked i l at (on.1).port.node place) x
      cases (inr (inr x)) = inl (x.4, x.5)

  -- a run of a broken one
  module _ (s s' : System C J) (w : WorldModel) (h : IsShadow s w) (walked : IsSharedWalked w) (j : ℕ) (how : Wire → ClusterModel → Wire → List Value → List Execution → Type 0) (on : ServesLateBy how s j s') where
    run-late : (node : ℕ) (verdict : Verdict) → ((l : Link) → l.node ≡ (on.0).node → l.asking ≡ (on.0).asking → l.asking ≡ true → l.node ≡ node)
        → ((i : ℕ) (l : Link) → slice_get w.links i ≡ Some l → l.node ≡ (on.0).node → IsNode w.cluster node)
        → ServesRun s.nodes s.cluster node on.0 verdict s'.cluster on.1 on.2 on.3 → RunImpact s.cluster s'.cluster on.3
    run-late node verdict leads there x = subst (RunImpact s.cluster s'.cluster) (sym x.7) (⊎_elim
        (λ (y : (i : ℕ) × (l : Link) × Numbers (h.links).ids (on.0).id i × (slice_get w.links i ≡ Some l) × ClosedShadow w.commands on.0 l).
        run-impact w walked s.cluster s'.cluster y.0 y.1 node (on.0).asking x.1 verdict x.2 (requests_in x.0 ++ ((y.4).requests).0) y.3 h.cluster (there y.0 y.1 y.3 (y.4).node) (leads y.1 (y.4).node (y.4).asking) (y.4).asking
        (sym ((y.4).requests).1 ∙ ap (λ rs. requests_in rs ++ ((y.4).requests).0) x.3) (all-first (IsKnown w.commands) (Runs x.1) x.0 (subst (All (IsKnown w.commands)) x.3 (y.4).known)) x.4 x.5)
        (λ (y : IsUnnumbered (h.links).ids (on.0).id × (requests_in (on.0).items ≡ [])). absurd (some-request (asked.Runs (tickets_for x.1)) (requests_in x.0) (sym (ap requests_in x.3) ∙ y.1)))
        ((h.links).wires j on.0 on.4).1)

  at-broken : (s s' : System C J) (w : WorldModel) → IsShadow s w → IsSharedWalked w → (j : ℕ) (verdict : Verdict) (on : ServesLate s j verdict s') → RunImpact s.cluster s'.cluster on.3
  at-broken s s' w h walked j verdict on = cases on.5
    where
      cases : ServesNext s.nodes s.cluster on.0 verdict s'.cluster on.1 on.2 on.3 → RunImpact s.cluster s'.cluster on.3
      cases (inl x) = inl (x.4, x.5)
      cases (inr (inl x)) = run-late s s' w h walked j (λ old. ServesNext s.nodes s.cluster old verdict) on (on.0).node verdict (λ l place asks yes. place) (λ i l at place. there-is w walked i l at (on.0).node place) x
      cases (inr (inr x)) = inl (x.4, x.5)

  -- a run that an address led to another node, which is not behind ASKING
  led-impact : (event : LedEvent) (s s' : System C J) (w : WorldModel) → IsShadow s w → IsSharedWalked w → LedStep s event s' → (done : List Execution) × (s'.log ≡ s.log ++ log_of done) × RunImpact s.cluster s'.cluster done
  led-impact (LedEvent.OfConnection k node verdict) s s' w h walked on = (
    on.4,
    ap (λ (z : System C J). z.log) on.10,
    run-at s s' w h walked k (LeadsTo s node verdict) on node verdict (λ l place asks yes. not-both (sym yes ∙ asks ∙ on.8.1)) (λ i l at place. subst (λ c. IsNode c node) (sym h.cluster) on.8.0) on.8.2,
  )
  led-impact (LedEvent.OfBroken j node verdict) s s' w h walked on = (
    on.3,
    ap (λ (z : System C J). z.log) on.7,
    run-late s s' w h walked j (LeadsTo s node verdict) on node verdict (λ l place asks yes. not-both (sym yes ∙ asks ∙ on.5.1)) (λ i l at place. subst (λ c. IsNode c node) (sym h.cluster) on.5.0) on.5.2,
  )

-- ---- what the log shows executed

pub cancel : {X : Type 0} (xs ys zs : List X) → xs ++ ys ≡ xs ++ zs → ys ≡ zs
cancel [] ys zs e = e
cancel (x ∷ xs) ys zs e = let rest : xs ++ ys ≡ xs ++ zs = cc in cancel xs ys zs rest

shown : (done : List Execution) → history (log_of done) ≡ done
shown [] = refl
shown (one ∷ later) = append-nil (one ∷ later)

arrivals-quiet : (held : SessionModel) (number : ℕ) (stages : List PartStage) → history (arrivals held number stages) ≡ []
arrivals-quiet held number [] = refl
arrivals-quiet held number (Waiting part ∷ stages) = arrivals-quiet held (suc number) stages
arrivals-quiet held number (Out slot ∷ stages) = arrivals-quiet held (suc number) stages
arrivals-quiet held number (Done ∷ stages) = arrivals-quiet held (suc number) stages

answers-quiet : (held : SessionModel) (number : ℕ) (ends : List Ended) → history (answers held number ends) ≡ []
answers-quiet held number [] = refl
answers-quiet held number (end ∷ ends) = answers-quiet held (suc number) ends

seen-quiet : (event : ClientEvent) (old new : SessionModel) → history (seen_at event old new) ≡ []
seen-quiet (Read result) old new = arrivals-quiet old (old.first + length old.stages) (drop (length old.stages) new.stages)
seen-quiet (Drained n) old new = answers-quiet old old.first (take (new.first - old.first) old.ends)
seen-quiet (Pulled bytes) old new = refl
seen-quiet (Fed result) old new = refl
seen-quiet (HandedOut ticket part) old new = refl
seen-quiet (Followed ticket part) old new = refl
seen-quiet (Looked slot) old new = refl
seen-quiet (CameBack run) old new = refl
seen-quiet (Posted run) old new = refl
seen-quiet (Pushed bytes) old new = refl
seen-quiet Tried old new = refl
seen-quiet Parted old new = refl
seen-quiet (Dropped tickets) old new = refl

module _ {C J : Type 0} where
  worker-quiet : (event : WorkerEvent) (old new : WorkerModel C J) (marks : List Mark) → IsSeen old event new marks → history marks ≡ []
  worker-quiet (Did number event) old new marks x = ap history x.4 ∙ seen-quiet event (x.0).session (x.1).session
  worker-quiet (Finished number ticket end) old new marks x = ap history x
  worker-quiet (Took ticket told) old new marks x = ap history x
  worker-quiet FoundNone old new marks x = ap history x
  worker-quiet (Came number) old new marks x = ap history x
  worker-quiet (TurnedAway number) old new marks x = ap history x
  worker-quiet FoundNobody old new marks x = ap history x
  worker-quiet (Left number) old new marks x = ap history x

  -- a step makes an impact, or it is one of a slot
  abbrev pub Impact : System C J → SystemEvent → System C J → List Execution → Type 0
  Impact s event s' done = RunImpact s.cluster s'.cluster done ⊎ ((e : Event) × (event ≡ Moved e) × (done ≡ []))

  added : (s s' : System C J) (done more : List Execution) (marks : List Mark) → history s'.log ≡ history s.log ++ done → s'.log ≡ s.log ++ marks → history marks ≡ more → done ≡ more
  added s s' done more marks is log of = cancel (history s.log) done more (sym is ∙ ap history log ∙ flat_map-append executed_by s.log marks ∙ ap (λ xs. history s.log ++ xs) of)

  quiet : (s s' : System C J) (done : List Execution) → history s'.log ≡ history s.log ++ done → s'.log ≡ s.log → done ≡ []
  quiet s s' done is log = added s s' done [] [] is (log ∙ sym (append-nil s.log)) refl

  pub step-impact : (event : SystemEvent) (s s' : System C J) (w : WorldModel) → IsShadow s w → IsSharedWalked w → SystemStep s event s' → (done : List Execution) → history s'.log ≡ history s.log ++ done → Impact s event s' done
  step-impact (AtWorker k event) s s' w h walked x done is =
      inl (inl (ap (λ (z : System C J). z.cluster) x.leaves, added s s' done [] x.marks is (ap (λ (z : System C J). z.log) x.leaves) (worker-quiet event x.old x.new x.marks x.seen)))
  step-impact (AtCarrier event) s s' w h walked x done is = inl (inl (ap (λ (z : System C J). z.cluster) x.leaves, quiet s s' done is (ap (λ (z : System C J). z.log) x.leaves)))
  step-impact (Handed k number) s s' w h walked x done is = inl (inl (ap (λ (z : System C J). z.cluster) x.4, quiet s s' done is (ap (λ (z : System C J). z.log) x.4)))
  step-impact (AtNode k verdict) s s' w h walked x done is =
      inl (subst (RunImpact s.cluster s'.cluster) (sym (added s s' done x.4 (log_of x.4) is (ap (λ (z : System C J). z.log) x.10) (shown x.4))) (at-node s s' w h walked k verdict x))
  step-impact (AtBroken j verdict) s s' w h walked x done is =
      inl (subst (RunImpact s.cluster s'.cluster) (sym (added s s' done x.3 (log_of x.3) is (ap (λ (z : System C J). z.log) x.7) (shown x.3))) (at-broken s s' w h walked j verdict x))
  step-impact (Thrown j) s s' w h walked x done is = inl (inl (ap (λ (z : System C J). z.cluster) x.2, quiet s s' done is (ap (λ (z : System C J). z.log) x.2)))
  step-impact (Moved event) s s' w h walked x done is = inr (event, refl, quiet s s' done is (ap (λ (z : System C J). z.log) x.1))

  pub led-shows : (event : LedEvent) (s s' : System C J) (w : WorldModel) → IsShadow s w → IsSharedWalked w → LedStep s event s' → (done : List Execution) → history s'.log ≡ history s.log ++ done → RunImpact s.cluster s'.cluster done
  led-shows event s s' w h walked x done is =
      let i = led-impact event s s' w h walked x in
      subst (RunImpact s.cluster s'.cluster) (sym (added s s' done i.0 (log_of i.0) is i.1 (shown i.0))) i.2

  -- a step adds to what the log shows executed
  pub shows : (event : SystemEvent) (s s' : System C J) → SystemStep s event s' → (done : List Execution) × (history s'.log ≡ history s.log ++ done)
  shows event s s' x = let m = marks event x in (history m.0, ap history m.1 ∙ flat_map-append executed_by s.log m.0)
    where
      marks : (event : SystemEvent) → SystemStep s event s' → (more : List Mark) × (s'.log ≡ s.log ++ more)
      marks (AtWorker k event) x = (x.marks, ap (λ (z : System C J). z.log) x.leaves)
      marks (AtCarrier event) x = ([], ap (λ (z : System C J). z.log) x.leaves ∙ sym (append-nil s.log))
      marks (Handed k number) x = ([], ap (λ (z : System C J). z.log) x.4 ∙ sym (append-nil s.log))
      marks (AtNode k verdict) x = (log_of x.4, ap (λ (z : System C J). z.log) x.10)
      marks (AtBroken j verdict) x = (log_of x.3, ap (λ (z : System C J). z.log) x.7)
      marks (Thrown j) x = ([], ap (λ (z : System C J). z.log) x.2 ∙ sym (append-nil s.log))
      marks (Moved event) x = ([], ap (λ (z : System C J). z.log) x.1 ∙ sym (append-nil s.log))
