-- A node serves what is next of a connection that broke: the replies reach nobody.
use Rattle.std.proofs.Common.{◌≡◌, inl, inr, ⊎_elim, ℕ, ◌+◌, Bool, true, false, if◌then◌else◌, List, [], ◌∷◌, ◌++◌, Some, refl, sym, ap, ◌∙◌, subst, arith}
use Rattle.std.specs.Prelude.{slice_get, slice_set, All}
use Rattle.resp_wire.specs.declared.value.Value.{Value}
use Rattle.key_split.specs.declared.travel.Told.{Told}
use Rattle.node_model.specs.History.{EntryModel}
use Rattle.node_model.specs.Nodes.{ClusterModel}
use Rattle.node_model.specs.Runs.{deed_for, DoesRun}
use Rattle.node_model.specs.declared.role.Verdict.{Verdict}
use Rattle.node_model.specs.declared.role.Verdict.TheVariants.{Plain}
use Rattle.world_laws.specs.State.{WorldModel, Link, replied, all_replied, replies_of}
use Rattle.world_laws.specs.declared.state.Arrival.{Arrival}
use Rattle.world_laws.specs.declared.state.LinkRequest.{LinkRequest}
use Rattle.world_laws.specs.declared.state.LinkReply.{LinkReply}
use Rattle.world_laws.specs.declared.state.LinkRequest.TheVariants as asked
use Rattle.world_laws.specs.declared.state.LinkReply.TheVariants.{Welcome}
use Rattle.world_laws.specs.World.{NamesNode, ServesRunAt}
use Rattle.world_laws.specs.declared.event.Event.{Event}
use Rattle.world_laws.specs.declared.event.Event.TheVariants.{Serve}
use Rattle.world_laws.proofs.Nodes.{set-size}
use Rattle.world_laws.proofs.Recorded.{set-same}
use Rattle.turn_laws.specs.Walks.{Walk, IsSharedWalked, ticked}
use Rattle.turn_laws.specs.Wire.{Wire, Item, Part, Asks, Runs, Lists, Execution, ServesNext, ServesRun, executions, parts_in, tickets_for}
use Rattle.turn_laws.specs.System.{System}
use Rattle.turn_laws.specs.Shadow.{IsShadow, LinksShadow, LogShadow, WireShadow, ClosedShadow, IsKnown, IsUnnumbered, Numbers, requests_in}
use Rattle.turn_laws.specs.Steps.{AtBroken, ServesLateBy, log_of}
use Rattle.turn_laws.specs.Refines.{Simulates}
use Rattle.turn_laws.proofs.Walks.{walked-stands}
use Rattle.turn_laws.proofs.Throwing.{wire-changes, not-mine}
use Rattle.turn_laws.proofs.Serving.{all-first, all-later, some-request, log-nothing, log-served, entries_at, serves-run, node-frame}

-- the machine's link, closed, after a reply
replied-closed : (l : Link) (back : LinkReply) → l.is_open ≡ false → replied l back ≡ l
replied-closed l back e = ap (λ b. if b then record l { backs = l.backs ++ back ∷ [] } else l) e

all-closed : (l : Link) (run : List (Arrival × Told)) → l.is_open ≡ false → all_replied l run ≡ l
all-closed l run e = ap (λ b. if b then record l { backs = l.backs ++ replies_of run } else l) e

module _ {C J : Type 0} (s s' : System C J) (w : WorldModel) (h : IsShadow s w) (walked : IsSharedWalked w) (j : ℕ) (how : Wire → ClusterModel → Wire → List Value → List Execution → Type 0) (on : ServesLateBy how s j s') where
  abbrev old : Wire
  old = on.0

  abbrev wire : Wire
  wire = on.1

  abbrev more : List Value
  more = on.2

  abbrev closed' : List Wire
  closed' = slice_set s.closed j wire

  abbrev pub Simulated : Type 0
  Simulated = (events : List Event) × (w' : WorldModel) × Walk w events w' × IsShadow s' w'

  -- the first request of the wire is served, and the first of its link
  module _ (rest : List Item) (first : LinkRequest) (asking : Bool) (is : wire ≡ record old { items = rest; values = wire.values; asking = asking }) (requests : requests_in old.items ≡ first ∷ requests_in rest)
      (known : All (IsKnown w.commands) old.items → All (IsKnown w.commands) rest) (i : ℕ) (l : Link) (numbers : Numbers (h.links).ids old.id i) (at : slice_get w.links i ≡ Some l) (closed : ClosedShadow w.commands old l) where
    -- what follows it
    abbrev pub later : List LinkRequest
    later = requests_in rest ++ (closed.requests).0

    pub front : l.requests ≡ first ∷ later
    front = sym (closed.requests).1 ∙ ap (λ rs. rs ++ (closed.requests).0) requests

    abbrev pub link' : Link
    link' = record l { requests = later; asking = asking }

    shown : ClosedShadow w.commands wire link'
    shown = record {
      node = closed.node ∙ ap (λ (x : Wire). x.node) (sym is);
      is_open = closed.is_open;
      asking = ap (λ (x : Wire). x.asking) (sym is);
      requests = ((closed.requests).0, ap (λ (x : Wire). requests_in x.items ++ (closed.requests).0) is);
      known = subst (All (IsKnown w.commands)) (ap (λ (x : Wire). x.items) (sym is)) (known closed.known);
      backs = closed.backs;
    }

    pub links-after : LinksShadow s.nodes s.carrier closed' s.opened (record w { links = slice_set w.links i link' })
    links-after =
        let id : wire.id ≡ old.id = ap (λ (x : Wire). x.id) is in
        wire-changes s.nodes s.carrier s.closed s.opened w h.links (slice_set w.links i link') w.moment j old wire on.4 id (set-size w.links i link')
        (inl (i, link', subst (λ n. Numbers (h.links).ids n i) (sym id) numbers, set-same w.links i l link' at, shown))
        (λ n other m p ne e. not-mine (h.links).ids w.links i old.id n other link' m numbers p ne e)

  frame : (links' : List Link) (history' : _) (moment' : ℕ) → LinksShadow s.nodes s.carrier closed' s.opened (record w { links = links' })
      → LogShadow (s.log ++ log_of on.3) (record w { cluster = s'.cluster; links = links'; history = history'; moment = moment' })
      → IsShadow s' (record w { cluster = s'.cluster; links = links'; history = history'; moment = moment' })
  frame links' history' moment' links log = node-frame s s' w s'.cluster s.carrier.backends closed' (s.log ++ log_of on.3) links' history' moment' h on.7 links h.listed (λ f. refl) log

  -- ASKING
  module _ (rest : List Item) (first : old.items ≡ Asks ∷ rest) (cluster : s'.cluster ≡ s.cluster) (none : on.3 ≡ [])
      (is : wire ≡ record old { items = rest; values = wire.values; asking = true }) where
    welcomed : (i : ℕ) (l : Link) → Numbers (h.links).ids old.id i → slice_get w.links i ≡ Some l → ClosedShadow w.commands old l → Simulated
    welcomed i l numbers at closed =
        let known : All (IsKnown w.commands) old.items → All (IsKnown w.commands) rest = λ all. all-later (IsKnown w.commands) Asks rest (subst (All (IsKnown w.commands)) first all) in
        let l' : Link = link' rest asked.Asking true is (ap requests_in first) known i l numbers at closed in
        let links' : List Link = slice_set w.links i l' in
        let w' : WorldModel = record w { cluster = s'.cluster; links = links'; moment = w.moment + 1 } in
        let same : l' ≡ replied l' Welcome = sym (replied-closed l' Welcome closed.is_open) in (
          Serve i Plain ∷ [],
          w',
          (w', (l, at, inl (_, front rest asked.Asking true is (ap requests_in first) known i l numbers at closed, refl, λ j. record w { cluster = (cluster ∙ sym h.cluster) j; links = slice_set w.links i (same j); moment = w.moment + 1 })), refl),
          frame links' w.history (w.moment + 1) (links-after rest asked.Asking true is (ap requests_in first) known i l numbers at closed)
              (log-nothing s.log w w' on.3 none refl refl refl (omega arith) h.log),
        )

    pub welcomes : Simulated
    welcomes = ⊎_elim
        (λ (x : (n : ℕ) × (l : Link) × Numbers (h.links).ids old.id n × (slice_get w.links n ≡ Some l) × ClosedShadow w.commands old l). welcomed x.0 x.1 x.2 x.3 x.4)
        (λ (x : IsUnnumbered (h.links).ids old.id × (requests_in old.items ≡ [])). absurd (some-request asked.Asking (requests_in rest) (sym (ap requests_in first) ∙ x.1)))
        ((h.links).wires j old on.4).1

  -- in the machine too this node serves the run, on the link that stands for this one
  abbrev pub RunServed : ℕ → Verdict → Type 0
  RunServed server verdict =
      (i : ℕ) × (l : Link) × (w' : WorldModel) × (slice_get w.links i ≡ Some l) × (l.node ≡ old.node) × (l.asking ≡ old.asking)
      × ServesRunAt (ticked w) server i l verdict w' × IsShadow s' w'

  -- a run
  module _ (server : ℕ) (verdict : Verdict) (rest : List Item) (parts : List Part) (tolds : List Told) (first : old.items ≡ Runs parts ∷ rest) (names : NamesNode s.cluster verdict)
      (does : DoesRun (deed_for s.cluster server old.asking (parts_in parts) verdict) s.cluster server (parts_in parts) tolds s'.cluster) (done : on.3 ≡ executions parts tolds)
      (is : wire ≡ record old { items = rest; values = wire.values; asking = false }) where
    executed : (i : ℕ) (l : Link) → Numbers (h.links).ids old.id i → slice_get w.links i ≡ Some l → ClosedShadow w.commands old l → RunServed server verdict
    executed i l numbers at closed =
        let known : All (IsKnown w.commands) old.items → All (IsKnown w.commands) rest = λ all. all-later (IsKnown w.commands) (Runs parts) rest (subst (All (IsKnown w.commands)) first all) in
        let l' : Link = link' rest (asked.Runs (tickets_for parts)) false is (ap requests_in first) known i l numbers at closed in
        let links' : List Link = slice_set w.links i l' in
        let r = serves-run w (walked-stands w walked) s.cluster s'.cluster i l server old.asking parts verdict tolds
        (later rest (asked.Runs (tickets_for parts)) false is (ap requests_in first) known i l numbers at closed) h.cluster closed.asking
        (front rest (asked.Runs (tickets_for parts)) false is (ap requests_in first) known i l numbers at closed)
        (all-first (IsKnown w.commands) (Runs parts) rest (subst (All (IsKnown w.commands)) first closed.known)) names does in
        let history' : List EntryModel = w.history ++ entries_at (w.moment + 1) (executions parts tolds) in
        let w' : WorldModel = record w { cluster = s'.cluster; links = links'; history = history'; moment = w.moment + 1 } in
        let ran : ServesRunAt (ticked w) server i l verdict w' =
        subst (λ (x : Link). ServesRunAt (ticked w) server i l verdict (record (ticked w) { cluster = s'.cluster; links = slice_set w.links i x; history = history' })) (all-closed l' (r.0).run closed.is_open) r.1 in
        let log : LogShadow (s.log ++ log_of (executions parts tolds)) w' = log-served s.log w w' (executions parts tolds) h.log refl refl refl refl in (
          i,
          l,
          w',
          at,
          closed.node,
          closed.asking,
          ran,
          frame links' history' (w.moment + 1)
              (links-after rest (asked.Runs (tickets_for parts)) false is (ap requests_in first) known i l numbers at closed)
              (subst (λ d. LogShadow (s.log ++ log_of d) w') (sym done) log),
        )

    pub executes : RunServed server verdict
    executes = ⊎_elim
        (λ (x : (n : ℕ) × (l : Link) × Numbers (h.links).ids old.id n × (slice_get w.links n ≡ Some l) × ClosedShadow w.commands old l). executed x.0 x.1 x.2 x.3 x.4)
        (λ (x : IsUnnumbered (h.links).ids old.id × (requests_in old.items ≡ [])). absurd (some-request (asked.Runs (tickets_for parts)) (requests_in rest) (sym (ap requests_in first) ∙ x.1)))
        ((h.links).wires j old on.4).1

  -- CLUSTER SLOTS: the machine does nothing
  lists : (rest : List Item) → old.items ≡ Lists ∷ rest → s'.cluster ≡ s.cluster → on.3 ≡ [] → wire ≡ record old { items = rest; values = wire.values } → Simulated
  lists rest first cluster none is =
      let id : wire.id ≡ old.id = ap (λ (x : Wire). x.id) is in
      let same : requests_in wire.items ≡ requests_in old.items = ap (λ (x : Wire). requests_in x.items) is ∙ ap requests_in (sym first) in
      let shows : WireShadow w (h.links).ids wire = ⊎_elim
      (λ (x : (n : ℕ) × (l : Link) × Numbers (h.links).ids old.id n × (slice_get w.links n ≡ Some l) × ClosedShadow w.commands old l).
      let z = x.4 in
      inl (
        x.0,
        x.1,
        subst (λ n. Numbers (h.links).ids n x.0) (sym id) x.2,
        x.3,
        record {
          node = z.node ∙ ap (λ (x : Wire). x.node) (sym is);
          is_open = z.is_open;
          asking = z.asking ∙ ap (λ (x : Wire). x.asking) (sym is);
          requests = ((z.requests).0, ap (λ rs. rs ++ (z.requests).0) same ∙ (z.requests).1);
          known = subst (All (IsKnown w.commands)) (ap (λ (x : Wire). x.items) (sym is)) (all-later (IsKnown w.commands) Lists rest (subst (All (IsKnown w.commands)) first z.known));
          backs = z.backs;
        },
      ))
      (λ (x : IsUnnumbered (h.links).ids old.id × (requests_in old.items ≡ [])). inr (subst (IsUnnumbered (h.links).ids) (sym id) x.0, same ∙ x.1))
      ((h.links).wires j old on.4).1 in
      let links : LinksShadow s.nodes s.carrier closed' s.opened w = wire-changes s.nodes s.carrier s.closed s.opened w h.links w.links w.moment j old wire on.4 id refl shows (λ i other m p ne e. e) in
      let w' : WorldModel = record w { cluster = s'.cluster } in
      let shadow : IsShadow s' w' = frame w.links w.history w.moment links (log-nothing s.log w w' on.3 none refl refl refl (omega arith) h.log) in
      ([], w, refl, subst (λ c. IsShadow s' (record w { cluster = c })) (cluster ∙ sym h.cluster) shadow)

  pub serves-run-late : (server : ℕ) (verdict : Verdict) → ServesRun s.nodes s.cluster server old verdict s'.cluster wire more on.3 → RunServed server verdict
  serves-run-late server verdict x = executes server verdict x.0 x.1 x.2 x.3 x.4 x.5 x.7 x.8

  pub serves-next-late : (verdict : Verdict) → ServesNext s.nodes s.cluster old verdict s'.cluster wire more on.3 → Simulated
  serves-next-late verdict (inl x) = welcomes x.0 x.2 x.4 x.5 x.6
  serves-next-late verdict (inr (inl x)) =
      let r = serves-run-late old.node verdict x in
      (Serve r.0 verdict ∷ [], r.2, (r.2, (r.1, r.3, inr (subst (λ n. ServesRunAt (ticked w) n r.0 r.1 verdict r.2) (sym r.4) r.6)), refl), r.7)
  serves-next-late verdict (inr (inr x)) = lists x.0 x.2 x.4 x.5 x.6

module _ (C J : Type 0) where
  pub served-late : (j : ℕ) (verdict : Verdict) → Simulates C J (AtBroken j verdict)
  served-late j verdict s s' w h walked on = serves-next-late s s' w h walked j (λ old. ServesNext s.nodes s.cluster old verdict) on verdict on.5
