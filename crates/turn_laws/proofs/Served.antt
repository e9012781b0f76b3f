-- A node serves what is next of a connection that works: the replies wait on the wire, in the machine's link too.
use Rattle.std.proofs.Common.{◌≡◌, ◌≢◌, ◌⊎◌, inl, inr, ⊎_elim, ℕ, suc, ◌+◌, ◌≤◌, true, false, if◌then◌else◌, List, [], ◌∷◌, ◌++◌, Some, None, refl, sym, ap, ◌∙◌, subst, arith, length}
use Rattle.std.specs.Prelude.{slice_get, slice_set, Option, All}
use Rattle.std.proofs.lemmas.List.{append-nil, append_assoc, length-append}
use Rattle.resp_wire.specs.declared.value.Value.{Value}
use Rattle.slot_map.specs.Table.{Endpoint}
use Rattle.key_split.specs.declared.travel.Told.{Told}
use Rattle.node_model.specs.History.{EntryModel}
use Rattle.node_model.specs.Nodes.{ClusterModel}
use Rattle.node_model.specs.Runs.{deed_for, DoesRun}
use Rattle.node_model.specs.declared.role.Verdict.{Verdict}
use Rattle.node_model.specs.declared.role.Verdict.TheVariants.{Plain}
use Rattle.node_link.specs.LinkModel.{LinkModel}
use Rattle.node_link.specs.declared.link.Due.{Due}
use Rattle.proxy_turns.specs.declared.newcomer.Newcomer.{Newcomer}
use Rattle.proxy_turns.specs.declared.backend.Backend.{Backend}
use Rattle.proxy_turns.specs.CarrierModel.{CarrierModel}
use Rattle.world_laws.specs.State.{WorldModel, Link, replied, all_replied, replies_of, tickets_told, tolds_of}
use Rattle.world_laws.specs.declared.state.LinkReply.{LinkReply}
use Rattle.world_laws.specs.declared.state.LinkRequest.TheVariants as asked
use Rattle.world_laws.specs.declared.state.LinkReply.TheVariants.{Welcome, To}
use Rattle.world_laws.specs.declared.state.Arrival.{Arrival}
use Rattle.world_laws.specs.World.{NamesNode, ServesRunAt}
use Rattle.world_laws.specs.declared.event.Event.{Event}
use Rattle.world_laws.specs.declared.event.Event.TheVariants.{Serve}
use Rattle.world_laws.specs.Places.{total}
use Rattle.world_laws.proofs.Recorded.{at-set}
use Rattle.turn_laws.specs.Walks.{Walk, IsSharedWalked, ticked}
use Rattle.turn_laws.specs.Wire.{Wire, Item, Part, Asks, Runs, Lists, AreTold, Execution, ServesNext, ServesRun, executions, parts_in, tickets_for}
use Rattle.turn_laws.specs.System.{System}
use Rattle.turn_laws.specs.Shadow.{IsShadow, LinksShadow, LogShadow, AreListed, OpenShadow, IsIdle, IsKnown, IsUnnumbered, Numbers, requests_in, dues_of, dues_in, back_of, backs_in, SeenIn}
use Rattle.turn_laws.specs.Underway.{IsWorking, coming, coming_of, downs_of, told_in, lost_in}
use Rattle.turn_laws.specs.Steps.{AtNode, ServesBy, log_of}
use Rattle.turn_laws.specs.Refines.{Simulates}
use Rattle.turn_laws.proofs.Downs.{SameBag, total-set-flat}
use Rattle.turn_laws.proofs.Bags.{bag-parts}
use Rattle.turn_laws.proofs.Listed.{set-listed}
use Rattle.turn_laws.proofs.Lines.{backend-changes}
use Rattle.turn_laws.proofs.Answering.{quiet-backend}
use Rattle.turn_laws.proofs.Openings.{one-connection}
use Rattle.turn_laws.proofs.Walks.{walked-stands}
use Rattle.turn_laws.proofs.Serving.{all-first, all-later, some-request, log-nothing, log-served, entries_at, serves-run, node-frame}
use Rattle.turn_laws.proofs.ServedRuns.{as-many-values, each-told}
use Rattle.turn_laws.proofs.Seen.{seen-set}

coming-more : (o : Option Value) (values more : List Value) → coming_of o (values ++ more) ≡ coming_of o values ++ more
coming-more None values more = refl
coming-more (Some first) values more = refl

backs-more : (table : List Endpoint) (node : ℕ) (ds : List Due) (values : List Value) (later : List Due) (more : List Value) → length ds ≡ length values
    → backs_in table node (ds ++ later) (values ++ more) ≡ backs_in table node ds values ++ backs_in table node later more
backs-more table node [] [] later more e = refl
backs-more table node [] (v ∷ vs) later more e = absurd (omega (arith, e))
backs-more table node (x ∷ ds) [] later more e = absurd (omega (arith, e))
backs-more table node (x ∷ ds) (v ∷ vs) later more e =
    ap (λ bs. back_of table node x v ++ bs) (backs-more table node ds vs later more (omega (arith, e)))
    ∙ sym (append_assoc (back_of table node x v) (backs_in table node ds vs) (backs_in table node later more))

-- The node serves the first item of a link, with these values: who waits for them is answered.
module _ (link : LinkModel Wire) (wire : Wire) (r : Item) (rest : List Item) (more : List Value) (as-many : length (dues_of r) ≡ length more)
    (first : link.port.items ≡ r ∷ rest) (id : wire.node ≡ link.port.node) (items : wire.items ≡ rest) (values : wire.values ≡ link.port.values ++ more) where
  abbrev pub served_link : LinkModel Wire
  served_link = record link { port = wire }

  come : coming served_link ≡ coming link ++ more
  come = ap (coming_of link.kept) values ∙ coming-more link.kept link.port.values more

  dues : (answered : List Due) → link.due ≡ answered ++ dues_in link.port.items → link.due ≡ (answered ++ dues_of r) ++ dues_in wire.items
  dues answered e = e ∙ ap (λ rs. answered ++ dues_in rs) first ∙ sym (append_assoc answered (dues_of r) (dues_in rest)) ∙ ap (λ rs. (answered ++ dues_of r) ++ dues_in rs) (sym items)

  match : (answered : List Due) → length answered ≡ length (coming link) → length (answered ++ dues_of r) ≡ length (coming served_link)
  match answered e = omega (arith, e, as-many, length-append answered (dues_of r), length-append (coming link) more, ap length come)

  pub open-served : (table : List Endpoint) (commands : List Arrival) (l : Link) → OpenShadow table commands link l
      → OpenShadow table commands served_link (record l { requests = requests_in rest; backs = l.backs ++ backs_in table link.node (dues_of r) more; asking = wire.asking })
  open-served table commands l h = record {
    node = h.node;
    wired = id ∙ h.wired;
    is_open = h.is_open;
    asking = refl;
    requests = ap requests_in (sym items);
    known = subst (All (IsKnown commands)) (sym items) (all-later (IsKnown commands) r rest (subst (All (IsKnown commands)) first h.known));
    answered = h.answered ++ dues_of r;
    due = dues h.answered h.due;
    matched = match h.answered h.matched;
    backs = ap (λ bs. bs ++ backs_in table link.node (dues_of r) more) h.backs ∙ sym (backs-more table link.node h.answered (coming link) (dues_of r) more h.matched)
        ∙ ap (backs_in table link.node (h.answered ++ dues_of r)) (sym come);
  }

  pub idle-served : IsIdle link → wire.asking ≡ link.port.asking → requests_in rest ≡ [] → IsIdle served_link
  idle-served h asking none = record {
    wired = id ∙ h.wired;
    none = h.none;
    asking = asking ∙ h.asking;
    requests = ap requests_in items ∙ none;
    answered = h.answered ++ dues_of r;
    due = dues h.answered h.due;
    matched = match h.answered h.matched;
  }

-- what the values tell, as the machine's replies
run-backs : (table : List Endpoint) (node : ℕ) (run : List (Arrival × Told)) (parts : List Part) (values : List Value) (tolds : List Told) → tickets_told run ≡ tickets_for parts → tolds_of run ≡ tolds
    → AreTold table node values tolds → replies_of run ≡ backs_in table node (dues_of (Runs parts)) values
run-backs table node [] [] values tolds a b told = refl
run-backs table node [] (part ∷ parts) values tolds a b told = absurd (cc)
run-backs table node (p ∷ run) [] values tolds a b told = absurd (cc)
run-backs table node (p ∷ run) (part ∷ parts) [] [] a b told = absurd (cc)
run-backs table node (p ∷ run) (part ∷ parts) [] (t ∷ tolds) a b told = absurd told
run-backs table node (p ∷ run) (part ∷ parts) (v ∷ values) [] a b told = absurd told
run-backs table node (p ∷ run) (part ∷ parts) (v ∷ values) (t ∷ tolds) a b told =
    let ticket : p.0.command.ticket ≡ part.0 = heads p.0.command.ticket part.0 (tickets_told run) (tickets_for parts) a in
    let tickets : tickets_told run ≡ tickets_for parts = tails p.0.command.ticket part.0 (tickets_told run) (tickets_for parts) a in
    let said : p.1 ≡ t = heads p.1 t (tolds_of run) tolds b in
    let later : tolds_of run ≡ tolds = tails p.1 t (tolds_of run) tolds b in
    λ i. To (ticket i) ((said ∙ ap (λ (x : Told × List Endpoint). x.0) (sym told.0)) i) ∷ run-backs table node run parts values tolds tickets later told.1 i
  where
    heads : {X : Type 0} (x y : X) (xs ys : List X) → x ∷ xs ≡ y ∷ ys → x ≡ y
    heads x y xs ys e = cc

    tails : {X : Type 0} (x y : X) (xs ys : List X) → x ∷ xs ≡ y ∷ ys → xs ≡ ys
    tails x y xs ys e = cc

as-many-dues : (parts : List Part) → length (dues_of (Runs parts)) ≡ length (parts_in parts)
as-many-dues [] = refl
as-many-dues (part ∷ parts) = ap suc (as-many-dues parts)

-- the machine's link, open, after a reply
replied-open : (l : Link) (back : LinkReply) → l.is_open ≡ true → replied l back ≡ record l { backs = l.backs ++ back ∷ [] }
replied-open l back e = ap (λ b. if b then record l { backs = l.backs ++ back ∷ [] } else l) e

all-open : (l : Link) (run : List (Arrival × Told)) → l.is_open ≡ true → all_replied l run ≡ record l { backs = l.backs ++ replies_of run }
all-open l run e = ap (λ b. if b then record l { backs = l.backs ++ replies_of run } else l) e

module _ {C J : Type 0} (s s' : System C J) (w : WorldModel) (h : IsShadow s w) (walked : IsSharedWalked w) (k : ℕ) (how : Wire → ClusterModel → Wire → List Value → List Execution → Type 0) (on : ServesBy how s k s') where
  abbrev backend : Backend Wire
  backend = on.0

  abbrev link : LinkModel Wire
  link = on.1

  abbrev wire : Wire
  wire = on.2

  abbrev more : List Value
  more = on.3

  abbrev link' : LinkModel Wire
  link' = record link { port = wire }

  abbrev backend' : Backend Wire
  backend' = record backend { link = Some link' }

  abbrev backends' : List (Backend Wire)
  backends' = slice_set s.carrier.backends k backend'

  abbrev Carried : Type 0
  Carried = CarrierModel (Newcomer C J) Wire

  abbrev carrier' : Carried
  carrier' = record (s.carrier) { backends = backends' }

  working : IsWorking s.carrier k link
  working = (backend, on.5, on.6, on.7)

  now : (j : ℕ) (x : LinkModel Wire) → IsWorking carrier' j x → ((j ≡ k) × (x ≡ link')) ⊎ ((j ≢ k) × IsWorking s.carrier j x)
  now j x y = ⊎_elim
      (λ (z : (j ≡ k) × (y.0 ≡ backend')). inl (z.0, one-connection (y.0).link x link' y.2 (ap (λ (l : Backend Wire). l.link) z.1)))
      (λ (z : (j ≢ k) × (slice_get s.carrier.backends j ≡ Some y.0)). inr (z.0, (y.0, z.1, y.2, y.3)))
      (at-set s.carrier.backends k backend' j y.0 y.1)

  sight : wire.id ≡ link.port.id → (m : ℕ) → SeenIn s.carrier s.closed m → SeenIn carrier' s.closed m
  sight id = seen-set s.carrier carrier' s.closed k backend backend' on.5 refl link link' on.6 refl on.7 id

  bag : SameBag (downs_of s) (downs_of (record s { carrier = carrier' }))
  bag f = omega (
    arith,
    bag-parts f s,
    bag-parts f (record s { carrier = carrier' }),
    total-set-flat f (λ (backend : Backend Wire). told_in backend.pending_told ++ lost_in backend.link) s.carrier.backends k backend backend' on.5,
    (let e : total f (told_in backend.pending_told ++ lost_in backend.link) ≡ total f (told_in backend.pending_told ++ lost_in (Some link)) = λ i. total f (told_in backend.pending_told ++ lost_in (on.6 i)) in e),
    (let e : total f (told_in backend.pending_told ++ lost_in (Some link)) ≡ total f (told_in backend.pending_told ++ lost_in (Some link')) = refl in e),
  )

  -- the link stays where it was
  listed : AreListed carrier'
  listed = set-listed s.carrier carrier' k backend backend' on.5 refl (omega arith) (λ x e. inl (link, on.6)) h.listed

  node : link'.node ≡ k
  node = ((h.links).backends k link working).0

  abbrev pub Simulated : Type 0
  Simulated = (events : List Event) × (w' : WorldModel) × Walk w events w' × IsShadow s' w'

  -- the first item is served, and the machine's link says so
  links-served : (r : Item) (rest : List Item) → length (dues_of r) ≡ length more → link.port.items ≡ r ∷ rest → wire.node ≡ link.port.node → wire.id ≡ link.port.id → wire.items ≡ rest
      → (i : ℕ) (l : Link) → Numbers (h.links).ids link.port.id i → slice_get w.links i ≡ Some l → OpenShadow s.nodes w.commands link l
      → LinksShadow s.nodes carrier' s.closed s.opened (record w { links = slice_set w.links i (record l { requests = requests_in rest; backs = l.backs ++ backs_in s.nodes link.node (dues_of r) more; asking = wire.asking }) })
  links-served r rest as-many first wired id items i l numbers at open' =
      let l' : Link = record l { requests = requests_in rest; backs = l.backs ++ backs_in s.nodes link.node (dues_of r) more; asking = wire.asking } in
      backend-changes s.nodes s.carrier carrier' s.closed s.opened w (record w { links = slice_set w.links i l' }) h.links k i link link' l l' working now (sight id)
      node id numbers at refl
      (open-served link wire r rest more as-many first wired items on.9 s.nodes w.commands l open')
      (λ x m o. o)
      (λ x m o. o)

  log-of-nothing : (w' : WorldModel) → on.4 ≡ [] → w'.commands ≡ w.commands → w'.history ≡ w.history → w'.answers ≡ w.answers → w.moment ≤ w'.moment → LogShadow (s.log ++ log_of on.4) w'
  log-of-nothing w' none commands history answers later = log-nothing s.log w w' on.4 none commands history answers later h.log

  -- ASKING
  module _ (rest : List Item) (value : Value) (first : link.port.items ≡ Asks ∷ rest) (one : more ≡ value ∷ []) (cluster : s'.cluster ≡ s.cluster) (none : on.4 ≡ [])
      (is : wire ≡ record (link.port) { items = rest; values = wire.values; asking = true }) where
    welcomed : (i : ℕ) (l : Link) → Numbers (h.links).ids link.port.id i → slice_get w.links i ≡ Some l → OpenShadow s.nodes w.commands link l → Simulated
    welcomed i l numbers at open' =
        let l' : Link = record l { requests = requests_in rest; backs = l.backs ++ backs_in s.nodes link.node (dues_of Asks) more; asking = wire.asking } in
        let links' : List Link = slice_set w.links i l' in
        let w' : WorldModel = record w { cluster = s'.cluster; links = links'; moment = w.moment + 1 } in
        let same : l' ≡ replied (record l { requests = requests_in rest; asking = true }) Welcome =
        (λ j. record l { requests = requests_in rest; backs = l.backs ++ backs_in s.nodes link.node (dues_of Asks) (one j); asking = ap (λ (x : Wire). x.asking) is j }) ∙ sym (replied-open (record l { requests = requests_in rest; asking = true }) Welcome open'.is_open) in (
          Serve i Plain ∷ [],
          w',
          (w', (l, at, inl (requests_in rest, open'.requests ∙ ap requests_in first, refl, λ j. record w { cluster = (cluster ∙ sym h.cluster) j; links = slice_set w.links i (same j); moment = w.moment + 1 })), refl),
          node-frame s s' w s'.cluster backends' s.closed (s.log ++ log_of on.4) links' w.history (w.moment + 1) h on.10
              (links-served Asks rest (ap length (sym one)) first (ap (λ (x : Wire). x.node) is) (ap (λ (x : Wire). x.id) is) (ap (λ (x : Wire). x.items) is) i l numbers at open')
              listed bag
              (log-of-nothing w' none refl refl refl (omega arith)),
        )

    pub welcomes : Simulated
    welcomes = ⊎_elim
        (λ (x : (i : ℕ) × (l : Link) × Numbers (h.links).ids link.port.id i × (slice_get w.links i ≡ Some l) × OpenShadow s.nodes w.commands link l). welcomed x.0 x.1 x.2 x.3 x.4)
        (λ (x : IsUnnumbered (h.links).ids link.port.id × IsIdle link). absurd (some-request asked.Asking (requests_in rest) (sym (ap requests_in first) ∙ (x.1).requests)))
        ((h.links).backends k link working).2

  -- in the machine too this node serves the run, on the link that stands for this one
  abbrev pub RunServed : ℕ → Verdict → Type 0
  RunServed server verdict =
      (i : ℕ) × (l : Link) × (w' : WorldModel) × (slice_get w.links i ≡ Some l) × (l.node ≡ link.port.node) × (l.asking ≡ link.port.asking)
      × ServesRunAt (ticked w) server i l verdict w' × IsShadow s' w'

  -- a run
  module _ (server : ℕ) (verdict : Verdict) (rest : List Item) (parts : List Part) (tolds : List Told) (first : link.port.items ≡ Runs parts ∷ rest) (names : NamesNode s.cluster verdict)
      (does : DoesRun (deed_for s.cluster server link.port.asking (parts_in parts) verdict) s.cluster server (parts_in parts) tolds s'.cluster)
      (says : AreTold s.nodes link.port.node more tolds) (done : on.4 ≡ executions parts tolds)
      (is : wire ≡ record (link.port) { items = rest; values = wire.values; asking = false }) where
    as-many : length (dues_of (Runs parts)) ≡ length more
    as-many = as-many-dues parts
        ∙ each-told (deed_for s.cluster server link.port.asking (parts_in parts) verdict) s.cluster server (parts_in parts) tolds s'.cluster does
        ∙ sym (as-many-values s.nodes link.port.node more tolds says)

    replies : (i : ℕ) (l : Link) → Numbers (h.links).ids link.port.id i → slice_get w.links i ≡ Some l → OpenShadow s.nodes w.commands link l → RunServed server verdict
    replies i l numbers at open' =
        let l' : Link = record l { requests = requests_in rest; backs = l.backs ++ backs_in s.nodes link.node (dues_of (Runs parts)) more; asking = wire.asking } in
        let links' : List Link = slice_set w.links i l' in
        let r = serves-run w (walked-stands w walked) s.cluster s'.cluster i l server link.port.asking parts verdict tolds (requests_in rest) h.cluster open'.asking
        (open'.requests ∙ ap requests_in first) (all-first (IsKnown w.commands) (Runs parts) rest (subst (All (IsKnown w.commands)) first open'.known)) names does in
        let m = r.0 in
        let history' : List EntryModel = w.history ++ entries_at (w.moment + 1) (executions parts tolds) in
        let w' : WorldModel = record w { cluster = s'.cluster; links = links'; history = history'; moment = w.moment + 1 } in
        let said : AreTold s.nodes link.node more tolds = subst (λ n. AreTold s.nodes n more tolds) open'.wired says in
        let same : all_replied (record l { requests = requests_in rest; asking = false }) m.run ≡ l' =
        all-open (record l { requests = requests_in rest; asking = false }) m.run open'.is_open
        ∙ (λ j. record l { requests = requests_in rest; backs = l.backs ++ run-backs s.nodes link.node m.run parts more tolds m.tickets m.tolds_are said j; asking = ap (λ (x : Wire). x.asking) (sym is) j }) in
        let ran : ServesRunAt (ticked w) server i l verdict w' =
        subst (λ (x : Link). ServesRunAt (ticked w) server i l verdict (record (ticked w) { cluster = s'.cluster; links = slice_set w.links i x; history = history' })) same r.1 in
        let log : LogShadow (s.log ++ log_of (executions parts tolds)) w' = log-served s.log w w' (executions parts tolds) h.log refl refl refl refl in (
          i,
          l,
          w',
          at,
          open'.node ∙ sym open'.wired,
          open'.asking,
          ran,
          node-frame s s' w s'.cluster backends' s.closed (s.log ++ log_of on.4) links' history' (w.moment + 1) h on.10
              (links-served (Runs parts) rest as-many first (ap (λ (x : Wire). x.node) is) (ap (λ (x : Wire). x.id) is) (ap (λ (x : Wire). x.items) is) i l numbers at open')
              listed bag
              (subst (λ d. LogShadow (s.log ++ log_of d) w') (sym done) log),
        )

    pub executes : RunServed server verdict
    executes = ⊎_elim
        (λ (x : (i : ℕ) × (l : Link) × Numbers (h.links).ids link.port.id i × (slice_get w.links i ≡ Some l) × OpenShadow s.nodes w.commands link l). replies x.0 x.1 x.2 x.3 x.4)
        (λ (x : IsUnnumbered (h.links).ids link.port.id × IsIdle link). absurd (some-request (asked.Runs (tickets_for parts)) (requests_in rest) (sym (ap requests_in first) ∙ (x.1).requests)))
        ((h.links).backends k link working).2

  -- CLUSTER SLOTS: the machine does nothing
  lists : (rest : List Item) (value : Value) → link.port.items ≡ Lists ∷ rest → more ≡ value ∷ [] → s'.cluster ≡ s.cluster → on.4 ≡ [] → wire ≡ record (link.port) { items = rest; values = wire.values } → Simulated
  lists rest value first one cluster none is =
      let id : wire.node ≡ link.port.node = ap (λ (x : Wire). x.node) is in
      let items : wire.items ≡ rest = ap (λ (x : Wire). x.items) is in
      let asking : wire.asking ≡ link.port.asking = ap (λ (x : Wire). x.asking) is in
      let as-many : length (dues_of Lists) ≡ length more = ap length (sym one) in
      let w' : WorldModel = record w { cluster = s'.cluster } in
      let links : LinksShadow s.nodes carrier' s.closed s.opened w =
      quiet-backend s.nodes s.carrier carrier' s.closed s.opened w h.links k link link' working now (sight (ap (λ (x : Wire). x.id) is)) node (ap (λ (x : Wire). x.id) is)
      (λ l o. subst (OpenShadow s.nodes w.commands link')
      (λ j. record l { requests = (ap requests_in (sym first) ∙ sym o.requests) j; backs = (ap (λ vs. l.backs ++ backs_in s.nodes link.node (dues_of Lists) vs) one ∙ append-nil l.backs) j; asking = (asking ∙ sym o.asking) j })
      (open-served link wire Lists rest more as-many first id items on.9 s.nodes w.commands l o))
      (λ idle. idle-served link wire Lists rest more as-many first id items on.9 idle asking (ap requests_in (sym first) ∙ idle.requests)) in
      let shadow : IsShadow s' w' = node-frame s s' w s'.cluster backends' s.closed (s.log ++ log_of on.4) w.links w.history w.moment h on.10 links listed bag (log-of-nothing w' none refl refl refl (omega arith)) in
      ([], w, refl, subst (λ c. IsShadow s' (record w { cluster = c })) (cluster ∙ sym h.cluster) shadow)

  pub serves-run-at : (server : ℕ) (verdict : Verdict) → ServesRun s.nodes s.cluster server link.port verdict s'.cluster wire more on.4 → RunServed server verdict
  serves-run-at server verdict x = executes server verdict x.0 x.1 x.2 x.3 x.4 x.5 x.6 x.7 x.8

  pub serves-next : (verdict : Verdict) → ServesNext s.nodes s.cluster link.port verdict s'.cluster wire more on.4 → Simulated
  serves-next verdict (inl x) = welcomes x.0 x.1 x.2 x.3 x.4 x.5 x.6
  serves-next verdict (inr (inl x)) =
      let r = serves-run-at link.port.node verdict x in
      (Serve r.0 verdict ∷ [], r.2, (r.2, (r.1, r.3, inr (subst (λ n. ServesRunAt (ticked w) n r.0 r.1 verdict r.2) (sym r.4) r.6)), refl), r.7)
  serves-next verdict (inr (inr x)) = lists x.0 x.1 x.2 x.3 x.4 x.5 x.6

module _ (C J : Type 0) where
  pub served : (k : ℕ) (verdict : Verdict) → Simulates C J (AtNode k verdict)
  served k verdict s s' w h walked on = serves-next s s' w h walked k (λ old. ServesNext s.nodes s.cluster old verdict) on verdict on.8
