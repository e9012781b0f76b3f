-- A node serves what is next of a connection: the machine's nodes, its history and the log.
use Rattle.std.proofs.Common.{◌≡◌, ℕ, suc, ◌+◌, ◌≤◌, Bool, false, List, [], ◌∷◌, ◌++◌, refl, sym, ap, ◌∙◌, subst, arith, length}
use Rattle.std.specs.Prelude.{All, slice_set, map}
use Rattle.std.proofs.lemmas.List.{append-nil, map-append}
use Rattle.key_split.specs.PartModel.{PartModel}
use Rattle.key_split.specs.Same.{same_ticket-Decides}
use Rattle.key_split.specs.declared.travel.Ticket.{Ticket}
use Rattle.key_split.specs.declared.travel.Told.{Told}
use Rattle.key_split.specs.declared.travel.Told.TheVariants.{Reply, Moved, Ask, TryAgain, ClusterDown, Unclear, Lost, Unsent}
use Rattle.node_model.specs.Nodes.{ClusterModel}
use Rattle.node_model.specs.Runs.{deed_for, DoesRun}
use Rattle.node_model.specs.History.{EntryModel}
use Rattle.node_model.specs.declared.role.Verdict.{Verdict}
use Rattle.proxy_turns.specs.declared.backend.Backend.{Backend}
use Rattle.world_laws.specs.State.{WorldModel, Link, all_replied, parts_told, tickets_told, tolds_of}
use Rattle.world_laws.specs.declared.state.LinkRequest.{LinkRequest}
use Rattle.world_laws.specs.declared.state.LinkRequest.TheVariants.{Runs}
use Rattle.world_laws.specs.declared.state.Arrival.{Arrival}
use Rattle.world_laws.specs.World.{AreOf, IsOf, NamesNode, ServesRunAt, entry_of, entries_of}
use Rattle.world_laws.specs.Places.{is}
use Rattle.world_laws.proofs.Placed.{Standing}
use Rattle.world_laws.proofs.Allowed.{found}
use Rattle.turn_laws.specs.Walks.{ticked}
use Rattle.turn_laws.specs.Wire.{Wire, Part, Execution, executed, executions, parts_in, tickets_for}
use Rattle.turn_laws.specs.System.{System, Mark}
use Rattle.turn_laws.specs.Shadow.{IsShadow, AreListed, LinksShadow, LogShadow, HasPart, entry_at}
use Rattle.turn_laws.specs.Underway.{downs_of}
use Rattle.turn_laws.specs.Steps.{log_of}
use Rattle.turn_laws.proofs.Downs.{Pair, SameBag, bag-has}
use Rattle.turn_laws.proofs.ServedRuns.{each-told}
use Rattle.turn_laws.proofs.Frames.{client-same, log-later}
use Rattle.turn_laws.proofs.Logs.{log-one}

pub all-later : {X : Type 0} (P : X → Type 0) (x : X) (xs : List X) → All P (x ∷ xs) → All P xs
all-later P x xs h i d lt = h (suc i) d (omega (arith, lt))

pub all-first : {X : Type 0} (P : X → Type 0) (x : X) (xs : List X) → All P (x ∷ xs) → P x
all-first P x xs h = h 0 x (omega arith)

pub some-request : (r : LinkRequest) (rs : List LinkRequest) → r ∷ rs ≡ [] → ⊥
some-request r rs e = cc

-- the log, after an event that it does not say
pub log-nothing : (log : List Mark) (w w' : WorldModel) (done : List Execution) → done ≡ [] → w'.commands ≡ w.commands → w'.history ≡ w.history → w'.answers ≡ w.answers → w.moment ≤ w'.moment
    → LogShadow log w → LogShadow (log ++ log_of done) w'
log-nothing log w w' done none commands history answers later h =
    subst (λ d. LogShadow (log ++ log_of d) w') (sym none) (subst (λ l. LogShadow l w') (sym (append-nil log)) (log-later log w w' commands history answers later h))

-- the entries of what was executed at once
abbrev pub entries_at : ℕ → List Execution → List EntryModel
entries_at moment done = map (entry_at moment) done

-- the log, after a node served a run: what it executed
pub log-served : (log : List Mark) (w w' : WorldModel) (done : List Execution) → LogShadow log w → w'.commands ≡ w.commands → w'.answers ≡ w.answers → w'.moment ≡ w.moment + 1
    → w'.history ≡ w.history ++ entries_at (w.moment + 1) done → LogShadow (log ++ log_of done) w'
log-served log w w' [] h commands answers moment history = log-nothing log w w' [] refl commands (history ∙ append-nil w.history) answers (omega (arith, moment)) h
log-served log w w' (one ∷ later) h commands answers moment history =
    log-one log w w' _ (w.moment + 1) h (omega arith) (omega (arith, moment))
    (ap (map (λ (c : Arrival). (c.command.ticket, c.command.part, c.arrived))) commands ∙ sym (append-nil _))
    (history ∙ ap (λ es. w.history ++ es) (sym (append-nil (entries_at (w.moment + 1) (one ∷ later)))))
    (ap (map (λ (a : _). (a.ticket, a.ended, a.answered))) answers ∙ sym (append-nil _))

-- the command of a ticket, as the machine finds it
pub of-part : (w : WorldModel) → Standing w → (ticket : Ticket) (part : PartModel) → HasPart w.commands ticket part
    → (i : ℕ) × (c : Arrival) × IsOf c.command.ticket w.commands i c × (c.command.ticket ≡ ticket) × (c.command.part ≡ part)
of-part w placed ticket part h =
    let f = found w placed (h.1).command.ticket h.0 h.1 h.2 ((same_ticket-Decides (h.1).command.ticket (h.1).command.ticket).1 refl) in
    (f.0, h.1, f.1, h.4, h.3)

-- ---- a run is served

-- what a command was told, as the machine's entries and the log's marks have it
entry-is : (moment : ℕ) (c : Arrival) (told : Told) → entry_of moment c told ≡ entries_at moment (executed (c.command.ticket, c.command.part) told)
entry-is moment c (Reply value) = refl
entry-is moment c (Moved slot node) = refl
entry-is moment c (Ask slot node) = refl
entry-is moment c TryAgain = refl
entry-is moment c ClusterDown = refl
entry-is moment c Unclear = refl
entry-is moment c Lost = refl
entry-is moment c Unsent = refl

-- The commands of a run, as the machine has them, with what they were told.
pub record MachineRun (commands : List Arrival) (parts : List Part) (tolds : List Told) : Type 0 where
  pub run : List (Arrival × Told)
  pub tickets : tickets_told run ≡ tickets_for parts
  pub parts_are : parts_told run ≡ parts_in parts
  pub tolds_are : tolds_of run ≡ tolds
  pub are_of : AreOf run commands
  pub entries : (moment : ℕ) → entries_of moment run ≡ entries_at moment (executions parts tolds)

pub machine-run : (w : WorldModel) → Standing w → (parts : List Part) (tolds : List Told) → length (parts_in parts) ≡ length tolds → All (λ (part : Part). HasPart w.commands part.0 part.1) parts → MachineRun w.commands parts tolds
machine-run w placed [] [] e known = record { run = []; tickets = refl; parts_are = refl; tolds_are = refl; are_of = tt; entries = λ moment. refl }
machine-run w placed [] (told ∷ tolds) e known = absurd (omega (arith, e))
machine-run w placed (part ∷ parts) [] e known = absurd (omega (arith, e))
machine-run w placed (part ∷ parts) (told ∷ tolds) e known =
    let p = of-part w placed part.0 part.1 (known 0 part (omega arith)) in
    let c : Arrival = p.1 in
    let rest = machine-run w placed parts tolds (omega (arith, e)) (λ n d lt. known (suc n) d (omega (arith, lt))) in
    record {
      run = (c, told) ∷ rest.run;
      tickets = (λ i. p.3 i ∷ rest.tickets i);
      parts_are = (λ i. p.4 i ∷ rest.parts_are i);
      tolds_are = ap (λ ts. told ∷ ts) rest.tolds_are;
      are_of = ((p.0, p.2), rest.are_of);
      entries = λ moment.
          (λ i. entry-is moment c told i ++ rest.entries moment i)
          ∙ (λ i. entries_at moment (executed (p.3 i, p.4 i) told) ++ entries_at moment (executions parts tolds))
          ∙ sym (map-append (entry_at moment) (executed part told) (executions parts tolds));
    }

-- a run is served by this node, in the machine too
pub serves-run : (w : WorldModel) → Standing w → (k k' : ClusterModel) (i : ℕ) (l : Link) (node : ℕ) (asking : Bool) (parts : List Part) (verdict : Verdict) (tolds : List Told) (rest : List LinkRequest)
    → w.cluster ≡ k → l.asking ≡ asking → l.requests ≡ Runs (tickets_for parts) ∷ rest
    → All (λ (part : Part). HasPart w.commands part.0 part.1) parts → NamesNode k verdict
    → DoesRun (deed_for k node asking (parts_in parts) verdict) k node (parts_in parts) tolds k'
    → (m : MachineRun w.commands parts tolds)
    × ServesRunAt (ticked w) node i l verdict
    (record (ticked w) { cluster = k'; links = slice_set w.links i (all_replied (record l { requests = rest; asking = false }) m.run); history = w.history ++ entries_at (w.moment + 1) (executions parts tolds) })
serves-run w placed k k' i l node asking parts verdict tolds rest cluster asked requests known names does =
    let m = machine-run w placed parts tolds (each-told (deed_for k node asking (parts_in parts) verdict) k node (parts_in parts) tolds k' does) known in (
      m,
      (
        rest,
        m.run,
        k',
        requests ∙ ap (λ ts. Runs ts ∷ rest) (sym m.tickets),
        m.are_of,
        subst (λ x. NamesNode x verdict) (sym cluster) names,
        subst (λ (x : ClusterModel × Bool × List PartModel × List Told). DoesRun (deed_for x.0 node x.1 x.2 verdict) x.0 node x.2 x.3 k') (λ j. (sym cluster j, sym asked j, sym m.parts_are j, sym m.tolds_are j)) does,
        (λ j. record (ticked w) { cluster = k'; links = slice_set w.links i (all_replied (record l { requests = rest; asking = false }) m.run); history = w.history ++ sym (m.entries (w.moment + 1)) j }),
      ),
    )

module _ {C J : Type 0} where
  -- the nodes, the connections and the log step; the workers stay, and what is on its way down
  pub node-frame : (s s' : System C J) (w : WorldModel) (k' : ClusterModel) (backends' : List (Backend Wire)) (closed' : List Wire) (log' : List Mark)
      (links' : List Link) (history' : List EntryModel) (moment' : ℕ)
      → IsShadow s w → s' ≡ record s { cluster = k'; carrier = record (s.carrier) { backends = backends' }; closed = closed'; log = log' }
      → LinksShadow s.nodes (record (s.carrier) { backends = backends' }) closed' s.opened (record w { links = links' })
      → AreListed (record (s.carrier) { backends = backends' })
      → SameBag (downs_of s) (downs_of (record s { carrier = record (s.carrier) { backends = backends' } }))
      → LogShadow log' (record w { cluster = k'; links = links'; history = history'; moment = moment' })
      → IsShadow s' (record w { cluster = k'; links = links'; history = history'; moment = moment' })
  node-frame s s' w k' backends' closed' log' links' history' moment' h eq links listed bag log =
      let w' : WorldModel = record w { cluster = k'; links = links'; history = history'; moment = moment' } in
      let next : System C J = record s { cluster = k'; carrier = record (s.carrier) { backends = backends' }; closed = closed'; log = log' } in
      let back : SameBag (downs_of next) (downs_of s) = λ f. sym (bag f) in
      subst (λ x. IsShadow x w') (sym eq) (record {
        workers = h.workers;
        limit = h.limit;
        cluster = refl;
        initial = h.initial;
        apart = h.apart;
        room = h.room;
        table = h.table;
        listed = listed;
        numbered = h.numbered;
        sides = h.sides;
        seated = h.seated;
        up_steps = h.up_steps;
        down_steps = h.down_steps;
        unfinished = h.unfinished;
        within = λ i pair e. let x = bag-has (downs_of next) (downs_of s) back i pair e in h.within x.0 pair x.1;
        to_worker = h.to_worker;
        told = h.told;
        lanes = h.lanes;
        links = record { ids = links.ids; all = links.all; below = links.below; once = links.once; backends = links.backends; wires = links.wires; apart = links.apart; aside = links.aside; each = links.each; seen = links.seen };
        clients = λ k model number client e g.
            let t = h.clients k model number client e g in
            (t.0, client-same (downs_of s) (downs_of next) bag k number client w.commands t.1);
        unseen = h.unseen;
        downs = λ t. omega (arith, h.downs t, bag (λ (p : Pair). is t p.0));
        awaited = λ i pair e.
            let x = bag-has (downs_of next) (downs_of s) back i pair e in h.awaited x.0 pair x.1;
        waiting = h.waiting;
        asking = h.asking;
        log = log;
      })
