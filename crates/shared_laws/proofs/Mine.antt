-- What is ours of a world: its history with our entries alone. An event of ours is one there too.
use Rattle.std.proofs.Common.{◌≡◌, ◌≢◌, ◌⊎◌, inl, inr, ⊎_elim, ℕ, zero, suc, ◌%◌, ◌==◌, Bool, true, false, List, [], ◌∷◌, ◌++◌, sym, ap, ◌∙◌, subst}
use Rattle.std.specs.Prelude.{slice_set, All}
use Rattle.std.proofs.lemmas.Bool.Decides.{eqb_tells}
use Rattle.std.proofs.lemmas.List.Elements.{All-set, All-append}
use Rattle.resp_wire.specs.Seen.{data_of}
use Rattle.key_split.specs.declared.travel.Ticket.{Ticket}
use Rattle.key_split.specs.declared.travel.Told.{Told}
use Rattle.key_split.specs.declared.travel.Told.TheVariants.{Reply, Moved, Ask, TryAgain, ClusterDown, Unclear, Unsent}
use Rattle.node_model.specs.History.{EntryModel}
use Rattle.node_model.specs.declared.role.Verdict.{Verdict}
use Rattle.world_laws.specs.State.{Link, WorldModel, after_told, all_replied}
use Rattle.world_laws.specs.declared.state.Arrival.{Arrival}
use Rattle.world_laws.specs.World.{WorldDoes, AreOf, ServesAsking, ServesRun, ServesRunAt, FetchesWelcome, FetchesReply, arrival, next_ticket, entry_of, entries_of}
use Rattle.world_laws.specs.Headline.{At}
use Rattle.world_laws.specs.declared.event.Event.{Event}
use Rattle.world_laws.specs.declared.event.Event.TheVariants.{Arrive, Post, Carry, Refuse, Serve, Fetch, Take, Drop, Discard, Import, Migrate, MoveKey, Own, Release, Forget, Stay}
use Rattle.world_laws.specs.declared.event.Event.TheVariants as ev
use Rattle.world_laws.proofs.Flow.{all_at}
use Rattle.world_laws.proofs.Counted.{ticket-after_told}
use Rattle.world_laws.proofs.Kept.{gone-out}
use Rattle.world_laws.proofs.Lives.{no-more}
use Rattle.world_laws.proofs.Passing.{keep, keep-all, keep-joins}
use Rattle.world_laws.proofs.Turns.{one}

-- tickets

-- a ticket of ours is of the worker that its client has, of n
abbrev pub is_ours : ℕ → Ticket → Bool
is_ours n ticket = ticket.worker == ticket.client % n

pub ours-yes : (n : ℕ) (t : Ticket) → t.worker ≡ t.client % n → is_ours n t ≡ true
ours-yes n t e = ⊎_elim
    (λ (x : ((t.worker == t.client % n) ≡ true) × (t.worker ≡ t.client % n)). x.0)
    (λ (x : ((t.worker == t.client % n) ≡ false) × (t.worker ≢ t.client % n)). absurd (x.1 e))
    (eqb_tells t.worker (t.client % n))

pub ours-no : (n : ℕ) (t : Ticket) → t.worker ≢ t.client % n → is_ours n t ≡ false
ours-no n t ne = ⊎_elim
    (λ (x : ((t.worker == t.client % n) ≡ true) × (t.worker ≡ t.client % n)). absurd (ne x.1))
    (λ (x : ((t.worker == t.client % n) ≡ false) × (t.worker ≢ t.client % n)). x.0)
    (eqb_tells t.worker (t.client % n))

pub yes-ours : (n : ℕ) (t : Ticket) → is_ours n t ≡ true → t.worker ≡ t.client % n
yes-ours n t e = ⊎_elim
    (λ (x : ((t.worker == t.client % n) ≡ true) × (t.worker ≡ t.client % n)). x.1)
    (λ (x : ((t.worker == t.client % n) ≡ false) × (t.worker ≢ t.client % n)). absurd (cc))
    (eqb_tells t.worker (t.client % n))

-- each command has a ticket of ours
abbrev pub Named : ℕ → WorldModel → Type 0
Named n w = All (λ c. is_ours n c.command.ticket ≡ true) w.commands

-- the world with our entries alone
abbrev pub mine : ℕ → WorldModel → WorldModel
mine n w = record w { history = keep (λ e. is_ours n e.ticket) w.history }

-- an entry of a command that was executed now
abbrev pub IsBorn : WorldModel → EntryModel → Type 0
IsBorn w e = (i : ℕ) × (c : Arrival) × At w.commands i c × (e.ticket ≡ c.command.ticket) × (e.moment ≡ w.moment)

entries-at : (w : WorldModel) (run : List (Arrival × Told)) → AreOf run w.commands → (k : ℕ) (x : EntryModel) → At (entries_of w.moment run) k x → IsBorn w x
entries-at w [] h k x e = absurd (cc)
entries-at w (p ∷ ps) h k x e = go p.1 k e (entries-at w ps h.1)
  where
    go : (told : Told) (k : ℕ) → At (entry_of w.moment p.0 told ++ entries_of w.moment ps) k x → ((k : ℕ) (x : EntryModel) → At (entries_of w.moment ps) k x → IsBorn w x) → IsBorn w x
    go (Reply value) zero e rest =
        let e0 : EntryModel = record { ticket = p.0.command.ticket; part = p.0.command.part; reply = data_of value; moment = w.moment } in
        let same : e0 ≡ x = cc in
        (h.0.0, p.0, h.0.1.1, ap (λ (z : EntryModel). z.ticket) (sym same), ap (λ (z : EntryModel). z.moment) (sym same))
    go (Reply value) (suc k) e rest = rest k x e
    go (Moved slot node) k e rest = rest k x e
    go (Ask slot node) k e rest = rest k x e
    go TryAgain k e rest = rest k x e
    go ClusterDown k e rest = rest k x e
    go Unclear k e rest = rest k x e
    go Told.Lost k e rest = rest k x e
    go Unsent k e rest = rest k x e

-- The events.

-- the history gains what was executed now
abbrev pub Gains : WorldModel → WorldModel → Type 0
Gains w w' = (es : List EntryModel) × (w'.history ≡ w.history ++ es) × ((k : ℕ) (x : EntryModel) → At es k x → IsBorn w x)

none-gained : (w w' : WorldModel) → w'.history ≡ w.history → Gains w w'
none-gained w w' e = ([], e ∙ sym (no-more w.history), λ k x at_k. absurd (cc))

pub run-gains : (w w' : WorldModel) (link node : ℕ) (l : Link) (v : Verdict) → ServesRunAt w node link l v w' → Gains w w'
run-gains w w' link node l v x = (entries_of w.moment x.1, ap (λ (x : WorldModel). x.history) x.7, entries-at w x.1 x.4)

pub does-gain : (e : Event) (w w' : WorldModel) → WorldDoes w e w' → Gains w w'
does-gain (Arrive client part) w w' d = none-gained w w' (ap (λ (x : WorldModel). x.history) d.1)
does-gain (Post tickets node) w w' d = none-gained w w' (ap (λ (x : WorldModel). x.history) d.5)
does-gain (Carry lane link) w w' d = none-gained w w' (ap (λ (x : WorldModel). x.history) d.5)
does-gain (Refuse lane) w w' d = none-gained w w' (ap (λ (x : WorldModel). x.history) d.3)
does-gain (Serve link v) w w' d = go d.2
  where
    go : ServesAsking w link d.0 v w' ⊎ ServesRun w link d.0 v w' → Gains w w'
    go (inl x) = none-gained w w' (ap (λ (x : WorldModel). x.history) x.3)
    go (inr x) = run-gains w w' link (d.0).node d.0 v x
does-gain (Fetch link) w w' d = go d.3
  where
    go : FetchesWelcome w link d.0 w' ⊎ FetchesReply w link d.0 w' → Gains w w'
    go (inl x) = none-gained w w' (ap (λ (x : WorldModel). x.history) x.2)
    go (inr x) = none-gained w w' (ap (λ (x : WorldModel). x.history) x.4)
does-gain (Take lane) w w' d = none-gained w w' (ap (λ (x : WorldModel). x.history) d.7)
does-gain (Drop link) w w' d = none-gained w w' (ap (λ (x : WorldModel). x.history) d.3)
does-gain (Discard link) w w' d = none-gained w w' (ap (λ (x : WorldModel). x.history) d.4)
does-gain (ev.Answer client) w w' d = none-gained w w' (ap (λ (x : WorldModel). x.history) d.8)
does-gain (Import slot target) w w' d = none-gained w w' (ap (λ (x : WorldModel). x.history) d.2)
does-gain (Migrate slot) w w' d = none-gained w w' (ap (λ (x : WorldModel). x.history) d.1)
does-gain (MoveKey slot key) w w' d = none-gained w w' (ap (λ (x : WorldModel). x.history) d.1)
does-gain (Own slot) w w' d = none-gained w w' (ap (λ (x : WorldModel). x.history) d.1)
does-gain (Release slot) w w' d = none-gained w w' (ap (λ (x : WorldModel). x.history) d.1)
does-gain (Forget slot) w w' d = none-gained w w' (ap (λ (x : WorldModel). x.history) d.1)
does-gain (Stay slot) w w' d = none-gained w w' (ap (λ (x : WorldModel). x.history) d.1)

-- what was executed now is ours
pub born-ours : (n : ℕ) (w : WorldModel) → Named n w → (x : EntryModel) → IsBorn w x → is_ours n x.ticket ≡ true
born-ours n w named x b = ap (is_ours n) b.3 ∙ all_at (λ (c : Arrival). is_ours n c.command.ticket ≡ true) w.commands b.0 b.1 b.2 named

-- commands keep tickets of ours, and get such
pub does-named : (n : ℕ) (e : Event) (w w' : WorldModel) → w.workers ≡ n → Named n w → WorldDoes w e w' → Named n w'
does-named n (Arrive client part) w w' size h d =
    subst (All (λ (c : Arrival). is_ours n c.command.ticket ≡ true)) (sym (ap (λ (x : WorldModel). x.commands) d.1))
    (All-append (λ (c : Arrival). is_ours n c.command.ticket ≡ true) w.commands (arrival w client part ∷ []) h
    (one (λ (c : Arrival). is_ours n c.command.ticket ≡ true) (arrival w client part) (ours-yes n (next_ticket w client) (ap (λ m. client % m) size))))
does-named n (Post tickets node) w w' size h d =
    subst (All (λ (c : Arrival). is_ours n c.command.ticket ≡ true)) (sym (ap (λ (x : WorldModel). x.commands) d.5))
    (gone-out (λ t p. is_ours n t ≡ true) d.0 node [] tickets w.commands d.1 d.4 h)
does-named n (Carry lane link) w w' size h d = subst (Named n) (sym d.5) h
does-named n (Refuse lane) w w' size h d = subst (Named n) (sym d.3) h
does-named n (Serve link v) w w' size h d = go d.2
  where
    go : ServesAsking w link d.0 v w' ⊎ ServesRun w link d.0 v w' → Named n w'
    go (inl x) = subst (Named n) (sym x.3) h
    go (inr x) = subst (Named n) (sym x.7) h
does-named n (Fetch link) w w' size h d = go d.3
  where
    go : FetchesWelcome w link d.0 w' ⊎ FetchesReply w link d.0 w' → Named n w'
    go (inl x) = subst (Named n) (sym x.2) h
    go (inr x) = subst (Named n) (sym x.4) h
does-named n (Take lane) w w' size h d =
    subst (All (λ (c : Arrival). is_ours n c.command.ticket ≡ true)) (sym (ap (λ (x : WorldModel). x.commands) d.7))
    (All-set (λ (c : Arrival). is_ours n c.command.ticket ≡ true) w.commands d.1 (after_told d.2 d.3)
    (ap (is_ours n) (ticket-after_told d.2 d.3) ∙ all_at (λ (c : Arrival). is_ours n c.command.ticket ≡ true) w.commands d.1 d.2 d.5.1 h) h)
does-named n (Drop link) w w' size h d = subst (Named n) (sym d.3) h
does-named n (Discard link) w w' size h d = subst (Named n) (sym d.4) h
does-named n (ev.Answer client) w w' size h d =
    subst (All (λ (c : Arrival). is_ours n c.command.ticket ≡ true)) (sym (ap (λ (x : WorldModel). x.commands) d.8))
    (All-set (λ (c : Arrival). is_ours n c.command.ticket ≡ true) w.commands d.0 (record (d.1) { answered = true })
    (all_at (λ (c : Arrival). is_ours n c.command.ticket ≡ true) w.commands d.0 d.1 d.3 h) h)
does-named n (Import slot target) w w' size h d = subst (Named n) (sym d.2) h
does-named n (Migrate slot) w w' size h d = subst (Named n) (sym d.1) h
does-named n (MoveKey slot key) w w' size h d = subst (Named n) (sym d.1) h
does-named n (Own slot) w w' size h d = subst (Named n) (sym d.1) h
does-named n (Release slot) w w' size h d = subst (Named n) (sym d.1) h
does-named n (Forget slot) w w' size h d = subst (Named n) (sym d.1) h
does-named n (Stay slot) w w' size h d = subst (Named n) (sym d.1) h

-- so it is of a run that some node serves
pub run-mine : (n : ℕ) (w w' : WorldModel) (link node : ℕ) (l : Link) (v : Verdict) → Named n w → ServesRunAt w node link l v w' → ServesRunAt (mine n w) node link l v (mine n w')
run-mine n w w' link node l v h x =
    let same : keep (λ (e : EntryModel). is_ours n e.ticket) (w.history ++ entries_of w.moment x.1) ≡ keep (λ e. is_ours n e.ticket) w.history ++ entries_of w.moment x.1
    = keep-joins (λ (e : EntryModel). is_ours n e.ticket) w.history (entries_of w.moment x.1) ∙ ap (λ es. keep (λ (e : EntryModel). is_ours n e.ticket) w.history ++ es) (keep-all (λ (e : EntryModel). is_ours n e.ticket) (entries_of w.moment x.1) (λ k y e. born-ours n w h y (entries-at w x.1 x.4 k y e))) in (
      x.0,
      x.1,
      x.2,
      x.3,
      x.4,
      x.5,
      x.6,
      ap (mine n) x.7 ∙ ap (λ es. record w { cluster = x.2; links = slice_set w.links link (all_replied (record l { requests = x.0; asking = false }) x.1); history = es }) same,
    )

-- an event looks at no history; so it is one with our entries alone
pub does-mine : (n : ℕ) (e : Event) (w w' : WorldModel) → Named n w → WorldDoes w e w' → WorldDoes (mine n w) e (mine n w')
does-mine n (Arrive client part) w w' h d = (d.0, ap (mine n) d.1)
does-mine n (Post tickets node) w w' h d = (d.0, d.1, d.2, d.3, d.4, ap (mine n) d.5)
does-mine n (Carry lane link) w w' h d = (d.0, d.1, d.2, d.3, d.4, ap (mine n) d.5)
does-mine n (Refuse lane) w w' h d = (d.0, d.1, d.2, ap (mine n) d.3)
does-mine n (Serve link v) w w' h d = (d.0, d.1, go d.2)
  where
    go : ServesAsking w link d.0 v w' ⊎ ServesRun w link d.0 v w' → ServesAsking (mine n w) link d.0 v (mine n w') ⊎ ServesRun (mine n w) link d.0 v (mine n w')
    go (inl x) = inl (x.0, x.1, x.2, ap (mine n) x.3)
    go (inr x) = inr (run-mine n w w' link (d.0).node d.0 v h x)
does-mine n (Fetch link) w w' h d = (d.0, d.1, d.2, go d.3)
  where
    go : FetchesWelcome w link d.0 w' ⊎ FetchesReply w link d.0 w' → FetchesWelcome (mine n w) link d.0 (mine n w') ⊎ FetchesReply (mine n w) link d.0 (mine n w')
    go (inl x) = inl (x.0, x.1, ap (mine n) x.2)
    go (inr x) = inr (x.0, x.1, x.2, x.3, ap (mine n) x.4)
does-mine n (Take lane) w w' h d = (d.0, d.1, d.2, d.3, d.4, d.5, d.6, ap (mine n) d.7)
does-mine n (Drop link) w w' h d = (d.0, d.1, d.2, ap (mine n) d.3)
does-mine n (Discard link) w w' h d = (d.0, d.1, d.2, d.3, ap (mine n) d.4)
does-mine n (ev.Answer client) w w' h d = (d.0, d.1, d.2, d.3, d.4, d.5, d.6, d.7, ap (mine n) d.8)
does-mine n (Import slot target) w w' h d = (d.0, d.1, ap (mine n) d.2)
does-mine n (Migrate slot) w w' h d = (d.0, ap (mine n) d.1)
does-mine n (MoveKey slot key) w w' h d = (d.0, ap (mine n) d.1)
does-mine n (Own slot) w w' h d = (d.0, ap (mine n) d.1)
does-mine n (Release slot) w w' h d = (d.0, ap (mine n) d.1)
does-mine n (Forget slot) w w' h d = (d.0, ap (mine n) d.1)
does-mine n (Stay slot) w w' h d = (d.0, ap (mine n) d.1)
