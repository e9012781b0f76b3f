-- In every world that events reach the parts of one client stand in the order of their numbers.
use Rattle.std.proofs.Common.{◌≡◌, ◌⊎◌, inl, inr, ⊎_elim, ℕ, zero, suc, ◌<◌, ◌≤◌, ◌==◌, Bool, true, List, [], ◌∷◌, ◌++◌, Some, refl, sym, ap, ◌∙◌, subst, arith, length}
use Rattle.std.specs.Prelude.{slice_get, slice_set, map, count_by}
use Rattle.std.proofs.lemmas.Option.{slice_get_within}
use Rattle.std.proofs.lemmas.List.Sums.{sum_by-cons}
use Rattle.key_split.specs.declared.travel.Ticket.{Ticket}
use Rattle.world_laws.specs.State.{WorldModel, Link, start_from, awaiting, after_told}
use Rattle.world_laws.specs.World.{WorldDoes, Way, GoOut, ServesAsking, ServesRun, FetchesWelcome, FetchesReply, next_ticket}
use Rattle.world_laws.specs.Places.{total, tally, in_lane, in_link}
use Rattle.world_laws.specs.declared.state.Arrival.{Arrival}
use Rattle.world_laws.specs.declared.state.Posted.{Posted}
use Rattle.world_laws.specs.declared.event.Event.{Event}
use Rattle.world_laws.specs.declared.event.Event.TheVariants.{Arrive, Post, Carry, Refuse, Serve, Fetch, Take, Drop, Discard, Import, Migrate, MoveKey, Own, Release, Forget, Stay, Answer}
use Rattle.world_laws.proofs.Counted.{one_if, owned, ticket-after_told}
use Rattle.world_laws.proofs.Kept.{numbers-so}
use Rattle.world_laws.proofs.Allowed.{ticked as placed-ticked}
use Rattle.world_laws.proofs.Placed.{Standing, numbered_so, owned_by, total-zero, in_requests-tickets, in_backs-tickets}
use Rattle.world_laws.proofs.Recorded.{at-last}
use Rattle.world_laws.proofs.Tally.{total-one}
use Rattle.shared_laws.specs.Shared.{Step}
use Rattle.shared_laws.proofs.SharedRuns.{Steady, does-steady, start-steady, steady-stands}
use Rattle.world_laws.specs.State.{sent_of, answered_of}
use Rattle.turn_laws.specs.Walks.{IsSharedWalked, SharedWalk, ticked}
use Rattle.turn_laws.proofs.Elements.{nothing-there}
use Rattle.turn_laws.proofs.Told.{map-set}

abbrev tickets : List Arrival → List Ticket
tickets cs = map (λ (c : Arrival). c.command.ticket) cs

-- of two of one client the later has the greater number
abbrev AreRising : List Ticket → Type 0
AreRising ts = (i j : ℕ) (t u : Ticket) → slice_get ts i ≡ Some t → slice_get ts j ≡ Some u → j < i → u.client ≡ t.client → u.part < t.part

abbrev pub Rising : List Arrival → Type 0
Rising cs = (i j : ℕ) (c d : Arrival) → slice_get cs i ≡ Some c → slice_get cs j ≡ Some d → j < i → d.command.ticket.client ≡ c.command.ticket.client → d.command.ticket.part < c.command.ticket.part

-- ---- each event but an arrival keeps the tickets

pub map-more : {X Y : Type 0} (f : X → Y) (xs : List X) (y : X) → map f (xs ++ y ∷ []) ≡ map f xs ++ f y ∷ []
map-more f [] y = refl
map-more f (x ∷ xs) y = ap (λ us. f x ∷ us) (map-more f xs y)

pub map-at : {X Y : Type 0} (f : X → Y) (xs : List X) (i : ℕ) (x : X) → slice_get xs i ≡ Some x → slice_get (map f xs) i ≡ Some (f x)
map-at f [] i x e = absurd (nothing-there i x e)
map-at f (z ∷ xs) zero x e = let same : z ≡ x = cc in ap (λ u. Some (f u)) same
map-at f (z ∷ xs) (suc i) x e = map-at f xs i x e

pub map-was : {X Y : Type 0} (f : X → Y) (xs : List X) (i : ℕ) (y : Y) → slice_get (map f xs) i ≡ Some y → (x : X) × (slice_get xs i ≡ Some x) × (f x ≡ y)
map-was f [] i y e = absurd (nothing-there i y e)
map-was f (z ∷ xs) zero y e = let same : f z ≡ y = cc in (z, refl, same)
map-was f (z ∷ xs) (suc i) y e = map-was f xs i y e

out-tickets : (way : Way) (node : ℕ) (before ts : List Ticket) (cs cs' : List Arrival) → GoOut way node before ts cs cs' → tickets cs' ≡ tickets cs
out-tickets way node before [] cs cs' d = ap tickets d
out-tickets way node before (t ∷ ts) cs cs' d =
    out-tickets way node (before ++ t ∷ []) ts (slice_set cs d.0 (awaiting d.1)) cs' d.5 ∙ map-set (λ (c : Arrival). c.command.ticket) cs d.0 d.1 (awaiting d.1) d.2.1 refl

abbrev Numbers : WorldModel → WorldModel → Type 0
Numbers w w' = (tickets w'.commands ≡ tickets w.commands) ⊎ ((client : ℕ) × (tickets w'.commands ≡ tickets w.commands ++ next_ticket w client ∷ []))

abbrev commands_of : WorldModel → List Ticket
commands_of w = tickets w.commands

does-numbers : (e : Event) (w w' : WorldModel) → WorldDoes w e w' → Numbers w w'
does-numbers (Arrive client part) w w' d = inr (client, ap commands_of d.1 ∙ map-more (λ (c : Arrival). c.command.ticket) w.commands _)
does-numbers (Post posted node) w w' d = inl (ap commands_of d.5 ∙ out-tickets d.0 node [] posted w.commands d.1 d.4)
does-numbers (Carry lane link) w w' d = inl (ap commands_of d.5)
does-numbers (Refuse lane) w w' d = inl (ap commands_of d.3)
does-numbers (Serve link verdict) w w' d = inl (⊎_elim (λ (x : ServesAsking w link d.0 verdict w'). ap commands_of x.3) (λ (x : ServesRun w link d.0 verdict w'). ap commands_of x.7) d.2)
does-numbers (Fetch link) w w' d = inl (⊎_elim (λ (x : FetchesWelcome w link d.0 w'). ap commands_of x.2) (λ (x : FetchesReply w link d.0 w'). ap commands_of x.4) d.3)
does-numbers (Take lane) w w' d = inl (ap commands_of d.7 ∙ map-set (λ (c : Arrival). c.command.ticket) w.commands d.1 d.2 (after_told d.2 d.3) d.5.1 (ticket-after_told d.2 d.3))
does-numbers (Drop link) w w' d = inl (ap commands_of d.3)
does-numbers (Discard link) w w' d = inl (ap commands_of d.4)
does-numbers (Import slot target) w w' d = inl (ap commands_of d.2)
does-numbers (Migrate slot) w w' d = inl (ap commands_of d.1)
does-numbers (MoveKey slot key) w w' d = inl (ap commands_of d.1)
does-numbers (Own slot) w w' d = inl (ap commands_of d.1)
does-numbers (Release slot) w w' d = inl (ap commands_of d.1)
does-numbers (Forget slot) w w' d = inl (ap commands_of d.1)
does-numbers (Stay slot) w w' d = inl (ap commands_of d.1)
does-numbers (Answer client) w w' d = inl (ap commands_of d.8 ∙ map-set (λ (c : Arrival). c.command.ticket) w.commands d.0 d.1 (record (d.1) { answered = true }) d.3 refl)

-- ---- the next number is above all others

all-owned : (p : Ticket → Bool) (w : WorldModel) → tally (owned p) w ≡ total (λ (c : Arrival). one_if (p c.command.ticket)) w.commands
all-owned p w = omega (arith, lanes w.ups, total-zero w.downs, links w.links)
  where
    lanes : (bs : List Posted) → total (in_lane (owned p)) bs ≡ 0
    lanes [] = refl
    lanes (b ∷ bs) = omega (arith, total-zero b.tickets, lanes bs)

    links : (ls : List Link) → total (in_link (owned p)) ls ≡ 0
    links [] = refl
    links (l ∷ ls) = omega (
      arith,
      in_requests-tickets (owned p) (λ _. 0) l.is_open l.node (λ _ _. refl) l.asking l.requests,
      in_backs-tickets (owned p) (λ _. 0) (λ _ _. refl) l.backs,
      total-zero (sent_of l.requests),
      total-zero (answered_of l.backs),
      links ls,
    )

total-counts : {X : Type 0} (q : X → Bool) (xs : List X) → total (λ x. one_if (q x)) xs ≡ count_by q xs
total-counts q [] = refl
total-counts q (x ∷ xs) = omega (arith, total-counts q xs, sum_by-cons (λ x. one_if (q x)) x xs)

pub above-all : (w : WorldModel) → Standing w → (client j : ℕ) (d : Arrival) → slice_get w.commands j ≡ Some d → d.command.ticket.client ≡ client → d.command.ticket.part < (next_ticket w client).part
above-all w h client j d at of =
    let part : ℕ = d.command.ticket.part in
    let one : one_if (numbered_so client part d.command.ticket) ≡ 1 = ap one_if (numbers-so d.command.ticket client part of refl) in
    let counted : tally (owned (owned_by client)) w ≡ (next_ticket w client).part = all-owned (owned_by client) w ∙ total-counts (λ (c : Arrival). c.command.ticket.client == client) w.commands in
    let alone : (next_ticket w client).part ≤ part → ⊥ = λ le.
    let none = h.below client part (omega (arith, counted, le)) in
    omega (arith, none, one, all-owned (numbered_so client part) w, total-one (λ (c : Arrival). one_if (numbered_so client part c.command.ticket)) w.commands j d at) in
    not-less part (next_ticket w client).part alone
  where
    not-less : (a b : ℕ) → (b ≤ a → ⊥) → a < b
    not-less a b no' = ⊎_elim (λ (x : a < b). x) (λ (x : b ≤ a). absurd (no' x)) (either a b)
      where
        either : (a b : ℕ) → (a < b) ⊎ (b ≤ a)
        either a b = grind arith

rising-does : (e : Event) (w w' : WorldModel) → Standing w → AreRising (tickets w.commands) → WorldDoes w e w' → AreRising (tickets w'.commands)
rising-does e w w' h r d = ⊎_elim
    (λ (x : tickets w'.commands ≡ tickets w.commands). subst AreRising (sym x) r)
    (λ (x : (client : ℕ) × (tickets w'.commands ≡ tickets w.commands ++ next_ticket w client ∷ [])). subst AreRising (sym x.1) (more x.0))
    (does-numbers e w w' d)
  where
    more : (client : ℕ) → AreRising (tickets w.commands ++ next_ticket w client ∷ [])
    more client i j t u p q lt same = ⊎_elim
        (λ (x : slice_get (tickets w.commands) i ≡ Some t). ⊎_elim
        (λ (y : slice_get (tickets w.commands) j ≡ Some u). r i j t u x y lt same)
        (λ (y : (j ≡ length (tickets w.commands)) × (u ≡ next_ticket w client)). let within = slice_get_within (tickets w.commands) i t x in absurd (omega (arith, y.0, lt, within)))
        (at-last (tickets w.commands) (next_ticket w client) j u q))
        (λ (x : (i ≡ length (tickets w.commands)) × (t ≡ next_ticket w client)). ⊎_elim
        (λ (y : slice_get (tickets w.commands) j ≡ Some u).
        let was = map-was (λ (c : Arrival). c.command.ticket) w.commands j u y in
        let of : (was.0).command.ticket.client ≡ client = ap (λ (z : Ticket). z.client) was.2 ∙ same ∙ ap (λ (z : Ticket). z.client) x.1 in
        let lt' = above-all w h client j was.0 was.1 of in
        omega (arith, lt', ap (λ (z : Ticket). z.part) was.2, ap (λ (z : Ticket). z.part) x.1))
        (λ (y : (j ≡ length (tickets w.commands)) × (u ≡ next_ticket w client)). absurd (omega (arith, x.0, y.0, lt)))
        (at-last (tickets w.commands) (next_ticket w client) j u q))
        (at-last (tickets w.commands) (next_ticket w client) i t p)

rising-walk : (n : ℕ) (ss : List Step) (w w' : WorldModel) → Steady n w → AreRising (tickets w.commands) → SharedWalk w ss w' → AreRising (tickets w'.commands)
rising-walk n [] w w' s r x = subst (λ (v : WorldModel). AreRising (tickets v.commands)) (sym x) r
rising-walk n (Step.Ours e ∷ ss) w w' s r x = rising-walk n ss x.0 w' (does-steady n (Step.Ours e) w x.0 s x.1) (rising-does e (ticked w) x.0 (placed-ticked w (steady-stands n w s)) r x.1) x.2
rising-walk n (Step.Led link node verdict ∷ ss) w w' s r x =
    rising-walk n ss x.0 w' (does-steady n (Step.Led link node verdict) w x.0 s x.1) (subst (λ (v : WorldModel). AreRising (tickets v.commands)) (sym x.1.4.7) r) x.2
rising-walk n (Step.Theirs node asking es ∷ ss) w w' s r x = rising-walk n ss x.0 w' (does-steady n (Step.Theirs node asking es) w x.0 s x.1) (subst (λ (v : WorldModel). AreRising (tickets v.commands)) (sym x.1.2) r) x.2
rising-walk n (Step.Passes ∷ ss) w w' s r x = rising-walk n ss x.0 w' (does-steady n Step.Passes w x.0 s x.1) (subst (λ (v : WorldModel). AreRising (tickets v.commands)) (sym x.1) r) x.2

pub walked-rising : (w : WorldModel) → IsSharedWalked w → Rising w.commands
walked-rising w h i j c d p q lt same =
    rising-walk h.0 h.4 (start_from h.0 h.1 h.2 h.3) w (start-steady h.0 h.1 h.2 h.3 h.5) (λ i j t u p. absurd (nothing-there i t p)) h.6 i j c.command.ticket d.command.ticket
    (map-at (λ (c : Arrival). c.command.ticket) w.commands i c p) (map-at (λ (c : Arrival). c.command.ticket) w.commands j d q) lt same
