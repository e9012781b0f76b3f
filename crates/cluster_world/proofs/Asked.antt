-- Where nothing asks at a node, no ticket's command does.
use Rattle.std.proofs.Common.{◌≡◌, ◌↔◌, ℕ, zero, suc, ◌+◌, ◌≤◌, ◌==◌, not, length, ◌&&◌, Bool, true, false, List, [], ◌∷◌, Option, Some, None, refl, sym, ap, ◌∙◌, subst, arith}
use Rattle.std.specs.Prelude.{slice_index_or, if◌then◌else◌}
use Rattle.std.proofs.lemmas.Bool.Decides.{nat_tests}
use Rattle.key_split.specs.Same.{same_ticket, same_ticket-Decides}
use Rattle.key_split.specs.declared.travel.Ticket.{Ticket}
use Rattle.key_split.specs.declared.travel.Told.{Told}
use Rattle.key_split.specs.declared.travel.Told.TheVariants.{Reply, Moved, Ask, TryAgain, ClusterDown, Unclear, Unsent}
use Rattle.command_future.specs.declared.stage.Stage.{Stage}
use Rattle.command_future.specs.declared.stage.Stage.TheVariants.{Wants, WantsAsking, Awaits, Over}
use Rattle.world_laws.specs.State.{WorldModel, Link}
use Rattle.world_laws.specs.World.{IsAmong}
use Rattle.world_laws.specs.Places.{Item, in_backs, in_requests, is, asks_in_stage, asks_in_told, total}
use Rattle.world_laws.specs.Places.Item.{Stands, Lies, Sent, Comes}
use Rattle.world_laws.specs.declared.state.LinkReply.{LinkReply}
use Rattle.world_laws.specs.declared.state.LinkReply.TheVariants.{Welcome, To}
use Rattle.world_laws.specs.declared.state.LinkRequest.{LinkRequest}
use Rattle.world_laws.specs.declared.state.LinkRequest.TheVariants.{Asking, Runs}
use Rattle.world_laws.specs.declared.state.Posted.{Posted}
use Rattle.cluster_world.specs.Rests.{any_at, in_request, one_at, sets_flag, sought, LinkRests, Rests, RunRests, TicketsRest}

one : (t u : Ticket) → is t u ≤ 1
one t u = go (same_ticket t u)
  where
    go : (b : Bool) → (if b then 1 else 0) ≤ 1
    go true = omega arith
    go false = omega arith

picked : (b : Bool) (n : ℕ) → n ≤ 1 → (if b then n else 0) ≤ (if b then 1 else 0)
picked true n le = le
picked false n le = omega arith

in-stage : (node n : ℕ) (s : Stage) → n ≤ 1 → asks_in_stage node s n ≤ asks_in_stage node s 1
in-stage node n (WantsAsking m) le = picked (m == node) n le
in-stage node n (Wants m) le = omega arith
in-stage node n Awaits le = omega arith
in-stage node n (Over e) le = omega arith

in-told : (node n : ℕ) (told : Told) → n ≤ 1 → asks_in_told node told n ≤ asks_in_told node told 1
in-told node n (Ask slot m) le = picked (m == node) n le
in-told node n (Reply v) le = omega arith
in-told node n (Moved slot m) le = omega arith
in-told node n TryAgain le = omega arith
in-told node n ClusterDown le = omega arith
in-told node n Unclear le = omega arith
in-told node n Unsent le = omega arith
in-told node n Told.Lost le = omega arith

least : (node : ℕ) (t : Ticket) (i : Item) → sought (one_at node t) i ≤ sought (any_at node) i
least node t (Stands c) = in-stage node (is t c.command.ticket) c.command.stage (one t c.command.ticket)
least node t (Lies m asking u) = picked (asking && (m == node)) (is t u) (one t u)
least node t (Sent o m asking u) = picked (asking && (m == node)) (is t u) (one t u)
least node t (Comes u told) = in-told node (is t u) told (one t u)

module _ (node : ℕ) (t : Ticket) where
  abbrev one' : Item → ℕ
  one' = sought (one_at node t)

  abbrev any' : Item → ℕ
  any' = sought (any_at node)

  tickets-le : (f g : Ticket → ℕ) → ((u : Ticket) → f u ≤ g u) → (ts : List Ticket) → total f ts ≤ total g ts
  tickets-le f g le [] = omega arith
  tickets-le f g le (u ∷ ts) = omega (arith, le u, tickets-le f g le ts)

  requests-le : (o : Bool) (n : ℕ) (flag : Bool) (rs : List LinkRequest) → in_requests one' o n flag rs ≤ in_requests any' o n flag rs
  requests-le o n flag [] = omega arith
  requests-le o n flag (Asking ∷ rs) = requests-le o n true rs
  requests-le o n flag (Runs ts ∷ rs) =
      omega (arith, tickets-le (λ u. one' (Sent o n flag u)) (λ u. any' (Sent o n flag u)) (λ u. least node t (Sent o n flag u)) ts, requests-le o n false rs)

  backs-le : (bs : List LinkReply) → in_backs one' bs ≤ in_backs any' bs
  backs-le [] = omega arith
  backs-le (Welcome ∷ bs) = backs-le bs
  backs-le (To u told ∷ bs) = omega (arith, least node t (Comes u told), backs-le bs)

  link-rests : (l : Link) → LinkRests l (any_at node) → LinkRests l (one_at node t)
  unfolding LinkRests
  link-rests l h = (omega (arith, h.0, requests-le l.is_open l.node l.asking l.requests), omega (arith, h.1, backs-le l.backs))

  run-rests' : (b : Posted) → RunRests b (any_at node) → RunRests b (one_at node t)
  unfolding RunRests
  run-rests' b e = omega (arith, e, tickets-le (λ u. one' (Lies b.node b.asking u)) (λ u. any' (Lies b.node b.asking u)) (λ u. least node t (Lies b.node b.asking u)) b.tickets)

  item-rests : (i : Item) → any' i ≡ 0 → one' i ≡ 0
  item-rests i e = omega (arith, e, least node t i)

  -- where nothing asks at the node, this one does not
  pub any-rests : (w : WorldModel) → Rests w (any_at node) → Rests w (one_at node t)
  unfolding Rests
  any-rests w r = record {
    commands = λ k d lt. item-rests (Stands (slice_index_or w.commands k d)) (r.commands k d lt);
    ups = λ k d lt. run-rests' (slice_index_or w.ups k d) (r.ups k d lt);
    links = λ k d lt. link-rests (slice_index_or w.links k d) (r.links k d lt);
    downs = λ k d lt. item-rests (Comes (slice_index_or w.downs k d).0 (slice_index_or w.downs k d).1) (r.downs k d lt);
  }

-- of a run, by its tickets

abbrev counts : Bool → ℕ
counts b = if b then 1 else 0

same-one : (t u : Ticket) → is t u ≡ 0 → t ≡ u → ⊥
same-one t u none same = go (same_ticket t u) ((same_ticket-Decides t u).1 same) none
  where
    go : (b : Bool) → b ≡ true → counts b ≡ 0 → ⊥
    go true e none = omega (arith, none)
    go false e none = absurd (cc)

other-one : (t u : Ticket) → (t ≡ u → ⊥) → is t u ≡ 0
other-one t u apart = go (same_ticket t u) (same_ticket-Decides t u).0
  where
    go : (b : Bool) → (b ≡ true → t ≡ u) → counts b ≡ 0
    go true so = absurd (apart (so refl))
    go false so = refl

-- no ticket of the run is this one
total-none : (t : Ticket) (ts : List Ticket) → (IsAmong ts t → ⊥) → total (is t) ts ≡ 0
total-none t [] never = refl
total-none t (u ∷ ts) never = omega (arith, other-one t u (λ same. never (0, ap Some (sym same))), total-none t ts (λ a. never (suc a.0, a.1)))

none-total : (t : Ticket) (ts : List Ticket) → total (is t) ts ≡ 0 → IsAmong ts t → ⊥
none-total t [] e (k, at) = absurd (cc)
none-total t (u ∷ ts) e (zero, at) = let same : u ≡ t = cc in same-one t u (omega (arith, e)) (sym same)
none-total t (u ∷ ts) e (suc k, at) = none-total t ts (omega (arith, e)) (k, at)

total-off : (f : Ticket → ℕ) (ts : List Ticket) → ((u : Ticket) → f u ≡ 0) → total f ts ≡ 0
total-off f [] off = refl
total-off f (u ∷ ts) off = omega (arith, off u, total-off f ts off)

none-sought : (ts : List Ticket) → ((length ts == 0) ≡ true) ↔ (total (λ (u : Ticket). 1) ts ≡ 0)
none-sought [] = (λ none. refl, λ e. refl)
none-sought (t ∷ ts) = (λ none. never (length ts) none, λ e. absurd (omega (arith, e)))
  where
    never : {P : Type 0} (n : ℕ) → (suc n == 0) ≡ true → P
    never n e = absurd (grind (arith, nat_tests))

pub not-so : (b : Bool) (P Q : Type 0) → ((b ≡ true) ↔ P) → ((P → ⊥) ↔ Q) → (not b ≡ true) ↔ Q
not-so true P Q s r = (λ t. absurd (let no : false ≡ true = t in cc), λ q. absurd (r.1 q (s.0 refl)))
not-so false P Q s r = (λ t. r.0 (λ p. let no : false ≡ true = s.1 p in absurd (cc)), λ q. refl)

-- none of the tickets is sought: they do not go to ask, or the one is not among them, or there are none

pub off-rest : (ts : List Ticket) (goes : Bool) (named : Option Ticket) → goes ≡ false → (true ≡ true) ↔ TicketsRest ts goes named
unfolding TicketsRest
off-rest ts goes named off = subst (λ g. (true ≡ true) ↔ TicketsRest ts g named) (sym off) (λ t. total-off (λ u. 0) ts (λ u. refl), λ r. refl)

pub one-rests : (ts : List Ticket) (goes : Bool) (named : Option Ticket) (t : Ticket) (among : Bool) → goes ≡ true → named ≡ Some t → ((among ≡ true) ↔ IsAmong ts t)
    → (not among ≡ true) ↔ TicketsRest ts goes named
unfolding TicketsRest
one-rests ts goes named t among on is tells =
    subst (λ (p : Bool × Option Ticket). (not among ≡ true) ↔ TicketsRest ts p.0 p.1) (λ i. (sym on i, sym is i))
    (not-so among (IsAmong ts t) (TicketsRest ts true (Some t)) tells (total-none t ts, none-total t ts))

pub none-rest : (ts : List Ticket) (goes : Bool) (named : Option Ticket) (empty : Bool) → goes ≡ true → named ≡ None → empty ≡ (length ts == 0)
    → (empty ≡ true) ↔ TicketsRest ts goes named
unfolding TicketsRest
none-rest ts goes named empty on is tells =
    subst (λ (p : Bool × Option Ticket). (empty ≡ true) ↔ TicketsRest ts p.0 p.1) (λ i. (sym on i, sym is i))
    (λ t. (none-sought ts).0 (sym tells ∙ t), λ r. tells ∙ (none-sought ts).1 r)

-- a link's requests, the first of them by itself
pub one-request : (f : Item → ℕ) (o : Bool) (n : ℕ) (flag : Bool) (r : LinkRequest) (rs : List LinkRequest) → in_requests f o n flag (r ∷ rs) ≡ in_request f o n flag r + in_requests f o n (sets_flag r) rs
one-request f o n flag Asking rs = omega arith
one-request f o n flag (Runs ts) rs = refl
