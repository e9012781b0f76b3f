-- What each event takes from a world's items and adds to them.
use Rattle.std.proofs.Common.{◌≡◌, ◌⊎◌, inl, inr, ℕ, ◌+◌, Bool, true, false, List, [], ◌∷◌, ◌++◌, map, Some, refl, sym, ap, ◌∙◌, subst, arith}
use Rattle.std.proofs.lemmas.List.Quantifiers.{position-Some}
use Rattle.std.proofs.lemmas.Bool.Decides.{nat_tests}
use Rattle.key_split.specs.Same.{same_ticket}
use Rattle.std.specs.Prelude.{slice_get, slice_set, if◌then◌else◌, All}
use Rattle.std.proofs.lemmas.Option.{get_or_from_slice_get, slice_get_within}
use Rattle.key_split.specs.PartModel.{PartModel}
use Rattle.key_split.specs.declared.travel.Ticket.{Ticket}
use Rattle.key_split.specs.declared.travel.Told.{Told}
use Rattle.key_split.specs.declared.travel.Told.TheVariants.{Unsent}
use Rattle.command_future.specs.CommandModel.{MayPostTo, asks_at}
use Rattle.world_laws.specs.State.{WorldModel, Arrival, Posted, Link, LinkRequest, LinkReply, awaiting, after_told, new_link, requests_of, sent, replied, all_replied, replies_of, tickets_told, answered_of, sent_of, waiting}
use Rattle.world_laws.specs.declared.state.LinkRequest.TheVariants.{Asking, Runs}
use Rattle.world_laws.specs.declared.state.LinkReply.TheVariants.{Welcome, To}
use Rattle.world_laws.specs.Places.{Item, total, in_requests, in_backs, in_lane, in_link, tally, is}
use Rattle.world_laws.specs.Places.Item.{Stands, Lies, Sent, Comes}
use Rattle.node_model.specs.declared.role.Verdict.{Verdict}
use Rattle.world_laws.specs.World.{WorldDoes, IsOf, Way, GoOut, CarriesOver, ServesAsking, ServesRunAt, FetchesWelcome, FetchesReply, arrival}
use Rattle.world_laws.specs.declared.event.Event.TheVariants.{Arrive, Post, Carry, Refuse, Serve, Fetch, Take, Drop, Discard, Import, Migrate, MoveKey, Own, Release, Forget, Stay}
use Rattle.world_laws.specs.declared.event.Event.TheVariants as ev
use Rattle.world_laws.proofs.Tally.{total-append, total-set, total-remove, flag_after}

pub all_at : {X : Type 0} (P : X → Type 0) (xs : List X) (i : ℕ) (x : X) → slice_get xs i ≡ Some x → All P xs → P x
all_at P xs i x e h = subst P (get_or_from_slice_get xs i x x e) (h i x (slice_get_within xs i x e))

-- lists of a link

pub in_requests-sent : (f : Item → ℕ) (o : Bool) (n : ℕ) (flag : Bool) (rs : List LinkRequest) (b : Posted) → flag_after flag rs ≡ false
    → in_requests f o n flag (rs ++ requests_of b) ≡ in_requests f o n flag rs + total (λ t. f (Sent o n b.asking t)) b.tickets
in_requests-sent f o n flag [] b h = omega (arith, go b.asking)
  where
    go : (a : Bool) → in_requests f o n flag (if a then Asking ∷ Runs b.tickets ∷ [] else Runs b.tickets ∷ []) ≡ total (λ t. f (Sent o n a t)) b.tickets
    go true = omega arith
    go false = omega (arith, ap (λ (x : Bool). total (λ t. f (Sent o n x t)) b.tickets) h)
in_requests-sent f o n flag (Asking ∷ rs) b h = in_requests-sent f o n true rs b h
in_requests-sent f o n flag (Runs t ∷ rs) b h = omega (arith, in_requests-sent f o n false rs b h)

pub in_backs-append : (f : Item → ℕ) (xs ys : List LinkReply) → in_backs f (xs ++ ys) ≡ in_backs f xs + in_backs f ys
in_backs-append f [] ys = omega arith
in_backs-append f (Welcome ∷ xs) ys = in_backs-append f xs ys
in_backs-append f (To t told ∷ xs) ys = omega (arith, in_backs-append f xs ys)

-- an item, if the link is open
abbrev pub if_open : Bool → ℕ → ℕ
if_open true n = n
if_open false n = 0

pub in_backs-replies : (f : Item → ℕ) (run : List (Arrival × Told)) → in_backs f (replies_of run) ≡ total (λ p. f (Comes p.0.command.ticket p.1)) run
in_backs-replies f [] = refl
in_backs-replies f (p ∷ ps) = omega (arith, in_backs-replies f ps)

pub in_link-replied : (f : Item → ℕ) (l : Link) (run : List (Arrival × Told)) → in_link f (all_replied l run) ≡ in_link f l + if_open l.is_open (total (λ p. f (Comes p.0.command.ticket p.1)) run)
in_link-replied f l run = go l.is_open
  where
    go : (o : Bool) → in_link f (all_replied (record l { is_open = o }) run) ≡ in_link f (record l { is_open = o }) + if_open o (total (λ p. f (Comes p.0.command.ticket p.1)) run)
    go true = omega (arith, in_backs-append f l.backs (replies_of run), in_backs-replies f run)
    go false = omega arith

pub in_link-welcomed : (f : Item → ℕ) (l : Link) → in_link f (replied l Welcome) ≡ in_link f l
in_link-welcomed f l = go l.is_open
  where
    go : (o : Bool) → in_link f (replied (record l { is_open = o }) Welcome) ≡ in_link f (record l { is_open = o })
    go true = omega (arith, in_backs-append f l.backs (Welcome ∷ []))
    go false = refl

-- no link that is open ends with ASKING alone
abbrev pub IsTidy : Link → Type 0
IsTidy l = l.is_open ≡ true → flag_after l.asking l.requests ≡ false

-- a ticket's command has it

pub same-ticket : (t u : Ticket) → same_ticket t u ≡ true → u ≡ t
same-ticket t u e =
    let wk : t.worker ≡ u.worker = grind (arith, nat_tests) in
    let cl : t.client ≡ u.client = grind (arith, nat_tests) in
    let pt : t.part ≡ u.part = grind (arith, nat_tests) in
    λ j. record { worker = sym wk j; client = sym cl j; part = sym pt j }

pub of-ticket : (t : Ticket) (cs : List Arrival) (i : ℕ) (c : Arrival) → IsOf t cs i c → c.command.ticket ≡ t
of-ticket t cs i c h =
    let p : Arrival → Bool = λ x. same_ticket t x.command.ticket in
    same-ticket t c.command.ticket (ap p (sym (get_or_from_slice_get cs i c c h.1)) ∙ (position-Some p cs i c h.0).1)

-- what the commands of a run leave and become, as each goes out
pub out-flow : (f : Item → ℕ) (e g : Ticket → ℕ) (way : Way) (node : ℕ) → ((c : Arrival) → MayPostTo c.command.stage node → asks_at c.command.stage ≡ way.asking → f (Stands (awaiting c)) + e c.command.ticket ≡ f (Stands c) + g c.command.ticket)
    → (before ts : List Ticket) (cs cs' : List Arrival) → GoOut way node before ts cs cs' → total (λ c. f (Stands c)) cs' + total e ts ≡ total (λ c. f (Stands c)) cs + total g ts
out-flow f e g way node step before [] cs cs' d = omega (arith, ap (total (λ (c : Arrival). f (Stands c))) d)
out-flow f e g way node step before (t ∷ ts) cs cs' d =
    let u : (d.1).command.ticket ≡ t = of-ticket t cs d.0 d.1 d.2 in
    omega (
      arith,
      total-set (λ (c : Arrival). f (Stands c)) cs d.0 d.1 (awaiting d.1) d.2.1,
      step d.1 (d.3).2 (d.3).3,
      ap e u,
      ap g u,
      out-flow f e g way node step (before ++ t ∷ []) ts (slice_set cs d.0 (awaiting d.1)) cs' d.5,
    )

module _ (f : Item → ℕ) (w w' : WorldModel) where
  pub arrive-flow : (client : ℕ) (part : PartModel) → WorldDoes w (Arrive client part) w' → tally f w' ≡ tally f w + f (Stands (arrival w client part))
  arrive-flow client part d = omega (arith, ap (tally f) d.1, total-append (λ (c : Arrival). f (Stands c)) w.commands (arrival w client part ∷ []))

  pub post-flow : (tickets : List Ticket) (node : ℕ) (d : WorldDoes w (Post tickets node) w') (e g : Ticket → ℕ)
      → ((c : Arrival) → MayPostTo c.command.stage node → asks_at c.command.stage ≡ (d.0).asking → f (Stands (awaiting c)) + e c.command.ticket ≡ f (Stands c) + g c.command.ticket)
      → tally f w' + total e tickets ≡ tally f w + total g tickets + total (λ t. f (Lies node (d.0).asking t)) tickets
  post-flow tickets node d e g step =
      omega (
        arith,
        ap (tally f) d.5,
        out-flow f e g d.0 node step [] tickets w.commands d.1 d.4,
        total-append (in_lane f) w.ups (record { tickets = tickets; node = node; asking = (d.0).asking } ∷ []),
      )

  pub total_told : (told : Told) (ts : List Ticket) → total (λ (p : Ticket × Told). f (Comes p.0 p.1)) (map (λ t. (t, told)) ts) ≡ total (λ t. f (Comes t told)) ts
  total_told told [] = refl
  total_told told (t ∷ ts) = omega (arith, total_told told ts)

  pub refuse-flow : (lane : ℕ) (d : WorldDoes w (Refuse lane) w') → tally f w' + in_lane f d.1 ≡ tally f w + total (λ t. f (Comes t Unsent)) (d.1).tickets
  refuse-flow lane d =
      omega (
        arith,
        ap (tally f) d.3,
        total-remove (in_lane f) w.ups d.0 d.1 d.2.1,
        total-append (λ (p : Ticket × Told). f (Comes p.0 p.1)) w.downs (map (λ t. (t, Unsent)) (d.1).tickets),
        total_told Unsent (d.1).tickets,
      )

  pub take-flow : (lane : ℕ) (d : WorldDoes w (Take lane) w')
      → tally f w' + f (Stands d.2) + f (Comes (d.2).command.ticket d.3) ≡ tally f w + f (Stands (after_told d.2 d.3))
  take-flow lane d =
      omega (
        arith,
        ap (tally f) d.7,
        total-remove (λ (p : Ticket × Told). f (Comes p.0 p.1)) w.downs d.0 ((d.2).command.ticket, d.3) d.4.1,
        total-set (λ (c : Arrival). f (Stands c)) w.commands d.1 d.2 (after_told d.2 d.3) d.5.1,
      )

  pub answer-flow : (client : ℕ) (d : WorldDoes w (ev.Answer client) w')
      → tally f w' + f (Stands d.1) ≡ tally f w + f (Stands (record (d.1) { answered = true }))
  answer-flow client d =
      omega (arith, ap (tally f) d.8, total-set (λ (c : Arrival). f (Stands c)) w.commands d.0 d.1 (record (d.1) { answered = true }) d.3)

  pub carry-flow : (lane link : ℕ) (d : WorldDoes w (Carry lane link) w') → All IsTidy w.links
      → tally f w' + in_lane f d.1 ≡ tally f w + total (λ t. f (Sent true (d.1).node (d.1).asking t)) (d.1).tickets
  carry-flow lane link d tidy =
      omega (arith, ap (tally f) d.5, total-remove (in_lane f) w.ups d.0 d.1 d.3.1, links d.4)
    where
      links : CarriesOver w link d.1 d.2 → total (in_link f) d.2 ≡ total (in_link f) w.links + total (λ t. f (Sent true (d.1).node (d.1).asking t)) (d.1).tickets
      links (inl h) =
          let tidy_l : flag_after (h.0).asking (h.0).requests ≡ false = all_at IsTidy w.links link h.0 h.1 tidy h.2 in
          let place : total (λ t. f (Sent (h.0).is_open (h.0).node (d.1).asking t)) (d.1).tickets ≡ total (λ t. f (Sent true (d.1).node (d.1).asking t)) (d.1).tickets = λ i. total (λ t. f (Sent (h.2 i) (h.3 i) (d.1).asking t)) (d.1).tickets in
          omega (arith, ap (total (in_link f)) h.4, total-set (in_link f) w.links link h.0 (sent h.0 d.1) h.1, in_requests-sent f (h.0).is_open (h.0).node (h.0).asking (h.0).requests d.1 tidy_l, place)
      links (inr h) =
          omega (
            arith,
            ap (total (in_link f)) h.1,
            total-append (in_link f) w.links (sent (new_link (d.1).node) d.1 ∷ []),
            in_requests-sent f true (d.1).node false [] d.1 refl,
          )

  pub fetch-flow : (link : ℕ) (d : WorldDoes w (Fetch link) w') → tally f w' ≡ tally f w
  fetch-flow link d = go d.3
    where
      go : FetchesWelcome w link d.0 w' ⊎ FetchesReply w link d.0 w' → tally f w' ≡ tally f w
      go (inl h) = omega (arith, ap (tally f) h.2, total-set (in_link f) w.links link d.0 (record (d.0) { backs = h.0 }) d.1, ap (in_backs f) h.1)
      go (inr h) = omega (
        arith,
        ap (tally f) h.4,
        total-set (in_link f) w.links link d.0 (record (d.0) { backs = h.0 }) d.1,
        ap (in_backs f) h.3,
        total-append (λ (p : Ticket × Told). f (Comes p.0 p.1)) w.downs ((h.1, h.2) ∷ []),
      )

  pub discard-flow : (link : ℕ) (d : WorldDoes w (Discard link) w') → tally f w' + in_requests f (d.0).is_open (d.0).node (d.0).asking (d.0).requests ≡ tally f w
  discard-flow link d = omega (arith, ap (tally f) d.4, total-set (in_link f) w.links link d.0 (record (d.0) { requests = [] }) d.1)

  pub drop-flow : (link : ℕ) (d : WorldDoes w (Drop link) w')
      → tally f w' + in_link f d.0 ≡ tally f w + in_requests f false (d.0).node (d.0).asking (d.0).requests + total (λ t. f (Comes t Told.Lost)) (answered_of (d.0).backs) + total (λ t. f (Comes t Told.Lost)) (sent_of (d.0).requests)
  drop-flow link d =
      omega (
        arith,
        ap (tally f) d.3,
        total-set (in_link f) w.links link d.0 (record (d.0) { is_open = false; backs = [] }) d.1,
        total-append (λ (p : Ticket × Told). f (Comes p.0 p.1)) w.downs (map (λ t. (t, Told.Lost)) (waiting d.0)),
        total_told Told.Lost (waiting d.0),
        total-append (λ (t : Ticket). f (Comes t Told.Lost)) (answered_of (d.0).backs) (sent_of (d.0).requests),
      )

  -- ASKING leaves all items
  pub welcome-flow : (link : ℕ) (l : Link) (v : Verdict) → slice_get w.links link ≡ Some l → (d : ServesAsking w link l v w') → tally f w' ≡ tally f w
  welcome-flow link l v is d =
      omega (
        arith,
        ap (tally f) d.3,
        total-set (in_link f) w.links link l (replied (record l { requests = d.0; asking = true }) Welcome) is,
        in_link-welcomed f (record l { requests = d.0; asking = true }),
        ap (in_requests f l.is_open l.node l.asking) d.1,
      )

  -- a run leaves the requests; where the link is open, what its commands are told comes back
  pub serve-flow : (link node : ℕ) (l : Link) (v : Verdict) → slice_get w.links link ≡ Some l → (d : ServesRunAt w node link l v w')
      → tally f w' + total (λ t. f (Sent l.is_open l.node l.asking t)) (tickets_told d.1) ≡ tally f w + if_open l.is_open (total (λ p. f (Comes p.0.command.ticket p.1)) d.1)
  serve-flow link node l v is d =
      omega (
        arith,
        ap (tally f) d.7,
        total-set (in_link f) w.links link l (all_replied (record l { requests = d.0; asking = false }) d.1) is,
        in_link-replied f (record l { requests = d.0; asking = false }) d.1,
        ap (in_requests f l.is_open l.node l.asking) d.3,
      )
