-- The data, the history and the commands that ASK sent: kept by every event.
use Rattle.std.proofs.Common.{◌≡◌, ◌≢◌, ◌⊎◌, inl, inr, ⊎_elim, ℕ, zero, suc, ◌+◌, ◌≤◌, ◌==◌, ◌&&◌, Bool, true, false, List, [], ◌∷◌, Some, None, refl, sym, ap, subst, arith, ◌++◌}
use Rattle.std.specs.Prelude.{slice_get, slice_set, All, if◌then◌else◌}
use Rattle.std.proofs.lemmas.List.Elements.{All-set, All-append}
use Rattle.std.proofs.lemmas.Bool.Decides.{eqb_tells, nat_tests}
use Rattle.std.specs.FinMap.{get}
use Rattle.std.specs.Prelude.{is_some}
use Rattle.slot_hash.specs.Slot.{slot_of}
use Rattle.key_split.specs.PartModel.{PartModel, HasOneSlot, keys_of}
use Rattle.key_split.specs.Same.{same_ticket}
use Rattle.key_split.specs.declared.travel.Ticket.{Ticket}
use Rattle.key_split.specs.declared.travel.Told.{Told}
use Rattle.key_split.specs.declared.travel.Told.TheVariants.{Reply, Moved, Ask, TryAgain, ClusterDown, Unclear, Unsent}
use Rattle.key_split.specs.declared.travel.Ended.{Ended}
use Rattle.key_split.specs.declared.travel.Ended.TheVariants.{Answered, GaveUp}
use Rattle.command_future.specs.CommandModel.{MayPostTo, asks_at, refused_at}
use Rattle.command_future.specs.declared.stage.Stage.{Stage}
use Rattle.command_future.specs.declared.stage.Stage.TheVariants.{Wants, WantsAsking, Awaits, Over}
use Rattle.world_laws.specs.State.{WorldModel, Arrival, Posted, Link, LinkRequest, LinkReply, slot_for, awaiting, after_told, answered_of, sent_of}
use Rattle.world_laws.specs.declared.state.LinkRequest.TheVariants.{Asking, Runs}
use Rattle.world_laws.specs.declared.state.LinkReply.TheVariants.{Welcome, To}
use Rattle.world_laws.specs.Places.{Item, total, in_requests, in_backs, in_lane, in_link, tally, is, asks, asks_in_stage, asks_in_told}
use Rattle.world_laws.specs.Places.Item.{Stands, Lies, Sent, Comes}
use Rattle.node_model.specs.History.{EntryModel, IsLegal, left_by}
use Rattle.node_model.specs.Store.{StoreModel}
use Rattle.node_model.specs.Standings.{SlotStandingModel}
use Rattle.node_model.specs.Nodes.{ClusterModel, standing_at, at}
use Rattle.node_model.specs.declared.standing.Phase.TheVariants.{Settled}
use Rattle.node_model.specs.declared.role.Verdict.{Verdict}
use Rattle.world_laws.specs.World.{WorldDoes, Way, GoOut, ServesAsking, FetchesWelcome, FetchesReply, arrival}
use Rattle.world_laws.specs.declared.event.Event.TheVariants.{Arrive, Post, Carry, Refuse, Serve, Fetch, Take, Drop, Discard, Import, Migrate, MoveKey, Own, Release, Forget, Stay}
use Rattle.world_laws.specs.declared.event.Event.TheVariants as ev
use Rattle.world_laws.proofs.Tally.{total-two, tally-le}
use Rattle.world_laws.proofs.Flow.{all_at, IsTidy, arrive-flow, post-flow, refuse-flow, take-flow, answer-flow, carry-flow, fetch-flow, discard-flow, drop-flow, welcome-flow}
use Rattle.world_laws.proofs.Counted.{one_if, if_ran, if_awaits, if_ran_told, here, awaits, stray, ran, owned, stood, ticket-after_told, part-after_told}
use Rattle.world_laws.proofs.Placed.{Standing, numbered_so, new-free, total-same}
use Rattle.node_model.specs.Laws.{Among}
use Rattle.world_laws.specs.Homes.{IsHome, is_bad}

-- the slot of a part, and that an ASK to its target would be bad, for one of its keys
abbrev pub slot_here : ClusterModel → PartModel → SlotStandingModel
slot_here k part = standing_at k (slot_for part)

abbrev pub BadAsk : ClusterModel → PartModel → Type 0
BadAsk k part = (key : List ℕ) × Among key (keys_of part) × (is_bad (slot_here k part).phase (is_some (at k (slot_here k part).source key)) ≡ true)

-- no command goes by ASK to a node that imports while the source may have one of its keys
abbrev pub IsAsked : WorldModel → Ticket → PartModel → Type 0
IsAsked w ticket part = HasOneSlot part × (BadAsk w.cluster part → tally (asks (slot_here w.cluster part).target ticket) w ≡ 0)

pub record Kept (w : WorldModel) : Type 0 where
  pub apart : (slot : ℕ) → (standing_at w.cluster slot).phase ≢ Settled → (standing_at w.cluster slot).source ≢ (standing_at w.cluster slot).target
  pub data' : (key : List ℕ) → IsHome (standing_at w.cluster (slot_of key)) (λ m. at w.cluster m key) (get (left_by w.initial w.history) key)
  pub legal : IsLegal w.initial w.history
  pub asked : All (λ c. IsAsked w c.command.ticket c.command.part) w.commands

-- ASKs that are fewer after an event that leaves the nodes
falls : (w w' : WorldModel) → w'.cluster ≡ w.cluster → ((n : ℕ) (t : Ticket) → tally (asks n t) w' ≤ tally (asks n t) w) → (t : Ticket) (part : PartModel) → IsAsked w t part → IsAsked w' t part
falls w w' same le t part h = (
  h.0,
  λ bad.
      let was : BadAsk w.cluster part = subst (λ k. BadAsk k part) same bad in
      let target : (slot_here w'.cluster part).target ≡ (slot_here w.cluster part).target = ap (λ k. (slot_here k part).target) same in
      let none : tally (asks (slot_here w.cluster part).target t) w ≡ 0 = h.1 was in
      omega (arith, le (slot_here w'.cluster part).target t, ap (λ n. tally (asks n t) w) target),
)

-- an event that leaves nodes, history and, but for one, commands
quiet : (w w' : WorldModel) (k : w'.cluster ≡ w.cluster) (b : w'.initial ≡ w.initial) (h : w'.history ≡ w.history) → Kept w → All (λ c. IsAsked w' c.command.ticket c.command.part) w'.commands → Kept w'
quiet w w' k b h s asked = record {
  apart = subst (λ c. (slot : ℕ) → (standing_at c slot).phase ≢ Settled → (standing_at c slot).source ≢ (standing_at c slot).target) (sym k) s.apart;
  data' = subst (λ (x : ClusterModel × StoreModel × List EntryModel). (key : List ℕ) → IsHome (standing_at x.0 (slot_of key)) (λ m. at x.0 m key) (get (left_by x.1 x.2) key)) (λ i. (sym k i, sym b i, sym h i)) s.data';
  legal = subst (λ (x : StoreModel × List EntryModel). IsLegal x.0 x.1) (λ i. (sym b i, sym h i)) s.legal;
  asked = asked;
}

all_map : {X : Type 0} (P Q : X → Type 0) (xs : List X) → ((x : X) → P x → Q x) → All P xs → All Q xs
all_map P Q xs f h k d lt = f _ (h k d lt)

one : {X : Type 0} (P : X → Type 0) (x : X) → P x → All P (x ∷ [])
one P x h zero d lt = h
one P x h (suc k) d lt = absurd (omega arith)

-- being posted, told and lost

asks-may_post : (n : ℕ) (s : Stage) (node x : ℕ) → MayPostTo s node → (if asks_at s && (node == n) then x else 0) ≡ asks_in_stage n s x
asks-may_post n (Wants m) node x h = refl
asks-may_post n (WantsAsking m) node x h = ap (λ k. if k == n then x else 0) h
asks-may_post n Awaits node x h = absurd h
asks-may_post n (Over e) node x h = absurd h

asks-refused : (n : ℕ) (t : Ticket) (c : Arrival) (next : Stage) → asks n t (Stands (stood c (refused_at c.command.followed next))) ≤ asks_in_stage n next (is t c.command.ticket)
asks-refused n t c next = go (c.command.followed == 16)
  where
    go : (b : Bool) → asks n t (Stands (stood c (if b then (c.command.followed, Over GaveUp) else (c.command.followed + 1, next)))) ≤ asks_in_stage n next (is t c.command.ticket)
    go true = omega arith
    go false = omega arith

asks-after_told : (n : ℕ) (t : Ticket) (c : Arrival) (told : Told) → asks n t (Stands (after_told c told)) ≤ asks_in_told n told (is t c.command.ticket)
asks-after_told n t c (Reply v) = omega arith
asks-after_told n t c Told.Lost = omega arith
asks-after_told n t c (Moved s m) = asks-refused n t c (Wants (Some m))
asks-after_told n t c (Ask s m) = asks-refused n t c (WantsAsking m)
asks-after_told n t c TryAgain = asks-refused n t c (Wants None)
asks-after_told n t c ClusterDown = asks-refused n t c (Wants None)
asks-after_told n t c Unclear = asks-refused n t c (Wants None)
asks-after_told n t c Unsent = asks-refused n t c (Wants None)

requests-any : (f : Item → ℕ) (n : ℕ) (o o' : Bool) → ((a : Bool) (t : Ticket) → f (Sent o n a t) ≡ f (Sent o' n a t)) → (flag : Bool) (rs : List LinkRequest) → in_requests f o n flag rs ≡ in_requests f o' n flag rs
requests-any f n o o' e flag [] = refl
requests-any f n o o' e flag (Asking ∷ rs) = requests-any f n o o' e true rs
requests-any f n o o' e flag (Runs ts ∷ rs) = omega (arith, total-same (λ (t : Ticket). f (Sent o n flag t)) (λ t. f (Sent o' n flag t)) (e flag) ts, requests-any f n o o' e false rs)

total-zero : {X : Type 0} (xs : List X) → total (λ (x : X). 0) xs ≡ 0
total-zero [] = refl
total-zero (x ∷ xs) = omega (arith, total-zero xs)

-- ASKs that went out with a run: those that their commands wanted
abbrev if_asking : Bool → ℕ → ℕ → ℕ → ℕ
if_asking asking node n x = if asking && (node == n) then x else 0

-- commands that go out keep what stays with them
pub gone-out : (P : Ticket → PartModel → Type 0) (way : Way) (node : ℕ) (before ts : List Ticket) (cs cs' : List Arrival) → GoOut way node before ts cs cs' → All (λ (c : Arrival). P c.command.ticket c.command.part) cs → All (λ (c : Arrival). P c.command.ticket c.command.part) cs'
gone-out P way node before [] cs cs' d h = subst (All (λ (c : Arrival). P c.command.ticket c.command.part)) (sym d) h
gone-out P way node before (t ∷ ts) cs cs' d h =
    gone-out P way node (before ++ t ∷ []) ts (slice_set cs d.0 (awaiting d.1)) cs' d.5
    (All-set (λ (c : Arrival). P c.command.ticket c.command.part) cs d.0 (awaiting d.1) (all_at (λ (c : Arrival). P c.command.ticket c.command.part) cs d.0 d.1 d.2.1 h) h)

module _ (w w' : WorldModel) (s : Kept w) where
  pub post-kept : (tickets : List Ticket) (node : ℕ) → WorldDoes w (Post tickets node) w' → Kept w'
  post-kept tickets node d =
      let k : w'.cluster ≡ w.cluster = ap (λ (v : WorldModel). v.cluster) d.5 in
      let all' : All (λ x. IsAsked w' x.command.ticket x.command.part) w.commands = all_map (λ x. IsAsked w x.command.ticket x.command.part) (λ x. IsAsked w' x.command.ticket x.command.part) w.commands (λ x. falls w w' k fewer x.command.ticket x.command.part) s.asked in
      quiet w w' k (ap (λ (v : WorldModel). v.initial) d.5) (ap (λ (v : WorldModel). v.history) d.5) s
      (subst (All (λ x. IsAsked w' x.command.ticket x.command.part)) (sym (ap (λ (v : WorldModel). v.commands) d.5))
      (gone-out (λ t p. IsAsked w' t p) d.0 node [] tickets w.commands d.1 d.4 all'))
    where
      fewer : (n : ℕ) (t : Ticket) → tally (asks n t) w' ≤ tally (asks n t) w
      fewer n t = omega (
        arith,
        post-flow (asks n t) w w' tickets node d (λ u. if_asking (d.0).asking node n (is t u)) (λ _. 0)
            (λ c m a. omega (arith, asks-may_post n c.command.stage node (is t c.command.ticket) m, ap (λ b. if_asking b node n (is t c.command.ticket)) a)),
        total-zero tickets,
      )

  pub take-kept : (lane : ℕ) → WorldDoes w (Take lane) w' → Kept w'
  take-kept lane d =
      let c : Arrival = d.2 in
      let c' : Arrival = after_told d.2 d.3 in
      let k : w'.cluster ≡ w.cluster = ap (λ (v : WorldModel). v.cluster) d.7 in
      let all' : All (λ x. IsAsked w' x.command.ticket x.command.part) w.commands = all_map (λ x. IsAsked w x.command.ticket x.command.part) (λ x. IsAsked w' x.command.ticket x.command.part) w.commands (λ x. falls w w' k fewer x.command.ticket x.command.part) s.asked in
      let mine : IsAsked w' c.command.ticket c.command.part = all_at (λ x. IsAsked w' x.command.ticket x.command.part) w.commands d.1 c d.5.1 all' in
      quiet w w' k (ap (λ (v : WorldModel). v.initial) d.7) (ap (λ (v : WorldModel). v.history) d.7) s
      (subst (All (λ x. IsAsked w' x.command.ticket x.command.part)) (sym (ap (λ (v : WorldModel). v.commands) d.7))
      (All-set (λ x. IsAsked w' x.command.ticket x.command.part) w.commands d.1 c'
      (subst (λ (x : Ticket × PartModel). IsAsked w' x.0 x.1) (λ i. (sym (ticket-after_told c d.3) i, sym (part-after_told c d.3) i)) mine) all'))
    where
      fewer : (n : ℕ) (t : Ticket) → tally (asks n t) w' ≤ tally (asks n t) w
      fewer n t = omega (arith, take-flow (asks n t) w w' lane d, asks-after_told n t d.2 d.3)

  pub answer-kept : (client : ℕ) → WorldDoes w (ev.Answer client) w' → Kept w'
  answer-kept client d =
      let c : Arrival = d.1 in
      let c' : Arrival = record (d.1) { answered = true } in
      let k : w'.cluster ≡ w.cluster = ap (λ (v : WorldModel). v.cluster) d.8 in
      let all' : All (λ x. IsAsked w' x.command.ticket x.command.part) w.commands = all_map (λ x. IsAsked w x.command.ticket x.command.part) (λ x. IsAsked w' x.command.ticket x.command.part) w.commands (λ x. falls w w' k fewer x.command.ticket x.command.part) s.asked in
      quiet w w' k (ap (λ (v : WorldModel). v.initial) d.8) (ap (λ (v : WorldModel). v.history) d.8) s
      (subst (All (λ x. IsAsked w' x.command.ticket x.command.part)) (sym (ap (λ (v : WorldModel). v.commands) d.8))
      (All-set (λ x. IsAsked w' x.command.ticket x.command.part) w.commands d.0 c' (all_at (λ x. IsAsked w' x.command.ticket x.command.part) w.commands d.0 c d.3 all') all'))
    where
      fewer : (n : ℕ) (t : Ticket) → tally (asks n t) w' ≤ tally (asks n t) w
      fewer n t = omega (arith, answer-flow (asks n t) w w' client d)

  -- commands stay
  still : (k : w'.cluster ≡ w.cluster) → w'.initial ≡ w.initial → w'.history ≡ w.history → w'.commands ≡ w.commands → ((n : ℕ) (t : Ticket) → tally (asks n t) w' ≤ tally (asks n t) w) → Kept w'
  still k b h cs le =
      quiet w w' k b h s (subst (All (λ x. IsAsked w' x.command.ticket x.command.part)) (sym cs)
      (all_map (λ x. IsAsked w x.command.ticket x.command.part) (λ x. IsAsked w' x.command.ticket x.command.part) w.commands (λ x. falls w w' k le x.command.ticket x.command.part) s.asked))

  pub carry-kept : (lane link : ℕ) → All IsTidy w.links → WorldDoes w (Carry lane link) w' → Kept w'
  carry-kept lane link tidy d = still (ap (λ (v : WorldModel). v.cluster) d.5) (ap (λ (v : WorldModel). v.initial) d.5) (ap (λ (v : WorldModel). v.history) d.5) (ap (λ (v : WorldModel). v.commands) d.5)
      (λ n t. omega (arith, carry-flow (asks n t) w w' lane link d tidy))

  pub refuse-kept : (lane : ℕ) → WorldDoes w (Refuse lane) w' → Kept w'
  refuse-kept lane d = still (ap (λ (v : WorldModel). v.cluster) d.3) (ap (λ (v : WorldModel). v.initial) d.3) (ap (λ (v : WorldModel). v.history) d.3) (ap (λ (v : WorldModel). v.commands) d.3)
      (λ n t. omega (arith, refuse-flow (asks n t) w w' lane d, total-zero (d.1).tickets))

  pub fetch-kept : (link : ℕ) → WorldDoes w (Fetch link) w' → Kept w'
  fetch-kept link d = go d.3
    where
      go : FetchesWelcome w link d.0 w' ⊎ FetchesReply w link d.0 w' → Kept w'
      go (inl x) = still (ap (λ (v : WorldModel). v.cluster) x.2) (ap (λ (v : WorldModel). v.initial) x.2) (ap (λ (v : WorldModel). v.history) x.2) (ap (λ (v : WorldModel). v.commands) x.2) (λ n t. omega (arith, fetch-flow (asks n t) w w' link d))
      go (inr x) = still (ap (λ (v : WorldModel). v.cluster) x.4) (ap (λ (v : WorldModel). v.initial) x.4) (ap (λ (v : WorldModel). v.history) x.4) (ap (λ (v : WorldModel). v.commands) x.4) (λ n t. omega (arith, fetch-flow (asks n t) w w' link d))

  pub discard-kept : (link : ℕ) → WorldDoes w (Discard link) w' → Kept w'
  discard-kept link d = still (ap (λ (v : WorldModel). v.cluster) d.4) (ap (λ (v : WorldModel). v.initial) d.4) (ap (λ (v : WorldModel). v.history) d.4) (ap (λ (v : WorldModel). v.commands) d.4)
      (λ n t. omega (arith, discard-flow (asks n t) w w' link d))

  pub drop-kept : (link : ℕ) → WorldDoes w (Drop link) w' → Kept w'
  drop-kept link d = still (ap (λ (v : WorldModel). v.cluster) d.3) (ap (λ (v : WorldModel). v.initial) d.3) (ap (λ (v : WorldModel). v.history) d.3) (ap (λ (v : WorldModel). v.commands) d.3)
      (λ n t. omega (
        arith,
        drop-flow (asks n t) w w' link d,
        total-zero (answered_of (d.0).backs),
        total-zero (sent_of (d.0).requests),
        requests-any (asks n t) (d.0).node (d.0).is_open false (λ a u. refl) (d.0).asking (d.0).requests,
      ))

  pub asking-kept : (link : ℕ) (l : Link) (v : Verdict) → slice_get w.links link ≡ Some l → ServesAsking w link l v w' → Kept w'
  asking-kept link l v at_l d = still (ap (λ (v : WorldModel). v.cluster) d.3) (ap (λ (v : WorldModel). v.initial) d.3) (ap (λ (v : WorldModel). v.history) d.3) (ap (λ (v : WorldModel). v.commands) d.3)
      (λ n t. omega (arith, welcome-flow (asks n t) w w' link l v at_l d))

-- Tickets.

pub ticket-numbers : (t u : Ticket) → same_ticket t u ≡ true → (t.client ≡ u.client) × (t.part ≡ u.part)
ticket-numbers t u e = (grind (arith, nat_tests), grind (arith, nat_tests))

pub numbers-so : (u : Ticket) (client part : ℕ) → u.client ≡ client → u.part ≡ part → numbered_so client part u ≡ true
numbers-so u client part e f = grind (arith, nat_tests)

pub is-refl : (t : Ticket) → is t t ≡ 1
is-refl t = grind (arith, nat_tests)

pub is-le-owned : (t u : Ticket) → is t u ≤ one_if (numbered_so t.client t.part u)
is-le-owned t u = go (same_ticket t u) refl
  where
    go : (b : Bool) → same_ticket t u ≡ b → (if b then 1 else 0) ≤ one_if (numbered_so t.client t.part u)
    go false e = omega arith
    go true e = let n = ticket-numbers t u e in let y : numbered_so t.client t.part u ≡ true = numbers-so u t.client t.part (sym n.0) (sym n.1) in omega (arith, ap one_if y)

-- two commands of one ticket are one
pub unique : (w : WorldModel) → Standing w → (i j : ℕ) (c d : Arrival) → slice_get w.commands i ≡ Some c → slice_get w.commands j ≡ Some d → same_ticket c.command.ticket d.command.ticket ≡ true → c ≡ d
unique w h i j c d p q e = ⊎_elim
    (λ (x : ((i == j) ≡ true) × (i ≡ j)). let same : slice_get w.commands i ≡ slice_get w.commands j = ap (slice_get w.commands) x.1 in cc)
    (λ (x : ((i == j) ≡ false) × (i ≢ j)).
    let n = ticket-numbers c.command.ticket d.command.ticket e in
    let cl : ℕ = c.command.ticket.client in
    let k : ℕ = c.command.ticket.part in
    let one_c : one_if (numbered_so cl k c.command.ticket) ≡ 1 = ap one_if (numbers-so c.command.ticket cl k refl refl) in
    let one_d : one_if (numbered_so cl k d.command.ticket) ≡ 1 = ap one_if (numbers-so d.command.ticket cl k (sym n.0) (sym n.1)) in
    absurd (omega (arith, total-two (λ (z : Arrival). one_if (numbered_so cl k z.command.ticket)) w.commands i j c d p q x.1, h.single cl k, one_c, one_d)))
    (eqb_tells i j)

asks-le : (n : ℕ) (t : Ticket) (i : Item) → asks n t i + 0 ≤ (here t i + stray t i) + owned (numbered_so t.client t.part) i
asks-le n t (Stands c) = omega (arith, stage c.command.stage, is-le-owned t c.command.ticket)
  where
    stage : (s : Stage) → asks_in_stage n s (is t c.command.ticket) ≤ is t c.command.ticket
    stage (Wants m) = omega arith
    stage (WantsAsking m) = go (m == n)
      where
        go : (b : Bool) → (if b then is t c.command.ticket else 0) ≤ is t c.command.ticket
        go true = omega arith
        go false = omega arith
    stage Awaits = omega arith
    stage (Over e) = omega arith
asks-le n t (Lies m a u) = go (a && (m == n))
  where
    go : (x : Bool) → (if x then is t u else 0) + 0 ≤ (is t u + 0) + 0
    go true = omega arith
    go false = omega arith
asks-le n t (Sent o m a u) = go o (a && (m == n))
  where
    go : (o : Bool) (x : Bool) → (if x then is t u else 0) + 0 ≤ (here t (Sent o m a u) + stray t (Sent o m a u)) + 0
    go true true = omega arith
    go true false = omega arith
    go false true = omega arith
    go false false = omega arith
asks-le n t (Comes u (Ask s m)) = go (m == n)
  where
    go : (x : Bool) → (if x then is t u else 0) + 0 ≤ (is t u + 0) + 0
    go true = omega arith
    go false = omega arith
asks-le n t (Comes u (Reply v)) = omega arith
asks-le n t (Comes u (Moved s m)) = omega arith
asks-le n t (Comes u TryAgain) = omega arith
asks-le n t (Comes u ClusterDown) = omega arith
asks-le n t (Comes u Unclear) = omega arith
asks-le n t (Comes u Unsent) = omega arith
asks-le n t (Comes u Told.Lost) = omega arith

if_ran-le : (s : Stage) (n : ℕ) → if_ran s n + if_awaits s n ≤ n
if_ran-le (Wants m) n = omega arith
if_ran-le (WantsAsking m) n = omega arith
if_ran-le Awaits n = omega arith
if_ran-le (Over (Answered v)) n = omega arith
if_ran-le (Over Ended.Lost) n = omega arith
if_ran-le (Over GaveUp) n = omega arith

if_ran_told-le : (told : Told) (n : ℕ) → if_ran_told told n ≤ n
if_ran_told-le (Reply v) n = omega arith
if_ran_told-le Told.Lost n = omega arith
if_ran_told-le (Moved s m) n = omega arith
if_ran_told-le (Ask s m) n = omega arith
if_ran_told-le TryAgain n = omega arith
if_ran_told-le ClusterDown n = omega arith
if_ran_told-le Unclear n = omega arith
if_ran_told-le Unsent n = omega arith

pub ran-le : (t : Ticket) (i : Item) → ran t i + awaits t i ≤ here t i + owned (numbered_so t.client t.part) i
ran-le t (Stands c) = omega (arith, if_ran-le c.command.stage (is t c.command.ticket), is-le-owned t c.command.ticket)
ran-le t (Lies m a u) = omega arith
ran-le t (Sent o m a u) = omega arith
ran-le t (Comes u told) = omega (arith, if_ran_told-le told (is t u))

-- a ticket has run at most as often as it has commands
pub ran-owned : (w : WorldModel) → Standing w → (t : Ticket) → tally (ran t) w ≤ tally (owned (numbered_so t.client t.part)) w
ran-owned w h t = omega (arith, h.place t, tally-le (ran t) (awaits t) (here t) (owned (numbered_so t.client t.part)) (ran-le t) w)

-- who has no command stands nowhere
pub awaits-le : (t : Ticket) (i : Item) → awaits t i + 0 ≤ owned (numbered_so t.client t.part) i + 0
awaits-le t (Stands c) = omega (arith, if_ran-le c.command.stage (is t c.command.ticket), is-le-owned t c.command.ticket)
awaits-le t (Lies m a u) = omega arith
awaits-le t (Sent o m a u) = omega arith
awaits-le t (Comes u told) = omega arith

pub free-asks : (w : WorldModel) → Standing w → (n : ℕ) (t : Ticket) → tally (owned (numbered_so t.client t.part)) w ≡ 0 → tally (asks n t) w ≡ 0
free-asks w h n t free = omega (
  arith,
  h.place t,
  h.strays t,
  ran-owned w h t,
  tally-le (asks n t) (λ _. 0) (λ i. here t i + stray t i) (owned (numbered_so t.client t.part)) (asks-le n t) w,
  tally-le (λ i. here t i + stray t i) (λ _. 0) (here t) (stray t) (λ i. omega arith) w,
  tally-le (awaits t) (λ _. 0) (owned (numbered_so t.client t.part)) (λ _. 0) (awaits-le t) w,
  nothing,
)
  where
    nothing : tally (λ _. 0) w ≡ 0
    nothing = omega (arith, total-zero w.commands, lanes w.ups, total-zero w.downs, links w.links)
      where
        lanes : (bs : List Posted) → total (in_lane (λ _. 0)) bs ≡ 0
        lanes [] = refl
        lanes (b ∷ bs) = omega (arith, total-zero b.tickets, lanes bs)

        reqs : (o : Bool) (n : ℕ) (flag : Bool) (rs : List LinkRequest) → in_requests (λ _. 0) o n flag rs ≡ 0
        reqs o n flag [] = refl
        reqs o n flag (Asking ∷ rs) = reqs o n true rs
        reqs o n flag (Runs ts ∷ rs) = omega (arith, total-zero ts, reqs o n false rs)

        backs : (bs : List LinkReply) → in_backs (λ _. 0) bs ≡ 0
        backs [] = refl
        backs (Welcome ∷ bs) = backs bs
        backs (To t told ∷ bs) = omega (arith, backs bs)

        links : (ls : List Link) → total (in_link (λ _. 0)) ls ≡ 0
        links [] = refl
        links (l ∷ ls) = omega (arith, reqs l.is_open l.node l.asking l.requests, backs l.backs, links ls)

pub arrive-kept : (w w' : WorldModel) → Standing w → Kept w → (client : ℕ) (part : PartModel) → WorldDoes w (Arrive client part) w' → Kept w'
arrive-kept w w' h s client part d =
    let c : Arrival = arrival w client part in
    let k : w'.cluster ≡ w.cluster = ap (λ (v : WorldModel). v.cluster) d.1 in
    let all' : All (λ x. IsAsked w' x.command.ticket x.command.part) w.commands = all_map (λ x. IsAsked w x.command.ticket x.command.part) (λ x. IsAsked w' x.command.ticket x.command.part) w.commands (λ x. falls w w' k fewer x.command.ticket x.command.part) s.asked in
    quiet w w' k (ap (λ (v : WorldModel). v.initial) d.1) (ap (λ (v : WorldModel). v.history) d.1) s
    (subst (All (λ x. IsAsked w' x.command.ticket x.command.part)) (sym (ap (λ (v : WorldModel). v.commands) d.1))
    (All-append (λ x. IsAsked w' x.command.ticket x.command.part) w.commands (c ∷ []) all' (one (λ x. IsAsked w' x.command.ticket x.command.part) c
    (d.0, λ bad. omega (arith, fewer (slot_here w'.cluster c.command.part).target c.command.ticket, free-asks w h (slot_here w'.cluster c.command.part).target c.command.ticket (new-free w h client))))))
  where
    fewer : (n : ℕ) (t : Ticket) → tally (asks n t) w' ≤ tally (asks n t) w
    fewer n t = omega (arith, arrive-flow (asks n t) w w' client part d)
