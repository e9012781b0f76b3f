-- The commands of each run on its way: their slot is one, and every earlier command of their turn has ended or goes
-- before them in the run. Kept by every event.
use Rattle.std.proofs.Common.{◌≡◌, ◌≢◌, ◌⊎◌, inl, inr, ⊎_elim, ℕ, zero, suc, ◌+◌, ◌<◌, ◌==◌, Bool, true, false, List, [], ◌∷◌, ◌++◌, length, Some, refl, sym, ap, ◌∙◌, subst, arith}
use Rattle.std.specs.Prelude.{slice_get, slice_set, remove, All, if◌then◌else◌}
use Rattle.std.proofs.lemmas.Option.{slice_get_within}
use Rattle.std.proofs.lemmas.Bool.Decides.{eqb_tells}
use Rattle.std.proofs.lemmas.List.Elements.{All-set, All-append}
use Rattle.key_split.specs.declared.travel.Ticket.{Ticket}
use Rattle.key_split.specs.declared.travel.Told.{Told}
use Rattle.key_split.specs.declared.travel.Ended.{Ended}
use Rattle.command_future.specs.CommandModel.{MayPostTo}
use Rattle.command_future.specs.declared.stage.Stage.TheVariants.{Awaits, Over}
use Rattle.node_model.specs.declared.role.Verdict.{Verdict}
use Rattle.world_laws.specs.State.{WorldModel, Arrival, Posted, Link, LinkRequest, LinkReply, HasEnded, slot_for, awaiting, after_told, new_link, requests_of, sent, replied, all_replied, tickets_told}
use Rattle.world_laws.specs.declared.state.LinkRequest.TheVariants.{Asking, Runs}
use Rattle.world_laws.specs.declared.state.LinkReply.TheVariants.{Welcome}
use Rattle.world_laws.specs.World.{WorldDoes, SameTurn, IsAmong, Way, GoOut, CarriesOver, ServesAsking, ServesRun, ServesRunAt, FetchesWelcome, FetchesReply, arrival}
use Rattle.world_laws.specs.declared.event.Event.{Event}
use Rattle.world_laws.specs.declared.event.Event.TheVariants.{Arrive, Post, Carry, Refuse, Serve, Fetch, Take, Drop, Discard, Import, Migrate, MoveKey, Own, Release, Forget, Stay}
use Rattle.world_laws.specs.declared.event.Event.TheVariants as ev
use Rattle.world_laws.specs.Headline.{At}
use Rattle.world_laws.proofs.Flow.{all_at, of-ticket}
use Rattle.world_laws.proofs.Counted.{ticket-after_told, part-after_told, arrived-after_told}
use Rattle.world_laws.proofs.Recorded.{Later, one_at, all_taken, set-same, set-other, before-last}

-- in a run, the command of the ticket at p
abbrev pub Goes : List Arrival → ℕ → List Ticket → ℕ → Ticket → Type 0
Goes cs slot ts p t =
    (i : ℕ) × (c : Arrival) × At cs i c × (c.command.ticket ≡ t) × (slot_for c.command.part ≡ slot)
    × ((j : ℕ) (d : Arrival) → j < i → At cs j d → SameTurn c d → HasEnded d ⊎ ((q : ℕ) × (q < p) × At ts q d.command.ticket))

abbrev pub IsRun : List Arrival → List Ticket → Type 0
IsRun cs ts = (slot : ℕ) × ((p : ℕ) (t : Ticket) → At ts p t → Goes cs slot ts p t) × (client : ℕ) × ((p : ℕ) (t : Ticket) → At ts p t → t.client ≡ client)

abbrev pub AreRuns : List Arrival → List LinkRequest → Type 0
AreRuns cs [] = Unit {0}
AreRuns cs (Asking ∷ rs) = AreRuns cs rs
AreRuns cs (Runs ts ∷ rs) = IsRun cs ts × AreRuns cs rs

pub record Turned (w : WorldModel) : Type 0 where
  pub ups : All (λ b. IsRun w.commands b.tickets) w.ups
  pub links : All (λ l. AreRuns w.commands l.requests) w.links

-- commands that only go on

abbrev pub Grow : List Arrival → List Arrival → Type 0
Grow cs cs' = (i : ℕ) (c : Arrival) → At cs i c → (c' : Arrival) × At cs' i c' × Later c c'

later-refl : (c : Arrival) → Later c c
later-refl c = (refl, refl, refl, λ _ p. p, λ p. p)

grow-refl : (cs cs' : List Arrival) → cs' ≡ cs → Grow cs cs'
grow-refl cs cs' e i c p = (c, subst (λ xs. At xs i c) (sym e) p, later-refl c)

later-trans : (a b c : Arrival) → Later a b → Later b c → Later a c
later-trans a b c x y = (y.0 ∙ x.0, y.1 ∙ x.1, y.2 ∙ x.2, λ e p. y.3 e (x.3 e p), λ p. y.4 (x.4 p))

grow-trans : (a b c : List Arrival) → Grow a b → Grow b c → Grow a c
grow-trans a b c x y i z p = let u = x i z p in let v = y i u.0 u.1 in (v.0, v.1, later-trans z u.0 v.0 u.2 v.2)

grow-set : (cs : List Arrival) (i0 : ℕ) (c0 c' : Arrival) → At cs i0 c0 → Later c0 c' → Grow cs (slice_set cs i0 c')
grow-set cs i0 c0 c' at0 later i c p = ⊎_elim
    (λ (h : ((i == i0) ≡ true) × (i ≡ i0)).
    let same : c0 ≡ c = (let q : slice_get cs i ≡ slice_get cs i0 = ap (slice_get cs) h.1 in cc) in
    (c', subst (λ k. At (slice_set cs i0 c') k c') (sym h.1) (set-same cs i0 c0 c' at0), subst (λ z. Later z c') same later))
    (λ (h : ((i == i0) ≡ false) × (i ≢ i0)). (c, set-other cs i0 c' i c h.1 p, later-refl c))
    (eqb_tells i i0)

before_at : {X : Type 0} (xs : List X) (i j : ℕ) (x : X) → At xs i x → j < i → (y : X) × At xs j y
before_at [] i j x e lt = absurd (cc)
before_at (z ∷ xs) zero j x e lt = absurd (omega arith)
before_at (z ∷ xs) (suc i) zero x e lt = (z, refl)
before_at (z ∷ xs) (suc i) (suc j) x e lt = before_at xs i j x e (omega arith)

same-turns : (c c' d d' : Arrival) → Later c c' → Later d d' → SameTurn c' d' → SameTurn c d
same-turns c c' d d' x y t = (ap (λ (u : Ticket). u.client) (sym y.0) ∙ t.0 ∙ ap (λ (u : Ticket). u.client) x.0, ap slot_for (sym y.1) ∙ t.1 ∙ ap slot_for x.1)

goes-on : (cs cs' : List Arrival) → Grow cs cs' → (slot : ℕ) (ts : List Ticket) (p : ℕ) (t : Ticket) → Goes cs slot ts p t → Goes cs' slot ts p t
goes-on cs cs' g slot ts p t h =
    let n = g h.0 h.1 h.2 in (
      h.0,
      n.0,
      n.1,
      (n.2).0 ∙ h.3,
      ap slot_for (n.2).1 ∙ h.4,
      λ j d' lt at_d turn.
          let d = before_at cs h.0 j h.1 h.2 lt in
          let m = g j d.0 d.1 in
          let same : m.0 ≡ d' = one_at cs' j j m.0 d' m.1 at_d refl in
          let l : Later d.0 d' = subst (Later d.0) same m.2 in
          ⊎_elim (λ (x : HasEnded d.0). inl (x.0, l.3 x.0 x.1)) (λ (x : (q : ℕ) × (q < p) × At ts q (d.0).command.ticket). inr (x.0, x.1, x.2 ∙ ap Some (sym l.0)))
          (h.5 j d.0 lt d.1 (same-turns h.1 n.0 d.0 d' n.2 l turn)),
    )

run-on : (cs cs' : List Arrival) → Grow cs cs' → (ts : List Ticket) → IsRun cs ts → IsRun cs' ts
run-on cs cs' g ts h = (h.0, (λ p t e. goes-on cs cs' g h.0 ts p t (h.1 p t e)), h.2, h.3)

runs-on : (cs cs' : List Arrival) → Grow cs cs' → (rs : List LinkRequest) → AreRuns cs rs → AreRuns cs' rs
runs-on cs cs' g [] h = tt
runs-on cs cs' g (Asking ∷ rs) h = runs-on cs cs' g rs h
runs-on cs cs' g (Runs ts ∷ rs) h = (run-on cs cs' g ts h.0, runs-on cs cs' g rs h.1)

-- a run that goes out

out-later : (node : ℕ) (c : Arrival) → MayPostTo c.command.stage node → Later c (awaiting c)
out-later node c h = (refl, refl, refl, λ x e. absurd (subst (λ s. MayPostTo s node) e h), λ p. p)

pub out-grow : (way : Way) (node : ℕ) (before ts : List Ticket) (cs cs' : List Arrival) → GoOut way node before ts cs cs' → Grow cs cs'
out-grow way node before [] cs cs' d = grow-refl cs cs' d
out-grow way node before (t ∷ ts) cs cs' d =
    grow-trans cs (slice_set cs d.0 (awaiting d.1)) cs'
    (grow-set cs d.0 d.1 (awaiting d.1) d.2.1 (out-later node d.1 (d.3).2))
    (out-grow way node (before ++ t ∷ []) ts (slice_set cs d.0 (awaiting d.1)) cs' d.5)

pub joined : {X : Type 0} (xs : List X) (y : X) (ys : List X) → (xs ++ y ∷ []) ++ ys ≡ xs ++ y ∷ ys
joined [] y ys = refl
joined (x ∷ xs) y ys = ap (λ zs. x ∷ zs) (joined xs y ys)

pub longer : {X : Type 0} (xs : List X) (y : X) → length (xs ++ y ∷ []) ≡ suc (length xs)
longer [] y = refl
longer (x ∷ xs) y = ap suc (longer xs y)

out-goes : (way : Way) (node : ℕ) (before ts : List Ticket) (cs cs' : List Arrival) → GoOut way node before ts cs cs' → (p : ℕ) (t : Ticket) → At ts p t → Goes cs' way.slot (before ++ ts) (length before + p) t
out-goes way node before [] cs cs' d p t e = absurd (cc)
out-goes way node before (u ∷ ts) cs cs' d zero t e =
    let same : u ≡ t = cc in
    let cs1 : List Arrival = slice_set cs d.0 (awaiting d.1) in
    let g = out-grow way node (before ++ u ∷ []) ts cs1 cs' d.5 in
    let g0 = out-grow way node before (u ∷ ts) cs cs' d in
    let n = g0 d.0 d.1 d.2.1 in (
      d.0,
      n.0,
      n.1,
      (n.2).0 ∙ of-ticket u cs d.0 d.1 d.2 ∙ same,
      ap slot_for (n.2).1 ∙ (d.3).1,
      λ j x' lt at_x turn.
          let x = before_at cs d.0 j d.1 d.2.1 lt in
          let m = g0 j x.0 x.1 in
          let is' : m.0 ≡ x' = one_at cs' j j m.0 x' m.1 at_x refl in
          let l : Later x.0 x' = subst (Later x.0) is' m.2 in
          ⊎_elim (λ (y : HasEnded x.0). inl (y.0, l.3 y.0 y.1))
          (λ (y : IsAmong before (x.0).command.ticket). let len : y.0 < length before = slice_get_within before y.0 (x.0).command.ticket y.1 in inr (y.0, omega arith, before-last before (u ∷ ts) y.0 (x.0).command.ticket y.1 ∙ ap Some (sym l.0)))
          (all_taken (λ z. SameTurn d.1 z → HasEnded z ⊎ IsAmong before z.command.ticket) cs d.0 j x.0 d.4 lt x.1 (same-turns d.1 n.0 x.0 x' n.2 l turn)),
    )
out-goes way node before (u ∷ ts) cs cs' d (suc p) t e =
    subst (λ (z : List Ticket × ℕ). Goes cs' way.slot z.0 z.1 t) (λ i. (joined before u ts i, place i)) (out-goes way node (before ++ u ∷ []) ts (slice_set cs d.0 (awaiting d.1)) cs' d.5 p t e)
  where
    place : length (before ++ u ∷ []) + p ≡ length before + suc p
    place = omega (arith, longer before u)

out-client : (way : Way) (node : ℕ) (before ts : List Ticket) (cs cs' : List Arrival) → GoOut way node before ts cs cs' → (p : ℕ) (t : Ticket) → At ts p t → t.client ≡ way.client
out-client way node before [] cs cs' d p t e = absurd (cc)
out-client way node before (u ∷ ts) cs cs' d zero t e = let same : t ≡ u = cc in ap (λ (z : Ticket). z.client) (same ∙ sym (of-ticket u cs d.0 d.1 d.2)) ∙ (d.3).0
out-client way node before (u ∷ ts) cs cs' d (suc p) t e = out-client way node (before ++ u ∷ []) ts (slice_set cs d.0 (awaiting d.1)) cs' d.5 p t e

-- the events

pub one : {X : Type 0} (P : X → Type 0) (x : X) → P x → All P (x ∷ [])
one P x h zero d lt = h
one P x h (suc k) d lt = absurd (omega arith)

pub All-remove : {X : Type 0} (P : X → Type 0) (xs : List X) (i : ℕ) → All P xs → All P (remove xs i)
All-remove P [] zero h k d lt = absurd (omega arith)
All-remove P [] (suc i) h k d lt = absurd (omega arith)
All-remove P (x ∷ xs) zero h k d lt = h (suc k) d (omega arith)
All-remove P (x ∷ xs) (suc i) h zero d lt = h zero d (omega arith)
All-remove P (x ∷ xs) (suc i) h (suc k) d lt = All-remove P xs i (λ k d lt. h (suc k) d (omega arith)) k d (omega arith)

runs-sent : (cs : List Arrival) (rs : List LinkRequest) (b : Posted) → AreRuns cs rs → IsRun cs b.tickets → AreRuns cs (rs ++ requests_of b)
runs-sent cs [] b h r = go b.asking
  where
    go : (a : Bool) → AreRuns cs (if a then Asking ∷ Runs b.tickets ∷ [] else Runs b.tickets ∷ [])
    go true = (r, tt)
    go false = (r, tt)
runs-sent cs (Asking ∷ rs) b h r = runs-sent cs rs b h r
runs-sent cs (Runs ts ∷ rs) b h r = (h.0, runs-sent cs rs b h.1 r)

requests-replied : (l : Link) (b : LinkReply) → (replied l b).requests ≡ l.requests
requests-replied l b = go l.is_open
  where
    go : (o : Bool) → (replied (record l { is_open = o }) b).requests ≡ l.requests
    go true = refl
    go false = refl

requests-all_replied : (l : Link) (run : List (Arrival × Told)) → (all_replied l run).requests ≡ l.requests
requests-all_replied l run = go l.is_open
  where
    go : (o : Bool) → (all_replied (record l { is_open = o }) run).requests ≡ l.requests
    go true = refl
    go false = refl

pub all_on : {X : Type 0} (P Q : X → Type 0) (xs : List X) → ((x : X) → P x → Q x) → All P xs → All Q xs
all_on P Q xs f h k d lt = f _ (h k d lt)

module _ (w w' : WorldModel) (h : Turned w) where
  -- commands go on, and the rest stays
  gone : (cs : List Arrival) → Grow w.commands cs → w'.commands ≡ cs → w'.ups ≡ w.ups → w'.links ≡ w.links → Turned w'
  gone cs g c u l = record {
    ups = subst (λ (x : List Arrival × List Posted). All (λ b. IsRun x.0 b.tickets) x.1) (λ i. (sym c i, sym u i)) (all_on (λ (b : Posted). IsRun w.commands b.tickets) (λ b. IsRun cs b.tickets) w.ups (λ b. run-on w.commands cs g b.tickets) h.ups);
    links = subst (λ (x : List Arrival × List Link). All (λ z. AreRuns x.0 z.requests) x.1) (λ i. (sym c i, sym l i)) (all_on (λ (z : Link). AreRuns w.commands z.requests) (λ z. AreRuns cs z.requests) w.links (λ z. runs-on w.commands cs g z.requests) h.links);
  }

  -- commands stay
  stay : (us : List Posted) (ls : List Link) → All (λ b. IsRun w.commands b.tickets) us → All (λ l. AreRuns w.commands l.requests) ls → w'.commands ≡ w.commands → w'.ups ≡ us → w'.links ≡ ls → Turned w'
  stay us ls a b c u l = record {
    ups = subst (λ (x : List Arrival × List Posted). All (λ b. IsRun x.0 b.tickets) x.1) (λ i. (sym c i, sym u i)) a;
    links = subst (λ (x : List Arrival × List Link). All (λ z. AreRuns x.0 z.requests) x.1) (λ i. (sym c i, sym l i)) b;
  }

  -- a link changes
  set-link : (link : ℕ) (l' : Link) → AreRuns w.commands l'.requests → All (λ l. AreRuns w.commands l.requests) (slice_set w.links link l')
  set-link link l' x = All-set (λ (l : Link). AreRuns w.commands l.requests) w.links link l' x h.links

  at-link : (link : ℕ) (l : Link) → slice_get w.links link ≡ Some l → AreRuns w.commands l.requests
  at-link link l e = all_at (λ (l : Link). AreRuns w.commands l.requests) w.links link l e h.links

  -- the nodes alone change
  nodes : w'.commands ≡ w.commands → w'.ups ≡ w.ups → w'.links ≡ w.links → Turned w'
  nodes c u l = stay w.ups w.links h.ups h.links c u l

-- a run that some node serves keeps it
pub run-turned : (w w' : WorldModel) → Turned w → (link node : ℕ) (l : Link) (v : Verdict) → slice_get w.links link ≡ Some l → ServesRunAt w node link l v w' → Turned w'
run-turned w w' h link node l v at_l x =
    let l' : Link = record l { requests = x.0; asking = false } in
    let all' : AreRuns w.commands (Runs (tickets_told x.1) ∷ x.0) = subst (AreRuns w.commands) x.3 (at-link w w' h link l at_l) in
    stay w w' h w.ups (slice_set w.links link (all_replied l' x.1)) h.ups (set-link w w' h link (all_replied l' x.1) (subst (AreRuns w.commands) (sym (requests-all_replied l' x.1)) all'.1))
    (ap (λ (v : WorldModel). v.commands) x.7) (ap (λ (v : WorldModel). v.ups) x.7) (ap (λ (v : WorldModel). v.links) x.7)

-- every event keeps it
pub does-turned : (e : Event) (w w' : WorldModel) → Turned w → WorldDoes w e w' → Turned w'
does-turned (Arrive client part) w w' h d =
    gone w w' h (w.commands ++ arrival w client part ∷ []) (λ i c p. (c, before-last w.commands (arrival w client part ∷ []) i c p, later-refl c))
    (ap (λ (v : WorldModel). v.commands) d.1) (ap (λ (v : WorldModel). v.ups) d.1) (ap (λ (v : WorldModel). v.links) d.1)
does-turned (Post tickets node) w w' h d =
    let b : Posted = record { tickets = tickets; node = node; asking = (d.0).asking } in
    let g = out-grow d.0 node [] tickets w.commands d.1 d.4 in
    subst Turned (sym d.5) (record {
      ups = All-append (λ (x : Posted). IsRun d.1 x.tickets) w.ups (b ∷ []) (all_on (λ (x : Posted). IsRun w.commands x.tickets) (λ x. IsRun d.1 x.tickets) w.ups (λ x. run-on w.commands d.1 g x.tickets) h.ups) (one (λ (x : Posted). IsRun d.1 x.tickets) b ((d.0).slot, (λ p t e. subst (λ n. Goes d.1 (d.0).slot tickets n t) (let m : 0 + p ≡ p = omega arith in m) (out-goes d.0 node [] tickets w.commands d.1 d.4 p t e)), (d.0).client, out-client d.0 node [] tickets w.commands d.1 d.4));
      links = all_on (λ (x : Link). AreRuns w.commands x.requests) (λ x. AreRuns d.1 x.requests) w.links (λ x. runs-on w.commands d.1 g x.requests) h.links;
    })
does-turned (Carry lane link) w w' h d =
    stay w w' h (remove w.ups d.0) d.2 (All-remove (λ (b : Posted). IsRun w.commands b.tickets) w.ups d.0 h.ups) (links d.4)
    (ap (λ (v : WorldModel). v.commands) d.5) (ap (λ (v : WorldModel). v.ups) d.5) (ap (λ (v : WorldModel). v.links) d.5)
  where
    run : IsRun w.commands (d.1).tickets
    run = all_at (λ (b : Posted). IsRun w.commands b.tickets) w.ups d.0 d.1 d.3.1 h.ups

    links : CarriesOver w link d.1 d.2 → All (λ l. AreRuns w.commands l.requests) d.2
    links (inl x) = subst (All (λ (l : Link). AreRuns w.commands l.requests)) (sym x.4) (set-link w w' h link (sent x.0 d.1) (runs-sent w.commands (x.0).requests d.1 (at-link w w' h link x.0 x.1) run))
    links (inr x) = subst (All (λ (l : Link). AreRuns w.commands l.requests)) (sym x.1) (All-append (λ (l : Link). AreRuns w.commands l.requests) w.links (sent (new_link (d.1).node) d.1 ∷ []) h.links
        (one (λ (l : Link). AreRuns w.commands l.requests) (sent (new_link (d.1).node) d.1) (runs-sent w.commands [] d.1 tt run)))
does-turned (Refuse lane) w w' h d =
    stay w w' h (remove w.ups d.0) w.links (All-remove (λ (b : Posted). IsRun w.commands b.tickets) w.ups d.0 h.ups) h.links
    (ap (λ (v : WorldModel). v.commands) d.3) (ap (λ (v : WorldModel). v.ups) d.3) (ap (λ (v : WorldModel). v.links) d.3)
does-turned (Serve link v) w w' h d = go d.2
  where
    here : AreRuns w.commands (d.0).requests
    here = at-link w w' h link d.0 d.1

    go : ServesAsking w link d.0 v w' ⊎ ServesRun w link d.0 v w' → Turned w'
    go (inl x) =
        let l' : Link = record (d.0) { requests = x.0; asking = true } in
        stay w w' h w.ups (slice_set w.links link (replied l' Welcome)) h.ups (set-link w w' h link (replied l' Welcome) (subst (AreRuns w.commands) (sym (requests-replied l' Welcome)) (subst (AreRuns w.commands) x.1 here)))
        (ap (λ (v : WorldModel). v.commands) x.3) (ap (λ (v : WorldModel). v.ups) x.3) (ap (λ (v : WorldModel). v.links) x.3)
    go (inr x) = run-turned w w' h link (d.0).node d.0 v d.1 x
does-turned (Fetch link) w w' h d = go d.3
  where
    here : AreRuns w.commands (d.0).requests
    here = at-link w w' h link d.0 d.1

    go : FetchesWelcome w link d.0 w' ⊎ FetchesReply w link d.0 w' → Turned w'
    go (inl x) = stay w w' h w.ups (slice_set w.links link (record (d.0) { backs = x.0 })) h.ups (set-link w w' h link (record (d.0) { backs = x.0 }) here) (ap (λ (v : WorldModel). v.commands) x.2) (ap (λ (v : WorldModel). v.ups) x.2) (ap (λ (v : WorldModel). v.links) x.2)
    go (inr x) = stay w w' h w.ups (slice_set w.links link (record (d.0) { backs = x.0 })) h.ups (set-link w w' h link (record (d.0) { backs = x.0 }) here) (ap (λ (v : WorldModel). v.commands) x.4) (ap (λ (v : WorldModel). v.ups) x.4) (ap (λ (v : WorldModel). v.links) x.4)
does-turned (Take lane) w w' h d =
    gone w w' h (slice_set w.commands d.1 (after_told d.2 d.3))
    (grow-set w.commands d.1 d.2 (after_told d.2 d.3) d.5.1 (ticket-after_told d.2 d.3, part-after_told d.2 d.3, arrived-after_told d.2 d.3, λ x e. absurd (clash x e), λ p. p))
    (ap (λ (v : WorldModel). v.commands) d.7) (ap (λ (v : WorldModel). v.ups) d.7) (ap (λ (v : WorldModel). v.links) d.7)
  where
    clash : (x : Ended) → (d.2).command.stage ≡ Over x → ⊥
    clash x e = let q : (d.2).command.stage ≡ Awaits = d.6 in cc
does-turned (Drop link) w w' h d =
    let l' : Link = record (d.0) { is_open = false; backs = [] } in
    stay w w' h w.ups (slice_set w.links link l') h.ups (set-link w w' h link l' (at-link w w' h link d.0 d.1)) (ap (λ (v : WorldModel). v.commands) d.3) (ap (λ (v : WorldModel). v.ups) d.3) (ap (λ (v : WorldModel). v.links) d.3)
does-turned (Discard link) w w' h d =
    stay w w' h w.ups (slice_set w.links link (record (d.0) { requests = [] })) h.ups (set-link w w' h link (record (d.0) { requests = [] }) tt) (ap (λ (v : WorldModel). v.commands) d.4) (ap (λ (v : WorldModel). v.ups) d.4) (ap (λ (v : WorldModel). v.links) d.4)
does-turned (ev.Answer client) w w' h d =
    gone w w' h (slice_set w.commands d.0 (record (d.1) { answered = true })) (grow-set w.commands d.0 d.1 (record (d.1) { answered = true }) d.3 (refl, refl, refl, λ x e. e, λ _. refl))
    (ap (λ (v : WorldModel). v.commands) d.8) (ap (λ (v : WorldModel). v.ups) d.8) (ap (λ (v : WorldModel). v.links) d.8)
does-turned (Import slot target) w w' h d = nodes w w' h (ap (λ (v : WorldModel). v.commands) d.2) (ap (λ (v : WorldModel). v.ups) d.2) (ap (λ (v : WorldModel). v.links) d.2)
does-turned (Migrate slot) w w' h d = nodes w w' h (ap (λ (v : WorldModel). v.commands) d.1) (ap (λ (v : WorldModel). v.ups) d.1) (ap (λ (v : WorldModel). v.links) d.1)
does-turned (MoveKey slot key) w w' h d = nodes w w' h (ap (λ (v : WorldModel). v.commands) d.1) (ap (λ (v : WorldModel). v.ups) d.1) (ap (λ (v : WorldModel). v.links) d.1)
does-turned (Own slot) w w' h d = nodes w w' h (ap (λ (v : WorldModel). v.commands) d.1) (ap (λ (v : WorldModel). v.ups) d.1) (ap (λ (v : WorldModel). v.links) d.1)
does-turned (Release slot) w w' h d = nodes w w' h (ap (λ (v : WorldModel). v.commands) d.1) (ap (λ (v : WorldModel). v.ups) d.1) (ap (λ (v : WorldModel). v.links) d.1)
does-turned (Forget slot) w w' h d = nodes w w' h (ap (λ (v : WorldModel). v.commands) d.1) (ap (λ (v : WorldModel). v.ups) d.1) (ap (λ (v : WorldModel). v.links) d.1)
does-turned (Stay slot) w w' h d = nodes w w' h (ap (λ (v : WorldModel). v.commands) d.1) (ap (λ (v : WorldModel). v.ups) d.1) (ap (λ (v : WorldModel). v.links) d.1)
