-- Where no command for the slot is under way that an ASK sent to the node, none is so in the machine.
use Rattle.std.proofs.Common.{◌≡◌, ◌≢◌, ⊎_elim, ℕ, zero, suc, ◌+◌, ◌<◌, ◌==◌, ◌&&◌, Bool, true, false, List, [], ◌∷◌, ◌++◌, Some, None, refl, sym, ap, ◌∙◌, subst, arith, length}
use Rattle.std.specs.Prelude.{slice_get, Option, All, map, filter, if◌then◌else◌, cond}
use Rattle.std.proofs.lemmas.Bool.Decides.{eqb_tells}
use Rattle.std.proofs.lemmas.List.Elements.{All-cons}
use Rattle.resp_wire.specs.declared.value.Value.{Value}
use Rattle.slot_hash.specs.Slot.{slot_of}
use Rattle.slot_map.specs.Table.{Endpoint}
use Rattle.key_split.specs.PartModel.{PartModel}
use Rattle.key_split.specs.Same.{same_ticket-Decides}
use Rattle.key_split.specs.Runs.{RunModel, batches_in}
use Rattle.key_split.specs.declared.travel.Batch.{Batch}
use Rattle.key_split.specs.declared.travel.Ticket.{Ticket}
use Rattle.key_split.specs.declared.travel.Told.{Told}
use Rattle.key_split.specs.declared.travel.Told.TheVariants.{Reply, Moved, Ask, TryAgain, ClusterDown, Unclear, Lost, Unsent}
use Rattle.command_future.specs.CommandModel.{CommandModel, progress_told, refused_at, told_at}
use Rattle.command_future.specs.declared.stage.Stage.{Stage}
use Rattle.command_future.specs.declared.stage.Stage.TheVariants.{Wants, WantsAsking, Awaits, Over}
use Rattle.key_split.specs.declared.travel.Ended.TheVariants.{GaveUp}
use Rattle.node_link.specs.LinkModel.{LinkModel}
use Rattle.node_link.specs.declared.link.Due.{Due}
use Rattle.node_link.specs.declared.link.Due.TheVariants as due
use Rattle.proxy_lanes.specs.declared.ends.lane_ends.LaneEnds.{LaneEnds}
use Rattle.proxy_turns.specs.declared.newcomer.Newcomer.{Newcomer}
use Rattle.proxy_turns.specs.WorkerModel.{WorkerModel}
use Rattle.world_laws.specs.State.{WorldModel, Link, slot_for}
use Rattle.world_laws.specs.declared.state.Arrival.{Arrival}
use Rattle.world_laws.specs.declared.state.Posted.{Posted}
use Rattle.world_laws.specs.declared.state.LinkRequest.{LinkRequest}
use Rattle.world_laws.specs.declared.state.LinkRequest.TheVariants as asked
use Rattle.world_laws.specs.Places.{total, tally, in_requests, in_backs, in_lane, in_link, is, asks, asks_in_stage, asks_in_told}
use Rattle.world_laws.specs.Places.Item.{Stands, Lies, Sent, Comes}
use Rattle.world_laws.specs.World.{NoneAsks, lies_in}
use Rattle.world_laws.proofs.Tally.{total-one}
use Rattle.world_laws.proofs.Kept.{is-refl}
use Rattle.world_laws.proofs.Counted.{here}
use Rattle.world_laws.proofs.Placed.{Standing}
use Rattle.world_laws.proofs.Allowed.{awaited}
use Rattle.turn_laws.specs.Wire.{Wire, Item, Part, Asks, Runs, Lists, heard_in, tickets_for}
use Rattle.turn_laws.specs.System.{System}
use Rattle.turn_laws.specs.Asking.{NoneBehindAsking, NoneAsksIn}
use Rattle.turn_laws.specs.Shadow.{IsShadow, HasPart, IsKnown, IsUnderWay, RunShadow, LaneShadow, OpenShadow, ClosedShadow, IsIdle, Numbers, IsUnnumbered, lying, requests_in, backs_in}
use Rattle.turn_laws.specs.Underway.{IsWorking, Holds, downs_of, ups_in, coming}
use Rattle.turn_laws.proofs.Downs.{Pair, is-other}
use Rattle.turn_laws.proofs.Frames.{beside}
use Rattle.turn_laws.proofs.Elements.{nothing-there}
use Rattle.turn_laws.proofs.Told.{Fitting, fitting}
use Rattle.turn_laws.proofs.Holding.{told-from}

-- ---- sums

total-none : {X : Type 0} (f : X → ℕ) (xs : List X) → ((i : ℕ) (x : X) → slice_get xs i ≡ Some x → f x ≡ 0) → total f xs ≡ 0
total-none f [] h = refl
total-none f (x ∷ xs) h = omega (arith, h 0 x refl, total-none f xs (λ i y e. h (suc i) y e))

same-item : {X : Type 0} (xs : List X) (i : ℕ) (x y : X) → slice_get xs i ≡ Some x → slice_get xs i ≡ Some y → x ≡ y
same-item xs i x y p q = let one : Some x ≡ Some y = sym p ∙ q in cc

first-there : {X : Type 0} (xs : List X) (i : ℕ) (x : X) → slice_get xs i ≡ Some x → (y : X) × (slice_get xs 0 ≡ Some y)
first-there [] i x e = absurd (nothing-there i x e)
first-there (y ∷ xs) i x e = (y, refl)

map-has : {X Y : Type 0} (f : X → Y) (xs : List X) (i : ℕ) (y : Y) → slice_get (map f xs) i ≡ Some y → (x : X) × (slice_get xs i ≡ Some x) × (f x ≡ y)
map-has f [] i y e = absurd (nothing-there i y e)
map-has f (x ∷ xs) zero y e = (x, refl, (let one : Some (f x) ≡ Some y = e in cc))
map-has f (x ∷ xs) (suc i) y e = map-has f xs i y e

filter-has : {X : Type 0} (p : X → Bool) (xs : List X) (i : ℕ) (x : X) → slice_get xs i ≡ Some x → p x ≡ true → (j : ℕ) × (slice_get (filter p xs) j ≡ Some x)
filter-has p [] i x e t = absurd (nothing-there i x e)
filter-has {X} p (z ∷ xs) zero x e t =
    let same : z ≡ x = (let one : Some z ≡ Some x = e in cc) in
    let passes : p z ≡ true = ap p same ∙ t in
    (0, ap (λ b. slice_get (cond b (z ∷ filter p xs) (filter p xs)) 0) passes ∙ e)
filter-has {X} p (z ∷ xs) (suc i) x e t = let r = filter-has p xs i x e t in go (p z) r
  where
    go : (b : Bool) → (j : ℕ) × (slice_get (filter p xs) j ≡ Some x) → (j : ℕ) × (slice_get (cond b (z ∷ filter p xs) (filter p xs)) j ≡ Some x)
    go true r = (suc r.0, r.1)
    go false r = r

all-at : {X : Type 0} (P : X → Type 0) (xs : List X) (i : ℕ) (x : X) → All P xs → slice_get xs i ≡ Some x → P x
all-at P [] i x h e = absurd (nothing-there i x e)
all-at P (z ∷ xs) zero x h e = let same : z ≡ x = (let one : Some z ≡ Some x = e in cc) in subst P same (h 0 z (omega arith))
all-at P (z ∷ xs) (suc i) x h e = all-at P xs i x (λ j d lt. h (suc j) d (omega (arith, lt))) e

-- ---- where nothing asks

module _ (node : ℕ) where
  refused-asks : (f : ℕ) (next : Stage) → (refused_at f next).1 ≡ WantsAsking node → next ≡ WantsAsking node
  refused-asks f next e = go (f == 16) e
    where
      go : (b : Bool) → (if◌then◌else◌ {A = ℕ × Stage} b (f, Over GaveUp) (f + 1, next)).1 ≡ WantsAsking node → next ≡ WantsAsking node
      go true e = absurd (cc)
      go false e = e

  plain-not : (named : Option ℕ) → Wants named ≡ WantsAsking node → ⊥
  plain-not named e = cc

  -- who wants to ask was told so
  told-asks : (f : ℕ) (told : Told) → (told_at f told).1 ≡ WantsAsking node → (slot : ℕ) × (told ≡ Ask slot node)
  told-asks f (Reply v) e = absurd (cc)
  told-asks f Lost e = absurd (cc)
  told-asks f (Moved s m) e = absurd (plain-not (Some m) (refused-asks f (Wants (Some m)) e))
  told-asks f (Ask s m) e = let x : WantsAsking m ≡ WantsAsking node = refused-asks f (WantsAsking m) e in let same : m ≡ node = cc in (s, ap (λ n. Ask s n) same)
  told-asks f TryAgain e = absurd (plain-not None (refused-asks f (Wants None) e))
  told-asks f ClusterDown e = absurd (plain-not None (refused-asks f (Wants None) e))
  told-asks f Unclear e = absurd (plain-not None (refused-asks f (Wants None) e))
  told-asks f Unsent e = absurd (plain-not None (refused-asks f (Wants None) e))

  stage-quiet : (s : Stage) (n : ℕ) → (s ≡ WantsAsking node → n ≡ 0) → asks_in_stage node s n ≡ 0
  stage-quiet (Wants m) n q = refl
  stage-quiet (WantsAsking m) n q = ⊎_elim
      (λ (z : ((m == node) ≡ true) × (m ≡ node)). ap (λ b. if b then n else 0) z.0 ∙ q (ap WantsAsking z.1))
      (λ (z : ((m == node) ≡ false) × (m ≢ node)). ap (λ b. if b then n else 0) z.0)
      (eqb_tells m node)
  stage-quiet Awaits n q = refl
  stage-quiet (Over e) n q = refl

  told-quiet : (told : Told) (n : ℕ) → ((slot : ℕ) → told ≡ Ask slot node → n ≡ 0) → asks_in_told node told n ≡ 0
  told-quiet (Reply v) n q = refl
  told-quiet (Moved s m) n q = refl
  told-quiet (Ask s m) n q = ⊎_elim
      (λ (z : ((m == node) ≡ true) × (m ≡ node)). ap (λ b. if b then n else 0) z.0 ∙ q s (ap (λ k. Ask s k) z.1))
      (λ (z : ((m == node) ≡ false) × (m ≢ node)). ap (λ b. if b then n else 0) z.0)
      (eqb_tells m node)
  told-quiet TryAgain n q = refl
  told-quiet ClusterDown n q = refl
  told-quiet Unclear n q = refl
  told-quiet Unsent n q = refl
  told-quiet Lost n q = refl

  way-quiet : (asking : Bool) (m n : ℕ) → (asking ≡ true → m ≡ node → n ≡ 0) → (if asking && (m == node) then n else 0) ≡ 0
  way-quiet false m n q = refl
  way-quiet true m n q = ⊎_elim
      (λ (z : ((m == node) ≡ true) × (m ≡ node)). ap (λ b. if b then n else 0) z.0 ∙ q refl z.1)
      (λ (z : ((m == node) ≡ false) × (m ≢ node)). ap (λ b. if b then n else 0) z.0)
      (eqb_tells m node)

  -- requests to another node
  elsewhere-quiet : (t : Ticket) (o : Bool) (m : ℕ) (flag : Bool) (rs : List LinkRequest) → (m ≡ node → ⊥) → in_requests (asks node t) o m flag rs ≡ 0
  elsewhere-quiet t o m flag [] ne = refl
  elsewhere-quiet t o m flag (asked.Asking ∷ rs) ne = elsewhere-quiet t o m true rs ne
  elsewhere-quiet t o m flag (asked.Runs ts ∷ rs) ne = omega (
    arith,
    total-none (λ u. asks node t (Sent o m flag u)) ts (λ i u e. way-quiet flag m (is t u) (λ a same. absurd (ne same))),
    elsewhere-quiet t o m false rs ne,
  )

  -- what came on the way back
  backs-quiet : (t : Ticket) (table : List Endpoint) (from : ℕ) (dues : List Due) (values : List Value)
      → ((i slot : ℕ) (value : Value) → slice_get dues i ≡ Some (due.Command t) → slice_get values i ≡ Some value → (heard_in value from table).0 ≡ Ask slot node → ⊥)
      → in_backs (asks node t) (backs_in table from dues values) ≡ 0
  backs-quiet t table from [] values h = refl
  backs-quiet t table from (d ∷ ds) [] h = refl
  backs-quiet t table from (due.Asking ∷ ds) (v ∷ vs) h = backs-quiet t table from ds vs (λ i slot value p q. h (suc i) slot value p q)
  backs-quiet t table from (due.Command u ∷ ds) (v ∷ vs) h = omega (
    arith,
    told-quiet (heard_in v from table).0 (is t u) (λ slot e. is-other t u (λ same. h 0 slot v (ap (λ x. Some (due.Command x)) (sym same)) refl e)),
    backs-quiet t table from ds vs (λ i slot value p q. h (suc i) slot value p q),
  )
  backs-quiet t table from (due.Slots ∷ ds) (v ∷ vs) h = backs-quiet t table from ds vs (λ i slot value p q. h (suc i) slot value p q)

-- who is due a value that came stands there
backs-here : (t : Ticket) (table : List Endpoint) (from : ℕ) (dues : List Due) (values : List Value) (i : ℕ) (value : Value) → slice_get dues i ≡ Some (due.Command t) → slice_get values i ≡ Some value
    → 0 < in_backs (here t) (backs_in table from dues values)
backs-here t table from [] values i value p q = absurd (nothing-there i (due.Command t) p)
backs-here t table from (d ∷ ds) [] i value p q = absurd (nothing-there i value q)
backs-here t table from (due.Asking ∷ ds) (v ∷ vs) zero value p q = absurd (let one : Some due.Asking ≡ Some (due.Command t) = p in cc)
backs-here t table from (due.Command u ∷ ds) (v ∷ vs) zero value p q = let same : u ≡ t = (let one : Some (due.Command u) ≡ Some (due.Command t) = p in cc) in omega (arith, ap (is t) same, is-refl t)
backs-here t table from (due.Slots ∷ ds) (v ∷ vs) zero value p q = absurd (let one : Some due.Slots ≡ Some (due.Command t) = p in cc)
backs-here t table from (due.Asking ∷ ds) (v ∷ vs) (suc i) value p q = backs-here t table from ds vs i value p q
backs-here t table from (due.Command u ∷ ds) (v ∷ vs) (suc i) value p q = omega (arith, backs-here t table from ds vs i value p q)
backs-here t table from (due.Slots ∷ ds) (v ∷ vs) (suc i) value p q = backs-here t table from ds vs i value p q

front-get : {X : Type 0} (xs ys : List X) (i : ℕ) (x : X) → slice_get xs i ≡ Some x → slice_get (xs ++ ys) i ≡ Some x
front-get [] ys i x e = absurd (nothing-there i x e)
front-get (z ∷ xs) ys zero x e = e
front-get (z ∷ xs) ys (suc i) x e = front-get xs ys i x e

module _ {C J : Type 0} (s : System C J) (w : WorldModel) (h : IsShadow s w) (placed : Standing w) (slot node : ℕ) (none : NoneAsksIn s slot node)
    (tidy : (i : ℕ) (l : Link) → slice_get w.links i ≡ Some l → l.is_open ≡ false → l.node ≡ node → l.requests ≡ [])
    (a : ℕ) (c : Arrival) (at : slice_get w.commands a ≡ Some c) (for-slot : slot_for c.command.part ≡ slot) where
  abbrev t : Ticket
  t = c.command.ticket

  fits : Fitting s.workers (length s.carrier.lanes) w.workers (downs_of s) w.commands
  fits = fitting s w placed h

  own : (j : ℕ) (d : Arrival) → slice_get w.commands j ≡ Some d → d.command.ticket ≡ t → d ≡ c
  own j d p e = same-item w.commands a d c (ap (slice_get w.commands) (sym (fits.own j a d c p at e)) ∙ p) at

  part-slot : (part : PartModel) → HasPart w.commands t part → slot_of part.key ≡ slot
  part-slot part x = ap (λ (p : PartModel). slot_of p.key) (sym x.3 ∙ ap (λ (d : Arrival). d.command.part) (own x.0 x.1 x.2 x.4)) ∙ for-slot

  -- who stands in a lane, on an open link or on its way back is held, and awaits
  held-here : (u : Ticket) → 0 < tally (here u) w → (d : CommandModel) × Holds s.workers u d × ((j : ℕ) × (x : Arrival) × (slice_get w.commands j ≡ Some x) × (x.command ≡ d) × (x.command.ticket ≡ u))
  held-here u lt =
      let f = awaited w placed u (omega (arith, lt, placed.place u)) in
      let same : u ≡ (f.1).command.ticket = (same_ticket-Decides u (f.1).command.ticket).0 f.4 in
      ((f.1).command, subst (λ (v : Ticket). Holds s.workers v (f.1).command) (sym same) (h.waiting f.0 f.1 f.2 f.3), (f.0, f.1, f.2, refl, sym same))

  -- ---- commands

  never-wants : (j : ℕ) (d : Arrival) → slice_get w.commands j ≡ Some d → d.command.ticket ≡ t → d.command.stage ≡ WantsAsking node → ⊥
  never-wants j d p same wants =
      let one : d ≡ c = own j d p same in
      let part : slot_for d.command.part ≡ slot = ap (λ (x : Arrival). slot_for x.command.part) one ∙ for-slot in
      let x = h.asking j d node p wants in
      ⊎_elim
      (λ z. none.wants d.command.ticket x.0 (x.1, ap (λ (u : CommandModel). slot_of u.part.key) (sym z.0) ∙ part) (ap (λ (u : CommandModel). u.stage) (sym z.0) ∙ wants))
      (λ (z : (told : Told) × (i : ℕ) × (slice_get (downs_of s) i ≡ Some ((x.0).ticket, told)) × (d.command ≡ progress_told x.0 told)).
      let r = told-asks node (x.0).followed z.0 (ap (λ (u : CommandModel). u.stage) (sym z.3) ∙ wants) in
      let ticketed : (x.0).ticket ≡ d.command.ticket = ((x.1).3).3 in
      none.told d.command.ticket x.0 r.0 z.1 (x.1, ap (λ (u : CommandModel). slot_of u.part.key) (sym z.3) ∙ part) (z.2 ∙ (λ i. Some (ticketed i, r.1 i))))
      (told-from s.workers (length s.carrier.lanes) w.workers (downs_of s) w.commands fits j d x.0 p x.1)

  commands-quiet : total (λ (d : Arrival). asks node t (Stands d)) w.commands ≡ 0
  commands-quiet = total-none (λ (d : Arrival). asks node t (Stands d)) w.commands (λ j d p.
      stage-quiet node d.command.stage (is t d.command.ticket) (λ wants. is-other t d.command.ticket (λ same. never-wants j d p (sym same) wants)))

  -- ---- lanes

  module _ (i : ℕ) (b : Posted) (lying-at : slice_get w.ups i ≡ Some b) (n : ℕ) (u : Ticket) (among : slice_get b.tickets n ≡ Some u) (same : t ≡ u) (asks-so : b.asking ≡ true) (there : b.node ≡ node) where
    abbrev first : Ticket
    first = (first-there b.tickets n u among).0

    first-at : slice_get b.tickets 0 ≡ Some first
    first-at = (first-there b.tickets n u among).1

    stands : 0 < tally (here first) w
    stands = omega (
      arith,
      total-one (in_lane (here first)) w.ups i b lying-at,
      total-one (λ v. here first (Lies b.node b.asking v)) b.tickets 0 first first-at,
      is-refl first,
    )

    held : (d : CommandModel) × Holds s.workers first d × ((j : ℕ) × (x : Arrival) × (slice_get w.commands j ≡ Some x) × (x.command ≡ d) × (x.command.ticket ≡ first))
    held = held-here first stands

    abbrev k : ℕ
    k = held.1.0

    abbrev model : WorkerModel C J
    model = held.1.1

    mine : first.worker ≡ k
    mine =
        let x = held.1 in
        let shadow = (h.clients x.0 x.1 first.client x.3.0 x.2 x.3.1).1 in
        let out = ((shadow.commands).posted first.part held.0 x.3.2).1 in
        ap (λ (v : Ticket). v.worker) (sym x.3.3) ∙ out.3 ∙ shadow.housed

    lane : (l : LaneEnds (Newcomer C J)) × (slice_get s.carrier.lanes k ≡ Some l)
    lane = beside s.carrier.lanes s.workers k model (sym h.sides) held.1.2

    in-lane : lies_in k b ≡ true
    in-lane = starts b.tickets first-at
      where
        starts : (ts : List Ticket) → slice_get ts 0 ≡ Some first → lies_in k (record b { tickets = ts }) ≡ true
        starts [] e = absurd (nothing-there 0 first e)
        starts (v ∷ ts) e = let one : v ≡ first = (let o : Some v ≡ Some first = e in cc) in ap (λ (x : Ticket). x.worker == k) one ∙ ap (λ m. m == k) mine ∙ (eqb-itself k)
          where
            eqb-itself : (m : ℕ) → (m == m) ≡ true
            eqb-itself m = ⊎_elim (λ z. z.0) (λ z. absurd (z.1 refl)) (eqb_tells m m)

    lane-shadow : LaneShadow w k model lane.0 (slice_get s.carrier.pending_runs k)
    lane-shadow = h.lanes k model lane.0 held.1.2 lane.1

    lanes-no : ⊥
    lanes-no =
        let f = filter-has (lies_in k) w.ups i b lying-at in-lane in
        let held-runs : List RunModel = ups_in model lane.0 (slice_get s.carrier.pending_runs k) in
        let r = map-has lying held-runs f.0 b (ap (λ bs. slice_get bs f.0) (sym lane-shadow.0) ∙ f.1) in
        let run-at : RunShadow w.commands k r.0 = all-at (RunShadow w.commands k) held-runs f.0 r.0 lane-shadow.1 r.1 in
        let m = map-has (λ (batch : Batch). batch.ticket) (batches_in r.0) n u (ap (λ (x : Posted). slice_get x.tickets n) r.2 ∙ among) in
        let under : IsUnderWay w.commands k m.0 = all-at (IsUnderWay w.commands k) (batches_in r.0) n m.0 run-at.1 m.1 in
        none.lies k f.0 n model lane.0 r.0 m.0 held.1.2 lane.1 r.1 m.1
        (ap (λ (x : Posted). x.asking) r.2 ∙ asks-so) (ap (λ (x : Posted). x.node) r.2 ∙ there)
        (part-slot (m.0).part (subst (λ (v : Ticket). HasPart w.commands v (m.0).part) (m.2 ∙ sym same) under.0))

  lanes-quiet : total (in_lane (asks node t)) w.ups ≡ 0
  lanes-quiet = total-none (in_lane (asks node t)) w.ups (λ i b e.
      total-none (λ u. asks node t (Lies b.node b.asking u)) b.tickets (λ n u p.
      way-quiet node b.asking b.node (is t u) (λ asks-so there. is-other t u (λ same. lanes-no i b e n u p same asks-so there))))

  -- ---- links

  items-quiet : (o : Bool) (m : ℕ) (flag : Bool) (items : List Item) → NoneBehindAsking slot flag items → All (IsKnown w.commands) items → in_requests (asks node t) o m flag (requests_in items) ≡ 0
  items-quiet o m flag [] q known = refl
  items-quiet o m flag (Asks ∷ items) q known = items-quiet o m true items q (λ j d lt. known (suc j) d (omega (arith, lt)))
  items-quiet o m flag (Runs parts ∷ items) q known = omega (
    arith,
    total-none (λ u. asks node t (Sent o m flag u)) (tickets_for parts) (λ i u e.
        way-quiet node flag m (is t u) (λ asks-so there. is-other t u (λ same.
        let p = map-has (λ (part : Part). part.0) parts i u e in
        let its : HasPart w.commands (p.0).0 (p.0).1 = all-at (λ (part : Part). HasPart w.commands part.0 part.1) parts i p.0 (known 0 (Runs parts) (omega arith)) p.1 in
        all-at (λ (part : Part). slot_of part.1.key ≢ slot) parts i p.0 (q.0 asks-so) p.1
        (part-slot (p.0).1 (subst (λ (v : Ticket). HasPart w.commands v (p.0).1) (p.2 ∙ sym same) its))))),
    items-quiet o m false items q.1 (λ j d lt. known (suc j) d (omega (arith, lt))),
  )
  items-quiet o m flag (Lists ∷ items) q known = items-quiet o m flag items q (λ j d lt. known (suc j) d (omega (arith, lt)))

  module _ (i : ℕ) (l : Link) (here-it-is : slice_get w.links i ≡ Some l) where
    id : (n : ℕ) × (slice_get (h.links).ids i ≡ Some n)
    id = beside (h.links).ids w.links i l (h.links).all here-it-is

    same-number : (i' : ℕ) (l' : Link) → Numbers (h.links).ids id.0 i' → slice_get w.links i' ≡ Some l' → l' ≡ l
    same-number i' l' numbers p = same-item w.links i l' l (ap (slice_get w.links) ((h.links).once i i' id.0 id.1 numbers) ∙ p) here-it-is

    open-quiet : (k : ℕ) (link : LinkModel Wire) → IsWorking s.carrier k link → OpenShadow s.nodes w.commands link l → in_link (asks node t) l ≡ 0
    open-quiet k link works o = omega (arith, by-requests, by-backs)
      where
        by-requests : in_requests (asks node t) l.is_open l.node l.asking l.requests ≡ 0
        by-requests = ⊎_elim
            (λ (z : ((l.node == node) ≡ true) × (l.node ≡ node)).
            (λ n. in_requests (asks node t) l.is_open l.node (o.asking n) (o.requests n))
            ∙ items-quiet l.is_open l.node link.port.asking link.port.items (none.sent k link works (sym o.node ∙ z.1)) o.known)
            (λ (z : ((l.node == node) ≡ false) × (l.node ≢ node)). elsewhere-quiet node t l.is_open l.node l.asking l.requests z.1)
            (eqb_tells l.node node)

        waits : (n : ℕ) (value : Value) → slice_get o.answered n ≡ Some (due.Command t) → slice_get (coming link) n ≡ Some value → 0 < tally (here t) w
        waits n value p q = omega (
          arith,
          total-one (in_link (here t)) w.links i l here-it-is,
          ap (in_backs (here t)) o.backs,
          backs-here t s.nodes link.node o.answered (coming link) n value p q,
        )

        by-backs : in_backs (asks node t) l.backs ≡ 0
        by-backs = ap (in_backs (asks node t)) o.backs ∙ backs-quiet node t s.nodes link.node o.answered (coming link) (λ n said value p q e.
            let x = held-here t (waits n value p q) in
            let one : (x.2.1).command.part ≡ c.command.part = ap (λ (d : Arrival). d.command.part) (own x.2.0 x.2.1 x.2.2 x.2.4) in
            none.said t x.0 said k n link value (x.1, ap (λ (u : CommandModel). slot_of u.part.key) (sym x.2.3) ∙ ap (λ (p : PartModel). slot_of p.key) one ∙ for-slot) works
            (ap (λ ds. slice_get ds n) o.due ∙ front-get o.answered _ n (due.Command t) p) q e)

    closed-quiet : l.is_open ≡ false → l.backs ≡ [] → in_link (asks node t) l ≡ 0
    closed-quiet shut back = omega (arith, by-requests, ap (in_backs (asks node t)) back)
      where
        by-requests : in_requests (asks node t) l.is_open l.node l.asking l.requests ≡ 0
        by-requests = ⊎_elim
            (λ (z : ((l.node == node) ≡ true) × (l.node ≡ node)). ap (in_requests (asks node t) l.is_open l.node l.asking) (tidy i l here-it-is shut z.1))
            (λ (z : ((l.node == node) ≡ false) × (l.node ≢ node)). elsewhere-quiet node t l.is_open l.node l.asking l.requests z.1)
            (eqb_tells l.node node)

    link-quiet : in_link (asks node t) l ≡ 0
    link-quiet = ⊎_elim
        (λ (z : (k : ℕ) × (link : LinkModel Wire) × IsWorking s.carrier k link × (link.port.id ≡ id.0)). ⊎_elim
        (λ (y : (n : ℕ) × (m : Link) × Numbers (h.links).ids (z.1).port.id n × (slice_get w.links n ≡ Some m) × OpenShadow s.nodes w.commands z.1 m).
        open-quiet z.0 z.1 z.2 (subst (OpenShadow s.nodes w.commands z.1) (same-number y.0 y.1 (y.2 ∙ ap Some z.3) y.3) y.4))
        (λ (y : IsUnnumbered (h.links).ids (z.1).port.id × IsIdle z.1). absurd (y.0 i (id.1 ∙ ap Some (sym z.3))))
        ((h.links).backends z.0 z.1 z.2).2)
        (λ (z : (j : ℕ) × (wire : Wire) × (slice_get s.closed j ≡ Some wire) × (wire.id ≡ id.0)). ⊎_elim
        (λ (y : (n : ℕ) × (m : Link) × Numbers (h.links).ids (z.1).id n × (slice_get w.links n ≡ Some m) × ClosedShadow w.commands z.1 m).
        let o : ClosedShadow w.commands z.1 l = subst (ClosedShadow w.commands z.1) (same-number y.0 y.1 (y.2 ∙ ap Some z.3) y.3) y.4 in
        closed-quiet o.is_open o.backs)
        (λ (y : IsUnnumbered (h.links).ids (z.1).id × (requests_in (z.1).items ≡ [])). absurd (y.0 i (id.1 ∙ ap Some (sym z.3))))
        ((h.links).wires z.0 z.1 z.2).1)
        ((h.links).seen i id.0 id.1)

  pub one-quiet : tally (asks node t) w ≡ 0
  one-quiet = omega (
    arith,
    commands-quiet,
    lanes-quiet,
    total-none (in_link (asks node t)) w.links (λ i l e. link-quiet i l e),
    ap (total (λ (p : Pair). asks node t (Comes p.0 p.1))) h.told,
  )

all-of : {X : Type 0} (P : X → Type 0) (xs : List X) → ((i : ℕ) (x : X) → slice_get xs i ≡ Some x → P x) → All P xs
all-of P [] h = λ i x lt. absurd (omega (arith, lt))
all-of P (z ∷ xs) h = All-cons P z xs (h 0 z refl) (all-of P xs (λ i x e. h (suc i) x e))

module _ {C J : Type 0} where
  -- in the machine none asks, where its closed links to the node have no requests
  pub none-asks-there : (s : System C J) (w : WorldModel) → IsShadow s w → Standing w → (slot node : ℕ) → NoneAsksIn s slot node
      → ((i : ℕ) (l : Link) → slice_get w.links i ≡ Some l → l.is_open ≡ false → l.node ≡ node → l.requests ≡ []) → NoneAsks w slot node
  none-asks-there s w h placed slot node none tidy =
      all-of (λ (c : Arrival). slot_for c.command.part ≡ slot → tally (asks node c.command.ticket) w ≡ 0) w.commands
      (λ a c at for-slot. one-quiet s w h placed slot node none tidy a c at for-slot)
