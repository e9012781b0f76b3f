-- A command's stage bounds what has run of it; and every event keeps the lists' records.
use Rattle.std.proofs.Common.{◌≡◌, ◌≢◌, ◌⊎◌, inl, inr, ⊎_elim, ℕ, zero, suc, ◌+◌, ◌<◌, ◌≤◌, ◌==◌, Bool, true, false, List, [], ◌∷◌, ◌++◌, Some, refl, sym, ap, ◌∙◌, subst, arith}
use Rattle.std.specs.Prelude.{slice_get, slice_set, if◌then◌else◌, count_by, length}
use Rattle.std.proofs.lemmas.Option.{slice_get_within}
use Rattle.std.proofs.lemmas.Bool.Decides.{eqb_tells, nat_tests}
use Rattle.resp_wire.specs.Seen.{data_of}
use Rattle.resp_wire.specs.declared.value.Value.{Value}
use Rattle.key_split.specs.PartModel.{PartModel}
use Rattle.key_split.specs.Same.{same_ticket}
use Rattle.key_split.specs.declared.travel.Ticket.{Ticket}
use Rattle.key_split.specs.declared.travel.Ended.{Ended}
use Rattle.key_split.specs.declared.travel.Ended.TheVariants.{Answered, GaveUp}
use Rattle.command_future.specs.CommandModel.{MayPostTo}
use Rattle.command_future.specs.declared.stage.Stage.TheVariants.{Awaits, Over}
use Rattle.world_laws.specs.State.{WorldModel, Arrival, Link, HasEnded, awaiting, after_told, slot_for, tickets_told, parts_told, tolds_of}
use Rattle.key_split.specs.declared.travel.Told.{Told}
use Rattle.key_split.specs.declared.travel.Told.TheVariants.{Reply}
use Rattle.world_laws.specs.declared.state.LinkRequest.TheVariants.{Runs}
use Rattle.world_laws.proofs.Flow.{all_at}
use Rattle.world_laws.specs.Places.{Item, total, tally, is}
use Rattle.world_laws.specs.Places.Item.{Stands, Lies, Sent, Comes}
use Rattle.node_model.specs.History.{EntryModel}
use Rattle.node_model.specs.declared.role.Deed.TheVariants.{Executes}
use Rattle.node_model.specs.declared.role.Verdict.{Verdict}
use Rattle.world_laws.specs.World.{WorldDoes, SameTurn, Way, GoOut, AreOf, ServesAsking, ServesRun, ServesRunAt, FetchesWelcome, FetchesReply, arrival, next_ticket, entry_of, entries_of}
use Rattle.world_laws.specs.declared.event.Event.{Event}
use Rattle.world_laws.specs.declared.event.Event.TheVariants.{Arrive, Post, Carry, Refuse, Serve, Fetch, Take, Drop, Discard, Import, Migrate, MoveKey, Own, Release, Forget, Stay}
use Rattle.world_laws.specs.declared.event.Event.TheVariants as ev
use Rattle.world_laws.specs.declared.history.Answer.{Answer}
use Rattle.world_laws.proofs.Tally.{total-one, total-two, total-found, tally-le, tally-rest}
use Rattle.world_laws.proofs.Counted.{one_if, if_awaits, if_ran, if_replied, here, awaits, stray, ran, replied_by, owned, entry_by, ticket-after_told, part-after_told, arrived-after_told}
use Rattle.world_laws.proofs.Placed.{Placed, Standing, standing-of, numbered_so, new-free}
use Rattle.world_laws.proofs.Kept.{is-refl, ran-le, awaits-le, ticket-numbers, numbers-so}
use Rattle.world_laws.proofs.Recorded.{Recorded, HasEarlier, one_at, set-same, waited, grown, gone-on, entered, replied-to, at-last, before-last, last}
use Rattle.world_laws.specs.Headline.{At}
use Rattle.world_laws.proofs.Same.{same_data, data-itself, data-is}
use Rattle.world_laws.proofs.Nodes.{SaidAll, ExecutedAll, runs, reply-is}
use Rattle.node_model.specs.Runs.{AreReplies, deed_for}
use Rattle.node_model.specs.Store.{StoreModel, store_after, reply_to}
use Rattle.node_model.specs.Nodes.{store_at}
use Rattle.world_laws.proofs.Turns.{Turned, IsRun, AreRuns, Goes, joined, longer}
use Rattle.world_laws.proofs.Serves.{entries-says}

-- tickets that pass the test are one
pub ticket-is : (t u : Ticket) → same_ticket t u ≡ true → u ≡ t
ticket-is t u e =
    let n = ticket-numbers t u e in
    let wk : t.worker ≡ u.worker = grind (arith, nat_tests) in
    λ j. record { worker = sym wk j; client = sym n.0 j; part = sym n.1 j }

module _ (w : WorldModel) (h : Standing w) where
  pub same_place : (i j : ℕ) (c d : Arrival) → At w.commands i c → At w.commands j d → c.command.ticket ≡ d.command.ticket → i ≡ j
  same_place i j c d p q e = ⊎_elim (λ (x : ((i == j) ≡ true) × (i ≡ j)). x.1)
      (λ (x : ((i == j) ≡ false) × (i ≢ j)).
      let cl : ℕ = c.command.ticket.client in
      let k : ℕ = c.command.ticket.part in
      let one_c : one_if (numbered_so cl k c.command.ticket) ≡ 1 = ap one_if (numbers-so c.command.ticket cl k refl refl) in
      let one_d : one_if (numbered_so cl k d.command.ticket) ≡ 1 = ap one_if (numbers-so d.command.ticket cl k (ap (λ (u : Ticket). u.client) (sym e)) (ap (λ (u : Ticket). u.part) (sym e))) in
      absurd (omega (arith, total-two (λ (z : Arrival). one_if (numbered_so cl k z.command.ticket)) w.commands i j c d p q x.1, h.single cl k, one_c, one_d)))
      (eqb_tells i j)

  pub same_command : (i j : ℕ) (c d : Arrival) → At w.commands i c → At w.commands j d → c.command.ticket ≡ d.command.ticket → c ≡ d
  same_command i j c d p q e = one_at w.commands i j c d p q (same_place i j c d p q e)

  awaits-bound : (i : ℕ) (c : Arrival) → At w.commands i c → tally (awaits c.command.ticket) w ≤ if_awaits c.command.stage (is c.command.ticket c.command.ticket)
  awaits-bound i c p =
      let one_c : one_if (numbered_so c.command.ticket.client c.command.ticket.part c.command.ticket) ≡ 1 = ap one_if (numbers-so c.command.ticket c.command.ticket.client c.command.ticket.part refl refl) in
      omega (arith, tally-rest (awaits c.command.ticket) (λ _. 0) (owned (numbered_so c.command.ticket.client c.command.ticket.part)) (λ _. 0) (awaits-le c.command.ticket) w i c p, one_c, h.single c.command.ticket.client c.command.ticket.part)

  pub ran-bound : (i : ℕ) (c : Arrival) → At w.commands i c → tally (ran c.command.ticket) w ≤ if_ran c.command.stage (is c.command.ticket c.command.ticket) + if_awaits c.command.stage (is c.command.ticket c.command.ticket)
  ran-bound i c p =
      let one_c : one_if (numbered_so c.command.ticket.client c.command.ticket.part c.command.ticket) ≡ 1 = ap one_if (numbers-so c.command.ticket c.command.ticket.client c.command.ticket.part refl refl) in
      omega (arith, tally-rest (ran c.command.ticket) (awaits c.command.ticket) (here c.command.ticket) (owned (numbered_so c.command.ticket.client c.command.ticket.part)) (ran-le c.command.ticket) w i c p, one_c, h.single c.command.ticket.client c.command.ticket.part, h.place c.command.ticket)

module _ (w : WorldModel) (h : Placed w) where
  -- an entry counts
  pub entry-counts : (t : Ticket) (k : ℕ) (e : EntryModel) → At w.history k e → e.ticket ≡ t → 1 ≤ total (λ (x : EntryModel). is t x.ticket) w.history
  entry-counts t k e p te = omega (arith, total-one (λ (x : EntryModel). is t x.ticket) w.history k e p, ap (is t) te, is-refl t)

  -- a command that wants to be posted, or was given up, has no entry
  pub no-entry : (i : ℕ) (c : Arrival) → At w.commands i c → if_ran c.command.stage 1 + if_awaits c.command.stage 1 ≡ 0 → (k : ℕ) (e : EntryModel) → At w.history k e → e.ticket ≡ c.command.ticket → ⊥
  no-entry i c p z k e q te = absurd (omega (arith, ran-bound w (standing-of w w.history h) i c p, is-same, h.once c.command.ticket, entry-counts c.command.ticket k e q te, z))
    where
      is-same : if_ran c.command.stage (is c.command.ticket c.command.ticket) + if_awaits c.command.stage (is c.command.ticket c.command.ticket) ≡ if_ran c.command.stage 1 + if_awaits c.command.stage 1
      is-same = ap (λ n. if_ran c.command.stage n + if_awaits c.command.stage n) (is-refl c.command.ticket)

  pub once-each : (k l : ℕ) (e f : EntryModel) → At w.history k e → At w.history l f → e.ticket ≡ f.ticket → k ≡ l
  once-each k l e f p q te = ⊎_elim (λ (x : ((k == l) ≡ true) × (k ≡ l)). x.1)
      (λ (x : ((k == l) ≡ false) × (k ≢ l)). absurd (omega (arith, total-two (λ (z : EntryModel). is e.ticket z.ticket) w.history k l e f p q x.1, is-refl e.ticket, ap (is e.ticket) te, h.once e.ticket, bound)))
      (eqb_tells k l)
    where
      bound : tally (ran e.ticket) w ≤ 1
      bound = omega (arith, h.place e.ticket, h.single e.ticket.client e.ticket.part, tally-le (ran e.ticket) (awaits e.ticket) (here e.ticket) (owned (numbered_so e.ticket.client e.ticket.part)) (ran-le e.ticket) w)

  -- an answered command has an entry with its reply
  pub has-entry : (i : ℕ) (c : Arrival) (v : Value) → At w.commands i c → c.command.stage ≡ Over (Answered v) → (j : ℕ) × (e : EntryModel) × At w.history j e × (e.ticket ≡ c.command.ticket) × (e.reply ≡ data_of v)
  has-entry i c v p st =
      let f = total-found (entry_by (same_data (data_of v)) c.command.ticket) w.history (omega (arith, h.replied (same_data (data_of v)) c.command.ticket, counted)) in
      (f.0, f.1, f.2, (tests (f.1) f.3).0, (tests (f.1) f.3).1)
    where
      counted : 1 ≤ tally (replied_by (same_data (data_of v)) c.command.ticket) w
      counted = omega (
        arith,
        total-one (λ (z : Arrival). replied_by (same_data (data_of v)) c.command.ticket (Stands z)) w.commands i c p,
        ap (λ s. if_replied (same_data (data_of v)) s (is c.command.ticket c.command.ticket)) st,
        ap (λ b. if b then is c.command.ticket c.command.ticket else 0) (data-itself (data_of v)),
        is-refl c.command.ticket,
      )

      tests : (e : EntryModel) → 0 < entry_by (same_data (data_of v)) c.command.ticket e → (e.ticket ≡ c.command.ticket) × (e.reply ≡ data_of v)
      tests e lt = go (same_data (data_of v) e.reply) refl (same_ticket c.command.ticket e.ticket) refl lt
        where
          go : (a : Bool) → same_data (data_of v) e.reply ≡ a → (b : Bool) → same_ticket c.command.ticket e.ticket ≡ b → 0 < (if a then (if b then 1 else 0) else 0) → (e.ticket ≡ c.command.ticket) × (e.reply ≡ data_of v)
          go true x true y lt = (ticket-is c.command.ticket e.ticket y, data-is (data_of v) e.reply x)
          go true x false y lt = absurd (omega arith)
          go false x b y lt = absurd (omega arith)

-- The events.

abbrev pub Lists : ℕ → WorldModel → Type 0
Lists m w = Recorded m w.commands w.history w.answers

may-not : (c : Arrival) (node : ℕ) (x : Ended) → MayPostTo c.command.stage node → c.command.stage ≡ Over x → ⊥
may-not c node x g e = subst (λ s. MayPostTo s node) e g

-- a request that stands in a link
abbrev pub sent_only : Ticket → Item → ℕ
sent_only t (Stands c) = 0
sent_only t (Lies n a u) = 0
sent_only t (Sent o n a u) = is t u
sent_only t (Comes u told) = 0

pub sent-le : (t : Ticket) (i : Item) → sent_only t i + 0 ≤ here t i + stray t i
sent-le t (Stands c) = omega arith
sent-le t (Lies n a u) = omega arith
sent-le t (Sent true n a u) = omega arith
sent-le t (Sent false n a u) = omega arith
sent-le t (Comes u told) = omega arith

module _ (w w' : WorldModel) (h : Placed w) (m : ℕ) (now : w.moment ≡ suc m) (r : Lists m w) where
  later-moment : Lists w.moment w
  later-moment = waited m w.moment w.commands w.history w.answers (omega (arith, now)) r

  same-lists : w'.commands ≡ w.commands → w'.history ≡ w.history → w'.answers ≡ w.answers → Lists w.moment w'
  same-lists a b c = subst (λ (x : List Arrival × List EntryModel × List Answer). Recorded w.moment x.0 x.1 x.2) (λ i. (sym a i, sym b i, sym c i)) later-moment

  arrive-lists : (client : ℕ) (part : PartModel) → WorldDoes w (Arrive client part) w' → Lists w.moment w'
  arrive-lists client part d =
      subst (λ (x : WorldModel). Lists w.moment x) (sym d.1)
      (subst (λ n. Recorded n (w.commands ++ arrival w client part ∷ []) w.history w.answers) (sym now)
      (grown m w.commands w.history w.answers (arrival w client part) now (refl, refl) none r))
    where
      new : ℕ
      new = count_by (λ (c : Arrival). c.command.ticket.client == client) w.commands

      none : (k : ℕ) (e : EntryModel) → At w.history k e → e.ticket ≡ next_ticket w client → ⊥
      none k e p te =
          let b = r.born k e p in
          let t : (b.1).command.ticket ≡ next_ticket w client = b.3 ∙ te in
          let one_c : one_if (numbered_so client new (b.1).command.ticket) ≡ 1 = ap one_if (numbers-so (b.1).command.ticket client new (ap (λ (u : Ticket). u.client) t) (ap (λ (u : Ticket). u.part) t)) in
          absurd (omega (arith, new-free w (standing-of w w.history h) client, total-one (λ (z : Arrival). one_if (numbered_so client new z.command.ticket)) w.commands b.0 b.1 b.2, one_c))

  out-lists : (way : Way) (node : ℕ) (before ts : List Ticket) (cs cs' : List Arrival) → GoOut way node before ts cs cs' → Recorded w.moment cs w.history w.answers → Recorded w.moment cs' w.history w.answers
  out-lists way node before [] cs cs' d x = subst (λ z. Recorded w.moment z w.history w.answers) (sym d) x
  out-lists way node before (t ∷ ts) cs cs' d x = out-lists way node (before ++ t ∷ []) ts (slice_set cs d.0 (awaiting d.1)) cs' d.5
      (gone-on w.moment cs w.history w.answers d.0 d.1 (awaiting d.1) d.2.1 (refl, refl, refl, λ y e. absurd (may-not d.1 node y (d.3).2 e), λ p. p) x)

  post-lists : (tickets : List Ticket) (node : ℕ) → WorldDoes w (Post tickets node) w' → Lists w.moment w'
  post-lists tickets node d = subst (λ (x : WorldModel). Lists w.moment x) (sym d.5) (out-lists d.0 node [] tickets w.commands d.1 d.4 later-moment)

  take-lists : (lane : ℕ) → WorldDoes w (Take lane) w' → Lists w.moment w'
  take-lists lane d = subst (λ (x : WorldModel). Lists w.moment x) (sym d.7)
      (gone-on w.moment w.commands w.history w.answers d.1 d.2 (after_told d.2 d.3) d.5.1
      (ticket-after_told d.2 d.3, part-after_told d.2 d.3, arrived-after_told d.2 d.3, λ x e. absurd (clash x e), λ p. p) later-moment)
    where
      clash : (x : Ended) → (d.2).command.stage ≡ Over x → ⊥
      clash x e = let q : (d.2).command.stage ≡ Awaits = d.6 in cc

  answer-lists : (client : ℕ) → WorldDoes w (ev.Answer client) w' → Lists w.moment w'
  answer-lists client d = subst (λ (x : WorldModel). Lists w.moment x) (sym d.8)
      (subst (λ n. Recorded n cs' w.history (w.answers ++ a0 ∷ [])) (sym now) (waited m (suc m) cs' w.history (w.answers ++ a0 ∷ []) (omega arith)
      (replied-to m cs' w.history w.answers a0 d.0 c' (set-same w.commands d.0 d.1 c' d.3) refl d.6 refl refl now found untold
      (gone-on m w.commands w.history w.answers d.0 d.1 c' d.3 (refl, refl, refl, λ x e. e, λ _. refl) r))))
    where
      c' : Arrival
      c' = record (d.1) { answered = true }

      cs' : List Arrival
      cs' = slice_set w.commands d.0 c'

      a0 : Answer
      a0 = record { ticket = (d.1).command.ticket; ended = d.2; arrived = (d.1).arrived; answered = w.moment }

      -- an answer's command is marked, and this one is not yet
      untold : (k : ℕ) (a : Answer) → At w.answers k a → a.ticket ≡ (d.1).command.ticket → ⊥
      untold k a p te =
          let b = r.told k a p in
          let same : b.1 ≡ d.1 = same_command w (standing-of w w.history h) b.0 d.0 b.1 d.1 b.2 d.3 (b.3 ∙ te) in
          let marked : (d.1).answered ≡ true = subst (λ (z : Arrival). z.answered ≡ true) same b.6 in
          let unmarked : (d.1).answered ≡ false = d.5 in
          cc

      found : (v : Value) → d.2 ≡ Answered v → (j : ℕ) × (e : EntryModel) × At w.history j e × (e.ticket ≡ (d.1).command.ticket) × (e.reply ≡ data_of v) × ((d.1).arrived < e.moment)
      found v is' =
          let f = has-entry w h d.0 d.1 v d.3 (d.6 ∙ ap Over is') in
          let b = r.born f.0 f.1 f.2 in
          let c : b.1 ≡ d.1 = same_command w (standing-of w w.history h) b.0 d.0 b.1 d.1 b.2 d.3 (b.3 ∙ f.3) in
          (f.0, f.1, f.2, f.3, f.4, subst (λ (z : Arrival). z.arrived < (f.1).moment) c b.5)

pub no-more : {X : Type 0} (xs : List X) → xs ++ [] ≡ xs
no-more [] = refl
no-more (x ∷ xs) = ap (λ ys. x ∷ ys) (no-more xs)

at-mid : {X : Type 0} (xs : List X) (y : X) (ys : List X) → At (xs ++ y ∷ ys) (length xs) y
at-mid [] y ys = refl
at-mid (x ∷ xs) y ys = at-mid xs y ys

at-first : {X : Type 0} (xs ys : List X) (q : ℕ) (x : X) → q < length xs → At (xs ++ ys) q x → At xs q x
at-first [] ys q x lt e = absurd (omega arith)
at-first (z ∷ xs) ys zero x lt e = e
at-first (z ∷ xs) ys (suc q) x lt e = at-first xs ys q x (omega arith) e

-- A run is served: each of its entries is added behind the ones before it.
module _ (w w' : WorldModel) (h : Placed w) (h' : Placed w') (m : ℕ) (now : w.moment ≡ suc m) (r : Lists m w) (t : Turned w) (link node : ℕ) (l : Link) (v : Verdict) (at_l : slice_get w.links link ≡ Some l) (d : ServesRunAt w node link l v w') where
  hist : w'.history ≡ w.history ++ entries_of w.moment d.1
  hist = ap (λ (x : WorldModel). x.history) d.7

  cmds : w'.commands ≡ w.commands
  cmds = ap (λ (x : WorldModel). x.commands) d.7

  run : IsRun w.commands (tickets_told d.1)
  run =
      let here : AreRuns w.commands l.requests = all_at (λ (x : Link). AreRuns w.commands x.requests) w.links link l at_l t.links in
      let both : AreRuns w.commands (Runs (tickets_told d.1) ∷ d.0) = subst (AreRuns w.commands) d.3 here in
      both.0

  -- a command that is executed now has ended only if it was lost
  late : (i : ℕ) (c : Arrival) (j : ℕ) (e : EntryModel) → At w.commands i c → length w.history ≤ j → At w'.history j e → e.ticket ≡ c.command.ticket → HasEnded c → c.command.stage ≡ Over Ended.Lost
  late i c j e at_c le at_e te x = go x.0 x.1
    where
      go : (x : Ended) → c.command.stage ≡ Over x → c.command.stage ≡ Over Ended.Lost
      go Ended.Lost st = st
      go GaveUp st = absurd (no-entry w' h' i c (subst (λ z. At z i c) (sym cmds) at_c) (ap (λ s. if_ran s 1 + if_awaits s 1) st) j e at_e te)
      go (Answered y) st =
          let f = has-entry w h i c y at_c st in
          let len : f.0 < length w.history = slice_get_within w.history f.0 f.1 f.2 in
          let there : At w'.history f.0 f.1 = subst (λ z. At z f.0 f.1) (sym hist) (before-last w.history (entries_of w.moment d.1) f.0 f.1 f.2) in
          let same : f.0 ≡ j = once-each w' h' f.0 j f.1 e there at_e (f.3 ∙ sym te) in
          absurd (omega (arith, same))

  -- of the run's client and slot
  abbrev IsOurs : EntryModel → Type 0
  IsOurs e = (e.ticket.client ≡ run.2) × (slot_for e.part ≡ run.0)

  enter-all : (ps : List (Arrival × Told)) (before : List Ticket) (hs : List EntryModel) (store : StoreModel) → tickets_told d.1 ≡ before ++ tickets_told ps → w'.history ≡ hs ++ entries_of w.moment ps → length w.history ≤ length hs
      → AreOf ps w.commands → AreReplies store (parts_told ps) (tolds_of ps) → ((q : ℕ) (u : Ticket) → At before q u → (k : ℕ) × (e : EntryModel) × At hs k e × (e.ticket ≡ u))
      → ((k : ℕ) (e : EntryModel) → At hs k e → e.moment ≡ w.moment → IsOurs e)
      → Recorded w.moment w.commands hs w.answers → Recorded w.moment w.commands (hs ++ entries_of w.moment ps) w.answers
  enter-all [] before hs store full whole le of did seen ours x = subst (λ z. Recorded w.moment w.commands z w.answers) (sym (no-more hs)) x
  enter-all (p ∷ ps) before hs store full whole le of did seen ours x =
      subst (λ z. Recorded w.moment w.commands z w.answers) (joined hs e0 more ∙ ap (λ z. hs ++ z) (sym now-more))
      (enter-all ps (before ++ u ∷ []) hs1 (store_after store p.0.command.part) (full ∙ sym (joined before u (tickets_told ps))) whole1 (omega (arith, le, longer hs e0)) of.1 did.1 seen1 ours1
      (entered w.moment w.commands hs w.answers e0 of.0.0 p.0 of.0.1.1 refl refl refl (omega (arith, r.early of.0.0 p.0 of.0.1.1, now))
      (λ i c q te. same_place w (standing-of w w.history h) i of.0.0 c p.0 q of.0.1.1 te)
      first (λ k e q same. let o = ours k e q same in (o.0 ∙ sym mine.0, o.1 ∙ sym mine.1)) (late of.0.0 p.0 (length hs) e0 of.0.1.1 le at_e0 refl) behind x))
    where
      u : Ticket
      u = p.0.command.ticket

      value : (reply : Value) × (p.1 ≡ Reply reply) × (data_of reply ≡ reply_to store p.0.command.part)
      value = reply-is p.1 (reply_to store p.0.command.part) did.0

      e0 : EntryModel
      e0 = record { ticket = p.0.command.ticket; part = p.0.command.part; reply = data_of (reply-is p.1 (reply_to store p.0.command.part) did.0).0; moment = w.moment }

      more : List EntryModel
      more = entries_of w.moment ps

      hs1 : List EntryModel
      hs1 = hs ++ e0 ∷ []

      now-more : entries_of w.moment (p ∷ ps) ≡ e0 ∷ more
      now-more = ap (λ z. entry_of w.moment p.0 z ++ more) value.1

      whole1 : w'.history ≡ hs1 ++ more
      whole1 = whole ∙ ap (λ z. hs ++ z) now-more ∙ sym (joined hs e0 more)

      at_e0 : At w'.history (length hs) e0
      at_e0 = subst (λ z. At z (length hs) e0) (sym whole1) (before-last hs1 more (length hs) e0 (last hs e0))

      first : (k : ℕ) (e : EntryModel) → At hs k e → e.ticket ≡ u → ⊥
      first k e q te =
          let there : At w'.history k e = subst (λ z. At z k e) (sym whole) (before-last hs (entries_of w.moment (p ∷ ps)) k e q) in
          let same : k ≡ length hs = once-each w' h' k (length hs) e e0 there at_e0 te in
          let len : k < length hs = slice_get_within hs k e q in
          absurd (omega (arith, same))

      goes : Goes w.commands run.0 (tickets_told d.1) (length before) u
      goes = run.1 (length before) u (subst (λ z. At z (length before) u) (sym full) (at-mid before u (tickets_told ps)))

      its : (goes.0 ≡ of.0.0) × (goes.1 ≡ p.0)
      its =
          let place : goes.0 ≡ of.0.0 = same_place w (standing-of w w.history h) goes.0 of.0.0 goes.1 p.0 goes.2 of.0.1.1 goes.3 in
          let there : slice_get w.commands goes.0 ≡ slice_get w.commands of.0.0 = ap (slice_get w.commands) place in
          let a : slice_get w.commands goes.0 ≡ Some goes.1 = goes.2 in
          let b : slice_get w.commands of.0.0 ≡ Some p.0 = of.0.1.1 in
          (place, cc)

      mine : IsOurs e0
      mine = (run.3 (length before) u (subst (λ z. At z (length before) u) (sym full) (at-mid before u (tickets_told ps))), ap (λ (c : Arrival). slot_for c.command.part) (sym its.1) ∙ goes.4)

      ours1 : (k : ℕ) (e : EntryModel) → At hs1 k e → e.moment ≡ w.moment → IsOurs e
      ours1 k e q same = ⊎_elim (λ (y : At hs k e). ours k e y same) (λ (y : (k ≡ length hs) × (e ≡ e0)). subst IsOurs (sym y.1) mine) (at-last hs e0 k e q)

      behind : (i : ℕ) (c : Arrival) → i < of.0.0 → At w.commands i c → SameTurn p.0 c → HasEnded c ⊎ HasEarlier hs (length hs) c
      behind i c lt at_c turn = ⊎_elim (λ (y : HasEnded c). inl y)
          (λ (y : (q : ℕ) × (q < length before) × At (tickets_told d.1) q c.command.ticket).
          let in_before : At before y.0 c.command.ticket = at-first before (tickets_told (p ∷ ps)) y.0 c.command.ticket y.1 (subst (λ z. At z y.0 c.command.ticket) full y.2) in
          let s = seen y.0 c.command.ticket in_before in
          inr (s.0, s.1, s.2, s.3, slice_get_within hs s.0 s.1 s.2))
          (goes.5 i c (omega (arith, its.0)) at_c (subst (λ z. SameTurn z c) (sym its.1) turn))

      seen1 : (q : ℕ) (z : Ticket) → At (before ++ u ∷ []) q z → (k : ℕ) × (e : EntryModel) × At hs1 k e × (e.ticket ≡ z)
      seen1 q z e = ⊎_elim
          (λ (y : At before q z). let s = seen q z y in (s.0, s.1, before-last hs (e0 ∷ []) s.0 s.1 s.2, s.3))
          (λ (y : (q ≡ length before) × (z ≡ u)). (length hs, e0, last hs e0, sym y.1))
          (at-last before u q z e)

  pub serve-lists : Lists w.moment w'
  serve-lists = ⊎_elim
      (λ (x : (deed_for w.cluster node l.asking (parts_told d.1) v ≡ Executes) × ExecutedAll w.cluster node (parts_told d.1) (tolds_of d.1) d.2).
      subst (λ (x : List Arrival × List EntryModel × List Answer). Recorded w.moment x.0 x.1 x.2) (λ i. (sym cmds i, sym hist i, ap (λ (x : WorldModel). x.answers) (sym d.7) i))
      (enter-all d.1 [] w.history (store_at w.cluster node) refl hist (omega arith) d.4 x.1.0 (λ q u e. absurd (cc)) (λ k e q same. absurd (omega (arith, r.past k e q, same, now))) (later-moment w w' h m now r)))
      (λ (x : SaidAll (deed_for w.cluster node l.asking (parts_told d.1) v) w.cluster (parts_told d.1) (tolds_of d.1) d.2).
      same-lists w w' h m now r cmds (hist ∙ ap (λ z. w.history ++ z) (entries-says w node l d.1 v x.0 x.1 x.2) ∙ no-more w.history) (ap (λ (x : WorldModel). x.answers) d.7))
      (runs w.cluster d.2 node (parts_told d.1) (tolds_of d.1) (deed_for w.cluster node l.asking (parts_told d.1) v) d.6)

pub does-lists : (e : Event) (w w' : WorldModel) → Placed w → Placed w' → Turned w → (m : ℕ) → w.moment ≡ suc m → Lists m w → WorldDoes w e w' → Lists w.moment w'
does-lists (Arrive client part) w w' h h' t m now r d = arrive-lists w w' h m now r client part d
does-lists (Post tickets node) w w' h h' t m now r d = post-lists w w' h m now r tickets node d
does-lists (Carry lane link) w w' h h' t m now r d = same-lists w w' h m now r (ap (λ (x : WorldModel). x.commands) d.5) (ap (λ (x : WorldModel). x.history) d.5) (ap (λ (x : WorldModel). x.answers) d.5)
does-lists (Refuse lane) w w' h h' t m now r d = same-lists w w' h m now r (ap (λ (x : WorldModel). x.commands) d.3) (ap (λ (x : WorldModel). x.history) d.3) (ap (λ (x : WorldModel). x.answers) d.3)
does-lists (Serve link v) w w' h h' t m now r d = go d.2
  where
    go : ServesAsking w link d.0 v w' ⊎ ServesRun w link d.0 v w' → Lists w.moment w'
    go (inl x) = same-lists w w' h m now r (ap (λ (x : WorldModel). x.commands) x.3) (ap (λ (x : WorldModel). x.history) x.3) (ap (λ (x : WorldModel). x.answers) x.3)
    go (inr x) = serve-lists w w' h h' m now r t link (d.0).node d.0 v d.1 x
does-lists (Fetch link) w w' h h' t m now r d = go d.3
  where
    go : FetchesWelcome w link d.0 w' ⊎ FetchesReply w link d.0 w' → Lists w.moment w'
    go (inl x) = same-lists w w' h m now r (ap (λ (x : WorldModel). x.commands) x.2) (ap (λ (x : WorldModel). x.history) x.2) (ap (λ (x : WorldModel). x.answers) x.2)
    go (inr x) = same-lists w w' h m now r (ap (λ (x : WorldModel). x.commands) x.4) (ap (λ (x : WorldModel). x.history) x.4) (ap (λ (x : WorldModel). x.answers) x.4)
does-lists (Take lane) w w' h h' t m now r d = take-lists w w' h m now r lane d
does-lists (Drop link) w w' h h' t m now r d = same-lists w w' h m now r (ap (λ (x : WorldModel). x.commands) d.3) (ap (λ (x : WorldModel). x.history) d.3) (ap (λ (x : WorldModel). x.answers) d.3)
does-lists (Discard link) w w' h h' t m now r d = same-lists w w' h m now r (ap (λ (x : WorldModel). x.commands) d.4) (ap (λ (x : WorldModel). x.history) d.4) (ap (λ (x : WorldModel). x.answers) d.4)
does-lists (ev.Answer client) w w' h h' t m now r d = answer-lists w w' h m now r client d
does-lists (Import slot target) w w' h h' t m now r d = same-lists w w' h m now r (ap (λ (x : WorldModel). x.commands) d.2) (ap (λ (x : WorldModel). x.history) d.2) (ap (λ (x : WorldModel). x.answers) d.2)
does-lists (Migrate slot) w w' h h' t m now r d = same-lists w w' h m now r (ap (λ (x : WorldModel). x.commands) d.1) (ap (λ (x : WorldModel). x.history) d.1) (ap (λ (x : WorldModel). x.answers) d.1)
does-lists (MoveKey slot key) w w' h h' t m now r d = same-lists w w' h m now r (ap (λ (x : WorldModel). x.commands) d.1) (ap (λ (x : WorldModel). x.history) d.1) (ap (λ (x : WorldModel). x.answers) d.1)
does-lists (Own slot) w w' h h' t m now r d = same-lists w w' h m now r (ap (λ (x : WorldModel). x.commands) d.1) (ap (λ (x : WorldModel). x.history) d.1) (ap (λ (x : WorldModel). x.answers) d.1)
does-lists (Release slot) w w' h h' t m now r d = same-lists w w' h m now r (ap (λ (x : WorldModel). x.commands) d.1) (ap (λ (x : WorldModel). x.history) d.1) (ap (λ (x : WorldModel). x.answers) d.1)
does-lists (Forget slot) w w' h h' t m now r d = same-lists w w' h m now r (ap (λ (x : WorldModel). x.commands) d.1) (ap (λ (x : WorldModel). x.history) d.1) (ap (λ (x : WorldModel). x.answers) d.1)
does-lists (Stay slot) w w' h h' t m now r d = same-lists w w' h m now r (ap (λ (x : WorldModel). x.commands) d.1) (ap (λ (x : WorldModel). x.history) d.1) (ap (λ (x : WorldModel). x.answers) d.1)

-- the moment is the event's
pub does-moment : (e : Event) (w w' : WorldModel) → WorldDoes w e w' → w'.moment ≡ w.moment
does-moment (Arrive client part) w w' d = ap (λ (x : WorldModel). x.moment) d.1
does-moment (Post tickets node) w w' d = ap (λ (x : WorldModel). x.moment) d.5
does-moment (Carry lane link) w w' d = ap (λ (x : WorldModel). x.moment) d.5
does-moment (Refuse lane) w w' d = ap (λ (x : WorldModel). x.moment) d.3
does-moment (Serve link v) w w' d = go d.2
  where
    go : ServesAsking w link d.0 v w' ⊎ ServesRun w link d.0 v w' → w'.moment ≡ w.moment
    go (inl x) = ap (λ (x : WorldModel). x.moment) x.3
    go (inr x) = ap (λ (x : WorldModel). x.moment) x.7
does-moment (Fetch link) w w' d = go d.3
  where
    go : FetchesWelcome w link d.0 w' ⊎ FetchesReply w link d.0 w' → w'.moment ≡ w.moment
    go (inl x) = ap (λ (x : WorldModel). x.moment) x.2
    go (inr x) = ap (λ (x : WorldModel). x.moment) x.4
does-moment (Take lane) w w' d = ap (λ (x : WorldModel). x.moment) d.7
does-moment (Drop link) w w' d = ap (λ (x : WorldModel). x.moment) d.3
does-moment (Discard link) w w' d = ap (λ (x : WorldModel). x.moment) d.4
does-moment (ev.Answer client) w w' d = ap (λ (x : WorldModel). x.moment) d.8
does-moment (Import slot target) w w' d = ap (λ (x : WorldModel). x.moment) d.2
does-moment (Migrate slot) w w' d = ap (λ (x : WorldModel). x.moment) d.1
does-moment (MoveKey slot key) w w' d = ap (λ (x : WorldModel). x.moment) d.1
does-moment (Own slot) w w' d = ap (λ (x : WorldModel). x.moment) d.1
does-moment (Release slot) w w' d = ap (λ (x : WorldModel). x.moment) d.1
does-moment (Forget slot) w w' d = ap (λ (x : WorldModel). x.moment) d.1
does-moment (Stay slot) w w' d = ap (λ (x : WorldModel). x.moment) d.1
