-- What the steps look up is there, in every world that events reach.
use Rattle.std.proofs.Common.{◌≡◌, inl, inr, ℕ, zero, suc, ◌+◌, ◌<◌, ◌≤◌, ◌==◌, Bool, true, false, List, [], ◌∷◌, ◌++◌, Some, refl, sym, ap, ◌∙◌, subst, arith}
use Rattle.std.specs.Prelude.{slice_get, slice_set, remove, map, if◌then◌else◌}
use Rattle.std.specs.List.{position_from}
use Rattle.std.proofs.lemmas.Iterator.Adapters.{position_from-zero}
use Rattle.key_split.specs.Same.{same_ticket}
use Rattle.key_split.specs.declared.travel.Ticket.{Ticket}
use Rattle.key_split.specs.declared.travel.Told.{Told}
use Rattle.key_split.specs.declared.travel.Told.TheVariants.{Reply, Moved, Ask, TryAgain, ClusterDown, Unclear, Unsent}
use Rattle.key_split.specs.declared.travel.Ended.{Ended}
use Rattle.key_split.specs.declared.travel.Ended.TheVariants.{Answered, GaveUp}
use Rattle.command_future.specs.declared.stage.Stage.{Stage}
use Rattle.command_future.specs.declared.stage.Stage.TheVariants.{Wants, WantsAsking, Awaits, Over}
use Rattle.world_laws.specs.State.{slot_for, WorldModel, Arrival, Posted, Link, LinkRequest, LinkReply, after_told, replied, all_replied, tickets_told, parts_told, tolds_of}
use Rattle.key_split.specs.PartModel.{PartModel}
use Rattle.node_model.specs.Store.{StoreModel, store_after, reply_to}
use Rattle.node_model.specs.Nodes.{ClusterModel, store_at, with_store}
use Rattle.node_model.specs.declared.role.Deed.{Deed}
use Rattle.node_model.specs.declared.role.Deed.TheVariants.{Executes, Says}
use Rattle.node_model.specs.Runs.{deed_for, DoesRun, AreReplies, AllTold, store_after_all}
use Rattle.world_laws.specs.declared.state.LinkRequest.TheVariants.{Asking, Runs}
use Rattle.world_laws.specs.declared.state.LinkReply.TheVariants.{Welcome, To}
use Rattle.world_laws.specs.Places.{Item, total, in_requests, in_backs, in_lane, in_link, tally, is}
use Rattle.world_laws.specs.Places.Item.{Stands, Lies, Sent, Comes}
use Rattle.node_model.specs.declared.role.Verdict.{Verdict}
use Rattle.world_laws.specs.World.{IsFirst, IsOf, AreOf, entries_of, last_moment}
use Rattle.world_laws.specs.declared.event.Event.TheVariants.{Serve, Take}
use Rattle.world_laws.specs.Headline.{At}
use Rattle.world_laws.specs.Allowed.{IsAllowed, TakeIsAllowed, Fits, RunsHaveOneSlot, ServeIsAllowed}
use Rattle.world_laws.proofs.Tally.{total-one, total-found, tally-le}
use Rattle.world_laws.proofs.Counted.{if_awaits, here, awaits, stray, ran, owned}
use Rattle.world_laws.proofs.Placed.{Standing, standing-of}
use Rattle.world_laws.proofs.Kept.{is-refl, unique}
use Rattle.world_laws.proofs.Flow.{all_at, of-ticket}
use Rattle.world_laws.proofs.Turns.{AreRuns}
use Rattle.world_laws.proofs.Lives.{ticket-is, same_command, sent_only, sent-le}
use Rattle.world_laws.proofs.Nodes.{reply-for}
use Rattle.world_laws.proofs.Runs.{reached-sound}

-- the first that passes is there, where one that passes is
first-from : {X : Type 0} (p : X → Bool) (n : ℕ) (xs : List X) (j : ℕ) (x : X) → slice_get xs j ≡ Some x → p x ≡ true
    → (i : ℕ) × (y : X) × (position_from p n xs ≡ Some (n + i)) × (slice_get xs i ≡ Some y) × (p y ≡ true)
first-from p n [] j x e t = absurd (cc)
first-from {X} p n (z ∷ xs) j x e t = go (p z) refl j e (λ k h. first-from p (n + 1) xs k x h t)
  where
    go : (b : Bool) → p z ≡ b → (j : ℕ) → slice_get (z ∷ xs) j ≡ Some x
        → ((k : ℕ) → slice_get xs k ≡ Some x → (i : ℕ) × (y : X) × (position_from p (n + 1) xs ≡ Some (n + 1 + i)) × (slice_get xs i ≡ Some y) × (p y ≡ true))
        → (i : ℕ) × (y : X) × ((if b then Some n else position_from p (n + 1) xs) ≡ Some (n + i)) × (slice_get (z ∷ xs) i ≡ Some y) × (p y ≡ true)
    go true h j e rest = (0, z, (let m : n ≡ n + 0 = omega arith in ap Some m), refl, h)
    go false h zero e rest = let same : z ≡ x = cc in let no : p z ≡ true = ap p same ∙ t in absurd (cc)
    go false h (suc j) e rest = let r = rest j e in (suc r.0, r.1, r.2 ∙ (let m : n + 1 + r.0 ≡ n + suc r.0 = omega arith in ap Some m), r.3, r.4)

pub first-of : {X : Type 0} (p : X → Bool) (xs : List X) (j : ℕ) (x : X) → slice_get xs j ≡ Some x → p x ≡ true → (i : ℕ) × (y : X) × IsFirst p xs i y × (p y ≡ true)
first-of p xs j x e t = let r = first-from p 0 xs j x e t in (r.0, r.1, (position_from-zero p xs ∙ r.2 ∙ (let m : 0 + r.0 ≡ r.0 = omega arith in ap Some m), r.3), r.4)

-- items that are commands

no-total : {X : Type 0} (xs : List X) → total (λ (x : X). 0) xs ≡ 0
no-total [] = refl
no-total (x ∷ xs) = omega (arith, no-total xs)

no-tickets : (g : Ticket → ℕ) → ((t : Ticket) → g t ≡ 0) → (ts : List Ticket) → total g ts ≡ 0
no-tickets g e [] = refl
no-tickets g e (t ∷ ts) = omega (arith, e t, no-tickets g e ts)

module _ (f : Item → ℕ) (lies : (n : ℕ) (a : Bool) (t : Ticket) → f (Lies n a t) ≡ 0) (sends : (o : Bool) (n : ℕ) (a : Bool) (t : Ticket) → f (Sent o n a t) ≡ 0) (comes : (t : Ticket) (told : Told) → f (Comes t told) ≡ 0) where
  no-ups : (bs : List Posted) → total (in_lane f) bs ≡ 0
  no-ups [] = refl
  no-ups (b ∷ bs) = omega (arith, no-tickets (λ t. f (Lies b.node b.asking t)) (lies b.node b.asking) b.tickets, no-ups bs)

  no-downs : (ps : List (Ticket × Told)) → total (λ p. f (Comes p.0 p.1)) ps ≡ 0
  no-downs [] = refl
  no-downs (p ∷ ps) = omega (arith, comes p.0 p.1, no-downs ps)

  no-requests : (o : Bool) (n : ℕ) (flag : Bool) (rs : List LinkRequest) → in_requests f o n flag rs ≡ 0
  no-requests o n flag [] = refl
  no-requests o n flag (Asking ∷ rs) = no-requests o n true rs
  no-requests o n flag (Runs ts ∷ rs) = omega (arith, no-tickets (λ t. f (Sent o n flag t)) (sends o n flag) ts, no-requests o n false rs)

  no-backs : (bs : List LinkReply) → in_backs f bs ≡ 0
  no-backs [] = refl
  no-backs (Welcome ∷ bs) = no-backs bs
  no-backs (To t told ∷ bs) = omega (arith, comes t told, no-backs bs)

  no-links : (ls : List Link) → total (in_link f) ls ≡ 0
  no-links [] = refl
  no-links (l ∷ ls) = omega (arith, no-requests l.is_open l.node l.asking l.requests, no-backs l.backs, no-links ls)

  commands-alone : (w : WorldModel) → tally f w ≡ total (λ c. f (Stands c)) w.commands
  commands-alone w = omega (arith, no-ups w.ups, no-links w.links, no-downs w.downs)

-- the command that a ticket awaits, and the one that it has

awaiting-one : (s : Stage) (n : ℕ) → 0 < if_awaits s n → (s ≡ Awaits) × (0 < n)
awaiting-one Awaits n lt = (refl, lt)
awaiting-one (Wants m) n lt = absurd (omega arith)
awaiting-one (WantsAsking m) n lt = absurd (omega arith)
awaiting-one (Over e) n lt = absurd (omega arith)

is-so : (t u : Ticket) → 0 < is t u → same_ticket t u ≡ true
is-so t u lt = go (same_ticket t u) lt
  where
    go : (b : Bool) → 0 < (if b then 1 else 0) → b ≡ true
    go true lt = refl
    go false lt = absurd (omega arith)

module _ (w : WorldModel) (h : Standing w) where
  pub awaited : (t : Ticket) → 0 < tally (awaits t) w → (i : ℕ) × (c : Arrival) × At w.commands i c × (c.command.stage ≡ Awaits) × (same_ticket t c.command.ticket ≡ true)
  awaited t lt =
      let f = total-found (λ c. awaits t (Stands c)) w.commands (omega (arith, commands-alone (awaits t) (λ _ _ _. refl) (λ _ _ _ _. refl) (λ _ _. refl) w)) in
      let a = awaiting-one (f.1).command.stage (is t (f.1).command.ticket) f.3 in
      (f.0, f.1, f.2, a.0, is-so t (f.1).command.ticket a.1)

  -- its command, by the first place of its ticket
  pub found : (t : Ticket) (i : ℕ) (c : Arrival) → At w.commands i c → same_ticket t c.command.ticket ≡ true → (j : ℕ) × IsOf t w.commands j c
  found t i c p e =
      let f = first-of (λ (x : Arrival). same_ticket t x.command.ticket) w.commands i c p e in
      let one : (f.1).command.ticket ≡ c.command.ticket = ticket-is t (f.1).command.ticket f.3 ∙ sym (ticket-is t c.command.ticket e) in
      let same : f.1 ≡ c = unique w h f.0 i (f.1) c f.2.1 p (ap (λ u. same_ticket u c.command.ticket) one ∙ itself c.command.ticket) in
      (f.0, (f.2.0, f.2.1 ∙ ap Some same))
    where
      itself : (t : Ticket) → same_ticket t t ≡ true
      itself t = is-so t t (omega (arith, is-refl t))

  has-ticket : Ticket → Item → ℕ
  has-ticket t i = owned (same_ticket t) i

ran-owned : (t : Ticket) (i : Item) → ran t i + 0 ≤ owned (same_ticket t) i + here t i
ran-owned t (Stands c) = stage c.command.stage
  where
    stage : (s : Stage) → ran t (Stands (record c { command = record (c.command) { stage = s } })) + 0 ≤ is t c.command.ticket + 0
    stage (Wants m) = omega arith
    stage (WantsAsking m) = omega arith
    stage Awaits = omega arith
    stage (Over (Answered v)) = omega arith
    stage (Over GaveUp) = omega arith
    stage (Over Ended.Lost) = omega arith
ran-owned t (Lies n a u) = omega arith
ran-owned t (Sent o n a u) = omega arith
ran-owned t (Comes u told) = go told
  where
    go : (told : Told) → ran t (Comes u told) + 0 ≤ 0 + is t u
    go (Reply v) = omega arith
    go (Moved s m) = omega arith
    go (Ask s m) = omega arith
    go TryAgain = omega arith
    go ClusterDown = omega arith
    go Unclear = omega arith
    go Told.Lost = omega arith
    go Unsent = omega arith

awaits-owned : (t : Ticket) (i : Item) → awaits t i + 0 ≤ owned (same_ticket t) i + 0
awaits-owned t (Stands c) = stage c.command.stage
  where
    stage : (s : Stage) → if_awaits s (is t c.command.ticket) + 0 ≤ is t c.command.ticket + 0
    stage (Wants m) = omega arith
    stage (WantsAsking m) = omega arith
    stage Awaits = omega arith
    stage (Over e) = omega arith
awaits-owned t (Lies n a u) = omega arith
awaits-owned t (Sent o n a u) = omega arith
awaits-owned t (Comes u told) = omega arith

nothing : (w : WorldModel) → tally (λ _. 0) w ≡ 0
nothing w = omega (arith, commands-alone (λ _. 0) (λ _ _ _. refl) (λ _ _ _ _. refl) (λ _ _. refl) w, no-total w.commands)

module _ (w : WorldModel) (h : Standing w) where
  -- who stands somewhere has a command
  pub owner : (t : Ticket) → 1 ≤ tally (here t) w + tally (stray t) w → (i : ℕ) × (c : Arrival) × At w.commands i c × (same_ticket t c.command.ticket ≡ true)
  owner t lt =
      let some : 0 < total (λ c. owned (same_ticket t) (Stands c)) w.commands = omega (
        arith,
        lt,
        h.place t,
        h.strays t,
        nothing w,
        tally-le (ran t) (λ _. 0) (owned (same_ticket t)) (here t) (ran-owned t) w,
        tally-le (awaits t) (λ _. 0) (owned (same_ticket t)) (λ _. 0) (awaits-owned t) w,
        commands-alone (owned (same_ticket t)) (λ _ _ _. refl) (λ _ _ _ _. refl) (λ _ _. refl) w,
      ) in
      let f = total-found (λ c. owned (same_ticket t) (Stands c)) w.commands some in
      (f.0, f.1, f.2, is-so t (f.1).command.ticket f.3)

-- an item of a lane, and of a link, counts

pub down-here : (w : WorldModel) (i : ℕ) (t : Ticket) (told : Told) → slice_get w.downs i ≡ Some (t, told) → 1 ≤ tally (here t) w
down-here w i t told e = omega (arith, total-one (λ (p : Ticket × Told). here t (Comes p.0 p.1)) w.downs i (t, told) e, is-refl t)

pub request-here : (w : WorldModel) (link : ℕ) (l : Link) (ts : List Ticket) (rest : List LinkRequest) → slice_get w.links link ≡ Some l → l.requests ≡ Runs ts ∷ rest → (k : ℕ) (t : Ticket) → slice_get ts k ≡ Some t → 1 ≤ tally (here t) w + tally (stray t) w
request-here w link l ts rest e r k t at_t =
    let one : 1 ≤ total (λ u. sent_only t (Sent l.is_open l.node l.asking u)) ts = omega (arith, total-one (λ (u : Ticket). sent_only t (Sent l.is_open l.node l.asking u)) ts k t at_t, is-refl t) in
    let inside : 1 ≤ in_link (sent_only t) l = omega (arith, ap (in_requests (sent_only t) l.is_open l.node l.asking) r, one) in
    omega (arith, inside, total-one (in_link (sent_only t)) w.links link l e, nothing w, tally-le (sent_only t) (λ _. 0) (here t) (stray t) (sent-le t) w)

-- the commands of a run, and what they are told

abbrev pub Stand : List Arrival → List Arrival → Type 0
Stand commands [] = Unit {0}
Stand commands (c ∷ cs) = ((i : ℕ) × IsOf c.command.ticket commands i c) × Stand commands cs

abbrev pub Known : List Arrival → List Ticket → Type 0
Known commands ts = (cs : List Arrival) × (map (λ c. c.command.ticket) cs ≡ ts) × Stand commands cs

-- a run of these commands, served so
abbrev pub Served : List Arrival → List Arrival → StoreModel → Deed → ClusterModel → ℕ → Type 0
Served commands cs store deed k node =
    (run : List (Arrival × Told)) × (tickets_told run ≡ map (λ c. c.command.ticket) cs) × (parts_told run ≡ map (λ c. c.command.part) cs) × AreOf run commands
    × (k' : ClusterModel) × DoesRun deed k node (parts_told run) (tolds_of run) k'

abbrev pub Executable : List Arrival → List Arrival → StoreModel → Type 0
Executable commands cs store =
    (run : List (Arrival × Told)) × (tickets_told run ≡ map (λ c. c.command.ticket) cs) × (parts_told run ≡ map (λ c. c.command.part) cs) × AreOf run commands
    × AreReplies store (parts_told run) (tolds_of run)

executed : (commands cs : List Arrival) (store : StoreModel) → Stand commands cs → Executable commands cs store
executed commands [] store h = ([], refl, refl, tt, tt)
executed commands (c ∷ cs) store h =
    let r = executed commands cs (store_after store c.command.part) h.1 in
    let told = reply-for (reply_to store c.command.part) in
    ((c, told.0) ∷ r.0, ap (λ ts. c.command.ticket ∷ ts) r.1, ap (λ ps. c.command.part ∷ ps) r.2, (h.0, r.3), (told.1, r.4))

abbrev pub Refusable : List Arrival → List Arrival → Told → Type 0
Refusable commands cs said =
    (run : List (Arrival × Told)) × (tickets_told run ≡ map (λ c. c.command.ticket) cs) × (parts_told run ≡ map (λ c. c.command.part) cs) × AreOf run commands
    × AllTold said (parts_told run) (tolds_of run)

refused : (commands cs : List Arrival) (said : Told) → Stand commands cs → Refusable commands cs said
refused commands [] said h = ([], refl, refl, tt, tt)
refused commands (c ∷ cs) said h =
    let r = refused commands cs said h.1 in
    ((c, said) ∷ r.0, ap (λ ts. c.command.ticket ∷ ts) r.1, ap (λ ps. c.command.part ∷ ps) r.2, (h.0, r.3), (refl, r.4))

served : (commands cs : List Arrival) (k : ClusterModel) (node : ℕ) (deed : Deed) → Stand commands cs → Served commands cs (store_at k node) deed k node
served commands cs k node Executes h = let r = executed commands cs (store_at k node) h in (r.0, r.1, r.2, r.3, with_store k node (store_after_all (store_at k node) (parts_told r.0)), (r.4, refl))
served commands cs k node (Says said) h = let r = refused commands cs said h in (r.0, r.1, r.2, r.3, k, (r.4, refl))

module _ (w : WorldModel) (h : Standing w) where
  known : (ts : List Ticket) → ((k : ℕ) (t : Ticket) → slice_get ts k ≡ Some t → 1 ≤ tally (here t) w + tally (stray t) w) → Known w.commands ts
  known [] f = ([], refl, tt)
  known (t ∷ ts) f =
      let a = owner w h t (f 0 t refl) in
      let o = found w h t a.0 a.1 a.2 a.3 in
      let same : (a.1).command.ticket ≡ t = ticket-is t (a.1).command.ticket a.3 in
      let r = known ts (λ k u e. f (suc k) u e) in
      (a.1 ∷ r.0, (λ i. same i ∷ r.1 i), ((o.0, subst (λ (u : Ticket). IsOf u w.commands o.0 a.1) (sym same) o.1), r.2))

-- the laws

pub ticked : (w : WorldModel) → Standing w → Standing (record w { moment = w.moment + 1 })
ticked w x = record { single = x.single; below = x.below; place = x.place; strays = x.strays; tidy = x.tidy }

pub take-allowed : (w : WorldModel) (lane i : ℕ) (ticket : Ticket) (told : Told) → Standing w → w.moment < last_moment
    → IsFirst (λ (x : Ticket × Told). x.0.worker == lane) w.downs i (ticket, told) → IsAllowed w (Take lane)
take-allowed w lane i ticket told stands lt first =
    let w1 : WorldModel = record w { moment = w.moment + 1 } in
    let h : Standing w1 = ticked w stands in
    let a = awaited w1 h ticket (omega (arith, h.place ticket, down-here w1 i ticket told first.1)) in
    let o = found w1 h ticket a.0 a.1 a.2 a.4 in
    let same : ticket ≡ (a.1).command.ticket = sym (ticket-is ticket (a.1).command.ticket a.4) in (
      record w1 { downs = remove w1.downs i; commands = slice_set w1.commands o.0 (after_told a.1 told) },
      (
        lt,
        (
          i,
          o.0,
          a.1,
          told,
          subst (λ (u : Ticket). IsFirst (λ (x : Ticket × Told). x.0.worker == lane) w.downs i (u, told)) same first,
          subst (λ (u : Ticket). IsOf u w.commands o.0 a.1) same o.1,
          a.3,
          refl,
        ),
      ),
    )

pub take-is-allowed : TakeIsAllowed
take-is-allowed w lane i ticket told reached lt first = take-allowed w lane i ticket told (standing-of w w.history (reached-sound w reached).placed) lt first

pub serve-allowed : (w : WorldModel) (link : ℕ) (verdict : Verdict) (l : Link) (first : LinkRequest) (rest : List LinkRequest) → Standing w → w.moment < last_moment
    → slice_get w.links link ≡ Some l → l.requests ≡ first ∷ rest → Fits w verdict first → IsAllowed w (Serve link verdict)
serve-allowed w link v l first rest stands lt at_l r fits = go first r fits
  where
    w1 : WorldModel
    w1 = record w { moment = w.moment + 1 }

    h : Standing w1
    h = ticked w stands

    go : (first : LinkRequest) → l.requests ≡ first ∷ rest → Fits w v first → IsAllowed w (Serve link v)
    go Asking r fits = (record w1 { links = slice_set w1.links link (replied (record l { requests = rest; asking = true }) Welcome) }, (lt, (l, at_l, inl (rest, r, fits, refl))))
    go (Runs ts) r fits =
        let a = known w1 h ts (request-here w1 link l ts rest at_l r) in
        let parts : List PartModel = map (λ (c : Arrival). c.command.part) a.0 in
        let s = served w1.commands a.0 w.cluster l.node (deed_for w.cluster l.node l.asking parts v) a.2 in
        let same : ts ≡ tickets_told s.0 = sym (s.1 ∙ a.1) in
        let did : DoesRun (deed_for w.cluster l.node l.asking (parts_told s.0) v) w.cluster l.node (parts_told s.0) (tolds_of s.0) s.4
        = subst (λ z. DoesRun (deed_for w.cluster l.node l.asking z v) w.cluster l.node (parts_told s.0) (tolds_of s.0) s.4) (sym s.2) s.5 in (
          record w1 { cluster = s.4; links = slice_set w1.links link (all_replied (record l { requests = rest; asking = false }) s.0); history = w1.history ++ entries_of w1.moment s.0 },
          (lt, (l, at_l, inr (rest, s.0, s.4, r ∙ ap (λ u. Runs u ∷ rest) same, s.3, fits, did, refl))),
        )

pub serve-is-allowed : ServeIsAllowed
serve-is-allowed w link v l first rest reached lt at_l r fits = serve-allowed w link v l first rest (standing-of w w.history (reached-sound w reached).placed) lt at_l r fits

-- the commands of a run have one slot
pub one-slot : RunsHaveOneSlot
one-slot w link l tickets rest reached at_l first =
    let s = reached-sound w reached in
    let here : AreRuns w.commands l.requests = all_at (λ (x : Link). AreRuns w.commands x.requests) w.links link l at_l (s.turned).links in
    let both : AreRuns w.commands (Runs tickets ∷ rest) = subst (AreRuns w.commands) first here in (
      (both.0).0,
      λ ticket i c among of.
          let g = (both.0).1 among.0 ticket among.1 in
          let same : g.1 ≡ c = same_command w (standing-of w w.history s.placed) g.0 i g.1 c g.2 of.1 (g.3 ∙ sym (of-ticket ticket w.commands i c of)) in
          ap (λ (z : Arrival). slot_for z.command.part) (sym same) ∙ g.4,
    )
