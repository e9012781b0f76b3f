-- In the machine a command is answered after it arrived, and those of one client in the order in which they arrived.
use Rattle.std.proofs.Common.{◌≡◌, ◌≢◌, ◌⊎◌, inl, inr, ⊎_elim, ℕ, ◌+◌, ◌<◌, ◌≤◌, true, false, List, [], ◌∷◌, ◌++◌, length, refl, sym, ap, ◌∙◌, subst, arith}
use Rattle.std.specs.Prelude.{slice_set}
use Rattle.std.proofs.lemmas.Bool.{false≢true}
use Rattle.std.proofs.lemmas.Option.{slice_get_within}
use Rattle.key_split.specs.declared.travel.Ticket.{Ticket}
use Rattle.world_laws.specs.State.{WorldModel, awaiting, after_told, start_from}
use Rattle.world_laws.specs.declared.state.Arrival.{Arrival}
use Rattle.world_laws.specs.World.{WorldDoes, Way, GoOut, ServesAsking, ServesRun, FetchesWelcome, FetchesReply, arrival}
use Rattle.world_laws.specs.declared.event.Event.{Event}
use Rattle.world_laws.specs.declared.event.Event.TheVariants as ev
use Rattle.world_laws.specs.declared.history.Answer.{Answer}
use Rattle.world_laws.proofs.Recorded.{all_taken, at-last, at-set, before-last, last, one_at}
use Rattle.world_laws.proofs.Counted.{ticket-after_told}
use Rattle.world_laws.proofs.Lives.{does-moment}
use Rattle.shared_laws.specs.Shared.{Step}
use Rattle.shared_laws.proofs.SharedRuns.{Steady, does-steady, shared-headline, start-steady}
use Rattle.turn_laws.specs.Walks.{IsSharedWalked, SharedWalk, ticked}
use Rattle.turn_laws.specs.LogHeadline.{At, IsIn}
use Rattle.turn_laws.proofs.Walks.{walked-steady}
use Rattle.turn_laws.proofs.Elements.{nothing-there}

pub record InTurn (commands : List Arrival) (answers : List Answer) (moment : ℕ) : Type 0 where
  pub past : (a : Answer) → IsIn answers a → a.answered ≤ moment
  -- an answer comes after its command's arrival
  pub late : (a : Answer) → IsIn answers a → a.arrived < a.answered
  -- a command that is marked has its answer
  pub noted : (i : ℕ) (c : Arrival) → At commands i c → c.answered ≡ true → (a : Answer) × IsIn answers a × (a.ticket ≡ c.command.ticket)
  -- and each that stands before it, of the same client, an earlier one
  pub turned : (i j : ℕ) (c d : Arrival) → i < j → At commands i c → At commands j d → c.command.ticket.client ≡ d.command.ticket.client → d.answered ≡ true
      → (a : Answer) → IsIn answers a → a.ticket ≡ d.command.ticket → (b : Answer) × IsIn answers b × (b.ticket ≡ c.command.ticket) × (b.answered < a.answered)

abbrev pub AreInTurn : WorldModel → Type 0
AreInTurn w = InTurn w.commands w.answers w.moment

-- ---- commands that go on

-- the command was there, with its ticket, and is no more answered
abbrev WasThere : List Arrival → ℕ → Arrival → Type 0
WasThere cs i c' = (c : Arrival) × At cs i c × (c.command.ticket ≡ c'.command.ticket) × (c'.answered ≡ true → c.answered ≡ true)

abbrev Same : List Arrival → List Arrival → Type 0
Same cs cs' = (i : ℕ) (c' : Arrival) → At cs' i c' → WasThere cs i c'

-- or it is new
abbrev Keeps : List Arrival → List Arrival → Type 0
Keeps cs cs' = (i : ℕ) (c' : Arrival) → At cs' i c' → WasThere cs i c' ⊎ ((c'.answered ≡ false) × (length cs ≤ i))

same-refl : (cs : List Arrival) → Same cs cs
same-refl cs i c at = (c, at, refl, λ h. h)

same-trans : (a b c : List Arrival) → Same a b → Same b c → Same a c
same-trans a b c x y i z at =
    let u = y i z at in
    let v = x i u.0 u.1 in
    (v.0, v.1, v.2 ∙ u.2, λ h. v.3 (u.3 h))

same-set : (cs : List Arrival) (i0 : ℕ) (c0 c' : Arrival) → At cs i0 c0 → c'.command.ticket ≡ c0.command.ticket → (c'.answered ≡ true → c0.answered ≡ true) → Same cs (slice_set cs i0 c')
same-set cs i0 c0 c' at0 ticket answered i x at = ⊎_elim
    (λ (z : (i ≡ i0) × (x ≡ c')). (c0, subst (λ k. At cs k c0) (sym z.0) at0, sym ticket ∙ ap (λ (y : Arrival). y.command.ticket) (sym z.1), λ h. answered (ap (λ (y : Arrival). y.answered) (sym z.1) ∙ h)))
    (λ (z : (i ≢ i0) × At cs i x). (x, z.1, refl, λ h. h))
    (at-set cs i0 c' i x at)

out-same : (way : Way) (node : ℕ) (before ts : List Ticket) (cs cs' : List Arrival) → GoOut way node before ts cs cs' → Same cs cs'
out-same way node before [] cs cs' d = subst (Same cs) (sym d) (same-refl cs)
out-same way node before (t ∷ ts) cs cs' d =
    same-trans cs (slice_set cs d.0 (awaiting d.1)) cs' (same-set cs d.0 d.1 (awaiting d.1) d.2.1 refl (λ h. h))
    (out-same way node (before ++ t ∷ []) ts (slice_set cs d.0 (awaiting d.1)) cs' d.5)

module _ (cs cs' : List Arrival) (answers : List Answer) (m m' : ℕ) (le : m ≤ m') (keeps : Keeps cs cs') (h : InTurn cs answers m) where
  was : (i : ℕ) (c : Arrival) → At cs' i c → c.answered ≡ true → WasThere cs i c
  was i c at marked = ⊎_elim (λ (z : WasThere cs i c). z) (λ (z : (c.answered ≡ false) × (length cs ≤ i)). absurd (false≢true (sym z.0 ∙ marked))) (keeps i c at)

  kept : InTurn cs' answers m'
  kept = record {
    past = λ a is. let p = h.past a is in omega (arith, p, le);
    late = h.late;
    noted = λ i c at marked.
        let z = was i c at marked in
        let n = h.noted i z.0 z.1 (z.3 marked) in
        (n.0, n.1, n.2 ∙ z.2);
    turned = λ i j c d lt at-c at-d one marked a is of.
        let z = was j d at-d marked in
        let within : j < length cs = slice_get_within cs j z.0 z.1 in
        let y : WasThere cs i c = ⊎_elim (λ (x : WasThere cs i c). x) (λ (x : (c.answered ≡ false) × (length cs ≤ i)). absurd (omega (arith, within, lt, x.1))) (keeps i c at-c) in
        let r = h.turned i j y.0 z.0 lt y.1 z.1 (ap (λ (t : Ticket). t.client) y.2 ∙ one ∙ sym (ap (λ (t : Ticket). t.client) z.2)) (z.3 marked) a is (of ∙ sym z.2) in
        (r.0, r.1, r.2 ∙ y.2, r.3);
  }

-- ---- an event

module _ (w w' : WorldModel) (h : AreInTurn w) where
  goes : w'.moment ≡ w.moment + 1 → (cs : List Arrival) → w'.commands ≡ cs → w'.answers ≡ w.answers → Keeps w.commands cs → AreInTurn w'
  goes moment cs commands answers keeps =
      subst (λ (x : List Arrival × List Answer). InTurn x.0 x.1 w'.moment) (λ i. (sym commands i, sym answers i))
      (kept w.commands cs w.answers w.moment w'.moment (omega (arith, moment)) keeps h)

  stays : w'.moment ≡ w.moment + 1 → w'.commands ≡ w.commands → w'.answers ≡ w.answers → AreInTurn w'
  stays moment commands answers = goes moment w.commands commands answers (λ i c at. inl (same-refl w.commands i c at))

  module _ (n : ℕ) (sound : Steady n w) where
    answer : (client : ℕ) → WorldDoes (ticked w) (ev.Answer client) w' → AreInTurn w'
    answer client d = subst (λ (x : WorldModel). AreInTurn x) (sym d.8) (record {
      past = λ a is. ⊎_elim (λ (z : At w.answers is.0 a). let p = h.past a (is.0, z) in omega (arith, p)) (λ (z : (is.0 ≡ length w.answers) × (a ≡ a0)). omega (arith, ap (λ (x : Answer). x.answered) z.1)) (at-last w.answers a0 is.0 a is.1);
      late = λ a is. ⊎_elim (λ (z : At w.answers is.0 a). h.late a (is.0, z))
          (λ (z : (is.0 ≡ length w.answers) × (a ≡ a0)). let early = (sound.lists).early i0 c0 at0 in omega (arith, early, ap (λ (x : Answer). x.answered) z.1, ap (λ (x : Answer). x.arrived) z.1)) (at-last w.answers a0 is.0 a is.1);
      noted = λ i c at marked. ⊎_elim
          (λ (z : (i ≡ i0) × (c ≡ c')). (a0, (length w.answers, last w.answers a0), ap (λ (x : Arrival). x.command.ticket) (sym z.1)))
          (λ (z : (i ≢ i0) × At w.commands i c). let n = h.noted i c z.1 marked in (n.0, more n.0 n.1, n.2))
          (at-set w.commands i0 c' i c at);
      turned = λ i j c d' lt at-c at-d one marked a is of. ⊎_elim
          (λ (z : (j ≡ i0) × (d' ≡ c')).
          let b = before i c (omega (arith, lt, z.0)) (other i j c lt z.0 at-c) (one ∙ ap (λ (x : Arrival). x.command.ticket.client) z.1 ∙ d.4) in
          ⊎_elim (λ (y : At w.answers is.0 a). absurd (untold a (is.0, y) (of ∙ ap (λ (x : Arrival). x.command.ticket) z.1)))
          (λ (y : (is.0 ≡ length w.answers) × (a ≡ a0)). (b.0, more b.0 b.1, b.2, omega (arith, h.past b.0 b.1, ap (λ (x : Answer). x.answered) y.1)))
          (at-last w.answers a0 is.0 a is.1))
          (λ (z : (j ≢ i0) × At w.commands j d').
          ⊎_elim (λ (y : At w.answers is.0 a).
          let x = marked-was i c at-c in
          let r = h.turned i j x.0 d' lt x.1 z.1 (ap (λ (t : Ticket). t.client) x.2 ∙ one) marked a (is.0, y) of in
          (r.0, more r.0 r.1, r.2 ∙ x.2, r.3))
          (λ (y : (is.0 ≡ length w.answers) × (a ≡ a0)).
          absurd (z.0 ((shared-headline n w sound).own_ticket j i0 d' c0 z.1 at0 (sym of ∙ ap (λ (x : Answer). x.ticket) y.1))))
          (at-last w.answers a0 is.0 a is.1))
          (at-set w.commands i0 c' j d' at-d);
    })
      where
        i0 : ℕ
        i0 = d.0

        c0 : Arrival
        c0 = d.1

        at0 : At w.commands d.0 d.1
        at0 = d.3

        c' : Arrival
        c' = record (d.1) { answered = true }

        a0 : Answer
        a0 = record { ticket = (d.1).command.ticket; ended = d.2; arrived = (d.1).arrived; answered = w.moment + 1 }

        more : (a : Answer) → IsIn w.answers a → IsIn (w.answers ++ record { ticket = (d.1).command.ticket; ended = d.2; arrived = (d.1).arrived; answered = w.moment + 1 } ∷ []) a
        more a (k, at) = (k, before-last w.answers (record { ticket = (d.1).command.ticket; ended = d.2; arrived = (d.1).arrived; answered = w.moment + 1 } ∷ []) k a at)

        -- the command at i, which is not the answered one
        other : (i j : ℕ) (c : Arrival) → i < j → j ≡ d.0 → At (slice_set w.commands d.0 (record (d.1) { answered = true })) i c → At w.commands i c
        other i j c lt is at = ⊎_elim
            (λ (z : (i ≡ d.0) × (c ≡ record (d.1) { answered = true })). absurd (omega (arith, lt, is, z.0)))
            (λ (z : (i ≢ d.0) × At w.commands i c). z.1)
            (at-set w.commands d.0 (record (d.1) { answered = true }) i c at)

        -- one that stands before it was answered
        before : (i : ℕ) (c : Arrival) → i < d.0 → At w.commands i c → c.command.ticket.client ≡ client → (b : Answer) × IsIn w.answers b × (b.ticket ≡ c.command.ticket)
        before i c lt at one = h.noted i c at (all_taken (λ (x : Arrival). x.command.ticket.client ≡ client → x.answered ≡ true) w.commands d.0 i c d.7 lt at one)

        -- and it was not
        untold : (a : Answer) → IsIn w.answers a → a.ticket ≡ (d.1).command.ticket → ⊥
        untold a is of =
            let b = (sound.lists).told is.0 a is.1 in
            let same : b.1 ≡ d.1 = one_at w.commands b.0 d.0 b.1 d.1 b.2 d.3 ((shared-headline n w sound).own_ticket b.0 d.0 b.1 d.1 b.2 d.3 (b.3 ∙ of)) in
            false≢true (sym d.5 ∙ ap (λ (x : Arrival). x.answered) (sym same) ∙ b.6)

        marked-was : (i : ℕ) (c : Arrival) → At (slice_set w.commands d.0 (record (d.1) { answered = true })) i c → (x : Arrival) × At w.commands i x × (x.command.ticket ≡ c.command.ticket)
        marked-was i c at = ⊎_elim
            (λ (z : (i ≡ d.0) × (c ≡ record (d.1) { answered = true })). (d.1, subst (λ k. At w.commands k d.1) (sym z.0) d.3, ap (λ (x : Arrival). x.command.ticket) (sym z.1)))
            (λ (z : (i ≢ d.0) × At w.commands i c). (c, z.1, refl))
            (at-set w.commands d.0 (record (d.1) { answered = true }) i c at)

    does : (e : Event) → WorldDoes (ticked w) e w' → AreInTurn w'
    does (ev.Arrive client part) d =
        goes (does-moment (ev.Arrive client part) (ticked w) w' d) (w.commands ++ arrival (ticked w) client part ∷ []) (ap (λ (x : WorldModel). x.commands) d.1) (ap (λ (x : WorldModel). x.answers) d.1)
        (λ i c at. ⊎_elim (λ (z : At w.commands i c). inl (same-refl w.commands i c z)) (λ (z : (i ≡ length w.commands) × (c ≡ arrival (ticked w) client part)). inr (ap (λ (x : Arrival). x.answered) z.1, omega (arith, z.0))) (at-last w.commands (arrival (ticked w) client part) i c at))
    does (ev.Post tickets node) d =
        goes (does-moment (ev.Post tickets node) (ticked w) w' d) d.1 (ap (λ (x : WorldModel). x.commands) d.5) (ap (λ (x : WorldModel). x.answers) d.5) (λ i c at. inl (out-same d.0 node [] tickets w.commands d.1 d.4 i c at))
    does (ev.Carry lane link) d = stays (does-moment (ev.Carry lane link) (ticked w) w' d) (ap (λ (x : WorldModel). x.commands) d.5) (ap (λ (x : WorldModel). x.answers) d.5)
    does (ev.Refuse lane) d = stays (does-moment (ev.Refuse lane) (ticked w) w' d) (ap (λ (x : WorldModel). x.commands) d.3) (ap (λ (x : WorldModel). x.answers) d.3)
    does (ev.Serve link v) d = ⊎_elim
        (λ (x : ServesAsking (ticked w) link d.0 v w'). stays (does-moment (ev.Serve link v) (ticked w) w' d) (ap (λ (y : WorldModel). y.commands) x.3) (ap (λ (y : WorldModel). y.answers) x.3))
        (λ (x : ServesRun (ticked w) link d.0 v w'). stays (does-moment (ev.Serve link v) (ticked w) w' d) (ap (λ (y : WorldModel). y.commands) x.7) (ap (λ (y : WorldModel). y.answers) x.7))
        d.2
    does (ev.Fetch link) d = ⊎_elim
        (λ (x : FetchesWelcome (ticked w) link d.0 w'). stays (does-moment (ev.Fetch link) (ticked w) w' d) (ap (λ (y : WorldModel). y.commands) x.2) (ap (λ (y : WorldModel). y.answers) x.2))
        (λ (x : FetchesReply (ticked w) link d.0 w'). stays (does-moment (ev.Fetch link) (ticked w) w' d) (ap (λ (y : WorldModel). y.commands) x.4) (ap (λ (y : WorldModel). y.answers) x.4))
        d.3
    does (ev.Take lane) d =
        goes (does-moment (ev.Take lane) (ticked w) w' d) (slice_set w.commands d.1 (after_told d.2 d.3)) (ap (λ (x : WorldModel). x.commands) d.7) (ap (λ (x : WorldModel). x.answers) d.7)
        (λ i c at. inl (same-set w.commands d.1 d.2 (after_told d.2 d.3) d.5.1 (ticket-after_told d.2 d.3) (λ marked. marked) i c at))
    does (ev.Drop link) d = stays (does-moment (ev.Drop link) (ticked w) w' d) (ap (λ (x : WorldModel). x.commands) d.3) (ap (λ (x : WorldModel). x.answers) d.3)
    does (ev.Discard link) d = stays (does-moment (ev.Discard link) (ticked w) w' d) (ap (λ (x : WorldModel). x.commands) d.4) (ap (λ (x : WorldModel). x.answers) d.4)
    does (ev.Answer client) d = answer client d
    does (ev.Import slot target) d = stays (does-moment (ev.Import slot target) (ticked w) w' d) (ap (λ (x : WorldModel). x.commands) d.2) (ap (λ (x : WorldModel). x.answers) d.2)
    does (ev.Migrate slot) d = stays (does-moment (ev.Migrate slot) (ticked w) w' d) (ap (λ (x : WorldModel). x.commands) d.1) (ap (λ (x : WorldModel). x.answers) d.1)
    does (ev.MoveKey slot key) d = stays (does-moment (ev.MoveKey slot key) (ticked w) w' d) (ap (λ (x : WorldModel). x.commands) d.1) (ap (λ (x : WorldModel). x.answers) d.1)
    does (ev.Own slot) d = stays (does-moment (ev.Own slot) (ticked w) w' d) (ap (λ (x : WorldModel). x.commands) d.1) (ap (λ (x : WorldModel). x.answers) d.1)
    does (ev.Release slot) d = stays (does-moment (ev.Release slot) (ticked w) w' d) (ap (λ (x : WorldModel). x.commands) d.1) (ap (λ (x : WorldModel). x.answers) d.1)
    does (ev.Forget slot) d = stays (does-moment (ev.Forget slot) (ticked w) w' d) (ap (λ (x : WorldModel). x.commands) d.1) (ap (λ (x : WorldModel). x.answers) d.1)
    does (ev.Stay slot) d = stays (does-moment (ev.Stay slot) (ticked w) w' d) (ap (λ (x : WorldModel). x.commands) d.1) (ap (λ (x : WorldModel). x.answers) d.1)

-- ---- a walk

walk : (n : ℕ) (ss : List Step) (w w' : WorldModel) → Steady n w → AreInTurn w → SharedWalk w ss w' → AreInTurn w'
walk n [] w w' sound h r = subst AreInTurn (sym r) h
walk n (Step.Ours e ∷ ss) w w' sound h r = walk n ss r.0 w' (does-steady n (Step.Ours e) w r.0 sound r.1) (does w r.0 h n sound e r.1) r.2
walk n (Step.Led link node verdict ∷ ss) w w' sound h r =
    walk n ss r.0 w' (does-steady n (Step.Led link node verdict) w r.0 sound r.1)
    (stays w r.0 h (ap (λ (x : WorldModel). x.moment) r.1.4.7) (ap (λ (x : WorldModel). x.commands) r.1.4.7) (ap (λ (x : WorldModel). x.answers) r.1.4.7)) r.2
walk n (Step.Theirs node asking es ∷ ss) w w' sound h r =
    walk n ss r.0 w' (does-steady n (Step.Theirs node asking es) w r.0 sound r.1)
    (stays w r.0 h (ap (λ (x : WorldModel). x.moment) r.1.2) (ap (λ (x : WorldModel). x.commands) r.1.2) (ap (λ (x : WorldModel). x.answers) r.1.2)) r.2
walk n (Step.Passes ∷ ss) w w' sound h r =
    walk n ss r.0 w' (does-steady n Step.Passes w r.0 sound r.1)
    (stays w r.0 h (ap (λ (x : WorldModel). x.moment) r.1) (ap (λ (x : WorldModel). x.commands) r.1) (ap (λ (x : WorldModel). x.answers) r.1)) r.2

none : InTurn [] [] 0
none = record {
  past = λ a is. absurd (nothing-there is.0 a is.1);
  late = λ a is. absurd (nothing-there is.0 a is.1);
  noted = λ i c at. absurd (nothing-there i c at);
  turned = λ i j c d lt at. absurd (nothing-there i c at);
}

in-turn : (w : WorldModel) → IsSharedWalked w → AreInTurn w
in-turn w h = walk h.0 h.4 (start_from h.0 h.1 h.2 h.3) w (start-steady h.0 h.1 h.2 h.3 h.5) none h.6

order : (i j : ℕ) → (i < j) ⊎ ((i ≡ j) ⊎ (j < i))
order i j = grind arith

-- an answer comes after the arrival
pub answered-late : (w : WorldModel) → IsSharedWalked w → (a : Answer) → IsIn w.answers a → a.arrived < a.answered
answered-late w h = (in-turn w h).late

-- and after the answers to the client's earlier commands
pub answered-behind : (w : WorldModel) → IsSharedWalked w → (a : Answer) → IsIn w.answers a → (c : Arrival) → IsIn w.commands c → c.command.ticket.client ≡ a.ticket.client → c.arrived < a.arrived
    → (b : Answer) × IsIn w.answers b × (b.ticket ≡ c.command.ticket) × (b.answered < a.answered)
answered-behind w h a is c (i, at) one lt =
    let lists = (walked-steady w h).lists in
    let d = lists.told is.0 a is.1 in
    let first : i < d.0 = ⊎_elim
    (λ (z : i < d.0). z)
    (λ (z : (i ≡ d.0) ⊎ (d.0 < i)). ⊎_elim
    (λ (y : i ≡ d.0). absurd (omega (arith, lt, d.5, ap (λ (x : Arrival). x.arrived) (one_at w.commands i d.0 c d.1 at d.2 y))))
    (λ (y : d.0 < i). absurd (omega (arith, lt, d.5, lists.sorted d.0 i d.1 c y d.2 at)))
    z)
    (order i d.0) in
    (in-turn w h).turned i d.0 c d.1 first at d.2 (one ∙ sym (ap (λ (t : Ticket). t.client) d.3)) d.6 a is (sym d.3)
