-- The headline of the commands that are ours, by what every event keeps: our entries alone stand as entries do where nobody else acts,
-- and the history of all is legal and in order.
use Rattle.std.proofs.Common.{◌≡◌, ◌≢◌, ◌⊎◌, ◌↔◌, ⊎_elim, ℕ, ◌+◌, ◌<◌, ◌≤◌, ◌==◌, Bool, true, false, List, Some, None, sym, ap, ◌∙◌, subst, arith}
use Rattle.std.specs.Prelude.{All}
use Rattle.std.proofs.lemmas.Bool.Decides.{eqb_tells}
use Rattle.std.specs.FinMap.{get}
use Rattle.slot_hash.specs.Slot.{slot_of}
use Rattle.resp_wire.specs.declared.value.Value.{Value}
use Rattle.key_split.specs.declared.travel.Ticket.{Ticket}
use Rattle.key_split.specs.declared.travel.Ended.{Ended}
use Rattle.key_split.specs.declared.travel.Ended.TheVariants.{Answered}
use Rattle.command_future.specs.declared.stage.Stage.TheVariants.{Over}
use Rattle.node_model.specs.History.{EntryModel}
use Rattle.node_model.specs.Nodes.{standing_at, at}
use Rattle.world_laws.specs.State.{WorldModel}
use Rattle.world_laws.specs.declared.state.Arrival.{Arrival}
use Rattle.world_laws.specs.World.{SameTurn}
use Rattle.world_laws.specs.Homes.{home_in}
use Rattle.world_laws.specs.Headline.{At, EachEntryArrived, HasOne, HeadlineOf, IsIn, NoneIsExecutedTwice, NoneShareAMoment, store_of}
use Rattle.world_laws.specs.declared.history.Answer.{Answer}
use Rattle.world_laws.proofs.Apart.{Short}
use Rattle.world_laws.proofs.Counted.{if_ran, if_awaits}
use Rattle.world_laws.proofs.Flow.{all_at}
use Rattle.world_laws.proofs.Kept.{Kept}
use Rattle.world_laws.proofs.Lives.{Lists, once-each, no-entry, has-entry, same_place, same_command}
use Rattle.world_laws.proofs.Passing.{keep, rank, kept-at, of-keep, rank-up}
use Rattle.world_laws.proofs.Placed.{Placed, standing-of}
use Rattle.world_laws.proofs.Recorded.{GoTogether, one_at}

-- which comes first
pub order : (i j : ℕ) → (i < j) ⊎ ((i ≡ j) ⊎ (j < i))
order i j = grind arith

one_end : (x y : Ended) → Over x ≡ Over y → x ≡ y
one_end x y e = cc

-- what the commands, their entries and their answers say of one another
module _ (w : WorldModel) (h : Placed w) (r : Lists w.moment w) where
  pub once : (ticket : Ticket) → HasOne w ticket
  once ticket k l e f p q te tf = once-each w h k l e f p q (te ∙ sym tf)

  -- the entry comes after its command's arrival
  pub after : (i : ℕ) (c : Arrival) → At w.commands i c → (k : ℕ) (e : EntryModel) → At w.history k e → e.ticket ≡ c.command.ticket → c.arrived < e.moment
  after i c p k e q te =
      let b = r.born k e q in
      subst (λ (z : Arrival). z.arrived < e.moment) (same_command w (standing-of w w.history h) b.0 i b.1 c b.2 p (b.3 ∙ te)) b.5

  -- and before the answer
  pub before : (i : ℕ) (c : Arrival) (v : Value) → At w.commands i c → c.command.stage ≡ Over (Answered v) → (k : ℕ) (e : EntryModel) → At w.history k e → e.ticket ≡ c.command.ticket
      → (l : ℕ) (a : Answer) → At w.answers l a → a.ticket ≡ c.command.ticket → e.moment < a.answered
  before i c v p stage k e q te l a at_a ta =
      let b = r.told l a at_a in
      let same : b.1 ≡ c = same_command w (standing-of w w.history h) b.0 i b.1 c b.2 p (b.3 ∙ ta) in
      let g = r.within l a v at_a (one_end a.ended (Answered v) (sym b.4 ∙ ap (λ (z : Arrival). z.command.stage) same ∙ stage)) in
      let here : g.1 ≡ e = one_at w.history g.0 k g.1 e g.2 q (once-each w h g.0 k g.1 e g.2 q (g.3 ∙ ta ∙ sym te)) in
      subst (λ (z : EntryModel). z.moment < a.answered) here g.6

  pub ordered : (i j : ℕ) (c d : Arrival) → At w.commands i c → At w.commands j d → c.command.stage ≢ Over Ended.Lost → SameTurn d c → c.arrived < d.arrived
      → (k l : ℕ) (e f : EntryModel) → At w.history k e → At w.history l f → e.ticket ≡ c.command.ticket → f.ticket ≡ d.command.ticket → k < l
  ordered i j c d p q kept turn lt k l e f at_e at_f te tf = ⊎_elim
      (λ (lt' : i < j). ⊎_elim (λ (x : k < l). x) (λ (x : c.command.stage ≡ Over Ended.Lost). absurd (kept x))
      (r.ordered i j c d lt' p q turn k l e f at_e at_f te tf))
      (λ (rest : (i ≡ j) ⊎ (j < i)). ⊎_elim
      (λ (x : i ≡ j). absurd (omega (arith, lt, ap (λ (z : Arrival). z.arrived) (one_at w.commands i j c d p q x))))
      (λ (x : j < i). absurd (omega (arith, lt, r.sorted j i d c x q p)))
      rest)
      (order i j)

-- what the nodes hold together is what the history leaves
module _ (w : WorldModel) (s : Kept w) where
  pub at_home : (key : List ℕ) (n : ℕ) (a : List ℕ) → at w.cluster n key ≡ Some a → n ≡ home_in (standing_at w.cluster (slot_of key)) (λ x. at w.cluster x key)
  at_home key n a p = ⊎_elim (λ (x : ((n == home_in (standing_at w.cluster (slot_of key)) (λ x. at w.cluster x key)) ≡ true) × (n ≡ home_in (standing_at w.cluster (slot_of key)) (λ x. at w.cluster x key))). x.1)
      (λ (x : ((n == home_in (standing_at w.cluster (slot_of key)) (λ x. at w.cluster x key)) ≡ false) × (n ≢ home_in (standing_at w.cluster (slot_of key)) (λ x. at w.cluster x key))). let none : at w.cluster n key ≡ None = (s.data' key).others n x.1 in absurd (cc))
      (eqb_tells n (home_in (standing_at w.cluster (slot_of key)) (λ x. at w.cluster x key)))

  pub one-node : (key : List ℕ) (n m : ℕ) (a b : List ℕ) → at w.cluster n key ≡ Some a → at w.cluster m key ≡ Some b → n ≡ m
  one-node key n m a b p q = at_home key n a p ∙ sym (at_home key m b q)

  pub union-of : (key value : List ℕ) → (get (store_of w) key ≡ Some value) ↔ ((n : ℕ) × (at w.cluster n key ≡ Some value))
  union-of key v = (
    (λ p. (home_in (standing_at w.cluster (slot_of key)) (λ x. at w.cluster x key), sym (s.data' key).holds ∙ p)),
    (λ p. (s.data' key).holds ∙ ap (λ x. at w.cluster x key) (sym (at_home key p.0 v p.1)) ∙ p.1),
  )

-- the world with our entries alone
abbrev pub with_own : (Ticket → Bool) → WorldModel → WorldModel
with_own own w = record w { history = keep (λ e. own e.ticket) w.history }

-- a test tells which tickets are ours
pub record Tells (own : Ticket → Bool) (Ours : Ticket → Type 0) : Type 0 where
  pub yes : (ticket : Ticket) → Ours ticket → own ticket ≡ true
  pub so : (ticket : Ticket) → own ticket ≡ true → Ours ticket

pub record Owned (own : Ticket → Bool) (w : WorldModel) : Type 0 where
  pub named : All (λ (c : Arrival). own c.command.ticket ≡ true) w.commands
  pub placed : Placed (with_own own w)
  pub lists : Lists w.moment (with_own own w)
  pub short : Short (with_own own w)
  pub kept : Kept w
  pub timed : (k l : ℕ) (e f : EntryModel) → At w.history k e → At w.history l f → k < l → e.moment ≤ f.moment
  pub together : (k l : ℕ) (e f : EntryModel) → At w.history k e → At w.history l f → e.moment ≡ f.moment
      → GoTogether e f × (own e.ticket ≡ own f.ticket)

module _ (own : Ticket → Bool) (Ours : Ticket → Type 0) (tells : Tells own Ours) (w : WorldModel) (s : Owned own w) where
  abbrev mine : WorldModel
  mine = with_own own w

  -- where an entry stands among ours
  abbrev place : ℕ → ℕ
  place k = rank (λ (e : EntryModel). own e.ticket) w.history k

  -- an entry of ours, where our entries alone stand
  in-mine : (k : ℕ) (e : EntryModel) → At w.history k e → own e.ticket ≡ true → At mine.history (place k) e
  in-mine k e p y = kept-at (λ (e : EntryModel). own e.ticket) w.history k e p y

  in-all : (e : EntryModel) → IsIn mine.history e → IsIn w.history e
  in-all e x = let r = of-keep (λ (e : EntryModel). own e.ticket) w.history x.0 e x.1 in (r.0, r.1)

  up : (k l : ℕ) (e : EntryModel) → At w.history k e → own e.ticket ≡ true → k < l → place k < place l
  up k l e p y lt = rank-up (λ (e : EntryModel). own e.ticket) w.history k l e p y lt

  from-one : (k l : ℕ) (e f : EntryModel) → At w.history k e → At w.history l f → own e.ticket ≡ true → own f.ticket ≡ true → place k ≡ place l → k ≡ l
  from-one k l e f p q x y same = ⊎_elim
      (λ (lt : k < l). absurd (omega (arith, same, up k l e p x lt)))
      (λ (rest : (k ≡ l) ⊎ (l < k)). ⊎_elim (λ (z : k ≡ l). z) (λ (lt : l < k). absurd (omega (arith, same, up l k f q y lt))) rest)
      (order k l)

  from-lt : (k l : ℕ) (e f : EntryModel) → At w.history k e → At w.history l f → own e.ticket ≡ true → own f.ticket ≡ true → place k < place l → k < l
  from-lt k l e f p q x y less = ⊎_elim
      (λ (lt : k < l). lt)
      (λ (rest : (k ≡ l) ⊎ (l < k)). ⊎_elim
      (λ (z : k ≡ l). absurd (omega (arith, less, ap place z)))
      (λ (lt : l < k). absurd (omega (arith, less, up l k f q y lt)))
      rest)
      (order k l)

  of-command : (c : Arrival) → IsIn w.commands c → own c.command.ticket ≡ true
  of-command c x = all_at (λ (c : Arrival). own c.command.ticket ≡ true) w.commands x.0 c x.1 s.named

  of-entry : (e : EntryModel) (c : Arrival) → IsIn w.commands c → e.ticket ≡ c.command.ticket → own e.ticket ≡ true
  of-entry e c x te = ap own te ∙ of-command c x

  once-ours : (ticket : Ticket) → own ticket ≡ true → HasOne w ticket
  once-ours ticket y k l e f p q te tf =
      let ye : own e.ticket ≡ true = ap own te ∙ y in
      let yf : own f.ticket ≡ true = ap own tf ∙ y in
      from-one k l e f p q ye yf (once mine s.placed s.lists ticket (place k) (place l) e f (in-mine k e p ye) (in-mine l f q yf) te tf)

  pub headline-of : HeadlineOf Ours w
  headline-of = record {
    legal = (s.kept).legal;
    timed = s.timed;
    together = λ k l e f p q same.
        let g = s.together k l e f p q same in
        (g.0.0, g.0.1, ((λ x. tells.so f.ticket (sym g.1 ∙ tells.yes e.ticket x)), (λ x. tells.so e.ticket (g.1 ∙ tells.yes f.ticket x))));
    apart = λ small k l e f p q x y lt.
        (s.short).apart small (place k) (place l) e f (in-mine k e p (tells.yes e.ticket x)) (in-mine l f q (tells.yes f.ticket y))
        (up k l e p (tells.yes e.ticket x) lt);
    one_node = one-node w s.kept;
    union = union-of w s.kept;
    ours = λ c x. tells.so c.command.ticket (of-command c x);
    own_ticket = λ i j c d p q e. same_place mine (standing-of mine mine.history s.placed) i j c d p q e;
    told = λ a x. let b = (s.lists).told x.0 a x.1 in (b.1, ((b.0, b.2), b.4), b.3, b.5);
    answered_once = (s.lists).answered_once;
    arrived = λ e x y.
        let b = (s.lists).born (place x.0) e (in-mine x.0 e x.1 (tells.yes e.ticket y)) in
        (b.1, (x, (b.0, b.2), sym b.3), sym b.4, b.5);
    once = λ ticket y. once-ours ticket (tells.yes ticket y);
    answered = λ c reply x.
        let f = has-entry mine s.placed x.0.0 c reply x.0.1 x.1 in (
          f.1,
          (in-all f.1 (f.0, f.2), x.0, f.3),
          f.4,
          after mine s.placed s.lists x.0.0 c x.0.1 f.0 f.1 f.2 f.3,
          λ a y te. before mine s.placed s.lists x.0.0 c reply x.0.1 x.1 f.0 f.1 f.2 f.3 y.0 a y.1 te,
        );
    in_order = λ k l e f c d at_k at_l x y turn lt kept.
        let ye : own e.ticket ≡ true = of-entry e c x.1 x.2 in
        let yf : own f.ticket ≡ true = of-entry f d y.1 y.2 in
        from-lt k l e f at_k at_l ye yf
        (ordered mine s.placed s.lists x.1.0 y.1.0 c d x.1.1 y.1.1 kept (sym turn.0, sym turn.1) lt (place k) (place l) e f (in-mine k e at_k ye) (in-mine l f at_l yf) x.2 y.2);
    lost = λ c x. once-ours c.command.ticket (of-command c x.0);
    refused = λ c x e y.
        no-entry mine s.placed x.0.0 c x.0.1 (ap (λ x. if_ran x 1 + if_awaits x 1) x.1) (place y.0.0) e (in-mine y.0.0 e y.0.1 (of-entry e c x.0 y.2)) y.2;
  }

-- where every ticket is ours
pub none-share : NoneShareAMoment
none-share w g small k l e f p q lt = g.apart small k l e f p q tt tt lt

pub each-arrived : EachEntryArrived
each-arrived w g e x = g.arrived e x tt

pub none-twice : NoneIsExecutedTwice
none-twice w g ticket = g.once ticket tt
