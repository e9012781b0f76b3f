-- Entries, answers and commands of one client: what the lists say of one another.
use Rattle.std.proofs.Common.{◌≡◌, ◌≢◌, ◌⊎◌, inl, inr, ⊎_elim, ℕ, zero, suc, ◌<◌, ◌≤◌, ◌==◌, true, false, List, [], ◌∷◌, ◌++◌, length, take, Some, None, refl, sym, ap, ◌∙◌, subst, arith}
use Rattle.std.specs.Prelude.{slice_get, slice_set, All}
use Rattle.std.proofs.lemmas.Option.{slice_get_within}
use Rattle.std.proofs.lemmas.Bool.Decides.{eqb_tells}
use Rattle.resp_wire.specs.Seen.{data_of}
use Rattle.resp_wire.specs.declared.value.Value.{Value}
use Rattle.key_split.specs.declared.travel.Ticket.{Ticket}
use Rattle.key_split.specs.declared.travel.Ended.{Ended}
use Rattle.key_split.specs.declared.travel.Ended.TheVariants.{Answered}
use Rattle.command_future.specs.declared.stage.Stage.TheVariants.{Wants, Over}
use Rattle.world_laws.specs.State.{Arrival, HasEnded, slot_for}
use Rattle.world_laws.specs.Places.{is}
use Rattle.node_model.specs.History.{EntryModel}
use Rattle.world_laws.specs.World.{SameTurn}
use Rattle.world_laws.specs.Headline.{At}
use Rattle.world_laws.specs.declared.history.Answer.{Answer}

-- at one place stands one thing
pub one_at : {X : Type 0} (xs : List X) (i j : ℕ) (x y : X) → At xs i x → At xs j y → i ≡ j → x ≡ y
one_at xs i j x y p q e = let z : slice_get xs i ≡ slice_get xs j = ap (slice_get xs) e in let p' : slice_get xs i ≡ Some x = p in let q' : slice_get xs j ≡ Some y = q in cc

pub at-set : {X : Type 0} (xs : List X) (i : ℕ) (y : X) (k : ℕ) (x : X) → At (slice_set xs i y) k x → ((k ≡ i) × (x ≡ y)) ⊎ ((k ≢ i) × At xs k x)
at-set [] i y k x e = absurd (cc)
at-set (z ∷ xs) zero y zero x e = inl (refl, cc)
at-set (z ∷ xs) zero y (suc k) x e = inr ((λ p. absurd (omega arith)), e)
at-set (z ∷ xs) (suc i) y zero x e = inr ((λ p. absurd (omega arith)), e)
at-set (z ∷ xs) (suc i) y (suc k) x e = ⊎_elim (λ (h : (k ≡ i) × (x ≡ y)). inl (ap suc h.0, h.1)) (λ (h : (k ≢ i) × At xs k x). inr ((λ p. h.0 (omega arith)), h.1)) (at-set xs i y k x e)

pub set-same : {X : Type 0} (xs : List X) (i : ℕ) (x y : X) → At xs i x → At (slice_set xs i y) i y
set-same [] i x y e = absurd (cc)
set-same (z ∷ xs) zero x y e = refl
set-same (z ∷ xs) (suc i) x y e = set-same xs i x y e

pub set-other : {X : Type 0} (xs : List X) (i : ℕ) (y : X) (k : ℕ) (x : X) → k ≢ i → At xs k x → At (slice_set xs i y) k x
set-other [] i y k x ne e = e
set-other (z ∷ xs) zero y zero x ne e = absurd (ne refl)
set-other (z ∷ xs) zero y (suc k) x ne e = e
set-other (z ∷ xs) (suc i) y zero x ne e = e
set-other (z ∷ xs) (suc i) y (suc k) x ne e = set-other xs i y k x (λ p. ne (ap suc p)) e

pub at-last : {X : Type 0} (xs : List X) (y : X) (k : ℕ) (x : X) → At (xs ++ y ∷ []) k x → At xs k x ⊎ ((k ≡ length xs) × (x ≡ y))
at-last [] y zero x e = inr (refl, cc)
at-last [] y (suc k) x e = absurd (cc)
at-last (z ∷ xs) y zero x e = inl e
at-last (z ∷ xs) y (suc k) x e = ⊎_elim (λ (h : At xs k x). inl h) (λ (h : (k ≡ length xs) × (x ≡ y)). inr (ap suc h.0, h.1)) (at-last xs y k x e)

pub before-last : {X : Type 0} (xs ys : List X) (k : ℕ) (x : X) → At xs k x → At (xs ++ ys) k x
before-last [] ys k x e = absurd (cc)
before-last (z ∷ xs) ys zero x e = e
before-last (z ∷ xs) ys (suc k) x e = before-last xs ys k x e

pub last : {X : Type 0} (xs : List X) (y : X) → At (xs ++ y ∷ []) (length xs) y
last [] y = refl
last (z ∷ xs) y = last xs y

pub all_taken : {X : Type 0} (P : X → Type 0) (xs : List X) (n i : ℕ) (x : X) → All P (take n xs) → i < n → At xs i x → P x
all_taken {X} P xs n i x h lt e = go xs n i lt e h
  where
    go : (xs : List X) (n i : ℕ) → i < n → At xs i x → All P (take n xs) → P x
    go [] n i lt e h = absurd (cc)
    go (z ∷ xs) zero i lt e h = absurd (omega arith)
    go (z ∷ xs) (suc n) zero lt e h = let same : z ≡ x = cc in subst P same (h 0 z (omega arith))
    go (z ∷ xs) (suc n) (suc i) lt e h = go xs n i (omega arith) e (λ k d lt'. h (suc k) d (omega arith))

-- never posted yet
abbrev pub IsFresh : Arrival → Type 0
IsFresh c = (c.command.stage ≡ Wants None) × (c.command.followed ≡ 0)

-- it has an entry before this place
abbrev pub HasEarlier : List EntryModel → ℕ → Arrival → Type 0
HasEarlier hs l c = (k : ℕ) × (e : EntryModel) × At hs k e × (e.ticket ≡ c.command.ticket) × (k < l)

-- one client's, for one slot
abbrev pub GoTogether : EntryModel → EntryModel → Type 0
GoTogether e f = (e.ticket.client ≡ f.ticket.client) × (slot_for e.part ≡ slot_for f.part)

pub record Recorded (m : ℕ) (cs : List Arrival) (hs : List EntryModel) (answers : List Answer) : Type 0 where
  pub early : (i : ℕ) (c : Arrival) → At cs i c → c.arrived ≤ m
  pub sorted : (i j : ℕ) (c d : Arrival) → i < j → At cs i c → At cs j d → c.arrived < d.arrived
  -- an entry is of a command that arrived earlier
  pub born : (k : ℕ) (e : EntryModel) → At hs k e → (i : ℕ) × (c : Arrival) × At cs i c × (c.command.ticket ≡ e.ticket) × (c.command.part ≡ e.part) × (c.arrived < e.moment)
  pub past : (k : ℕ) (e : EntryModel) → At hs k e → e.moment ≤ m
  -- entries stand in the order of their moments
  pub timed : (k l : ℕ) (e f : EntryModel) → At hs k e → At hs l f → k < l → e.moment ≤ f.moment
  -- of one client and slot, where they share it
  pub together : (k l : ℕ) (e f : EntryModel) → At hs k e → At hs l f → e.moment ≡ f.moment → GoTogether e f
  -- an answer tells its command's end, and a command has at most one
  pub told : (k : ℕ) (a : Answer) → At answers k a → (i : ℕ) × (c : Arrival) × At cs i c × (c.command.ticket ≡ a.ticket) × (c.command.stage ≡ Over a.ended) × (c.arrived ≡ a.arrived) × (c.answered ≡ true)
  pub answered_once : (k l : ℕ) (a b : Answer) → At answers k a → At answers l b → a.ticket ≡ b.ticket → k ≡ l
  -- and the entry of an answered one lies between
  pub within : (k : ℕ) (a : Answer) (v : Value) → At answers k a → a.ended ≡ Answered v → (j : ℕ) × (e : EntryModel) × At hs j e × (e.ticket ≡ a.ticket) × (e.reply ≡ data_of v) × (a.arrived < e.moment) × (e.moment < a.answered)
  -- before an entry, each earlier command of its turn has ended, or has its own entry
  pub followed : (i j : ℕ) (c d : Arrival) → i < j → At cs i c → At cs j d → SameTurn d c → (l : ℕ) (e' : EntryModel) → At hs l e' → e'.ticket ≡ d.command.ticket → HasEnded c ⊎ HasEarlier hs l c
  -- entries out of order are of commands that were lost
  pub ordered : (i j : ℕ) (c d : Arrival) → i < j → At cs i c → At cs j d → SameTurn d c → (k l : ℕ) (e e' : EntryModel) → At hs k e → At hs l e' → e.ticket ≡ c.command.ticket → e'.ticket ≡ d.command.ticket
      → (k < l) ⊎ (c.command.stage ≡ Over Ended.Lost)

-- the command went on: its birth is the same, and an end and an answer stay
abbrev pub Later : Arrival → Arrival → Type 0
Later c c' =
    (c'.command.ticket ≡ c.command.ticket) × (c'.command.part ≡ c.command.part) × (c'.arrived ≡ c.arrived)
    × ((e : Ended) → c.command.stage ≡ Over e → c'.command.stage ≡ Over e) × (c.answered ≡ true → c'.answered ≡ true)

le_trans : (a b c : ℕ) → a ≤ b → b ≤ c → a ≤ c
le_trans a b c x y = omega arith

-- time goes on
pub waited : (m m' : ℕ) (cs : List Arrival) (hs : List EntryModel) (answers : List Answer) → m ≤ m' → Recorded m cs hs answers → Recorded m' cs hs answers
waited m m' cs hs answers le r = record {
  early = λ i c e. le_trans c.arrived m m' (r.early i c e) le;
  sorted = r.sorted;
  born = r.born;
  past = λ k x e. le_trans x.moment m m' (r.past k x e) le;
  timed = r.timed;
  together = r.together;
  told = r.told;
  answered_once = r.answered_once;
  within = r.within;
  followed = r.followed;
  ordered = r.ordered;
}

-- a command arrives
pub grown : (m : ℕ) (cs : List Arrival) (hs : List EntryModel) (answers : List Answer) (c : Arrival) → c.arrived ≡ suc m → IsFresh c → ((k : ℕ) (e : EntryModel) → At hs k e → e.ticket ≡ c.command.ticket → ⊥) → Recorded m cs hs answers → Recorded (suc m) (cs ++ c ∷ []) hs answers
grown m cs hs answers c lt fresh none r = record {
  early = λ i x e. ⊎_elim (λ (h : At cs i x). le_trans x.arrived m (suc m) (r.early i x h) (omega arith)) (λ (h : (i ≡ length cs) × (x ≡ c)). subst (λ (y : Arrival). y.arrived ≤ suc m) (sym h.1) (omega (arith, lt))) (at-last cs c i x e);
  sorted = λ i j x y lt' p q. ⊎_elim
      (λ (h : At cs j y). ⊎_elim (λ (g : At cs i x). r.sorted i j x y lt' g h) (λ (g : (i ≡ length cs) × (x ≡ c)). let len : j < length cs = slice_get_within cs j y h in absurd (omega arith)) (at-last cs c i x p))
      (λ (h : (j ≡ length cs) × (y ≡ c)). ⊎_elim (λ (g : At cs i x). omega (arith, r.early i x g, ap (λ (z : Arrival). z.arrived) h.1, lt)) (λ (g : (i ≡ length cs) × (x ≡ c)). absurd (omega (arith, g.0, h.0))) (at-last cs c i x p))
      (at-last cs c j y q);
  born = λ k e at_k. let b = r.born k e at_k in (b.0, b.1, before-last cs (c ∷ []) b.0 b.1 b.2, b.3, b.4, b.5);
  past = λ k e at_k. le_trans e.moment m (suc m) (r.past k e at_k) (omega arith);
  timed = r.timed;
  together = r.together;
  told = λ k a at_k. let b = r.told k a at_k in (b.0, b.1, before-last cs (c ∷ []) b.0 b.1 b.2, b.3, b.4, b.5, b.6);
  answered_once = r.answered_once;
  within = r.within;
  followed = λ i j x y lt' p q t l e' at_l te'. ⊎_elim
      (λ (h : At cs j y). ⊎_elim (λ (g : At cs i x). r.followed i j x y lt' g h t l e' at_l te') (λ (g : (i ≡ length cs) × (x ≡ c)). let len : j < length cs = slice_get_within cs j y h in absurd (omega arith)) (at-last cs c i x p))
      (λ (h : (j ≡ length cs) × (y ≡ c)). absurd (none l e' at_l (te' ∙ ap (λ (z : Arrival). z.command.ticket) h.1)))
      (at-last cs c j y q);
  ordered = λ i j x y lt' p q t k l e e' at_k at_l te te'. ⊎_elim
      (λ (h : At cs j y). ⊎_elim (λ (g : At cs i x). r.ordered i j x y lt' g h t k l e e' at_k at_l te te') (λ (g : (i ≡ length cs) × (x ≡ c)). let len : j < length cs = slice_get_within cs j y h in absurd (omega arith)) (at-last cs c i x p))
      (λ (h : (j ≡ length cs) × (y ≡ c)). absurd (none l e' at_l (te' ∙ ap (λ (z : Arrival). z.command.ticket) h.1)))
      (at-last cs c j y q);
}

-- a command goes on
module _ (m : ℕ) (cs : List Arrival) (hs : List EntryModel) (answers : List Answer) (i0 : ℕ) (c0 c' : Arrival) (at0 : At cs i0 c0) (later : Later c0 c') (r : Recorded m cs hs answers) where
  -- what stood at a place, where this stands now
  was : (i : ℕ) (x : Arrival) → At (slice_set cs i0 c') i x → (y : Arrival) × At cs i y × Later y x × (i ≢ i0 → x ≡ y)
  was i x e = ⊎_elim
      (λ (h : (i ≡ i0) × (x ≡ c')). (c0, subst (λ k. At cs k c0) (sym h.0) at0, subst (Later c0) (sym h.1) later, λ ne. absurd (ne h.0)))
      (λ (h : (i ≢ i0) × At cs i x). (x, h.1, (refl, refl, refl, λ _ p. p, λ p. p), λ _. refl))
      (at-set cs i0 c' i x e)

  -- what stands now, where this stood
  now : (i : ℕ) (y : Arrival) → At cs i y → (x : Arrival) × At (slice_set cs i0 c') i x × Later y x
  now i y e = ⊎_elim
      (λ (h : ((i == i0) ≡ true) × (i ≡ i0)).
      let same : y ≡ c0 = cc' h.1 in
      (c', subst (λ k. At (slice_set cs i0 c') k c') (sym h.1) (set-same cs i0 c0 c' at0), subst (λ z. Later z c') (sym same) later))
      (λ (h : ((i == i0) ≡ false) × (i ≢ i0)). (y, set-other cs i0 c' i y h.1 e, (refl, refl, refl, λ _ p. p, λ p. p)))
      (eqb_tells i i0)
    where
      cc' : i ≡ i0 → y ≡ c0
      cc' p = let q : slice_get cs i ≡ slice_get cs i0 = ap (slice_get cs) p in cc

  same-turn : (x x' y y' : Arrival) → Later y x → Later y' x' → SameTurn x' x → SameTurn y' y
  same-turn x x' y y' a b t = (ap (λ (u : Ticket). u.client) (sym a.0) ∙ t.0 ∙ ap (λ (u : Ticket). u.client) b.0, ap slot_for (sym a.1) ∙ t.1 ∙ ap slot_for b.1)

  ended : (y x : Arrival) → Later y x → HasEnded y → HasEnded x
  ended y x a h = (h.0, a.3 h.0 h.1)

  pub gone-on : Recorded m (slice_set cs i0 c') hs answers
  gone-on = record {
    early = λ i x e. let w = was i x e in subst (λ n. n ≤ m) (sym (w.2).2) (r.early i w.0 w.1);
    sorted = λ i j x y lt p q. let a = was i x p in let b = was j y q in subst (λ (z : ℕ × ℕ). z.0 < z.1) (λ i'. (sym (a.2).2 i', sym (b.2).2 i')) (r.sorted i j a.0 b.0 lt a.1 b.1);
    born = λ k e at_k. let b = r.born k e at_k in let n = now b.0 b.1 b.2 in (b.0, n.0, n.1, (n.2).0 ∙ b.3, (n.2).1 ∙ b.4, subst (λ q. q < e.moment) (sym (n.2).2) b.5);
    past = r.past;
    timed = r.timed;
    together = r.together;
    told = λ k a at_k. let b = r.told k a at_k in let n = now b.0 b.1 b.2 in (b.0, n.0, n.1, (n.2).0 ∙ b.3, (n.2).3 a.ended b.4, (n.2).2 ∙ b.5, (n.2).4 b.6);
    answered_once = r.answered_once;
    within = r.within;
    followed = λ i j x y lt p q t l e' at_l te'.
        let a = was i x p in let b = was j y q in
        ⊎_elim (λ (h : HasEnded a.0). inl (ended a.0 x a.2 h)) (λ (h : HasEarlier hs l a.0). inr (h.0, h.1, h.2, h.3 ∙ sym (a.2).0, h.4))
        (r.followed i j a.0 b.0 lt a.1 b.1 (same-turn x y a.0 b.0 a.2 b.2 t) l e' at_l (te' ∙ (b.2).0));
    ordered = λ i j x y lt p q t k l e e' at_k at_l te te'.
        let a = was i x p in let b = was j y q in
        ⊎_elim (λ (h : k < l). inl h) (λ (h : (a.0).command.stage ≡ Over Ended.Lost). inr ((a.2).3 Ended.Lost h))
        (r.ordered i j a.0 b.0 lt a.1 b.1 (same-turn x y a.0 b.0 a.2 b.2 t) k l e e' at_k at_l (te ∙ (a.2).0) (te' ∙ (b.2).0));
  }

-- an entry is added
pub entered : (m : ℕ) (cs : List Arrival) (hs : List EntryModel) (answers : List Answer) (e0 : EntryModel) (i0 : ℕ) (c0 : Arrival) → At cs i0 c0 → c0.command.ticket ≡ e0.ticket → c0.command.part ≡ e0.part → e0.moment ≡ m → c0.arrived < m
    → ((i : ℕ) (c : Arrival) → At cs i c → c.command.ticket ≡ e0.ticket → i ≡ i0)
    → ((k : ℕ) (e : EntryModel) → At hs k e → e.ticket ≡ e0.ticket → ⊥)
    → ((k : ℕ) (e : EntryModel) → At hs k e → e.moment ≡ m → GoTogether e e0)
    → (HasEnded c0 → c0.command.stage ≡ Over Ended.Lost)
    → ((i : ℕ) (c : Arrival) → i < i0 → At cs i c → SameTurn c0 c → HasEnded c ⊎ HasEarlier hs (length hs) c)
    → Recorded m cs hs answers → Recorded m cs (hs ++ e0 ∷ []) answers
entered m cs hs answers e0 i0 c0 at0 ticket part moment early one first alike late behind r = record {
  early = r.early;
  sorted = r.sorted;
  born = λ k e at_k. ⊎_elim (λ (h : At hs k e). r.born k e h)
      (λ (h : (k ≡ length hs) × (e ≡ e0)). (i0, c0, at0, ticket ∙ ap (λ (z : EntryModel). z.ticket) (sym h.1), part ∙ ap (λ (z : EntryModel). z.part) (sym h.1), subst (λ (z : EntryModel). c0.arrived < z.moment) (sym h.1) (omega (arith, early, moment))))
      (at-last hs e0 k e at_k);
  past = λ k e at_k. ⊎_elim (λ (h : At hs k e). r.past k e h) (λ (h : (k ≡ length hs) × (e ≡ e0)). subst (λ (z : EntryModel). z.moment ≤ m) (sym h.1) (omega (arith, moment))) (at-last hs e0 k e at_k);
  told = r.told;
  answered_once = r.answered_once;
  within = λ k a v at_k is. let b = r.within k a v at_k is in (b.0, b.1, before-last hs (e0 ∷ []) b.0 b.1 b.2, b.3, b.4, b.5, b.6);
  timed = λ k l e f p q lt. in_time k l e f lt (at-last hs e0 k e p) (at-last hs e0 l f q);
  together = λ k l e f p q same. at_once k l e f same (at-last hs e0 k e p) (at-last hs e0 l f q);
  followed = λ i j c d lt p q t l e' at_l te'. follow i j c d lt p q t l e' te' (at-last hs e0 l e' at_l);
  ordered = λ i j c d lt p q t k l e e' at_k at_l te te'. go i j c d lt p q t k l e e' te te' (at-last hs e0 k e at_k) (at-last hs e0 l e' at_l);
}
  where
    in_time : (k l : ℕ) (e f : EntryModel) → k < l → At hs k e ⊎ ((k ≡ length hs) × (e ≡ e0)) → At hs l f ⊎ ((l ≡ length hs) × (f ≡ e0)) → e.moment ≤ f.moment
    in_time k l e f lt (inl x) (inl y) = r.timed k l e f x y lt
    in_time k l e f lt (inl x) (inr y) = omega (arith, r.past k e x, moment, ap (λ (z : EntryModel). z.moment) y.1)
    in_time k l e f lt (inr x) (inl y) = let len : l < length hs = slice_get_within hs l f y in absurd (omega (arith, x.0))
    in_time k l e f lt (inr x) (inr y) = absurd (omega (arith, x.0, y.0))

    at_once : (k l : ℕ) (e f : EntryModel) → e.moment ≡ f.moment → At hs k e ⊎ ((k ≡ length hs) × (e ≡ e0)) → At hs l f ⊎ ((l ≡ length hs) × (f ≡ e0)) → GoTogether e f
    at_once k l e f same (inl x) (inl y) = r.together k l e f x y same
    at_once k l e f same (inl x) (inr y) = subst (GoTogether e) (sym y.1) (alike k e x (same ∙ ap (λ (z : EntryModel). z.moment) y.1 ∙ moment))
    at_once k l e f same (inr x) (inl y) =
        let g = alike l f y (sym same ∙ ap (λ (z : EntryModel). z.moment) x.1 ∙ moment) in
        subst (λ (z : EntryModel). GoTogether z f) (sym x.1) (sym g.0, sym g.1)
    at_once k l e f same (inr x) (inr y) = subst (λ (z : EntryModel). GoTogether z f) (sym x.1) (subst (GoTogether e0) (sym y.1) (refl, refl))

    is_c0 : (i : ℕ) (c : Arrival) → At cs i c → (e : EntryModel) → e.ticket ≡ c.command.ticket → e ≡ e0 → (i ≡ i0) × (c ≡ c0)
    is_c0 i c p e te x =
        let here : i ≡ i0 = one i c p (sym te ∙ ap (λ (z : EntryModel). z.ticket) x) in
        (here, (let z : slice_get cs i ≡ slice_get cs i0 = ap (slice_get cs) here in cc))

    follow : (i j : ℕ) (c d : Arrival) → i < j → At cs i c → At cs j d → SameTurn d c → (l : ℕ) (e' : EntryModel) → e'.ticket ≡ d.command.ticket → At hs l e' ⊎ ((l ≡ length hs) × (e' ≡ e0)) → HasEnded c ⊎ HasEarlier (hs ++ e0 ∷ []) l c
    follow i j c d lt p q t l e' te' (inl x) = ⊎_elim (λ (h : HasEnded c). inl h) (λ (h : HasEarlier hs l c). inr (h.0, h.1, before-last hs (e0 ∷ []) h.0 h.1 h.2, h.3, h.4)) (r.followed i j c d lt p q t l e' x te')
    follow i j c d lt p q t l e' te' (inr x) =
        let d0 = is_c0 j d q e' te' x.1 in
        ⊎_elim (λ (h : HasEnded c). inl h) (λ (h : HasEarlier hs (length hs) c). inr (h.0, h.1, before-last hs (e0 ∷ []) h.0 h.1 h.2, h.3, omega (arith, h.4, x.0)))
        (behind i c (omega (arith, d0.0)) p (subst (λ (z : Arrival). SameTurn z c) d0.1 t))

    go : (i j : ℕ) (c d : Arrival) → i < j → At cs i c → At cs j d → SameTurn d c → (k l : ℕ) (e e' : EntryModel) → e.ticket ≡ c.command.ticket → e'.ticket ≡ d.command.ticket
        → At hs k e ⊎ ((k ≡ length hs) × (e ≡ e0)) → At hs l e' ⊎ ((l ≡ length hs) × (e' ≡ e0)) → (k < l) ⊎ (c.command.stage ≡ Over Ended.Lost)
    go i j c d lt p q t k l e e' te te' (inl x) (inl y) = r.ordered i j c d lt p q t k l e e' x y te te'
    go i j c d lt p q t k l e e' te te' (inl x) (inr y) = let len : k < length hs = slice_get_within hs k e x in inl (omega (arith, y.0))
    go i j c d lt p q t k l e e' te te' (inr x) (inl y) =
        let c1 = is_c0 i c p e te x.1 in
        ⊎_elim (λ (h : HasEnded c). inr (ap (λ (z : Arrival). z.command.stage) c1.1 ∙ late (subst HasEnded c1.1 h)))
        (λ (h : HasEarlier hs l c). absurd (first h.0 h.1 h.2 (h.3 ∙ ap (λ (z : Arrival). z.command.ticket) c1.1 ∙ ticket)))
        (r.followed i j c d lt p q t l e' y te')
    go i j c d lt p q t k l e e' te te' (inr x) (inr y) =
        let c1 = is_c0 i c p e te x.1 in
        let d1 = is_c0 j d q e' te' y.1 in
        absurd (omega (arith, c1.0, d1.0))

-- a command is answered
pub replied-to : (m : ℕ) (cs : List Arrival) (hs : List EntryModel) (answers : List Answer) (a0 : Answer) (i0 : ℕ) (c0 : Arrival) → At cs i0 c0 → c0.command.ticket ≡ a0.ticket → c0.command.stage ≡ Over a0.ended → c0.arrived ≡ a0.arrived → c0.answered ≡ true → a0.answered ≡ suc m
    → ((v : Value) → a0.ended ≡ Answered v → (j : ℕ) × (e : EntryModel) × At hs j e × (e.ticket ≡ a0.ticket) × (e.reply ≡ data_of v) × (a0.arrived < e.moment))
    → ((k : ℕ) (a : Answer) → At answers k a → a.ticket ≡ a0.ticket → ⊥)
    → Recorded m cs hs answers → Recorded m cs hs (answers ++ a0 ∷ [])
replied-to m cs hs answers a0 i0 c0 at0 ticket stage arrived answered moment found untold r = record {
  early = r.early;
  sorted = r.sorted;
  born = r.born;
  past = r.past;
  timed = r.timed;
  together = r.together;
  told = λ k a at_k. ⊎_elim (λ (h : At answers k a). r.told k a h)
      (λ (h : (k ≡ length answers) × (a ≡ a0)). (i0, c0, at0, ticket ∙ ap (λ (z : Answer). z.ticket) (sym h.1), stage ∙ ap (λ (z : Answer). Over z.ended) (sym h.1), arrived ∙ ap (λ (z : Answer). z.arrived) (sym h.1), answered))
      (at-last answers a0 k a at_k);
  answered_once = λ k l a b p q te. one_answer k l a b te (at-last answers a0 k a p) (at-last answers a0 l b q);
  within = λ k a v at_k is. ⊎_elim (λ (h : At answers k a). r.within k a v h is) (λ (h : (k ≡ length answers) × (a ≡ a0)). subst (λ (z : Answer). z.ended ≡ Answered v → (j : ℕ) × (e : EntryModel) × At hs j e × (e.ticket ≡ z.ticket) × (e.reply ≡ data_of v) × (z.arrived < e.moment) × (e.moment < z.answered)) (sym h.1) (new v) is) (at-last answers a0 k a at_k);
  followed = r.followed;
  ordered = r.ordered;
}
  where
    one_answer : (k l : ℕ) (a b : Answer) → a.ticket ≡ b.ticket → At answers k a ⊎ ((k ≡ length answers) × (a ≡ a0)) → At answers l b ⊎ ((l ≡ length answers) × (b ≡ a0)) → k ≡ l
    one_answer k l a b te (inl x) (inl y) = r.answered_once k l a b x y te
    one_answer k l a b te (inl x) (inr y) = absurd (untold k a x (te ∙ ap (λ (z : Answer). z.ticket) y.1))
    one_answer k l a b te (inr x) (inl y) = absurd (untold l b y (sym te ∙ ap (λ (z : Answer). z.ticket) x.1))
    one_answer k l a b te (inr x) (inr y) = x.0 ∙ sym y.0

    new : (v : Value) → a0.ended ≡ Answered v → (j : ℕ) × (e : EntryModel) × At hs j e × (e.ticket ≡ a0.ticket) × (e.reply ≡ data_of v) × (a0.arrived < e.moment) × (e.moment < a0.answered)
    new v is = let f = found v is in (f.0, f.1, f.2, f.3, f.4, f.5, omega (arith, r.past f.0 f.1 f.2, moment))
