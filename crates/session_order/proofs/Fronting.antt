-- How many parts at the front are done, as the parts change.
use Rattle.std.proofs.Common.{◌≡◌, ◌≤◌, ◌+◌, ◌-◌, ◌++◌, ◌∷◌, [], ℕ, List, Bool, true, false, Option, Some, None, zero, suc, inl, inr, length, length-drop, take, drop, map, sym, ap, subst, ◌∙◌, arith, rules, refl, cond, ◌&&◌}
use Rattle.std.specs.Prelude.{slice_get, slice_set, nat_le}
use Rattle.std.specs.List.{list_all}
use Rattle.std.proofs.lemmas.Bool.Decides.{leb_tells}
use Rattle.std.proofs.lemmas.List.{length-set}
use Rattle.slot_hash.specs.Slot.{slot_of}
use Rattle.key_split.specs.PartModel.{PartModel}
use Rattle.session_order.specs.declared.queue.PartStage.{PartStage}
use Rattle.session_order.specs.declared.queue.PartStage.TheVariants.{Waiting, Out, Done}
use Rattle.session_order.specs.Turn.{is_done, QueueModel, IsNumbered, HandOutcome, FollowOutcome}
use Rattle.session_order.specs.DoneParts.{done_at_front}

all_both : (b rest : Bool) → b && rest ≡ true → (b ≡ true) × (rest ≡ true)
all_both true rest all = (refl, all)
all_both false rest all = cc

at_most : (b : Bool) (n m : ℕ) → n ≤ m → cond {A = ℕ} b (suc n) 0 ≤ suc m
at_most true n m le = omega (arith, le)
at_most false n m le = omega arith

-- no more are done than there are
pub front_fits : (stages : List PartStage) → done_at_front stages ≤ length stages
front_fits [] = omega arith
front_fits (s ∷ ss) = at_most (is_done s) (done_at_front ss) (length ss) (front_fits ss)

all_counted : (b : Bool) (n : ℕ) (s : PartStage) (ss : List PartStage) → is_done s ≡ b → list_all is_done (take n ss) ≡ true → list_all is_done (take (cond {A = ℕ} b (suc n) 0) (s ∷ ss)) ≡ true
all_counted true n s ss is rest = ap (λ (b : Bool). b && list_all is_done (take n ss)) is ∙ rest
all_counted false n s ss is rest = refl

-- they are done
pub front_done : (stages : List PartStage) → list_all is_done (take (done_at_front stages) stages) ≡ true
front_done [] = refl
front_done (s ∷ ss) = all_counted (is_done s) (done_at_front ss) s ss refl (front_done ss)

-- the first that is not done is behind them
pub front_is : (stages : List PartStage) (n : ℕ) → n ≤ length stages → list_all is_done (take n stages) ≡ true
    → ((s : PartStage) → slice_get stages n ≡ Some s → is_done s ≡ false) → n ≡ done_at_front stages
front_is [] n fits done stops = omega (arith, fits)
front_is (s ∷ ss) zero fits done stops = (let waits : is_done s ≡ false = stops s refl in ap (λ (b : Bool). cond {A = ℕ} b (suc (done_at_front ss)) 0) (sym waits))
front_is (s ∷ ss) (suc n) fits done stops =
    let both = all_both (is_done s) (list_all is_done (take n ss)) done in
    ap suc (front_is ss n (omega (arith, fits)) both.1 stops) ∙ ap (λ (b : Bool). cond {A = ℕ} b (suc (done_at_front ss)) 0) (sym both.0)

-- where more are done, no fewer are counted
pub front_least : (stages : List PartStage) (n : ℕ) → n ≤ length stages → list_all is_done (take n stages) ≡ true → n ≤ done_at_front stages
front_least stages zero fits done = omega arith
front_least [] (suc n) fits done = absurd (omega (arith, fits))
front_least (s ∷ ss) (suc n) fits done =
    let both = all_both (is_done s) (list_all is_done (take n ss)) done in
    let here : done_at_front (s ∷ ss) ≡ suc (done_at_front ss) = ap (λ (b : Bool). cond {A = ℕ} b (suc (done_at_front ss)) 0) both.0 in
    omega (arith, front_least ss n (omega (arith, fits)) both.1, here)

-- parts that are done leave
pub front_drop : (stages : List PartStage) (n : ℕ) → n ≤ length stages → list_all is_done (take n stages) ≡ true → done_at_front stages ≡ n + done_at_front (drop n stages)
front_drop stages zero fits done = omega arith
front_drop [] (suc n) fits done = absurd (omega (arith, fits))
front_drop (s ∷ ss) (suc n) fits done =
    let both = all_both (is_done s) (list_all is_done (take n ss)) done in
    let here : done_at_front (s ∷ ss) ≡ suc (done_at_front ss) = ap (λ (b : Bool). cond {A = ℕ} b (suc (done_at_front ss)) 0) both.0 in
    omega (arith, here, front_drop ss n (omega (arith, fits)) both.1)

-- parts that wait stand behind
pub front_push : (stages : List PartStage) (parts : List PartModel) → done_at_front (stages ++ map Waiting parts) ≡ done_at_front stages
front_push [] [] = refl
front_push [] (part ∷ parts) = refl
front_push (s ∷ ss) parts = ap (λ n. cond {A = ℕ} (is_done s) (suc n) 0) (front_push ss parts)

-- another stage, done no more than the one before
pub front_set : (stages : List PartStage) (i : ℕ) (s s' : PartStage) → slice_get stages i ≡ Some s → is_done s' ≡ is_done s → done_at_front (slice_set stages i s') ≡ done_at_front stages
front_set [] i s s' at same = cc
front_set (h ∷ ss) zero s s' at same =
    let is : h ≡ s = search rules in
    ap (λ (b : Bool). cond {A = ℕ} b (suc (done_at_front ss)) 0) (same ∙ ap is_done (sym is))
front_set (h ∷ ss) (suc i) s s' at same = ap (λ n. cond {A = ℕ} (is_done h) (suc n) 0) (front_set ss i s s' at same)

all_set : (b rest : Bool) → b ≡ true → rest ≡ true → b && rest ≡ true
all_set true rest one others = others
all_set false rest one others = one

-- those at the front stay done as one more ends
pub front_kept : (stages : List PartStage) (n i : ℕ) → list_all is_done (take n stages) ≡ true → list_all is_done (take n (slice_set stages i Done)) ≡ true
front_kept stages zero i done = refl
front_kept [] (suc n) i done = refl
front_kept (s ∷ ss) (suc n) zero done = (all_both (is_done s) (list_all is_done (take n ss)) done).1
front_kept (s ∷ ss) (suc n) (suc i) done =
    let both = all_both (is_done s) (list_all is_done (take n ss)) done in
    all_set (is_done s) (list_all is_done (take n (slice_set ss i Done))) both.0 (front_kept ss n i both.1)

within_in : (b rest : Bool) (n m : ℕ) → suc n ≤ cond {A = ℕ} b (suc m) 0 → (n ≤ m → rest ≡ true) → b && rest ≡ true
within_in true rest n m le more = more (omega (arith, le))
within_in false rest n m le more = absurd (omega (arith, le))

-- as many as are counted, or fewer, are done
pub front_within : (stages : List PartStage) (n : ℕ) → n ≤ done_at_front stages → list_all is_done (take n stages) ≡ true
front_within stages zero le = refl
front_within [] (suc n) le = refl
front_within (s ∷ ss) (suc n) le = within_in (is_done s) (list_all is_done (take n ss)) n (done_at_front ss) le (front_within ss n)

untrue : (b : Bool) → (b ≡ true → ⊥) → b ≡ false
untrue true denied = absurd (denied refl)
untrue false denied = refl

-- these many behind the first ones, which are done, are done too exactly where that number more is counted
pub front_all : (stages : List PartStage) (from count : ℕ) → list_all is_done (take from stages) ≡ true → from + count ≤ length stages
    → nat_le count (done_at_front stages - from) ≡ list_all is_done (take count (drop from stages))
front_all stages from count done fits =
    let rest = drop from stages in
    let split = front_drop stages from (omega (arith, fits)) done in
    elim (leb_tells count (done_at_front stages - from)) [
      | inl within ↦ within.0 ∙ sym (front_within rest count (omega (arith, within.1, split)))
      | inr beyond ↦ beyond.0 ∙ sym (untrue (list_all is_done (take count rest))
          (λ all. omega (arith, beyond.1, split, front_least rest count (omega (arith, fits, length-drop from stages)) all)))
    ]

-- handing out a part, or none, changes neither how many are counted nor the numbers
pub front_handed : (old new : QueueModel) (given : Option (ℕ × PartModel)) → HandOutcome old given new → done_at_front new.stages ≡ done_at_front old.stages
front_handed old new None (none, is) = ap (λ (q : QueueModel). done_at_front q.stages) is
front_handed old new (Some given) (i, next, numbered, is) =
    ap (λ (q : QueueModel). done_at_front q.stages) is ∙ front_set old.stages i (Waiting given.1) (Out (slot_of given.1.key)) next.2 refl

pub handed_numbered : (old new : QueueModel) (given : Option (ℕ × PartModel)) → HandOutcome old given new → IsNumbered old.first old.stages → IsNumbered new.first new.stages
handed_numbered old new None (none, is) fits = subst (λ (q : QueueModel). IsNumbered q.first q.stages) (sym is) fits
handed_numbered old new (Some given) (i, next, numbered, is) fits =
    subst (λ (q : QueueModel). IsNumbered q.first q.stages) (sym is) (omega (arith, fits, length-set old.stages i (Out (slot_of given.1.key))))

-- nor does handing out one behind another
pub front_followed : (old new : QueueModel) (number : ℕ) (given : Option (ℕ × PartModel)) → FollowOutcome old number given new → done_at_front new.stages ≡ done_at_front old.stages
front_followed old new number None (none, is) = ap (λ (q : QueueModel). done_at_front q.stages) is
front_followed old new number (Some given) (j, follows, numbered, is) =
    ap (λ (q : QueueModel). done_at_front q.stages) is ∙ front_set old.stages j (Waiting given.1) (Out (slot_of given.1.key)) follows.waits refl

pub followed_numbered : (old new : QueueModel) (number : ℕ) (given : Option (ℕ × PartModel)) → FollowOutcome old number given new → IsNumbered old.first old.stages → IsNumbered new.first new.stages
followed_numbered old new number None (none, is) fits = subst (λ (q : QueueModel). IsNumbered q.first q.stages) (sym is) fits
followed_numbered old new number (Some given) (j, follows, numbered, is) fits =
    subst (λ (q : QueueModel). IsNumbered q.first q.stages) (sym is) (omega (arith, fits, length-set old.stages j (Out (slot_of given.1.key))))
