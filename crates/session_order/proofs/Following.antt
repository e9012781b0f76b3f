-- The part that goes out behind another.
use Rattle.std.proofs.Common.{◌≡◌, ◌≢◌, ◌⊎◌, ◌<◌, ◌≤◌, ◌+◌, ◌-◌, ◌∷◌, [], ℕ, List, true, false, Option, Some, None, zero, suc, inl, inr, length, take, drop, sym, ap, subst, ◌∙◌, arith, rules, refl, not}
use Rattle.std.proofs.lemmas.Bool.{false≢true}
use Rattle.std.proofs.lemmas.Option.{slice_get_within}
use Rattle.std.specs.Prelude.{◌↔◌, Bool, IsTrue, slice_get, is_some}
use Rattle.std.specs.List.{list_any}
use Rattle.slot_hash.specs.Slot.{slot_of}
use Rattle.key_split.specs.PartModel.{PartModel}
use Rattle.session_order.specs.declared.queue.PartStage.{PartStage}
use Rattle.session_order.specs.declared.queue.PartStage.TheVariants.{Waiting, Out, Done}
use Rattle.session_order.specs.Turn.{IsWaiting, IsFollower, blocks, waits_for}
use Rattle.session_order.specs.Next.{HasTurnAt, IsOutNext}
use Rattle.session_order.specs.Tables.{open_parts, first_of, last_of, is_waiting}
use Rattle.session_order.proofs.Lists.{eqb-yes, get_drop, one_of, any_around, any_at}
use Rattle.session_order.proofs.Opening.{any_open, first_if_free, free_if_first}
use Rattle.session_order.proofs.Blocking.{waits, eq_from, first_at}
use Rattle.session_order.proofs.Tabling.{none_waits}
use Rattle.session_order.proofs.HangingUp.{take_all_is}

first_none : (ns : List ℕ) → first_of ns ≡ None → ns ≡ []
first_none [] is = refl
first_none (n ∷ ns) is = cc

nat_order : (a b : ℕ) → (a < b) ⊎ (b ≤ a)
nat_order zero zero = inr (omega arith)
nat_order zero (suc b) = inl (omega arith)
nat_order (suc a) zero = inr (omega arith)
nat_order (suc a) (suc b) = elim (nat_order a b) [ inl low ↦ inl (omega (arith, low)) | inr high ↦ inr (omega (arith, high)) ]

out_same : (a b : ℕ) → Out a ≡ Out b → a ≡ b
out_same a b is = search rules

some_same : (a b : ℕ) → (let o : Option ℕ = Some a in o ≡ Some b) → a ≡ b
some_same a b is = search rules

waiting_same : (a b : PartModel) → Waiting a ≡ Waiting b → a ≡ b
waiting_same a b is = search rules

-- the part at a place is the one that stands there
pub same_follower : (stages : List PartStage) (i j : ℕ) (a b : PartModel) → IsFollower stages i j a → slice_get stages j ≡ Some (Waiting b) → IsFollower stages i j b
same_follower stages i j a b follower at = subst (IsFollower stages i j) (waiting_same a b (one_of stages j (Waiting a) (Waiting b) follower.waits at)) follower

module _ (first i slot : ℕ) (stages : List PartStage) (out : slice_get stages i ≡ Some (Out slot)) where
  abbrev behind : List ℕ
  behind = open_parts slot (suc (first + i)) (drop (suc i) stages)

  -- a part that follows is the first of the slot behind it
  follower_first : (j : ℕ) (part : PartModel) → IsFollower stages i j part → first_of behind ≡ Some (first + j)
  follower_first j part f =
      let same : slot_of part.key ≡ slot = out_same (slot_of part.key) slot (one_of stages i (Out (slot_of part.key)) (Out slot) f.out out) in
      subst (λ q. first_of (open_parts q (suc (first + i)) (drop (suc i) stages)) ≡ Some (first + j)) same
      (first_if_free (slot_of part.key) (suc (first + i)) (j - suc i) (first + j) (drop (suc i) stages) (Waiting part) (omega (arith, f.behind))
      (get_drop stages (suc i) (j - suc i) j (omega (arith, f.behind)) ∙ f.waits) (waits part) f.next)

  -- none follows where there is none
  pub none_follows : None ≡ first_of behind → (j : ℕ) (part : PartModel) → IsFollower stages i j part → ⊥
  none_follows none j part f = (let e : None ≡ Some (first + j) = none ∙ follower_first j part f in cc)

  -- none follows where the next one does not wait
  pub out_follows : (next : ℕ) → Some next ≡ first_of behind → (IsWaiting (slice_get stages (next - first)) → ⊥) → (j : ℕ) (part : PartModel) → IsFollower stages i j part → ⊥
  out_follows next is stands j part f =
      let same : next ≡ first + j = some_same next (first + j) (is ∙ follower_first j part f) in
      let place : j ≡ next - first = omega (arith, same) in
      stands (subst IsWaiting (sym (subst (λ n. slice_get stages n ≡ Some (Waiting part)) place f.waits)) tt)

  -- its place
  pub next_within : (next : ℕ) → Some next ≡ first_of behind → next - first < length stages
  next_within next is =
      let own = first_at slot (suc (first + i)) next (drop (suc i) stages) (sym is) in
      slice_get_within stages (next - first) own.stage (sym (get_drop stages (suc i) own.i (next - first) (omega (arith, own.numbered))) ∙ own.there)

  -- its number
  pub next_above : (next : ℕ) → Some next ≡ first_of behind → (first + i < next) × (next ≡ first + (next - first))
  next_above next is = (let at = first_at slot (suc (first + i)) next (drop (suc i) stages) (sym is) in (omega (arith, at.numbered), omega (arith, at.numbered)))

  open_behind : (j : ℕ) → i < j → slice_get stages j ≡ Some (Out slot) → slice_get (drop (suc i) stages) (j - suc i) ≡ Some (Out slot)
  open_behind j less at = get_drop stages (suc i) (j - suc i) j (omega (arith, less)) ∙ at

  -- no part for the slot is out behind it where there is none
  pub none_next : None ≡ first_of behind → (j : ℕ) → slice_get stages j ≡ Some (Out slot) → i < j → ⊥
  none_next none j at less =
      let free : list_any (blocks slot) (drop (suc i) stages) ≡ false = any_open slot (suc (first + i)) (drop (suc i) stages) ∙ ap (λ ns. is_some (last_of ns)) (first_none behind (sym none)) in
      let passes : blocks slot (Out slot) ≡ false = any_at (blocks slot) (drop (suc i) stages) (length (drop (suc i) stages)) (j - suc i) (Out slot)
      (ap (list_any (blocks slot)) (take_all_is (drop (suc i) stages) (length (drop (suc i) stages)) refl) ∙ free) (open_behind j less at) (slice_get_within (drop (suc i) stages) (j - suc i) (Out slot) (open_behind j less at)) in
      false≢true (sym passes ∙ eqb-yes slot slot refl)

  -- nor where the next one waits
  pub waits_next : (next : ℕ) (part : PartModel) → Some next ≡ first_of behind → slice_get stages (next - first) ≡ Some (Waiting part)
      → ((j own : ℕ) → slice_get stages j ≡ Some (Out own) → list_any (waits_for own) (take j stages) ≡ false) → (j : ℕ) → slice_get stages j ≡ Some (Out slot) → i < j → ⊥
  waits_next next part is waiting order j at less =
      let own = first_at slot (suc (first + i)) next (drop (suc i) stages) (sym is) in
      let there : slice_get stages (next - first) ≡ Some own.stage = sym (get_drop stages (suc i) own.i (next - first) (omega (arith, own.numbered))) ∙ own.there in
      let stage_is : own.stage ≡ Waiting part = one_of stages (next - first) own.stage (Waiting part) there waiting in
      let passes : waits_for slot (Waiting part) ≡ true = ap (blocks slot) (sym stage_is) ∙ own.blocking in
      let apart : next - first ≢ j = λ same. (let both : slice_get stages j ≡ Some (Waiting part) = subst (λ n. slice_get stages n ≡ Some (Waiting part)) same waiting in cc) in
      let free : list_any (blocks slot) (take (next - first - suc i) (drop (suc i) stages)) ≡ false = free_if_first slot (suc (first + i)) (next - first - suc i) next (drop (suc i) stages) (omega (arith, own.numbered)) (sym is) in
      let late : next - first < j = before (next - first) apart free in
      false≢true (sym (any_at (waits_for slot) stages j (next - first) (Waiting part) (order j slot at) waiting late) ∙ passes)
    where
      before : (k : ℕ) → k ≢ j → list_any (blocks slot) (take (k - suc i) (drop (suc i) stages)) ≡ false → k < j
      before k apart free = elim (nat_order k j) [
        | inl low ↦ low
        | inr high ↦ absurd (false≢true (sym (any_at (blocks slot) (drop (suc i) stages) (k - suc i) (j - suc i) (Out slot) free (open_behind j less at) (omega (arith, high, apart, less))) ∙ eqb-yes slot slot refl))
      ]

  -- the next one is out behind it where it does not wait
  pub is_out_next : (next : ℕ) (stage : PartStage) → Some next ≡ first_of behind → slice_get stages (next - first) ≡ Some stage → is_waiting stage ≡ false → IsOutNext stages i (next - first)
  is_out_next next stage is at stands =
      let own = first_at slot (suc (first + i)) next (drop (suc i) stages) (sym is) in
      let there : slice_get stages (next - first) ≡ Some own.stage = sym (get_drop stages (suc i) own.i (next - first) (omega (arith, own.numbered))) ∙ own.there in
      let same : own.stage ≡ stage = one_of stages (next - first) own.stage stage there at in
      record {
        slot = slot;
        first = out;
        out = at ∙ ap Some (is_out stage stands (ap (blocks slot) (sym same) ∙ own.blocking));
        behind = omega (arith, own.numbered);
        next = free_if_first slot (suc (first + i)) (next - first - suc i) next (drop (suc i) stages) (omega (arith, own.numbered)) (sym is);
      }
    where
      is_out : (s : PartStage) → is_waiting s ≡ false → blocks slot s ≡ true → s ≡ Out slot
      is_out (Waiting part) not blocking = cc
      is_out (Out own) not blocking = ap Out (eq_from own slot blocking)
      is_out Done not blocking = cc

  -- the next one follows where it waits
  pub waits_follows : (next : ℕ) (part : PartModel) → Some next ≡ first_of behind → slice_get stages (next - first) ≡ Some (Waiting part) → list_any (waits_for slot) (take i stages) ≡ false
      → IsFollower stages i (next - first) part
  waits_follows next part is at order =
      let own = first_at slot (suc (first + i)) next (drop (suc i) stages) (sym is) in
      let j = next - first in
      let place : own.i ≡ j - suc i = omega (arith, own.numbered) in
      let behind_it : i < j = omega (arith, own.numbered) in
      let there : slice_get stages j ≡ Some own.stage = sym (get_drop stages (suc i) (j - suc i) j (omega (arith, behind_it))) ∙ subst (λ n. slice_get (drop (suc i) stages) n ≡ Some own.stage) place own.there in
      let stage_is : own.stage ≡ Waiting part = one_of stages j own.stage (Waiting part) there at in
      let same : slot ≡ slot_of part.key = sym (eq_from (slot_of part.key) slot (ap (blocks slot) (sym stage_is) ∙ own.blocking)) in
      let free : list_any (blocks slot) (take (j - suc i) (drop (suc i) stages)) ≡ false = free_if_first slot (suc (first + i)) (j - suc i) next (drop (suc i) stages) (omega (arith, own.numbered)) (sym is) in
      record {
        waits = at;
        out = out ∙ ap (λ q. Some (Out q)) same;
        behind = behind_it;
        next = subst (λ q. list_any (blocks q) (take (j - suc i) (drop (suc i) stages)) ≡ false) same free;
        in_order = subst (λ q. list_any (waits_for q) (take j stages) ≡ false) same
            (any_around (waits_for slot) stages i (j - suc i) j (Out slot) (omega (arith, behind_it)) out order refl (none_waits slot (take (j - suc i) (drop (suc i) stages)) free));
      }

-- A part that is out has its turn exactly where none stands before it in the table.
pub turn_if_first : (first number slot : ℕ) (stages : List PartStage) → first ≤ number → slice_get stages (number - first) ≡ Some (Out slot)
    → (before : Option ℕ) → before ≡ last_of (open_parts slot first (take (number - first) stages)) → (result : Bool) → is_some before ≡ not result
    → IsTrue result ↔ HasTurnAt (record { first = first; stages = stages }) number
turn_if_first first number slot stages low out before is true says = (
  λ yes. (slot, low, out, any_open slot first (take (number - first) stages) ∙ ap is_some (sym is) ∙ says),
  λ turn. refl,
)
turn_if_first first number slot stages low out before is false says = (
  λ no. absurd (false≢true no),
  λ (own, own_low, own_out, free).
      let same : own ≡ slot = out_same own slot (one_of stages (number - first) (Out own) (Out slot) own_out out) in
      let none : is_some before ≡ false = ap is_some is ∙ sym (any_open slot first (take (number - first) stages)) ∙ subst (λ s. list_any (blocks s) (take (number - first) stages) ≡ false) same free in
      absurd (false≢true (sym none ∙ says)),
)
