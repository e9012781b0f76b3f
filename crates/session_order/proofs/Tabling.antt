-- The tables stay right as parts are added, handed out, ended and dropped.
use Rattle.std.proofs.Common.{◌≡◌, ◌≢◌, ◌⊎◌, ◌≤◌, ◌<◌, ◌+◌, ◌-◌, ◌++◌, ◌∷◌, [], ℕ, List, Bool, true, false, Option, Some, None, zero, suc, inl, inr, length, take, drop, sym, ap, subst, ◌∙◌, arith, rules, refl, cond, nat_eq}
use Rattle.std.specs.Prelude.{slice_get, slice_set}
use Rattle.std.specs.List.{list_any, list_all}
use Rattle.std.proofs.lemmas.List.{length-set, take-append-le}
use Rattle.std.proofs.lemmas.Option.{slice_get_within}
use Rattle.slot_hash.specs.Slot.{slot_of}
use Rattle.key_split.specs.PartModel.{PartModel}
use Rattle.session_order.specs.declared.queue.PartStage.{PartStage}
use Rattle.session_order.specs.declared.queue.PartStage.TheVariants.{Waiting, Out, Done}
use Rattle.session_order.specs.Turn.{IsWaiting, is_done, blocks, waits_for, MayPost}
use Rattle.session_order.specs.Tables.{open_parts, first_of, last_of, AreLinked, HasTurn, IsTabled, taken_up, with_link}
use Rattle.session_order.proofs.Lists.{get_drop, get_set_other, get_append, stands_behind, one_of, any_set, any_at, any_drop, any_fewer, any_weaker, take_set, eqb-no, eqb-yes}
use Rattle.session_order.proofs.Opening.{open_set, open_append, open_drop}
use Rattle.session_order.proofs.Linking.{linked_set, linked_push, linked_drop, own_more}
use Rattle.session_order.proofs.Chaining.{Climbs, open_climbs, last_none, get_last}
use Rattle.session_order.proofs.Blocking.{set_back, append_back, nat_cases, eq_from, waits, may_first, first_may, first_at, first_more}
use Rattle.session_order.proofs.Turning.{waiting_part}

waiting_out : (stages : List PartStage) (i : ℕ) (part : PartModel) (slot : ℕ) → slice_get stages i ≡ Some (Waiting part) → slice_get stages i ≡ Some (Out slot) → ⊥
waiting_out stages i part slot a b = cc

-- a part that waits for its turn, or has it, is for another slot than one that is out before or behind it
pub waits_apart : (stages : List PartStage) (i j slot : ℕ) (part : PartModel) → slice_get stages i ≡ Some (Out slot) → list_any (waits_for slot) (take i stages) ≡ false → slice_get stages j ≡ Some (Waiting part) → j < i
    → slot ≢ slot_of part.key
waits_apart stages i j slot part out order at less same =
    let not : nat_eq (slot_of part.key) slot ≡ false = any_at (waits_for slot) stages i j (Waiting part) order at less in
    let yes : nat_eq (slot_of part.key) slot ≡ true = eqb-yes (slot_of part.key) slot (sym same) in cc

turn_apart : (stages : List PartStage) (i j slot : ℕ) → slice_get stages i ≡ Some (Out slot) → list_any (waits_for slot) (take i stages) ≡ false → (its : MayPost stages j) → slot ≢ slot_of its.0.key
turn_apart stages i j slot out order its same = by_place (nat_cases j i)
  where
    less_or : (a b : ℕ) → a ≢ b → (a < b) ⊎ (b < a)
    less_or zero zero apart = absurd (apart refl)
    less_or zero (suc b) apart = inl (omega arith)
    less_or (suc a) zero apart = inr (omega arith)
    less_or (suc a) (suc b) apart = elim (less_or a b (λ same. apart (ap suc same))) [ inl less ↦ inl (omega (arith, less)) | inr more ↦ inr (omega (arith, more)) ]

    by_side : (j < i) ⊎ (i < j) → ⊥
    by_side (inl less) = waits_apart stages i j slot its.0 out order its.1 less same
    by_side (inr more) =
        let not : nat_eq slot (slot_of its.0.key) ≡ false = any_at (blocks (slot_of its.0.key)) stages j i (Out slot) its.2 out more in
        let yes : nat_eq slot (slot_of its.0.key) ≡ true = eqb-yes slot (slot_of its.0.key) same in cc

    by_place : (j ≡ i) ⊎ (j ≢ i) → ⊥
    by_place (inl here) = waiting_out stages j its.0 slot its.1 (subst (λ n. slice_get stages n ≡ Some (Out slot)) (sym here) out)
    by_place (inr apart) = by_side (less_or j i apart)

-- where none blocks a slot none waits for it
pub none_waits : (slot : ℕ) (stages : List PartStage) → list_any (blocks slot) stages ≡ false → list_any (waits_for slot) stages ≡ false
none_waits slot stages none = any_weaker (blocks slot) (waits_for slot) stages waits_less none
  where
    waits_less : (s : PartStage) → blocks slot s ≡ false → waits_for slot s ≡ false
    waits_less (Waiting part) not = not
    waits_less (Out own) not = refl
    waits_less Done not = refl

-- the part at i is handed out; its number is put on no more
pub handed : (first i : ℕ) (stages : List PartStage) (later earlier : List (Option ℕ)) (last : ℕ → Option ℕ) (turns turns' : ℕ → ℕ) (part : PartModel)
    → slice_get stages i ≡ Some (Waiting part) → list_any (waits_for (slot_of part.key)) (take i stages) ≡ false
    → ((m : ℕ) → turns' m ≤ turns m) → turns' (first + i) ≡ 0 → ((j : ℕ) → j ≢ i → turns' (first + j) ≡ turns (first + j))
    → IsTabled first stages later earlier last turns → IsTabled first (slice_set stages i (Out (slot_of part.key))) later earlier last turns'
handed first i stages later earlier last turns turns' part at free fewer gone others t =
    let slot = slot_of part.key in
    let stages' = slice_set stages i (Out slot) in
    let opens : (q : ℕ) → open_parts q first stages' ≡ open_parts q first stages = λ q. open_set q first i stages (Waiting part) (Out slot) at refl in
    record {
      linked = linked_set first i stages later earlier last (Waiting part) (Out slot) at (λ q. refl) t.linked;
      in_order = λ j q out. elim (set_back stages i j (Out slot) (Out q) out) [
        | inl is ↦
            let same : q ≡ slot = (let e : Out q ≡ Out slot = is.1 in search rules) in
            any_set (waits_for q) stages j i (Waiting part) (Out slot) at (λ not. refl)
            (subst (λ n. list_any (waits_for q) (take n stages) ≡ false) (sym is.0) (subst (λ n. list_any (waits_for n) (take i stages) ≡ false) (sym same) free))
        | inr there ↦ any_set (waits_for q) stages j i (Waiting part) (Out slot) at (λ not. refl) (t.in_order j q there.1)
      ];
      once = λ m. omega (arith, t.once m, fewer m);
      sound = λ m pos. (
          let turn = t.sound m (omega (arith, pos, fewer m)) in
          let j = turn.0 in
          let other : j ≢ i = λ same. (let e : m ≡ first + i = omega (arith, turn.1, same) in let pos' : 0 < turns' (first + i) = subst (λ n. 0 < turns' n) e pos in omega (arith, gone, pos')) in
          let its = turn.2 in
          (j, turn.1, first_may first j stages' its.0 (get_set_other stages i j (Out slot) (Waiting its.0) other its.1) (ap first_of (opens (slot_of its.0.key)) ∙ may_first first j stages its.0 its.1 its.2))
          );
      complete = λ j its. elim (set_back stages i j (Out slot) (Waiting its.0) its.1) [
        | inl is ↦ (let e : Waiting its.0 ≡ Out slot = is.1 in cc)
        | inr there ↦
            let was : MayPost stages j = first_may first j stages its.0 there.1 (ap first_of (sym (opens (slot_of its.0.key))) ∙ may_first first j stages' its.0 its.1 its.2) in
            subst (λ n. 0 < n) (sym (others j there.0)) (t.complete j was)
      ];
    }

-- the part at i had the turn
pub handed_first : (first i : ℕ) (stages : List PartStage) (later earlier : List (Option ℕ)) (last : ℕ → Option ℕ) (turns turns' : ℕ → ℕ) (part : PartModel)
    → slice_get stages i ≡ Some (Waiting part) → MayPost stages i → ((m : ℕ) → turns m ≡ cond (nat_eq m (first + i)) 1 0 + turns' m)
    → IsTabled first stages later earlier last turns → IsTabled first (slice_set stages i (Out (slot_of part.key))) later earlier last turns'
handed_first first i stages later earlier last turns turns' part at may left t =
    let same_part : may.0 ≡ part = (let h : slice_get stages i ≡ Some (Waiting may.0) = may.1 in cc) in
    let free : list_any (blocks (slot_of part.key)) (take i stages) ≡ false = subst (λ p. list_any (blocks (slot_of p.key)) (take i stages) ≡ false) same_part may.2 in
    let here : turns (first + i) ≡ 1 + turns' (first + i) = left (first + i) ∙ ap (λ (b : Bool). cond {A = ℕ} b 1 0 + turns' (first + i)) (eqb-yes (first + i) (first + i) refl) in
    handed first i stages later earlier last turns turns' part at (none_waits (slot_of part.key) (take i stages) free)
    (λ m. omega (arith, left m))
    (omega (arith, here, t.once (first + i)))
    (λ j apart. (
    let other : nat_eq (first + j) (first + i) ≡ false = eqb-no (first + j) (first + i) (λ same. apart (omega (arith, same))) in
    sym (left (first + j) ∙ ap (λ (b : Bool). cond {A = ℕ} b 1 0 + turns' (first + j)) other ∙ omega arith)
    ))
    t

nat_zero : (n : ℕ) → (0 < n → ⊥) → n ≡ 0
nat_zero zero none = refl
nat_zero (suc n) none = absurd (none (omega arith))

-- the part at j goes behind one that is out
pub handed_behind : (first i j : ℕ) (stages : List PartStage) (later earlier : List (Option ℕ)) (last : ℕ → Option ℕ) (turns : ℕ → ℕ) (part : PartModel)
    → slice_get stages j ≡ Some (Waiting part) → slice_get stages i ≡ Some (Out (slot_of part.key)) → list_any (waits_for (slot_of part.key)) (take j stages) ≡ false
    → IsTabled first stages later earlier last turns → IsTabled first (slice_set stages j (Out (slot_of part.key))) later earlier last turns
handed_behind first i j stages later earlier last turns part at out free t =
    handed first j stages later earlier last turns turns part at free (λ m. omega arith)
    (nat_zero (turns (first + j)) (λ pos. (
    let turn = t.sound (first + j) pos in
    let place : turn.0 ≡ j = omega (arith, turn.1) in
    let its = turn.2 in
    let same : its.0 ≡ part = waiting_same (its.0) part (one_of stages j (Waiting its.0) (Waiting part) (subst (λ n. slice_get stages n ≡ Some (Waiting its.0)) place its.1) at) in
    turn_apart stages i turn.0 (slot_of part.key) out (t.in_order i (slot_of part.key) out) its (ap (λ p. slot_of p.key) (sym same))
    )))
    (λ k apart. refl)
    t
  where
    waiting_same : (a b : PartModel) → Waiting a ≡ Waiting b → a ≡ b
    waiting_same a b is = search rules

some_is : (a b : ℕ) → (let o : Option ℕ = Some a in o ≡ Some b) → a ≡ b
some_is a b is = search rules

one_more : (o : Option ℕ) (x m : ℕ) → o ≡ Some x → m ≢ x → taken_up o m ≡ 0
one_more o x m is apart = ap (λ p. taken_up p m) is ∙ ap (λ (b : Bool). cond {A = ℕ} b 1 0) (eqb-no m x apart)

taken_is : (next : Option ℕ) (m : ℕ) → 0 < taken_up next m → next ≡ Some m
taken_is None m pos = absurd (omega (arith, pos))
taken_is (Some x) m pos =
    elim (nat_cases m x) [
      | inl same ↦ ap Some (sym same)
      | inr apart ↦ (let nothing : taken_up (Some x) m ≡ 0 = one_more (Some x) x m refl apart in absurd (omega (arith, pos, nothing)))
    ]

at_most : (b : Bool) → cond b 1 0 ≤ 1
at_most true = omega arith
at_most false = omega arith

once_more : (next : Option ℕ) (m before now : ℕ) → now ≡ taken_up next m + before → before ≤ 1 → ((x : ℕ) → next ≡ Some x → m ≡ x → before ≡ 0) → now ≤ 1
once_more None m before now sum few none = omega (arith, sum, few)
once_more (Some x) m before now sum few none =
    elim (nat_cases m x) [
      | inl same ↦ (let zero_before : before ≡ 0 = none x refl same in let one : taken_up (Some x) m ≤ 1 = at_most (nat_eq m x) in omega (arith, sum, one, zero_before))
      | inr apart ↦ (let nothing : taken_up (Some x) m ≡ 0 = one_more (Some x) x m refl apart in omega (arith, sum, few, nothing))
    ]

-- ---- a part ends

-- what is put on: the first part of the slot, where none was before the one that ended, and it waits
pub record Puts (first i slot : ℕ) (stages : List PartStage) (given : Option ℕ) : Type 0 where
  pub just : (m : ℕ) → given ≡ Some m → (list_any (blocks slot) (take i stages) ≡ false) × (first_of (open_parts slot first (slice_set stages i Done)) ≡ Some m) × IsWaiting (slice_get (slice_set stages i Done) (m - first))
  pub all : (j : ℕ) (part : PartModel) → list_any (blocks slot) (take i stages) ≡ false → first_of (open_parts slot first (slice_set stages i Done)) ≡ Some (first + j)
      → slice_get (slice_set stages i Done) j ≡ Some (Waiting part) → given ≡ Some (first + j)

module _ (first i slot : ℕ) (stages : List PartStage) (later earlier : List (Option ℕ)) (last : ℕ → Option ℕ) (turns : ℕ → ℕ) (given : Option ℕ)
    (out : slice_get stages i ≡ Some (Out slot)) (puts : Puts first i slot stages given) (t : IsTabled first stages later earlier last turns) where
  abbrev ended_stages : List PartStage
  ended_stages = slice_set stages i Done

  opens : (q : ℕ) → slot ≢ q → open_parts q first ended_stages ≡ open_parts q first stages
  opens q apart = open_set q first i stages (Out slot) Done out (sym (eqb-no slot q apart))

  order : list_any (waits_for slot) (take i stages) ≡ false
  order = t.in_order i slot out

  -- what is put on was not put on before
  fresh : (m : ℕ) → given ≡ Some m → turns m ≡ 0
  fresh m is = nat_zero (turns m) (λ pos. (
      let turn = t.sound m pos in
      let j = turn.0 in
      let its = turn.2 in
      let at = first_at slot first m ended_stages (puts.just m is).1 in
      let place : at.i ≡ j = omega (arith, at.numbered, turn.1) in
      let there : slice_get ended_stages j ≡ Some at.stage = subst (λ n. slice_get ended_stages n ≡ Some at.stage) place at.there in
      turn_apart stages i j slot out order its (elim (set_back stages i j Done at.stage there) [
        | inl gone ↦ (let e : blocks slot Done ≡ true = ap (blocks slot) (sym gone.1) ∙ at.blocking in cc)
        | inr kept ↦
            let same : at.stage ≡ Waiting its.0 = one_of stages j at.stage (Waiting its.0) kept.1 its.1 in
            sym (eq_from (slot_of its.0.key) slot (ap (blocks slot) (sym same) ∙ at.blocking))
      ])
      ))

  -- and has its turn
  given_turn : (m : ℕ) → given ≡ Some m → HasTurn first ended_stages m
  given_turn m is =
      let own = puts.just m is in
      let at = first_at slot first m ended_stages own.1 in
      let place : at.i ≡ m - first = omega (arith, at.numbered) in
      let numbered : m ≡ first + (m - first) = omega (arith, at.numbered) in
      let part = waiting_part (slice_get ended_stages (m - first)) own.2 in
      let same : at.stage ≡ Waiting part.0 = one_of ended_stages (m - first) at.stage (Waiting part.0) (subst (λ n. slice_get ended_stages n ≡ Some at.stage) place at.there) part.1 in
      let its_slot : slot ≡ slot_of part.0.key = sym (eq_from (slot_of part.0.key) slot (ap (blocks slot) (sym same) ∙ at.blocking)) in
      (m - first, numbered, first_may first (m - first) ended_stages part.0 part.1 (subst (λ n. first_of (open_parts n first ended_stages) ≡ Some (first + (m - first))) its_slot (own.1 ∙ ap Some numbered)))

  kept_turn : (m : ℕ) → 0 < turns m → HasTurn first ended_stages m
  kept_turn m pos =
      let turn = t.sound m pos in
      let j = turn.0 in
      let its = turn.2 in
      let other : j ≢ i = λ same. waiting_out stages j its.0 slot its.1 (subst (λ n. slice_get stages n ≡ Some (Out slot)) (sym same) out) in
      let apart = turn_apart stages i j slot out order its in
      (j, turn.1, first_may first j ended_stages its.0 (get_set_other stages i j Done (Waiting its.0) other its.1) (ap first_of (opens (slot_of its.0.key) apart) ∙ may_first first j stages its.0 its.1 its.2))

  -- a part of the slot that has its turn is behind the one that ended
  none_before : (j : ℕ) (part : PartModel) → slot ≡ slot_of part.key → slice_get stages j ≡ Some (Waiting part) → j ≢ i → list_any (blocks slot) (take j ended_stages) ≡ false
      → list_any (blocks slot) (take i stages) ≡ false
  none_before j part same at other free = by_side (side i j)
    where
      side : (a b : ℕ) → (a ≤ b) ⊎ (b < a)
      side zero b = inl (omega arith)
      side (suc a) zero = inr (omega arith)
      side (suc a) (suc b) = elim (side a b) [ inl le ↦ inl (omega (arith, le)) | inr less ↦ inr (omega (arith, less)) ]

      by_side : (i ≤ j) ⊎ (j < i) → list_any (blocks slot) (take i stages) ≡ false
      by_side (inl le) = subst (λ ss. list_any (blocks slot) ss ≡ false) (take_set stages i Done) (any_fewer (blocks slot) ended_stages j i le free)
      by_side (inr less) = absurd (waits_apart stages i j slot part out order at less same)

  -- the part at i has ended
  pub ended : (later' earlier' : List (Option ℕ)) (last' : ℕ → Option ℕ) (turns' : ℕ → ℕ) → AreLinked first ended_stages later' earlier' last' → ((m : ℕ) → turns' m ≡ taken_up given m + turns m)
      → IsTabled first ended_stages later' earlier' last' turns'
  ended later' earlier' last' turns' links more = record {
    linked = links;
    in_order = λ j q its. elim (set_back stages i j Done (Out q) its) [
      | inl is ↦ (let e : Out q ≡ Done = is.1 in cc)
      | inr there ↦ any_set (waits_for q) stages j i (Out slot) Done out (λ not. refl) (t.in_order j q there.1)
    ];
    once = λ m. once_more given m (turns m) (turns' m) (more m) (t.once m) (λ x is same. fresh m (is ∙ ap Some (sym same)));
    sound = λ m pos. elim (nat_cases (turns m) 0) [
      | inl none ↦ given_turn m (taken_is given m (omega (arith, more m, pos, none)))
      | inr some ↦ kept_turn m (omega (arith, some))
    ];
    complete = λ j its. elim (set_back stages i j Done (Waiting its.0) its.1) [
      | inl is ↦ (let e : Waiting its.0 ≡ Done = is.1 in cc)
      | inr there ↦
          let own : first_of (open_parts (slot_of its.0.key) first ended_stages) ≡ Some (first + j) = may_first first j ended_stages its.0 its.1 its.2 in
          elim (nat_cases slot (slot_of its.0.key)) [
            | inl same ↦
                let free = none_before j its.0 same there.1 there.0 (subst (λ n. list_any (blocks n) (take j ended_stages) ≡ false) (sym same) its.2) in
                let is_given : given ≡ Some (first + j) = puts.all j its.0 free (subst (λ n. first_of (open_parts n first ended_stages) ≡ Some (first + j)) (sym same) own) its.1 in
                let one : taken_up given (first + j) ≡ 1 = ap (λ o. taken_up o (first + j)) is_given ∙ ap (λ (b : Bool). cond {A = ℕ} b 1 0) (eqb-yes (first + j) (first + j) refl) in
                omega (arith, more (first + j), one)
            | inr apart ↦
                let was : 0 < turns (first + j) = t.complete j (first_may first j stages its.0 there.1 (ap first_of (sym (opens (slot_of its.0.key) apart)) ∙ own)) in
                omega (arith, more (first + j), was)
          ]
    ];
  }

-- ---- what is put on as a part ends

abbrev follows_by : ℕ → ℕ → ℕ → List PartStage → Option ℕ
follows_by first i slot stages = cond (list_any (blocks slot) (take i stages)) None (first_of (open_parts slot first (slice_set stages i Done)))

picks : (b : Bool) (o : Option ℕ) (m : ℕ) → cond b None o ≡ Some m → (b ≡ false) × (o ≡ Some m)
picks true o m is = absurd (cc)
picks false o m is = (refl, is)

unpicked : (b : Bool) (o : Option ℕ) → b ≡ false → cond b None o ≡ o
unpicked true o is = absurd (cc)
unpicked false o is = refl

-- the one that follows stands among the parts
pub follows_within : (first i slot next : ℕ) (stages : List PartStage) → Some next ≡ follows_by first i slot stages → (first ≤ next) × (next - first < length stages)
follows_within first i slot next stages is =
    let head = picks (list_any (blocks slot) (take i stages)) (first_of (open_parts slot first (slice_set stages i Done))) next (sym is) in
    let at = first_at slot first next (slice_set stages i Done) head.1 in
    (omega (arith, at.numbered), omega (arith, at.numbered, slice_get_within (slice_set stages i Done) at.i at.stage at.there, length-set stages i Done))

-- none follows
pub puts_none : (first i slot : ℕ) (stages : List PartStage) → None ≡ follows_by first i slot stages → Puts first i slot stages None
puts_none first i slot stages is = record {
  just = λ m given. absurd (cc);
  all = λ j part free head at. (let e : None ≡ Some (first + j) = is ∙ unpicked (list_any (blocks slot) (take i stages)) (first_of (open_parts slot first (slice_set stages i Done))) free ∙ head in absurd (cc));
}

-- the one that follows is out
pub puts_no_more : (first i slot next : ℕ) (stages : List PartStage) → Some next ≡ follows_by first i slot stages → (IsWaiting (slice_get (slice_set stages i Done) (next - first)) → ⊥) → Puts first i slot stages None
puts_no_more first i slot next stages is out = record {
  just = λ m given. absurd (cc);
  all = λ j part free head at.
      let e : Some next ≡ Some (first + j) = is ∙ unpicked (list_any (blocks slot) (take i stages)) (first_of (open_parts slot first (slice_set stages i Done))) free ∙ head in
      let place : j ≡ next - first = (let same = some_is next (first + j) e in omega (arith, same)) in
      absurd (out (subst IsWaiting (sym (subst (λ n. slice_get (slice_set stages i Done) n ≡ Some (Waiting part)) place at)) tt));
}

-- the one that follows waits
pub puts_next : (first i slot next : ℕ) (stages : List PartStage) → Some next ≡ follows_by first i slot stages → IsWaiting (slice_get (slice_set stages i Done) (next - first)) → Puts first i slot stages (Some next)
puts_next first i slot next stages is waits =
    let head = picks (list_any (blocks slot) (take i stages)) (first_of (open_parts slot first (slice_set stages i Done))) next (sym is) in
    record {
      just = λ m given. (let same = some_is next m given in (head.0, head.1 ∙ ap Some same, subst (λ n. IsWaiting (slice_get (slice_set stages i Done) (n - first))) same waits));
      all = λ j part free first_is at. sym head.1 ∙ first_is;
    }

-- ---- one more part

-- the part has its turn at once, where it is the only one of its slot
abbrev pub at_once : Option ℕ → ℕ → Option ℕ
at_once None number = Some number
at_once (Some l) number = None

none_left : (before : Option ℕ) (number m : ℕ) → 0 < taken_up (at_once before number) m → (before ≡ None) × (m ≡ number)
none_left None number m pos = (refl, (let e : Some number ≡ Some m = taken_is (Some number) m pos in sym (some_is number m e)))
none_left (Some l) number m pos = absurd (omega (arith, pos))

alone_is : (first number : ℕ) (ns : List ℕ) (before : Option ℕ) → before ≡ last_of ns → Climbs first ns number → first_of (ns ++ number ∷ []) ≡ Some number → before ≡ None
alone_is first number [] before is up its = is
alone_is first number (n ∷ ns) before is up its = (let e : n ≡ number = some_is n number its in absurd (omega (arith, e, up.1)))

-- one more part is added
pub pushed : (first number : ℕ) (stages : List PartStage) (later earlier : List (Option ℕ)) (last last' : ℕ → Option ℕ) (turns turns' : ℕ → ℕ) (part : PartModel)
    → number ≡ first + length stages
    → last' (slot_of part.key) ≡ Some number → ((q : ℕ) → slot_of part.key ≢ q → last' q ≡ last q)
    → ((m : ℕ) → turns' m ≡ taken_up (at_once (last (slot_of part.key)) number) m + turns m)
    → IsTabled first stages later earlier last turns
    → IsTabled first (stages ++ Waiting part ∷ []) (with_link (later ++ None ∷ []) first (last (slot_of part.key)) (Some number)) (earlier ++ last (slot_of part.key) ∷ []) last' turns'
pushed first number stages later earlier last last' turns turns' part sum its_last others more t =
    let slot = slot_of part.key in
    let stages' = stages ++ Waiting part ∷ [] in
    let before = last slot in
    let own = own_more first number stages part sum in
    let lasts = t.linked.lasts slot in
    let old_place : (m : ℕ) → 0 < turns m → m < number =
    λ m pos. (let turn = t.sound m pos in omega (arith, turn.1, slice_get_within stages turn.0 (Waiting turn.2.0) turn.2.1, sum)) in
    record {
      linked = linked_push first number stages later earlier last last' part sum its_last others t.linked;
      in_order = λ j q out. elim (append_back stages j (Waiting part) (Out q) out) [
        | inl is ↦ (let e : Out q ≡ Waiting part = is.1 in cc)
        | inr at ↦
            let within : j < length stages = slice_get_within stages j (Out q) at in
            rw (take-append-le j stages (Waiting part ∷ []) (omega (arith, within))) (t.in_order j q at)
      ];
      once = λ m. once_more (at_once before number) m (turns m) (turns' m) (more m) (t.once m) (λ x is same. nat_zero (turns m) (λ pos. (
          let new = none_left before number m (subst (λ o. 0 < taken_up o m) (sym is) (subst (λ (b : Bool). 0 < cond {A = ℕ} b 1 0) (sym (eqb-yes m x same)) (omega arith))) in
          omega (arith, old_place m pos, new.1)
          )));
      sound = λ m pos. elim (nat_cases (turns m) 0) [
        | inl none ↦
            let new = none_left before number m (omega (arith, more m, pos, none)) in
            let empty : open_parts slot first stages ≡ [] = last_none (open_parts slot first stages) (sym lasts ∙ new.0) in
            let alone : first_of (open_parts slot first stages') ≡ Some (first + length stages) = ap first_of (own ∙ ap (λ ns. ns ++ number ∷ []) empty) ∙ ap Some sum in
            (length stages, new.1 ∙ sum, first_may first (length stages) stages' part (get_last stages (Waiting part) (length stages) refl) alone)
        | inr some ↦
            let turn = t.sound m (omega (arith, some)) in
            let its = turn.2 in (
              turn.0,
              turn.1,
              first_may first turn.0 stages' its.0 (get_append stages (Waiting part ∷ []) turn.0 (Waiting its.0) its.1)
                  (ap first_of (open_append (slot_of its.0.key) first number stages (Waiting part ∷ []) sum)
                  ∙ first_more (open_parts (slot_of its.0.key) first stages) (open_parts (slot_of its.0.key) number (Waiting part ∷ [])) (first + turn.0) (may_first first turn.0 stages its.0 its.1 its.2)),
            )
      ];
      complete = λ j its. elim (append_back stages j (Waiting part) (Waiting its.0) its.1) [
        | inl is ↦
            let same : its.0 ≡ part = (let e : Waiting its.0 ≡ Waiting part = is.1 in search rules) in
            let here : first + j ≡ number = omega (arith, is.0, sum) in
            let its_first : first_of (open_parts slot first stages') ≡ Some (first + j) = subst (λ p. first_of (open_parts (slot_of p.key) first stages') ≡ Some (first + j)) same (may_first first j stages' its.0 its.1 its.2) in
            let empty : before ≡ None = alone_is first number (open_parts slot first stages) before lasts (open_climbs slot first number stages sum) (sym (ap first_of own) ∙ its_first ∙ ap Some here) in
            let one : taken_up (at_once before number) (first + j) ≡ 1 = ap (λ o. taken_up (at_once o number) (first + j)) empty ∙ ap (λ (b : Bool). cond {A = ℕ} b 1 0) (eqb-yes (first + j) number here) in
            omega (arith, more (first + j), one)
        | inr at ↦
            let within : j < length stages = slice_get_within stages j (Waiting its.0) at in
            let was : MayPost stages j = (its.0, at, rw (take-append-le j stages (Waiting part ∷ []) (omega (arith, within))) at its.2) in
            let pos = t.complete j was in
            omega (arith, more (first + j), pos)
      ];
    }

-- parts at the front, which are done, leave
pub dropped : (first first' count : ℕ) (stages : List PartStage) (later earlier : List (Option ℕ)) (last : ℕ → Option ℕ) (turns : ℕ → ℕ)
    → first' ≡ first + count → list_all is_done (take count stages) ≡ true → count ≤ length stages
    → IsTabled first stages later earlier last turns → IsTabled first' (drop count stages) (drop count later) (drop count earlier) last turns
dropped first first' count stages later earlier last turns sum done fits t =
    let stages' = drop count stages in
    let opens : (q : ℕ) → open_parts q first' stages' ≡ open_parts q first stages = λ q. open_drop q first first' count stages sum done fits in
    record {
      linked = linked_drop first first' count stages later earlier last sum done fits t.linked;
      in_order = λ j q out. any_drop (waits_for q) stages count j (count + j) refl (t.in_order (count + j) q (sym (get_drop stages count j (count + j) refl) ∙ out));
      once = t.once;
      sound = λ m pos. (
          let turn = t.sound m pos in
          let its = turn.2 in
          let behind : count ≤ turn.0 = stands_behind is_done stages count turn.0 (Waiting its.0) done its.1 refl in
          let place : turn.0 ≡ count + (turn.0 - count) = omega (arith, behind) in (
            turn.0 - count,
            omega (arith, turn.1, sum, behind),
            first_may first' (turn.0 - count) stages' its.0 (get_drop stages count (turn.0 - count) turn.0 place ∙ its.1)
                (ap first_of (opens (slot_of its.0.key)) ∙ may_first first turn.0 stages its.0 its.1 its.2 ∙ ap Some (omega (arith, sum, behind))),
          )
          );
      complete = λ j its. (
          let at : slice_get stages (count + j) ≡ Some (Waiting its.0) = sym (get_drop stages count j (count + j) refl) ∙ its.1 in
          let own : first_of (open_parts (slot_of its.0.key) first stages) ≡ Some (first + (count + j)) = ap first_of (sym (opens (slot_of its.0.key))) ∙ may_first first' j stages' its.0 its.1 its.2 ∙ ap Some (omega (arith, sum)) in
          let same : first + (count + j) ≡ first' + j = omega (arith, sum) in
          subst (λ n. 0 < turns n) same (t.complete (count + j) (first_may first (count + j) stages its.0 at own))
          );
    }

-- the tables of parts none of which waits
pub none_tabled : (first : ℕ) (stages : List PartStage) (later earlier : List (Option ℕ)) (last : ℕ → Option ℕ) (turns : ℕ → ℕ) → AreLinked first stages later earlier last → ((i : ℕ) → IsWaiting (slice_get stages i) → ⊥)
    → ((m : ℕ) → turns m ≡ 0) → IsTabled first stages later earlier last turns
none_tabled first stages later earlier last turns links none zero_all = record {
  linked = links;
  in_order = λ i q out. none_waiting q i stages none;
  once = λ m. omega (arith, zero_all m);
  sound = λ m pos. absurd (omega (arith, zero_all m, pos));
  complete = λ i its. absurd (none i (subst IsWaiting (sym its.1) tt));
}
  where
    none_waiting : (q n : ℕ) (stages : List PartStage) → ((i : ℕ) → IsWaiting (slice_get stages i) → ⊥) → list_any (waits_for q) (take n stages) ≡ false
    none_waiting q zero [] none = refl
    none_waiting q (suc n) [] none = refl
    none_waiting q zero (s ∷ ss) none = refl
    none_waiting q (suc n) (Waiting part ∷ ss) none = absurd (none 0 tt)
    none_waiting q (suc n) (Out slot ∷ ss) none = none_waiting q n ss (λ i. none (suc i))
    none_waiting q (suc n) (Done ∷ ss) none = none_waiting q n ss (λ i. none (suc i))
