-- The parts that were not handed out are let go: what is left of the others.
use Rattle.std.proofs.Common.{◌≡◌, ◌≤◌, ◌<◌, ◌∷◌, [], ℕ, List, Bool, true, false, Option, Some, None, zero, suc, inl, inr, length, length-take-le, take, ◌&&◌, sym, ap, subst, ◌∙◌, arith, rules, refl, cond}
use Rattle.std.specs.Prelude.{slice_get, slice_set}
use Rattle.std.specs.List.{list_all}
use Rattle.std.proofs.lemmas.List.{length-set}
use Rattle.std.proofs.lemmas.Option.{slice_get_within}
use Rattle.session_order.specs.declared.queue.Tables.{Tables}
use Rattle.session_order.specs.declared.queue.PartStage.{PartStage}
use Rattle.session_order.specs.declared.queue.PartStage.TheVariants.{Waiting, Out, Done}
use Rattle.session_order.specs.Turn.{IsWaiting, is_done}
use Rattle.session_order.specs.Tables.{AreLinked, IsTabled, LinksIn}
use Rattle.session_order.specs.LettingGo.{ForgetsAt, LetsGo, left_of, is_out}
use Rattle.session_order.proofs.Lists.{get_set_other, get_set_same, get_take, get_taken, some_at, one_of}
use Rattle.session_order.proofs.Linking.{linked_take}
use Rattle.session_order.proofs.Tabling.{none_tabled}
use Rattle.session_order.proofs.Blocking.{nat_cases}

all_in : (b rest : Bool) → b && rest ≡ true → (b ≡ true) × (rest ≡ true)
all_in true rest all = (refl, all)
all_in false rest all = cc

all_at : (stages : List PartStage) (i : ℕ) (s : PartStage) → list_all is_done stages ≡ true → slice_get stages i ≡ Some s → is_done s ≡ true
all_at [] i s all at = cc
all_at (h ∷ ss) zero s all at = (let is : h ≡ s = search rules in ap is_done (sym is) ∙ (all_in (is_done h) (list_all is_done ss) all).0)
all_at (h ∷ ss) (suc i) s all at = all_at ss i s (all_in (is_done h) (list_all is_done ss) all).1 at

-- what letting go of one part does, by the part
pub forgets : (old new : Tables) (i : ℕ) (stage : PartStage) (was : Bool) → slice_get old.stages.items i ≡ Some stage → new.first ≡ old.first → new.turns ≡ old.turns
    → new.stages.items ≡ slice_set old.stages.items i (left_of stage) → was ≡ is_out stage → LinksIn new → ForgetsAt old i was new
forgets old new i stage was at first turns stages is linked = record {
  first = first;
  turns = turns;
  stages = λ s there. stages ∙ ap (λ x. slice_set old.stages.items i (left_of x)) (one_of old.stages.items i stage s at there);
  answers = λ s there. is ∙ ap is_out (one_of old.stages.items i stage s at there);
  linked = linked;
}

-- ---- the parts up to one

-- the parts before i were let go, and the last that is out is before `kept`
pub record Forgot (i kept : ℕ) (stages₀ stages : List PartStage) : Type 0 where
  pub front : (j : ℕ) (s : PartStage) → slice_get stages₀ j ≡ Some s → j < i → slice_get stages j ≡ Some (left_of s)
  pub back : (j : ℕ) (s : PartStage) → slice_get stages₀ j ≡ Some s → i ≤ j → slice_get stages j ≡ Some s
  pub len : length stages ≡ length stages₀
  pub low : kept ≤ i
  pub ends : (j : ℕ) → kept ≡ suc j → (q : ℕ) × (slice_get stages₀ j ≡ Some (Out q))
  pub reaches : (j q : ℕ) → j < i → slice_get stages₀ j ≡ Some (Out q) → j < kept

-- before the first nothing was let go
pub forgot_none : (stages : List PartStage) → Forgot 0 0 stages stages
forgot_none stages = record {
  front = λ j s at less. absurd (omega (arith, less));
  back = λ j s at le. at;
  len = refl;
  low = omega arith;
  ends = λ j is. absurd (omega (arith, is));
  reaches = λ j q less at. absurd (omega (arith, less));
}

is_out_at : (s : PartStage) → is_out s ≡ true → (q : ℕ) × (s ≡ Out q)
is_out_at (Waiting part) is = cc
is_out_at (Out slot) is = (slot, refl)
is_out_at Done is = cc

module _ (i kept : ℕ) (stages₀ stages : List PartStage) (s : PartStage) (at : slice_get stages₀ i ≡ Some s) (f : Forgot i kept stages₀ stages) where
  kept_after : (b : Bool) → is_out s ≡ b
      → (cond b (suc i) kept ≤ suc i) × ((j : ℕ) → cond b (suc i) kept ≡ suc j → (q : ℕ) × (slice_get stages₀ j ≡ Some (Out q))) × ((j q : ℕ) → j < suc i → slice_get stages₀ j ≡ Some (Out q) → j < cond b (suc i) kept)
  kept_after true is = (
    omega arith,
    λ j same. (
        let out = is_out_at s is in
        let place : i ≡ j = omega (arith, same) in
        (out.0, subst (λ n. slice_get stages₀ n ≡ Some (Out out.0)) place (at ∙ ap Some out.1))
        ),
    λ j q less there. less,
  )
  kept_after false is = (
    omega (arith, f.low),
    f.ends,
    λ j q less there. elim (nat_cases j i) [
      | inl same ↦
          let here : s ≡ Out q = one_of stages₀ i s (Out q) at (subst (λ n. slice_get stages₀ n ≡ Some (Out q)) same there) in
          let e : false ≡ true = sym is ∙ ap is_out here in cc
      | inr apart ↦ f.reaches j q (omega (arith, less, apart)) there
    ],
  )

  -- the part at i is let go
  pub forgot_more : Forgot (suc i) (cond (is_out s) (suc i) kept) stages₀ (slice_set stages i (left_of s))
  forgot_more =
      let here = f.back i s at (omega arith) in
      let keeps = kept_after (is_out s) refl in
      record {
        front = λ j x there less. elim (nat_cases j i) [
          | inl same ↦
              let is : s ≡ x = one_of stages₀ i s x at (subst (λ n. slice_get stages₀ n ≡ Some x) same there) in
              subst (λ n. slice_get (slice_set stages i (left_of s)) n ≡ Some (left_of x)) (sym same) (get_set_same stages i s (left_of s) here ∙ ap (λ y. Some (left_of y)) is)
          | inr apart ↦ get_set_other stages i j (left_of s) (left_of x) apart (f.front j x there (omega (arith, less, apart)))
        ];
        back = λ j x there le. get_set_other stages i j (left_of s) x (λ same. omega (arith, same, le)) (f.back j x there (omega (arith, le)));
        len = length-set stages i (left_of s) ∙ f.len;
        low = keeps.0;
        ends = keeps.1;
        reaches = keeps.2;
      }

-- a step of the loop
pub forgot_step : (stages₀ : List PartStage) (now new : Tables) (i kept kept' : ℕ) (was : Bool) → i < length stages₀ → Forgot i kept stages₀ now.stages.items → ForgetsAt now i was new → kept' ≡ cond was (suc i) kept
    → Forgot (suc i) kept' stages₀ new.stages.items
forgot_step stages₀ now new i kept kept' was within f does is =
    let stood = some_at stages₀ i within in
    let here = f.back i stood.0 stood.1 (omega arith) in
    rw (does.stages stood.0 here, is, does.answers stood.0 here) (forgot_more i kept stages₀ now.stages.items stood.0 stood.1 f)

-- ---- all parts

left_out : (q : ℕ) (s : PartStage) → left_of s ≡ Out q → s ≡ Out q
left_out q (Waiting part) is = cc
left_out q (Out slot) is = is
left_out q Done is = cc

left_waits : (s : PartStage) → IsWaiting (Some (left_of s)) → ⊥
left_waits (Waiting part) is = is
left_waits (Out slot) is = is
left_waits Done is = is

module _ (kept : ℕ) (stages₀ stages : List PartStage) (f : Forgot (length stages₀) kept stages₀ stages) where
  -- what is left at a place was let go
  left_of_all : (i : ℕ) (s : PartStage) → slice_get stages i ≡ Some s → (s₀ : PartStage) × (slice_get stages₀ i ≡ Some s₀) × (s ≡ left_of s₀)
  left_of_all i s at =
      let within : i < length stages₀ = omega (arith, slice_get_within stages i s at, f.len) in
      let stood = some_at stages₀ i within in
      (stood.0, stood.1, one_of stages i s (left_of stood.0) at (f.front i stood.0 stood.1 within))

  done_behind : (i : ℕ) (s : PartStage) → slice_get stages i ≡ Some s → kept ≤ i → is_done s ≡ true
  done_behind i s at le = (let left = left_of_all i s at in ap is_done left.2 ∙ by_stage left.0 left.1)
    where
      by_stage : (s₀ : PartStage) → slice_get stages₀ i ≡ Some s₀ → is_done (left_of s₀) ≡ true
      by_stage (Waiting part) stood = refl
      by_stage (Out q) stood = (let less = f.reaches i q (slice_get_within stages₀ i (Out q) stood) stood in absurd (omega (arith, less, le)))
      by_stage Done stood = refl

  fits : kept ≤ length stages
  fits = omega (arith, f.low, f.len)

  out_at : (i q : ℕ) → slice_get stages₀ i ≡ Some (Out q) → slice_get (take kept stages) i ≡ Some (Out q)
  out_at i q at =
      let within : i < length stages₀ = slice_get_within stages₀ i (Out q) at in
      get_take stages kept i (Out q) (f.front i (Out q) at within) (f.reaches i q within at)

  was_out : (i q : ℕ) → slice_get (take kept stages) i ≡ Some (Out q) → slice_get stages₀ i ≡ Some (Out q)
  was_out i q at = (let left = left_of_all i (Out q) (get_taken stages kept i (Out q) at).0 in left.1 ∙ ap Some (left_out q left.0 (sym left.2)))

  pub none_waits : (i : ℕ) → IsWaiting (slice_get (take kept stages) i) → ⊥
  none_waits i is = waits (slice_get (take kept stages) i) refl is
    where
      waits : (o : Option PartStage) → slice_get (take kept stages) i ≡ o → IsWaiting o → ⊥
      waits None at is = is
      waits (Some s) at is = (let left = left_of_all i s (get_taken stages kept i s at).0 in left_waits left.0 (subst (λ x. IsWaiting (Some x)) left.2 is))

  pub left_tabled : (first : ℕ) (later earlier : List (Option ℕ)) (last : ℕ → Option ℕ) → AreLinked first stages later earlier last
      → IsTabled first (take kept stages) (take kept later) (take kept earlier) last (λ m. 0)
  left_tabled first later earlier last links =
      none_tabled first (take kept stages) (take kept later) (take kept earlier) last (λ m. 0) (linked_take first kept stages later earlier last fits done_behind links) none_waits (λ m. refl)

  last_is_out : (k : ℕ) → kept ≡ k → list_all is_done (take kept stages) ≡ true → take kept stages ≡ []
  last_is_out zero is done = ap (λ n. take n stages) is
  last_is_out (suc k) is done =
      let out = f.ends k is in
      let stands : slice_get (take kept stages) k ≡ Some (Out out.0) = out_at k out.0 out.1 in
      let e : is_done (Out out.0) ≡ true = all_at (take kept stages) k (Out out.0) done stands in cc

  pub left_parts : (first : ℕ) → LetsGo (record { first = first; stages = stages₀ }) (record { first = first; stages = take kept stages })
  left_parts first = record {
    first = refl;
    out = λ i slot. (was_out i slot, out_at i slot);
    none_waits = none_waits;
    last_out = last_is_out kept refl;
    few = omega (arith, length-take-le kept stages fits, f.low);
  }
