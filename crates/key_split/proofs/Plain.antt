-- Each part of a plan is plain.
use Rattle.std.proofs.Common.{◌≡◌, ◌⊎◌, ℕ, ℤ, ◌+◌, List, [], ◌∷◌, length, drop, Bool, true, false, ◌&&◌, cond, Option, None, Some, Ok, Err, refl, sym, ap, ◌∙◌, subst, inl, inr}
use Rattle.std.specs.Prelude.{nat_eq, All, IsTrue, if◌then◌else◌}
use Rattle.std.specs.Fmt.{signed_decimal}
use Rattle.std.specs.Str.{bytes_eq}
use Rattle.std.specs.Str.Parse.{signed_digits_value}
use Rattle.std.proofs.lemmas.Bool.{eqb-true, cond_both, false≢true}
use Rattle.std.proofs.lemmas.List.Elements.{All-nil, All-cons, All-map, All-weaker, All-filter, filter_passes}
use Rattle.resp_wire.specs.declared.value.Value.{Value}
use Rattle.slot_hash.specs.Slot.{slot_of}
use Rattle.key_split.specs.declared.part.Op.{Op}
use Rattle.key_split.specs.declared.part.Op.TheVariants as op
use Rattle.key_split.specs.declared.part.Mode.{Mode}
use Rattle.key_split.specs.declared.name.Name.{Name}
use Rattle.key_split.specs.declared.name.Name.TheVariants.{Get, Set, SetNx, GetSet, GetDel, Append, StrLen, Incr, Decr, IncrBy, Del, Exists, MGet, MSet, Ping, Echo, Select, Quit}
use Rattle.key_split.specs.declared.planned.Planned.TheVariants.{Local, Parts, Close}
use Rattle.key_split.specs.declared.planned.PlanFault.TheVariants.{WrongCount}
use Rattle.key_split.specs.PartModel.{PartModel, Pair, pairs_in, puts_value, takes_group, HasFitKeys, IsValueFor}
use Rattle.key_split.specs.Groups.{slot_at, slots, of_slot, groups, on_group, parts_of, alone, pairs_of}
use Rattle.key_split.specs.Laws.{IsPlain, PlansArePlain}
use Rattle.key_split.specs.Names.{allows, name_of}
use Rattle.key_split.specs.Number.{in_range, number_of}
use Rattle.key_split.specs.Plan.{PlanAnswer, Words, word_at, with_value, mode_of, set_with, increase, plan_as, plan_named}
use Rattle.key_split.proofs.Grouping.{among, part-of}
use Rattle.key_split.proofs.PutBack.{pairs-part}
use Rattle.key_split.proofs.Together.{All-among}

-- each part of the answer is plain
abbrev ArePlain : PlanAnswer → Type 0
ArePlain (Err fault) = Unit {0}
ArePlain (Ok (Local reply)) = Unit {0}
ArePlain (Ok (Parts joining parts)) = All IsPlain parts
ArePlain (Ok Close) = Unit {0}

single-plain : (o : Op) (k v : List ℕ) → IsTrue (puts_value o) ⊎ (v ≡ []) → ((n : ℤ) → o ≡ op.IncrBy n → IsTrue (in_range n)) → All IsPlain (with_value o k v ∷ [])
single-plain o k v fit amount =
    All-cons IsPlain (with_value o k v) [] (record {
      one_slot = All-cons (λ key. slot_of key ≡ slot_of k) k [] refl (All-nil (λ key. slot_of key ≡ slot_of k));
      fit_keys = inr refl;
      values = value fit;
      amount = amount;
    }) (All-nil IsPlain)
  where
    value : IsTrue (puts_value o) ⊎ (v ≡ []) → IsTrue (puts_value o) ⊎ All (λ (pair : Pair). pair.1 ≡ []) ((k, v) ∷ [])
    value (inl e) = inl e
    value (inr e) = inr (All-cons (λ pair. pair.1 ≡ []) (k, v) [] e (All-nil (λ (pair : Pair). pair.1 ≡ [])))

set_with-plain : (mode : Option Mode) (args : Words) → ArePlain (set_with mode args)
set_with-plain None args = tt
set_with-plain (Some mode) args = single-plain (op.Set mode) (word_at args 0) (word_at args 1) (inl refl) (λ n e. absurd cc)

increase-plain : (amount : Option ℤ) (args : Words) → ((n : ℤ) → amount ≡ Some n → in_range n ≡ true) → ArePlain (increase amount args)
increase-plain None args h = tt
increase-plain (Some m) args h =
    single-plain (op.IncrBy m) (word_at args 0) [] (inr refl) (λ n e. subst (λ y. in_range y ≡ true) (let same : m ≡ n = cc in same) (h m refl))

spelt-in_range : (r b : Bool) (z n : ℤ) → in_range z ≡ r → cond (r && b) (Some z) None ≡ Some n → in_range n ≡ true
spelt-in_range true true z n e h = subst (λ y. in_range y ≡ true) (let same : z ≡ n = cc in same) e
spelt-in_range true false z n e h = absurd cc
spelt-in_range false b z n e h = absurd cc

number_of-in_range : (text : List ℕ) (n : ℤ) → number_of text ≡ Some n → in_range n ≡ true
unfolding number_of
number_of-in_range text n h = spelt-in_range _ (bytes_eq (signed_decimal (signed_digits_value 10 text)) text) (signed_digits_value 10 text) n refl h

group-plain : (o : Op) (ps : List Pair) → IsTrue (takes_group o) → IsTrue (puts_value o) ⊎ All (λ (pair : Pair). pair.1 ≡ []) ps → ((n : ℤ) → o ≡ op.IncrBy n → ⊥) → (s : ℕ) → among s (slots ps) ≡ true → IsPlain (on_group o (of_slot ps s))
group-plain o ps takes fit other s h =
    let is = part-of o ps s h in
    let back = sym (pairs-part o ps s h) in
    let key = (on_group o (of_slot ps s)).key in
    record {
      one_slot =
          All-map (λ k. slot_of k ≡ slot_of key) (λ pair. pair.0) (pairs_in (on_group o (of_slot ps s)))
          (subst (All (λ pair. slot_at pair ≡ slot_of key)) back
          (All-weaker (λ pair. nat_eq s (slot_at pair) ≡ true) (λ pair. slot_at pair ≡ slot_of key) (λ pair e. sym (eqb-true s (slot_at pair) e) ∙ sym is.slot) (of_slot ps s) (filter_passes (λ pair. nat_eq s (slot_at pair)) ps)));
      fit_keys = inl (ap takes_group is.op ∙ takes);
      values = value fit;
      amount = λ n e. absurd (other n (sym is.op ∙ e));
    }
  where
    value : IsTrue (puts_value o) ⊎ All (λ (pair : Pair). pair.1 ≡ []) ps → IsTrue (puts_value (on_group o (of_slot ps s)).op) ⊎ All (λ (pair : Pair). pair.1 ≡ []) (pairs_in (on_group o (of_slot ps s)))
    value (inl e) = inl (ap puts_value (part-of o ps s h).op ∙ e)
    value (inr e) = inr (subst (All (λ (pair : Pair). pair.1 ≡ [])) (sym (pairs-part o ps s h)) (All-filter (λ pair. nat_eq s (slot_at pair)) (λ pair. pair.1 ≡ []) ps e))

groups-plain : (o : Op) (ps : List Pair) → IsTrue (takes_group o) → IsTrue (puts_value o) ⊎ All (λ (pair : Pair). pair.1 ≡ []) ps → ((n : ℤ) → o ≡ op.IncrBy n → ⊥) → All IsPlain (parts_of o ps)
groups-plain o ps takes fit other =
    All-map IsPlain (on_group o) (groups ps)
    (All-map (λ g. IsPlain (on_group o g)) (of_slot ps) (slots ps)
    (All-among (λ s. IsPlain (on_group o (of_slot ps s))) (slots ps) (group-plain o ps takes fit other)))

alone-valueless : (keys : Words) → All (λ (pair : Pair). pair.1 ≡ []) (alone keys)
alone-valueless keys = All-map (λ pair. pair.1 ≡ []) (λ key. (key, [])) keys (λ k d w. refl)

either-plain : (b : Bool) (x y : Value) → ArePlain (if b then Ok (Local x) else Ok (Local y))
either-plain true x y = tt
either-plain false x y = tt

plan_as-plain : (name : Name) (args : Words) → ArePlain (plan_as name args)
plan_as-plain Get args = single-plain op.Get (word_at args 0) [] (inr refl) (λ n e. absurd cc)
plan_as-plain Set args = set_with-plain (mode_of (drop 2 args)) args
plan_as-plain SetNx args = single-plain op.SetNx (word_at args 0) (word_at args 1) (inl refl) (λ n e. absurd cc)
plan_as-plain GetSet args = single-plain op.GetSet (word_at args 0) (word_at args 1) (inl refl) (λ n e. absurd cc)
plan_as-plain GetDel args = single-plain op.GetDel (word_at args 0) [] (inr refl) (λ n e. absurd cc)
plan_as-plain Append args = single-plain op.Append (word_at args 0) (word_at args 1) (inl refl) (λ n e. absurd cc)
plan_as-plain StrLen args = single-plain op.StrLen (word_at args 0) [] (inr refl) (λ n e. absurd cc)
plan_as-plain Incr args = single-plain op.Incr (word_at args 0) [] (inr refl) (λ n e. absurd cc)
plan_as-plain Decr args = single-plain op.Decr (word_at args 0) [] (inr refl) (λ n e. absurd cc)
plan_as-plain IncrBy args = increase-plain (number_of (word_at args 1)) args (number_of-in_range (word_at args 1))
plan_as-plain Del args = groups-plain op.Del (alone args) refl (inr (alone-valueless args)) (λ n e. cc)
plan_as-plain Exists args = groups-plain op.Exists (alone args) refl (inr (alone-valueless args)) (λ n e. cc)
plan_as-plain MGet args = groups-plain op.MGet (alone args) refl (inr (alone-valueless args)) (λ n e. cc)
plan_as-plain MSet args = groups-plain op.MSet (pairs_of args) refl (inl refl) (λ n e. cc)
plan_as-plain Ping [] = tt
plan_as-plain Ping (text ∷ args) = tt
plan_as-plain Echo args = tt
plan_as-plain Select args = either-plain _ _ _
plan_as-plain Quit args = tt

plan_named-plain : (name : Option Name) (args : Words) → ArePlain (plan_named name args)
plan_named-plain None args = tt
plan_named-plain (Some name) args =
    cond_both (allows name (length args + 1)) (plan_as name args) (Err (WrongCount name)) ArePlain (λ e. plan_as-plain name args) (λ e. tt)

pub plans-plain : PlansArePlain
plans-plain words joining parts e = subst ArePlain e (plan_named-plain (name_of (word_at words 0)) (drop 1 words))

-- a part that keeps what each part keeps is plain
no-values : (b : Bool) (k v : List ℕ) (ps : List Pair) → IsTrue b ⊎ (v ≡ []) → All (λ (pair : Pair). IsTrue b ⊎ (pair.1 ≡ [])) ps → IsTrue b ⊎ All (λ (pair : Pair). pair.1 ≡ []) ((k, v) ∷ ps)
no-values true k v ps first rest = inl refl
no-values false k v ps first rest =
    inr (All-cons (λ pair. pair.1 ≡ []) (k, v) ps (empty v first) (All-weaker (λ pair. IsTrue false ⊎ (pair.1 ≡ [])) (λ pair. pair.1 ≡ []) (λ pair fit. empty pair.1 fit) ps rest))
  where
    empty : (w : List ℕ) → IsTrue false ⊎ (w ≡ []) → w ≡ []
    empty w (inl e) = absurd (false≢true e)
    empty w (inr e) = e

pub part-plain : (c : PartModel) → All (λ pair. slot_of pair.0 ≡ slot_of c.key) c.rest → HasFitKeys c → IsValueFor c.op c.arg → All (λ pair. IsValueFor c.op pair.1) c.rest → ((n : ℤ) → c.op ≡ op.IncrBy n → IsTrue (in_range n)) → IsPlain c
part-plain c slots fit first rest amount =
    record {
      one_slot =
          All-cons (λ key. slot_of key ≡ slot_of c.key) c.key _ refl (All-map (λ key. slot_of key ≡ slot_of c.key) (λ pair. pair.0) c.rest slots);
      fit_keys = fit;
      values = no-values (puts_value c.op) c.key c.arg c.rest first rest;
      amount = amount;
    }
