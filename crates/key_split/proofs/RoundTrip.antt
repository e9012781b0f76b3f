-- The words for a node are planned as the part that they were made of.
use Rattle.std.proofs.Common.{◌≡◌, ◌⊎◌, ℕ, suc, ◌+◌, ◌*◌, ◌%◌, List, [], ◌∷◌, ◌++◌, map, length, true, false, cond, not, ◌&&◌, refl, sym, ap, ◌∙◌, subst, arith, Some, Ok, Err, inl, inr}
use Rattle.std.specs.Prelude.{nat_eq, nat_le, ◌==◌, All, IsTrue}
use Rattle.std.specs.List.{filter, flat_map, position_or_len, AllByRecursion}
use Rattle.std.proofs.lemmas.Bool.{eq-eqb, cond-true, false≢true}
use Rattle.std.proofs.lemmas.Bool.Decides.{nat_tests}
use Rattle.std.proofs.lemmas.List.Elements.{recursion_from_All, All-head}
use Rattle.key_split.specs.declared.part.Op.{Op}
use Rattle.key_split.specs.declared.part.Op.TheVariants.{Get, Set, SetNx, GetSet, GetDel, Append, StrLen, Incr, Decr, IncrBy, Del, Exists, MGet, MSet}
use Rattle.key_split.specs.declared.part.Mode.TheVariants.{Always, IfAbsent, IfPresent}
use Rattle.key_split.specs.declared.name.Name.{Name}
use Rattle.key_split.specs.declared.name.Name.TheVariants as name
use Rattle.key_split.specs.declared.planned.Planned.TheVariants.{Parts}
use Rattle.key_split.specs.declared.planned.Joining.TheVariants.{One, Array, AllOk, Sum}
use Rattle.key_split.specs.declared.planned.PlanFault.TheVariants.{WrongCount}
use Rattle.std.specs.Fmt.{signed_decimal}
use Rattle.slot_hash.specs.Slot.{slot_of}
use Rattle.key_split.specs.PartModel.{PartModel, Pair, HasOneSlot}
use Rattle.key_split.specs.Groups.{slot_at, slots, of_slot, group_numbers, on_group, parts_of, alone, pairs_of}
use Rattle.key_split.specs.Laws.{IsPlain, PlannedBack, joining_of}
use Rattle.key_split.specs.Names.{allows, name_of, text_of}
use Rattle.key_split.specs.Number.{number_of}
use Rattle.key_split.specs.Plan.{PlanAnswer, Words, plan_as, plan_of, with_value, increase}
use Rattle.key_split.specs.Words.{op_name, behind_key, pair_words, words_of}
use Rattle.key_split.proofs.NumberLemmas.{number_of-signed_decimal}

-- the argument is empty where the operation has none; the amount's text is read back
abbrev IsSingle : Op → List ℕ → Type 0
IsSingle Get v = v ≡ []
IsSingle (Set mode) v = Unit {0}
IsSingle SetNx v = Unit {0}
IsSingle GetSet v = Unit {0}
IsSingle GetDel v = v ≡ []
IsSingle Append v = Unit {0}
IsSingle StrLen v = v ≡ []
IsSingle Incr v = v ≡ []
IsSingle Decr v = v ≡ []
IsSingle (IncrBy n) v = (v ≡ []) × (number_of (signed_decimal n) ≡ Some n)
IsSingle Del v = ⊥
IsSingle Exists v = ⊥
IsSingle MGet v = ⊥
IsSingle MSet v = ⊥

abbrev planned : Op → List ℕ → List ℕ → PlanAnswer
planned o k v = Ok (Parts One (with_value o k v ∷ []))

plan_of-single : (o : Op) (k v : List ℕ) → IsSingle o v → plan_of (text_of (op_name o) ∷ k ∷ behind_key o v ++ []) ≡ planned o k v
unfolding name_of
plan_of-single Get k v e = ap (planned Get k) (sym e)
plan_of-single (Set Always) k v e = refl
plan_of-single (Set IfAbsent) k v e = refl
plan_of-single (Set IfPresent) k v e = refl
plan_of-single SetNx k v e = refl
plan_of-single GetSet k v e = refl
plan_of-single GetDel k v e = ap (planned GetDel k) (sym e)
plan_of-single Append k v e = refl
plan_of-single StrLen k v e = ap (planned StrLen k) (sym e)
plan_of-single Incr k v e = ap (planned Incr k) (sym e)
plan_of-single Decr k v e = ap (planned Decr k) (sym e)
plan_of-single (IncrBy n) k v e =
    ap (λ o. increase o (k ∷ signed_decimal n ∷ [])) e.1 ∙ ap (planned (IncrBy n) k) (sym e.0)
plan_of-single Del k v e = absurd e
plan_of-single Exists k v e = absurd e
plan_of-single MGet k v e = absurd e
plan_of-single MSet k v e = absurd e

-- all the pairs have the slot
abbrev OfSlot : ℕ → List Pair → Type 0
OfSlot s ps = AllByRecursion (λ q. slot_at q ≡ s) ps

no-others : (s : ℕ) (ps : List Pair) → OfSlot s ps → filter (λ n. not (nat_eq s n)) (slots ps) ≡ []
no-others s [] h = refl
no-others s (q ∷ ps) h =
    ap (λ t. filter (λ n. not (nat_eq s n)) (t ∷ filter (λ n. not (nat_eq t n)) (slots ps))) h.0
    ∙ ap (λ ns. filter (λ n. not (nat_eq s n)) (s ∷ ns)) (no-others s ps h.1)
    ∙ ap (λ b. cond (not b) (s ∷ []) []) (eq-eqb s s refl)

slots-one : (p : Pair) (ps : List Pair) → OfSlot (slot_at p) ps → slots (p ∷ ps) ≡ slot_at p ∷ []
slots-one p ps h = ap (λ ns. slot_at p ∷ ns) (no-others (slot_at p) ps h)

of_slot-all : (s : ℕ) (ps : List Pair) → OfSlot s ps → of_slot ps s ≡ ps
of_slot-all s [] h = refl
of_slot-all s (q ∷ ps) h =
    ap (λ b. cond b (q ∷ of_slot ps s) (of_slot ps s)) (eq-eqb s (slot_at q) (sym h.0)) ∙ ap (λ qs. q ∷ qs) (of_slot-all s ps h.1)

-- keys of one slot are one part
parts_of-one : (o : Op) (p : Pair) (ps : List Pair) → OfSlot (slot_at p) ps → parts_of o (p ∷ ps) ≡ on_group o (p ∷ ps) ∷ []
parts_of-one o p ps h =
    ap (λ ns. map (on_group o) (map (of_slot (p ∷ ps)) ns)) (slots-one p ps h)
    ∙ ap (λ g. on_group o g ∷ []) (of_slot-all (slot_at p) (p ∷ ps) (refl, h))

-- and each has its first place
places-one : (s : ℕ) (ps : List Pair) → OfSlot s ps → map (λ q. position_or_len (nat_eq (slot_at q)) (s ∷ [])) ps ≡ map (λ q. 0) ps
places-one s [] h = refl
places-one s (q ∷ ps) h =
    ap (λ b. cond (not b) 1 0 ∷ map (λ q. position_or_len (nat_eq (slot_at q)) (s ∷ [])) ps) (eq-eqb (slot_at q) s h.0)
    ∙ ap (λ ns. 0 ∷ ns) (places-one s ps h.1)

group_numbers-one : (p : Pair) (ps : List Pair) → OfSlot (slot_at p) ps → group_numbers (p ∷ ps) ≡ map (λ q. 0) (p ∷ ps)
group_numbers-one p ps h =
    ap (λ ns. map (λ q. position_or_len (nat_eq (slot_at q)) ns) (p ∷ ps)) (slots-one p ps h) ∙ places-one (slot_at p) (p ∷ ps) (refl, h)

-- the words of keys without values
abbrev keys : List Pair → Words
keys ps = map (λ p. p.0) ps

flat_map-keys : (f : Pair → Words) → ((p : Pair) → f p ≡ p.0 ∷ []) → (ps : List Pair) → flat_map f ps ≡ keys ps
flat_map-keys f h [] = refl
flat_map-keys f h (p ∷ ps) = ap (λ ws. ws ++ flat_map f ps) (h p) ∙ ap (λ ws. p.0 ∷ ws) (flat_map-keys f h ps)

alone-keys : (ps : List Pair) → AllByRecursion (λ p. p.1 ≡ []) ps → alone (keys ps) ≡ ps
alone-keys [] h = refl
alone-keys (p ∷ ps) h = ap (λ q. q ∷ alone (keys ps)) (λ i. (p.0, sym h.0 i)) ∙ ap (λ qs. p ∷ qs) (alone-keys ps h.1)

pairs_of-words : (ps : List Pair) → pairs_of (flat_map (pair_words MSet) ps) ≡ ps
pairs_of-words [] = refl
pairs_of-words (p ∷ ps) = ap (λ qs. p ∷ qs) (pairs_of-words ps)

length-words : (ps : List Pair) → length (flat_map (pair_words MSet) ps) ≡ 2 * length ps
length-words [] = refl
length-words (p ∷ ps) = omega (arith, length-words ps)

some-keys : (n : ℕ) → nat_le 2 (suc n + 1) ≡ true
some-keys n = grind (arith, nat_tests)

odd-words : (n : ℕ) → (nat_le 3 (suc (suc (2 * n)) + 1) && ((suc (suc (2 * n)) + 1) % 2 == 1)) ≡ true
odd-words n = grind (arith, nat_tests)

counted : (name : Name) (args : Words) → allows name (length args + 1) ≡ true → cond (allows name (length args + 1)) (plan_as name args) (Err (WrongCount name)) ≡ plan_as name args
counted name args h = cond-true _ _ _ h

plan_of-Del : (p : Pair) (ps : List Pair) → OfSlot (slot_at p) ps → AllByRecursion (λ q. q.1 ≡ []) (p ∷ ps)
    → plan_of (text_of name.Del ∷ keys (p ∷ ps)) ≡ Ok (Parts Sum (on_group Del (p ∷ ps) ∷ []))
unfolding name_of
plan_of-Del p ps h v =
    counted name.Del (keys (p ∷ ps)) (some-keys _)
    ∙ ap (λ qs. Ok (Parts Sum (parts_of Del qs))) (alone-keys (p ∷ ps) v) ∙ ap (λ cs. Ok (Parts Sum cs)) (parts_of-one Del p ps h)

plan_of-Exists : (p : Pair) (ps : List Pair) → OfSlot (slot_at p) ps → AllByRecursion (λ q. q.1 ≡ []) (p ∷ ps)
    → plan_of (text_of name.Exists ∷ keys (p ∷ ps)) ≡ Ok (Parts Sum (on_group Exists (p ∷ ps) ∷ []))
unfolding name_of
plan_of-Exists p ps h v =
    counted name.Exists (keys (p ∷ ps)) (some-keys _)
    ∙ ap (λ qs. Ok (Parts Sum (parts_of Exists qs))) (alone-keys (p ∷ ps) v) ∙ ap (λ cs. Ok (Parts Sum cs)) (parts_of-one Exists p ps h)

plan_of-MGet : (p : Pair) (ps : List Pair) → OfSlot (slot_at p) ps → AllByRecursion (λ q. q.1 ≡ []) (p ∷ ps)
    → plan_of (text_of name.MGet ∷ keys (p ∷ ps)) ≡ Ok (Parts (Array (map (λ q. 0) (p ∷ ps))) (on_group MGet (p ∷ ps) ∷ []))
unfolding name_of
plan_of-MGet p ps h v =
    counted name.MGet (keys (p ∷ ps)) (some-keys _)
    ∙ ap (λ qs. Ok (Parts (Array (group_numbers qs)) (parts_of MGet qs))) (alone-keys (p ∷ ps) v)
    ∙ (λ i. Ok (Parts (Array (group_numbers-one p ps h i)) (parts_of-one MGet p ps h i)))

plan_of-MSet : (p : Pair) (ps : List Pair) → OfSlot (slot_at p) ps
    → plan_of (text_of name.MSet ∷ flat_map (pair_words MSet) (p ∷ ps)) ≡ Ok (Parts AllOk (on_group MSet (p ∷ ps) ∷ []))
unfolding name_of
plan_of-MSet p ps h =
    counted name.MSet (flat_map (pair_words MSet) (p ∷ ps)) (subst (λ n. allows name.MSet (suc (suc n) + 1) ≡ true) (sym (length-words ps)) (odd-words (length ps)))
    ∙ ap (λ qs. Ok (Parts AllOk (parts_of MSet qs))) (pairs_of-words (p ∷ ps)) ∙ ap (λ cs. Ok (Parts AllOk cs)) (parts_of-one MSet p ps h)

abbrev part : Op → List ℕ → List ℕ → List Pair → PartModel
part o k v rest = record { op = o; key = k; arg = v; rest = rest }

-- the words of a part are planned as that part
abbrev IsBack : Op → List ℕ → List ℕ → List Pair → Type 0
IsBack o k v rest = plan_of (words_of (part o k v rest)) ≡ Ok (Parts (joining_of o ((k, v) ∷ rest)) (part o k v rest ∷ []))

no-rest : (rest : List Pair) → IsTrue false ⊎ (rest ≡ []) → rest ≡ []
no-rest rest (inl e) = absurd (false≢true e)
no-rest rest (inr e) = e

no-values : (ps : List Pair) → IsTrue false ⊎ All (λ pair. pair.1 ≡ []) ps → All (λ pair. pair.1 ≡ []) ps
no-values ps (inl e) = absurd (false≢true e)
no-values ps (inr e) = e

no-arg : (k v : List ℕ) (rest : List Pair) → IsTrue false ⊎ All (λ pair. pair.1 ≡ []) ((k, v) ∷ rest) → v ≡ []
no-arg k v rest h = All-head (λ pair. pair.1 ≡ []) (k, v) rest (no-values ((k, v) ∷ rest) h)

of-slot : (s : ℕ) (ps : List Pair) → AllByRecursion (λ key. slot_of key ≡ s) (keys ps) → OfSlot s ps
of-slot s [] h = tt
of-slot s (p ∷ ps) h = (h.0, of-slot s ps h.1)

rest-of-slot : (o : Op) (k v : List ℕ) (rest : List Pair) → HasOneSlot (part o k v rest) → OfSlot (slot_of k) rest
rest-of-slot o k v rest h = of-slot (slot_of k) rest (recursion_from_All (λ key. slot_of key ≡ slot_of k) (k ∷ keys rest) h).1

plain-words : (ps : List Pair) → IsTrue false ⊎ All (λ pair. pair.1 ≡ []) ps → AllByRecursion (λ pair. pair.1 ≡ []) ps
plain-words ps h = recursion_from_All (λ pair. pair.1 ≡ []) ps (no-values ps h)

single-back : (o : Op) (k v : List ℕ) (rest : List Pair) → rest ≡ [] → IsSingle o v → plan_of (words_of (part o k v rest)) ≡ Ok (Parts One (part o k v rest ∷ []))
single-back o k v rest e h = subst (λ r. plan_of (words_of (part o k v r)) ≡ Ok (Parts One (part o k v r ∷ []))) (sym e) (plan_of-single o k v h)

back : (o : Op) (k v : List ℕ) (rest : List Pair) → IsPlain (part o k v rest) → IsBack o k v rest
back Get k v rest h = single-back Get k v rest (no-rest rest h.fit_keys) (no-arg k v rest h.values)
back (Set mode) k v rest h = single-back (Set mode) k v rest (no-rest rest h.fit_keys) tt
back SetNx k v rest h = single-back SetNx k v rest (no-rest rest h.fit_keys) tt
back GetSet k v rest h = single-back GetSet k v rest (no-rest rest h.fit_keys) tt
back GetDel k v rest h = single-back GetDel k v rest (no-rest rest h.fit_keys) (no-arg k v rest h.values)
back Append k v rest h = single-back Append k v rest (no-rest rest h.fit_keys) tt
back StrLen k v rest h = single-back StrLen k v rest (no-rest rest h.fit_keys) (no-arg k v rest h.values)
back Incr k v rest h = single-back Incr k v rest (no-rest rest h.fit_keys) (no-arg k v rest h.values)
back Decr k v rest h = single-back Decr k v rest (no-rest rest h.fit_keys) (no-arg k v rest h.values)
back (IncrBy n) k v rest h =
    single-back (IncrBy n) k v rest (no-rest rest h.fit_keys) (no-arg k v rest h.values, number_of-signed_decimal n (h.amount n refl))
back Del k v rest h =
    ap (λ ws. plan_of (text_of name.Del ∷ k ∷ ws)) (flat_map-keys (pair_words Del) (λ p. refl) rest)
    ∙ plan_of-Del (k, v) rest (rest-of-slot Del k v rest h.one_slot) (plain-words ((k, v) ∷ rest) h.values)
back Exists k v rest h =
    ap (λ ws. plan_of (text_of name.Exists ∷ k ∷ ws)) (flat_map-keys (pair_words Exists) (λ p. refl) rest)
    ∙ plan_of-Exists (k, v) rest (rest-of-slot Exists k v rest h.one_slot) (plain-words ((k, v) ∷ rest) h.values)
back MGet k v rest h =
    ap (λ ws. plan_of (text_of name.MGet ∷ k ∷ ws)) (flat_map-keys (pair_words MGet) (λ p. refl) rest)
    ∙ plan_of-MGet (k, v) rest (rest-of-slot MGet k v rest h.one_slot) (plain-words ((k, v) ∷ rest) h.values)
back MSet k v rest h = plan_of-MSet (k, v) rest (rest-of-slot MSet k v rest h.one_slot)

pub planned-back : PlannedBack
planned-back c h = back c.op c.key c.arg c.rest h
