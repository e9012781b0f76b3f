-- The groups when one more key comes.
use Rattle.std.proofs.Common.{◌≡◌, ◌≢◌, ℕ, suc, ◌+◌, ◌<◌, ◌≤◌, List, [], ◌∷◌, ◌++◌, map, set, length, get_or, Bool, true, false, not, cond, ◌||◌, eqb, Option, None, Some, refl, sym, ap, ◌∙◌, subst, arith}
use Rattle.std.specs.Prelude.{nat_eq}
use Rattle.std.specs.List.{filter, list_any, position, position_or_len}
use Rattle.std.proofs.lemmas.Bool.{eqb-true, eqb-false, eq-eqb, ne_eqb, or_parts, or_from, or_left, or_right, cond_both, cond-true, cond-false, true≢false}
use Rattle.std.proofs.lemmas.List.{append-nil, length-map}
use Rattle.std.proofs.lemmas.Simd.{map-map}
use Rattle.std.specs.Ordering.{nat_cmp}
use Rattle.std.specs.List.{IsDistinct, AllByRecursion}
use Rattle.std.proofs.lemmas.Map.Steps.{length-le_from_distinct_below}
use Rattle.std.specs.BTreeMap.{is_at}
use Rattle.slot_hash.specs.Slot.{slot_of}
use Rattle.std.proofs.lemmas.Bool.Decides.{nat_tests}
use Rattle.std.proofs.lemmas.Grind.{common_steps}
use Rattle.std.proofs.lemmas.List.{map-append}
use Rattle.std.proofs.lemmas.List.Elements.{filter-append}
use Rattle.std.proofs.lemmas.List.Folds.{position_or_len_push}
use Rattle.std.proofs.lemmas.Map.Views.{any-filter_same}
use Rattle.key_split.specs.declared.part.Op.{Op}
use Rattle.key_split.specs.PartModel.{PartModel, Pair}
use Rattle.key_split.specs.Groups.{slot_at, slots, of_slot, groups, group_numbers, on_group, parts_of}

-- the number is among the numbers
abbrev pub among : ℕ → List ℕ → Bool
among n ns = list_any (nat_eq n) ns

abbrev without : ℕ → List ℕ → List ℕ
without x ns = filter (λ n. not (nat_eq x n)) ns

not_without : (x n : ℕ) (ns : List ℕ) → nat_eq n x ≡ false → among n (without x ns) ≡ among n ns
not_without x n ns h = any-filter_same (nat_eq n) (λ m. not (nat_eq x m)) true (λ m e. grind (arith, nat_tests)) ns

none_without : (x : ℕ) (ns : List ℕ) → among x (without x ns) ≡ false
none_without x ns = any-filter_same (nat_eq x) (λ m. not (nat_eq x m)) false (λ m e. ap not e) ns

-- no number twice
abbrev pub Apart : List ℕ → Type 0
Apart [] = Unit {0}
Apart (n ∷ ns) = (among n ns ≡ false) × Apart ns

none-filter : (t p : ℕ → Bool) (ns : List ℕ) → list_any t ns ≡ false → list_any t (filter p ns) ≡ false
none-filter t p [] h = refl
none-filter t p (n ∷ ns) h =
    let e = or_parts (t n) (list_any t ns) h in
    cond_both (p n) (n ∷ filter p ns) (filter p ns) (λ ms. list_any t ms ≡ false) (λ _. or_from (t n) _ e.0 (none-filter t p ns e.1)) (λ _. none-filter t p ns e.1)

Apart-filter : (p : ℕ → Bool) (ns : List ℕ) → Apart ns → Apart (filter p ns)
Apart-filter p [] h = tt
Apart-filter p (n ∷ ns) h =
    cond_both (p n) (n ∷ filter p ns) (filter p ns) Apart (λ _. (none-filter (nat_eq n) p ns h.0, Apart-filter p ns h.1)) (λ _. Apart-filter p ns h.1)

pub Apart-slots : (ps : List Pair) → Apart (slots ps)
Apart-slots [] = tt
Apart-slots (p ∷ ps) = (none_without (slot_at p) (slots ps), Apart-filter _ (slots ps) (Apart-slots ps))

-- an element of the list without x is in the list
among-cons : (n x : ℕ) (ns : List ℕ) → among n (x ∷ without x ns) ≡ (nat_eq n x || among n ns)
among-cons n x ns = at (nat_eq n x) refl
  where
    at : (b : Bool) → nat_eq n x ≡ b → (b || among n (without x ns)) ≡ (b || among n ns)
    at true e = refl
    at false e = not_without x n ns e

-- the slots with one more
abbrev one_more : ℕ → List ℕ → List ℕ
one_more s ns = cond (among s ns) ns (ns ++ s ∷ [])

without-append : (x : ℕ) (ns ms : List ℕ) → without x (ns ++ ms) ≡ without x ns ++ without x ms
without-append x ns ms = filter-append _ ns ms

slots-step : (x s : ℕ) (ns : List ℕ) (b c : Bool) → nat_eq s x ≡ b → among s ns ≡ c
    → x ∷ without x (cond c ns (ns ++ s ∷ [])) ≡ cond (b || c) (x ∷ without x ns) (x ∷ without x ns ++ s ∷ [])
slots-step x s ns b true e f = grind (arith, nat_tests, common_steps)
slots-step x s ns true false e f = ap (λ ms. x ∷ ms) (without-append x ns (s ∷ []) ∙ ap (λ t. without x ns ++ cond (not t) (s ∷ []) []) (eq-eqb x s (sym (eqb-true s x e))) ∙ append-nil (without x ns))
slots-step x s ns false false e f =
    ap (λ ms. x ∷ ms) (without-append x ns (s ∷ []) ∙ ap (λ t. without x ns ++ cond (not t) (s ∷ []) []) (ne_eqb x s (λ q. eqb-false s x e (sym q))))

pub slots-push : (ps : List Pair) (p : Pair) → slots (ps ++ p ∷ []) ≡ one_more (slot_at p) (slots ps)
slots-push [] p = refl
slots-push (q ∷ ps) p =
    ap (λ ns. slot_at q ∷ without (slot_at q) ns) (slots-push ps p)
    ∙ slots-step (slot_at q) (slot_at p) (slots ps) _ _ refl refl
    ∙ ap (λ b. cond b (slots (q ∷ ps)) (slots (q ∷ ps) ++ slot_at p ∷ [])) (sym (among-cons (slot_at p) (slot_at q) (slots ps)))

next : (n : ℕ) → 1 + n ≡ suc n
next n = omega arith

-- where functions differ at one number alone
same-off : {A : Type 0} (f g : ℕ → A) (s : ℕ) (ns : List ℕ) → among s ns ≡ false → ((n : ℕ) → nat_eq s n ≡ false → g n ≡ f n) → map g ns ≡ map f ns
same-off f g s [] h k = refl
same-off f g s (n ∷ ns) h k =
    let e = or_parts (nat_eq s n) (among s ns) h in
    ap (λ y. y ∷ map g ns) (k n e.0) ∙ ap (λ ys. f n ∷ ys) (same-off f g s ns e.1 k)

abbrev pub place : ℕ → List ℕ → ℕ
place s ns = position_or_len (nat_eq s) ns

pub set-at : {A : Type 0} (f g : ℕ → A) (s : ℕ) (ns : List ℕ) → Apart ns → among s ns ≡ true → ((n : ℕ) → nat_eq s n ≡ false → g n ≡ f n) → map g ns ≡ set (map f ns) (place s ns) (g s)
set-at f g s [] a h k = absurd (true≢false (sym h))
set-at f g s (n ∷ ns) a h k = at (λ e. set-at f g s ns a.1 (ap (λ b. b || among s ns) (sym e) ∙ h) k) (nat_eq s n) refl
  where
    at : (nat_eq s n ≡ false → map g ns ≡ set (map f ns) (place s ns) (g s)) → (b : Bool) → nat_eq s n ≡ b → g n ∷ map g ns ≡ set (f n ∷ map f ns) (cond (not b) (1 + place s ns) 0) (g s)
    at later true e =
        ap (λ m. g m ∷ map g ns) (sym (eqb-true s n e)) ∙ ap (λ ys. g s ∷ ys) (same-off f g s ns (ap (λ m. among m ns) (eqb-true s n e) ∙ a.0) k)
    at later false e = ap (λ y. y ∷ map g ns) (k n e) ∙ ap (λ ys. f n ∷ ys) (later e) ∙ ap (λ i. set (f n ∷ map f ns) i (g s)) (sym (next (place s ns)))

-- the group of a slot with one more key
of_slot-push : (ps : List Pair) (p : Pair) (s : ℕ) → of_slot (ps ++ p ∷ []) s ≡ of_slot ps s ++ cond (nat_eq s (slot_at p)) (p ∷ []) []
of_slot-push ps p s = filter-append _ ps (p ∷ [])

of_slot-other : (ps : List Pair) (p : Pair) (s : ℕ) → nat_eq (slot_at p) s ≡ false → of_slot (ps ++ p ∷ []) s ≡ of_slot ps s
of_slot-other ps p s e =
    of_slot-push ps p s ∙ ap (λ b. of_slot ps s ++ cond b (p ∷ []) []) (ne_eqb s (slot_at p) (λ q. eqb-false (slot_at p) s e (sym q))) ∙ append-nil _

of_slot-own : (ps : List Pair) (p : Pair) → of_slot (ps ++ p ∷ []) (slot_at p) ≡ of_slot ps (slot_at p) ++ p ∷ []
of_slot-own ps p = of_slot-push ps p (slot_at p) ∙ ap (λ b. of_slot ps (slot_at p) ++ cond b (p ∷ []) []) (eq-eqb (slot_at p) (slot_at p) refl)

-- the group of a slot that no key has
no-group : (ps : List Pair) (s : ℕ) → among s (slots ps) ≡ false → of_slot ps s ≡ []
no-group [] s h = refl
no-group (q ∷ ps) s h =
    let e = or_parts _ _ (sym (among-cons s (slot_at q) (slots ps)) ∙ h) in
    ap (λ b. cond b (q ∷ of_slot ps s) (of_slot ps s)) e.0 ∙ no-group ps s e.1

-- the first key of a group has its slot
abbrev pub Begins : List Pair → ℕ → Type 0
Begins ps s = (first : Pair) × (rest : List Pair) × (of_slot ps s ≡ first ∷ rest) × (slot_at first ≡ s)

pub group-begins : (ps : List Pair) (s : ℕ) → among s (slots ps) ≡ true → Begins ps s
group-begins [] s h = absurd (true≢false (sym h))
group-begins (q ∷ ps) s h =
    at (λ e. group-begins ps s (ap (λ b. b || among s (slots ps)) (sym e) ∙ sym (among-cons s (slot_at q) (slots ps)) ∙ h)) (nat_eq s (slot_at q)) refl
  where
    at : (nat_eq s (slot_at q) ≡ false → Begins ps s) → (b : Bool) → nat_eq s (slot_at q) ≡ b → Begins (q ∷ ps) s
    at later true e = (q, of_slot ps s, ap (λ b. cond b (q ∷ of_slot ps s) (of_slot ps s)) e, sym (eqb-true s _ e))
    at later false e =
        let r = later e in
        (r.0, r.1, ap (λ b. cond b (q ∷ of_slot ps s) (of_slot ps s)) e ∙ r.2, r.3)

-- the parts with one more key: of a slot that is there
pub parts-own : (o : Op) (ps : List Pair) (p : Pair) → among (slot_at p) (slots ps) ≡ true
    → parts_of o (ps ++ p ∷ []) ≡ set (parts_of o ps) (place (slot_at p) (slots ps)) (on_group o (of_slot ps (slot_at p) ++ p ∷ []))
parts-own o ps p h =
    map-map (on_group o) (of_slot (ps ++ p ∷ [])) (slots (ps ++ p ∷ []))
    ∙ ap (map (λ s. on_group o (of_slot (ps ++ p ∷ []) s))) (slots-push ps p ∙ cond-true _ _ _ h)
    ∙ set-at (λ s. on_group o (of_slot ps s)) (λ s. on_group o (of_slot (ps ++ p ∷ []) s)) (slot_at p) (slots ps) (Apart-slots ps) h (λ s e. ap (on_group o) (of_slot-other ps p s e))
    ∙ ap (λ c. set (map (λ s. on_group o (of_slot ps s)) (slots ps)) (place (slot_at p) (slots ps)) (on_group o c)) (of_slot-own ps p)
    ∙ ap (λ cs. set cs (place (slot_at p) (slots ps)) (on_group o (of_slot ps (slot_at p) ++ p ∷ []))) (sym (map-map (on_group o) (of_slot ps) (slots ps)))

-- and of a slot that is not
pub parts-new : (o : Op) (ps : List Pair) (p : Pair) → among (slot_at p) (slots ps) ≡ false
    → parts_of o (ps ++ p ∷ []) ≡ parts_of o ps ++ on_group o (p ∷ []) ∷ []
parts-new o ps p h =
    map-map (on_group o) (of_slot (ps ++ p ∷ [])) (slots (ps ++ p ∷ []))
    ∙ ap (map (λ s. on_group o (of_slot (ps ++ p ∷ []) s))) (slots-push ps p ∙ cond-false _ _ _ h)
    ∙ map-append _ (slots ps) (slot_at p ∷ [])
    ∙ ap (λ cs. cs ++ on_group o (of_slot (ps ++ p ∷ []) (slot_at p)) ∷ []) (same-off (λ s. on_group o (of_slot ps s)) (λ s. on_group o (of_slot (ps ++ p ∷ []) s)) (slot_at p) (slots ps) h (λ s e. ap (on_group o) (of_slot-other ps p s e)))
    ∙ ap (λ c. map (λ s. on_group o (of_slot ps s)) (slots ps) ++ on_group o c ∷ []) (of_slot-own ps p ∙ ap (λ c. c ++ p ∷ []) (no-group ps (slot_at p) h))
    ∙ ap (λ cs. cs ++ on_group o (p ∷ []) ∷ []) (sym (map-map (on_group o) (of_slot ps) (slots ps)))

-- a number that is there has its place within
pub place-within : (s : ℕ) (ns : List ℕ) → among s ns ≡ true → place s ns < length ns
place-within s [] h = absurd (true≢false (sym h))
place-within s (n ∷ ns) h = at (λ e. place-within s ns (ap (λ b. b || among s ns) (sym e) ∙ h)) (nat_eq s n) refl
  where
    at : (nat_eq s n ≡ false → place s ns < length ns) → (b : Bool) → nat_eq s n ≡ b → cond (not b) (1 + place s ns) 0 < length (n ∷ ns)
    at later true e = omega arith
    at later false e = let k = later e in omega arith

pub place-none : (s : ℕ) (ns : List ℕ) → among s ns ≡ false → place s ns ≡ length ns
place-none s [] h = refl
place-none s (n ∷ ns) h =
    let e = or_parts (nat_eq s n) (among s ns) h in
    ap (λ b. cond (not b) (1 + place s ns) 0) e.0 ∙ (let k = place-none s ns e.1 in omega arith)

place-stays : (s t : ℕ) (ns : List ℕ) → among t ns ≡ true → place t (ns ++ s ∷ []) ≡ place t ns
place-stays s t ns h =
    let k = place-within t ns h in
    position_or_len_push (nat_eq t) ns s ∙ cond-false _ _ _ (ne_eqb (place t ns) (length ns) (λ e. omega arith))

place-last : (s : ℕ) (ns : List ℕ) → among s ns ≡ false → place s (ns ++ s ∷ []) ≡ length ns
place-last s ns h =
    let k = place-none s ns h in
    position_or_len_push (nat_eq s) ns s ∙ cond-true _ _ _ (eq-eqb _ _ k) ∙ ap (λ b. length ns + cond b 0 1) (eq-eqb s s refl) ∙ (omega arith)

-- each key's slot is among the slots
abbrev pub AllAmong : List Pair → List ℕ → Type 0
AllAmong [] ns = Unit {0}
AllAmong (p ∷ ps) ns = (among (slot_at p) ns ≡ true) × AllAmong ps ns

all-among-cons : (ps : List Pair) (x : ℕ) (ns : List ℕ) → AllAmong ps ns → AllAmong ps (x ∷ without x ns)
all-among-cons [] x ns h = tt
all-among-cons (p ∷ ps) x ns h = (among-cons (slot_at p) x ns ∙ or_right _ _ h.0, all-among-cons ps x ns h.1)

pub all-among : (ps : List Pair) → AllAmong ps (slots ps)
all-among [] = tt
all-among (p ∷ ps) = (or_left _ _ (eq-eqb (slot_at p) (slot_at p) refl), all-among-cons ps (slot_at p) (slots ps) (all-among ps))

numbers-stay : (s : ℕ) (ps : List Pair) (ns : List ℕ) → AllAmong ps ns → map (λ p. place (slot_at p) (ns ++ s ∷ [])) ps ≡ map (λ p. place (slot_at p) ns) ps
numbers-stay s [] ns h = refl
numbers-stay s (p ∷ ps) ns h = ap (λ k. k ∷ map (λ p. place (slot_at p) (ns ++ s ∷ [])) ps) (place-stays s (slot_at p) ns h.0) ∙ ap (λ ks. place (slot_at p) ns ∷ ks) (numbers-stay s ps ns h.1)

pub numbers-own : (ps : List Pair) (p : Pair) → among (slot_at p) (slots ps) ≡ true → group_numbers (ps ++ p ∷ []) ≡ group_numbers ps ++ place (slot_at p) (slots ps) ∷ []
numbers-own ps p h =
    ap (λ ns. map (λ q. place (slot_at q) ns) (ps ++ p ∷ [])) (slots-push ps p ∙ cond-true _ _ _ h) ∙ map-append _ ps (p ∷ [])

pub numbers-new : (ps : List Pair) (p : Pair) → among (slot_at p) (slots ps) ≡ false → group_numbers (ps ++ p ∷ []) ≡ group_numbers ps ++ length (slots ps) ∷ []
numbers-new ps p h =
    ap (λ ns. map (λ q. place (slot_at q) ns) (ps ++ p ∷ [])) (slots-push ps p ∙ cond-false _ _ _ h) ∙ map-append _ ps (p ∷ [])
    ∙ ap (λ ks. ks ++ place (slot_at p) (slots ps ++ slot_at p ∷ []) ∷ []) (numbers-stay (slot_at p) ps (slots ps) (all-among ps))
    ∙ ap (λ k. group_numbers ps ++ k ∷ []) (place-last (slot_at p) (slots ps) h)

-- what the place found says
pub found : (s k : ℕ) (ns : List ℕ) → position (nat_eq s) ns ≡ Some k → (among s ns ≡ true) × (k ≡ place s ns)
found s k ns h = at (among s ns) refl
  where
    at : (b : Bool) → among s ns ≡ b → (among s ns ≡ true) × (k ≡ place s ns)
    at true e = let l = place-within s ns e in (e, grind (arith, nat_tests))
    at false e = let l = place-none s ns e in absurd (grind (arith, nat_tests))

pub not-found : (s : ℕ) (ns : List ℕ) → position (nat_eq s) ns ≡ None → among s ns ≡ false
not-found s ns h = at (among s ns) refl
  where
    at : (b : Bool) → among s ns ≡ b → among s ns ≡ false
    at false e = e
    at true e = let l = place-within s ns e in absurd (grind (arith, nat_tests))

pub get-place : {A : Type 0} (f : ℕ → A) (s : ℕ) (ns : List ℕ) (d : A) → among s ns ≡ true → get_or (map f ns) (place s ns) d ≡ f s
get-place f s [] d h = absurd (true≢false (sym h))
get-place f s (n ∷ ns) d h = at (λ e. get-place f s ns d (ap (λ b. b || among s ns) (sym e) ∙ h)) (nat_eq s n) refl
  where
    at : (nat_eq s n ≡ false → get_or (map f ns) (place s ns) d ≡ f s) → (b : Bool) → nat_eq s n ≡ b → get_or (f n ∷ map f ns) (cond (not b) (1 + place s ns) 0) d ≡ f s
    at later true e = ap f (sym (eqb-true s n e))
    at later false e = ap (λ i. get_or (f n ∷ map f ns) i d) (next (place s ns)) ∙ later e

-- the part at the place found
pub record IsPartOf (o : Op) (ps : List Pair) (s : ℕ) (part : PartModel) : Type 0 where
  pub is : part ≡ on_group o (of_slot ps s)
  pub op : part.op ≡ o
  pub slot : slot_of part.key ≡ s
  pub more : (p : Pair) → on_group o (of_slot ps s ++ p ∷ []) ≡ record part { rest = part.rest ++ p ∷ [] }

pub part-of : (o : Op) (ps : List Pair) (s : ℕ) → among s (slots ps) ≡ true → IsPartOf o ps s (on_group o (of_slot ps s))
part-of o ps s h =
    let b = group-begins ps s h in
    let e : of_slot ps s ≡ b.0 ∷ b.1 = b.2 in record {
      is = refl;
      op = ap (λ g. (on_group o g).op) e;
      slot = ap (λ g. slot_of (on_group o g).key) e ∙ b.3;
      more = λ p. ap (λ g. on_group o (g ++ p ∷ [])) e ∙ sym (ap (λ g. record (on_group o g) { rest = (on_group o g).rest ++ p ∷ [] }) e);
    }

pub part-at : (o : Op) (ps : List Pair) (s k : ℕ) (parts : List PartModel) (part : PartModel) → position (nat_eq s) (slots ps) ≡ Some k → parts ≡ parts_of o ps → part ≡ get_or parts k part → IsPartOf o ps s part
part-at o ps s k parts part h is at =
    let f = found s k (slots ps) h in
    subst (IsPartOf o ps s)
    (sym (at ∙ ap (λ cs. get_or cs k part) (is ∙ map-map (on_group o) (of_slot ps) (slots ps))
    ∙ ap (λ j. get_or (map (λ t. on_group o (of_slot ps t)) (slots ps)) j part) f.1
    ∙ get-place (λ t. on_group o (of_slot ps t)) s (slots ps) part f.0)) (part-of o ps s f.0)

position-push : (t s : ℕ) (ns : List ℕ) → among s ns ≡ false → position (nat_eq t) (ns ++ s ∷ []) ≡ cond (is_at (nat_cmp s) t) (Some (length ns)) (position (nat_eq t) ns)
position-push t s ns h = at (among t ns) refl
  where
    at : (b : Bool) → among t ns ≡ b → position (nat_eq t) (ns ++ s ∷ []) ≡ cond (is_at (nat_cmp s) t) (Some (length ns)) (position (nat_eq t) ns)
    at true e =
        let k = place-within t ns e in
        let q = place-stays s t ns e in
        let apart : s ≢ t = (λ w. true≢false (sym e ∙ ap (λ n. among n ns) (sym w) ∙ h)) in grind (arith, nat_tests, common_steps)
    at false e =
        let k = place-none t ns e in
        let q = position_or_len_push (nat_eq t) ns s in grind (arith, nat_tests, common_steps)

none-all : (n : ℕ) (ns : List ℕ) → among n ns ≡ false → AllByRecursion (λ m. eqb n m ≡ false) ns
none-all n [] h = tt
none-all n (m ∷ ns) h = let e = or_parts (nat_eq n m) (among n ns) h in (e.0, none-all n ns e.1)

-- the slots are few
slot-below : (p : Pair) → slot_at p < 16384
unfolding slot_of
slot-below p = omega arith

below-all : (ps : List Pair) (q : ℕ) → among q (slots ps) ≡ true → q < 16384
below-all [] q h = absurd (true≢false (sym h))
below-all (p ∷ ps) q h = at (λ e. below-all ps q (ap (λ b. b || among q (slots ps)) (sym e) ∙ sym (among-cons q (slot_at p) (slots ps)) ∙ h)) (nat_eq q (slot_at p)) refl
  where
    at : (nat_eq q (slot_at p) ≡ false → q < 16384) → (b : Bool) → nat_eq q (slot_at p) ≡ b → q < 16384
    at later true e = subst (λ n. n < 16384) (sym (eqb-true _ _ e)) (slot-below p)
    at later false e = later e

apart-distinct : (ns : List ℕ) → Apart ns → IsDistinct eqb ns
unfolding IsDistinct
apart-distinct [] h = tt
apart-distinct (n ∷ ns) h = (none-all n ns h.0, apart-distinct ns h.1)

pub few-slots : (ps : List Pair) → length (slots ps) ≤ 16384
few-slots ps = length-le_from_distinct_below (slots ps) 16384 (apart-distinct (slots ps) (Apart-slots ps)) (below-all ps)

pub length-parts : (o : Op) (ps : List Pair) → length (parts_of o ps) ≡ length (slots ps)
length-parts o ps = length-map (groups ps) (on_group o) ∙ length-map (slots ps) (of_slot ps)

-- what the loop keeps
abbrev pub Made : Op → List Pair → List PartModel → List ℕ → (ℕ → Option ℕ) → Type 0
Made o ps parts places look = (parts ≡ parts_of o ps) × (places ≡ group_numbers ps) × ((t : ℕ) → look t ≡ position (nat_eq t) (slots ps))

pub made-own : (o : Op) (ps : List Pair) (p : Pair) (s k : ℕ) (parts parts' : List PartModel) (part part' : PartModel) (places places' : List ℕ) (look look' : ℕ → Option ℕ)
    → s ≡ slot_at p → Made o ps parts places look → Some k ≡ look s → part ≡ get_or parts k part → part' ≡ record part { rest = part.rest ++ p ∷ [] }
    → parts' ≡ set parts k part' → places' ≡ places ++ k ∷ [] → ((t : ℕ) → look' t ≡ look t) → Made o (ps ++ p ∷ []) parts' places' look'
made-own o ps p s k parts parts' part part' places places' look look' same m there at more ps' ks' ls' =
    let h = ap (λ t. position (nat_eq t) (slots ps)) (sym same) ∙ sym (m.2 s) ∙ sym there in
    let f = found (slot_at p) k (slots ps) h in
    let i = part-at o ps (slot_at p) k parts part h m.0 at in (
      ps' ∙ ap (λ cs. set cs k part') m.0 ∙ ap (λ j. set (parts_of o ps) j part') f.1
          ∙ ap (λ c. set (parts_of o ps) (place (slot_at p) (slots ps)) c) (more ∙ sym (i.more p)) ∙ sym (parts-own o ps p f.0),
      ks' ∙ ap (λ js. js ++ k ∷ []) m.1 ∙ ap (λ j. group_numbers ps ++ j ∷ []) f.1 ∙ sym (numbers-own ps p f.0),
      λ t. ls' t ∙ m.2 t ∙ ap (position (nat_eq t)) (sym (slots-push ps p ∙ cond-true _ _ _ f.0)),
    )

pub made-new : (o : Op) (ps : List Pair) (p : Pair) (s k : ℕ) (parts parts' : List PartModel) (places places' : List ℕ) (look look' : ℕ → Option ℕ)
    → s ≡ slot_at p → Made o ps parts places look → None ≡ look s → k ≡ length parts
    → parts' ≡ parts ++ on_group o (p ∷ []) ∷ [] → places' ≡ places ++ k ∷ [] → ((t : ℕ) → look' t ≡ cond (is_at (nat_cmp s) t) (Some k) (look t))
    → Made o (ps ++ p ∷ []) parts' places' look'
made-new o ps p s k parts parts' places places' look look' same m there count ps' ks' ls' =
    let f = not-found (slot_at p) (slots ps) (ap (λ t. position (nat_eq t) (slots ps)) (sym same) ∙ sym (m.2 s) ∙ sym there) in
    let n : k ≡ length (slots ps) = count ∙ ap length m.0 ∙ length-parts o ps in (
      ps' ∙ ap (λ cs. cs ++ on_group o (p ∷ []) ∷ []) m.0 ∙ sym (parts-new o ps p f),
      ks' ∙ ap (λ js. js ++ k ∷ []) m.1 ∙ ap (λ j. group_numbers ps ++ j ∷ []) n ∙ sym (numbers-new ps p f),
      λ t. ls' t ∙ ap (cond (is_at (nat_cmp s) t) (Some k)) (m.2 t) ∙ ap (λ j. cond (is_at (nat_cmp s) t) (Some j) (position (nat_eq t) (slots ps))) n
          ∙ ap (λ u. cond (is_at (nat_cmp u) t) (Some (length (slots ps))) (position (nat_eq t) (slots ps))) same
          ∙ sym (position-push t (slot_at p) (slots ps) f) ∙ ap (position (nat_eq t)) (sym (slots-push ps p ∙ cond-false _ _ _ f)),
    )
