-- The keys of the groups, put back by the numbers, are the keys of the request.
use Rattle.std.proofs.Common.{◌≡◌, ℕ, List, [], ◌∷◌, map, length, drop, get_or, true, false, cond, None, Some, refl, sym, ap, ◌∙◌, subst, ◌<◌, ◌==◌, option_map}
use Rattle.std.specs.Prelude.{nat_eq}
use Rattle.std.specs.List.{slice_get, list_all}
use Rattle.std.proofs.lemmas.Bool.{eq-eqb, ne_eqb, eqb-false, or_left, or_right}
use Rattle.std.proofs.lemmas.List.{length-map}
use Rattle.std.proofs.lemmas.Simd.{map-map}
use Rattle.key_split.specs.declared.part.Op.{Op}
use Rattle.key_split.specs.PartModel.{Pair, pairs_in}
use Rattle.key_split.specs.Groups.{slot_at, slots, of_slot, groups, group_numbers, on_group, parts_of}
use Rattle.key_split.specs.Woven.{woven, advanced, led_by}
use Rattle.key_split.specs.Laws.{PutBack}
use Rattle.key_split.proofs.Grouping.{among, group-begins, place, Apart, Apart-slots, AllAmong, all-among, set-at, get-place, place-within}
use Rattle.key_split.proofs.Weaving.{advanced-set}

all-empty : (ns : List ℕ) → list_all (λ xs. length xs == 0) (map (of_slot []) ns) ≡ true
all-empty [] = refl
all-empty (n ∷ ns) = all-empty ns

own-first : (p : Pair) (ps : List Pair) → of_slot (p ∷ ps) (slot_at p) ≡ p ∷ of_slot ps (slot_at p)
own-first p ps = ap (λ b. cond b (p ∷ of_slot ps (slot_at p)) (of_slot ps (slot_at p))) (eq-eqb (slot_at p) (slot_at p) refl)

other-first : (p : Pair) (ps : List Pair) (s : ℕ) → nat_eq (slot_at p) s ≡ false → of_slot (p ∷ ps) s ≡ of_slot ps s
other-first p ps s e = ap (λ b. cond b (p ∷ of_slot ps s) (of_slot ps s)) (ne_eqb s (slot_at p) (λ q. eqb-false (slot_at p) s e (sym q)))

put-back : (ps : List Pair) (ns : List ℕ) → Apart ns → AllAmong ps ns → woven (map (λ p. place (slot_at p) ns) ps) (map (of_slot ps) ns) ≡ Some ps
put-back [] ns a h = ap (λ b. cond b (Some []) None) (all-empty ns)
put-back (p ∷ ps) ns a h =
    let n = place (slot_at p) ns in
    let lists = map (of_slot (p ∷ ps)) ns in
    let numbers = map (λ q. place (slot_at q) ns) ps in
    let at : get_or lists n [] ≡ p ∷ of_slot ps (slot_at p) = get-place (of_slot (p ∷ ps)) (slot_at p) ns [] h.0 ∙ own-first p ps in
    let within : n < length lists = subst (λ k. n < k) (sym (length-map ns (of_slot (p ∷ ps)))) (place-within (slot_at p) ns h.0) in
    let left : advanced lists n ≡ map (of_slot ps) ns =
    advanced-set lists n (of_slot ps (slot_at p)) within (ap (drop 1) (sym at))
    ∙ sym (set-at (of_slot (p ∷ ps)) (of_slot ps) (slot_at p) ns a h.0 (λ s e. sym (other-first p ps s e))) in
    ap (λ xs. led_by (slice_get xs 0) (woven numbers (advanced lists n))) at
    ∙ ap (λ ls. option_map (λ xs. p ∷ xs) (woven numbers ls)) left
    ∙ ap (option_map (λ xs. p ∷ xs)) (put-back ps ns a h.1)

-- a group is the pairs of its part
pairs-on_group : (o : Op) (group : List Pair) (first : Pair) (rest : List Pair) → group ≡ first ∷ rest → pairs_in (on_group o group) ≡ group
pairs-on_group o group first rest e = ap (λ g. pairs_in (on_group o g)) e ∙ sym e

pub pairs-part : (o : Op) (ps : List Pair) (s : ℕ) → among s (slots ps) ≡ true → pairs_in (on_group o (of_slot ps s)) ≡ of_slot ps s
pairs-part o ps s h = let b = group-begins ps s h in pairs-on_group o (of_slot ps s) b.0 b.1 b.2

pairs-some : (o : Op) (ps : List Pair) (ns : List ℕ) → ((n : ℕ) → among n ns ≡ true → among n (slots ps) ≡ true) → map (λ s. pairs_in (on_group o (of_slot ps s))) ns ≡ map (of_slot ps) ns
pairs-some o ps [] h = refl
pairs-some o ps (n ∷ ns) h =
    ap (λ g. g ∷ map (λ s. pairs_in (on_group o (of_slot ps s))) ns) (pairs-part o ps n (h n (or_left _ _ (eq-eqb n n refl))))
    ∙ ap (λ gs. of_slot ps n ∷ gs) (pairs-some o ps ns (λ m e. h m (or_right _ _ e)))

pairs-parts : (o : Op) (ps : List Pair) → map pairs_in (parts_of o ps) ≡ groups ps
pairs-parts o ps =
    map-map pairs_in (on_group o) (groups ps)
    ∙ map-map (λ g. pairs_in (on_group o g)) (of_slot ps) (slots ps)
    ∙ pairs-some o ps (slots ps) (λ n e. e)

pub groups-put-back : PutBack
groups-put-back o pairs = ap (woven (group_numbers pairs)) (pairs-parts o pairs) ∙ put-back pairs (slots pairs) (Apart-slots pairs) (all-among pairs)
