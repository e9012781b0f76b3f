-- Comparing the items of two arrays one after another.
use Rattle.std.proofs.Common.{◌≡◌, ◌≢◌, suc, ◌&&◌, Bool, true, false, List, [], ◌∷◌, length, map, refl, sym, ◌∙◌, ap, arith}
use Rattle.std.proofs.lemmas.List.{length-map}
use Rattle.resp_wire.specs.Data.{Data}
use Rattle.resp_wire.specs.Seen.{data_of}
use Rattle.resp_wire.specs.Same.{same_data, same_list}
use Rattle.resp_wire.specs.declared.value.Value.{Value}

and_false : (b : Bool) → (b && false) ≡ false
and_false true = refl
and_false false = refl

pub other_length : (a b : List Data) → length a ≢ length b → same_list a b ≡ false
other_length [] [] h = absurd (h refl)
other_length [] (e ∷ b) h = refl
other_length (d ∷ a) [] h = refl
other_length (d ∷ a) (e ∷ b) h = rw (other_length a b (λ k. h (ap suc k))) (and_false (same_data d e))

pub other_count : (xs ys : List Value) (a b : List Data) → map data_of xs ≡ a → map data_of ys ≡ b → length xs ≢ length ys → false ≡ same_list a b
other_count xs ys a b p q h =
    let n : length a ≢ length b = λ e. h (sym (length-map xs data_of) ∙ ap length p ∙ e ∙ sym (ap length q) ∙ length-map ys data_of) in
    sym (other_length a b n)

abbrev pub same_of : List Value → List Value → Bool
same_of xs ys = same_list (map data_of xs) (map data_of ys)

-- one item differs
pub differs : (xs ys rest left : List Value) (x y : Value) (all : Bool) → xs ≡ x ∷ rest → ys ≡ y ∷ left → false ≡ same_data (data_of x) (data_of y) → same_of xs ys ≡ all → false ≡ all
differs xs ys rest left x y all p q d e =
    let one : (same_data (data_of x) (data_of y) && same_of rest left) ≡ false = rw (sym d) refl in
    sym (sym e ∙ (λ i. same_of (p i) (q i)) ∙ one)

-- one item is the same
pub goes_on : (xs ys rest left : List Value) (x y : Value) (all : Bool) → xs ≡ x ∷ rest → ys ≡ y ∷ left → true ≡ same_data (data_of x) (data_of y) → (length xs ≡ length ys) × (same_of xs ys ≡ all) → (length rest ≡ length left) × (same_of rest left ≡ all)
goes_on xs ys rest left x y all p q d e =
    let one : (same_data (data_of x) (data_of y) && same_of rest left) ≡ same_of rest left = rw (sym d) refl in
    let m = ap length p in
    let n = ap length q in
    (omega (arith, m, n, e.0), sym one ∙ sym (λ i. same_of (p i) (q i)) ∙ e.1)

-- none is left
pub ended : (xs ys : List Value) (all : Bool) → length xs ≡ 0 → (length xs ≡ length ys) × (same_of xs ys ≡ all) → true ≡ all
ended [] [] all h e = e.1
ended [] (y ∷ ys) all h e = absurd (omega (arith, e.0))
ended (x ∷ xs) ys all h e = absurd (omega arith)
