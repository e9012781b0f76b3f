-- Digits, one more at a time.
use Rattle.std.proofs.Common.{◌≡◌, ◌⊎◌, inl, inr, ℕ, ◌+◌, ◌-◌, ◌*◌, ◌<◌, ◌≤◌, ◌==◌, not, ◌&&◌, List, [], ◌∷◌, length, get_or, Some, None, Bool, true, false, refl, sym, ap, ◌∙◌, arith}
use Rattle.std.specs.Prelude.{nat_lt, cond}
use Rattle.std.specs.List.{list_all}
use Rattle.std.proofs.lemmas.Bool.Decides.{nat_tests}
use Rattle.cluster_world.proofs.Pieces.{and-false}
use Rattle.cluster_world.specs.Script.{below, digits_after, is_digit, number_below}

-- further digits make it no smaller
grows : (n : ℕ) (word : List ℕ) → n ≤ digits_after n word
grows n [] = omega arith
grows n (b ∷ bs) = let more = grows (n * 10 + (b - 48)) bs in omega (arith, more)

pub no_digits : (bound : ℕ) (word : List ℕ) → list_all is_digit word ≡ false → None ≡ number_below bound word
unfolding number_below
no_digits bound word wrong =
    let test = ap (λ b. not (length word == 0) && b) wrong ∙ and-false (not (length word == 0)) in
    sym (ap (λ b. below bound (cond b (Some (digits_after 0 word)) None)) test)

pub too_large : (bound : ℕ) (word : List ℕ) → bound ≤ digits_after 0 word → None ≡ number_below bound word
unfolding number_below
too_large bound word large = go (not (length word == 0) && list_all is_digit word)
  where
    over : nat_lt (digits_after 0 word) bound ≡ false
    over = grind (arith, nat_tests, large)

    go : (b : Bool) → None ≡ below bound (cond b (Some (digits_after 0 word)) None)
    go true = sym (ap (λ t. cond t (Some (digits_after 0 word)) None) over)
    go false = refl

pub is_number : (bound : ℕ) (word : List ℕ) (value : ℕ) → 0 < length word → list_all is_digit word ≡ true → value ≡ digits_after 0 word → value < bound
    → Some value ≡ number_below bound word
unfolding number_below
is_number bound word value some digits is fits =
    let under : nat_lt (digits_after 0 word) bound ≡ true = grind (arith, nat_tests, is, fits) in
    let there : not (length word == 0) ≡ true = ap not (let no_zero : (length word == 0) ≡ false = grind (arith, nat_tests, some) in no_zero) in
    let test = ap (λ t. t && list_all is_digit word) there ∙ digits in
    ap Some is ∙ sym (ap (λ t. below bound (cond t (Some (digits_after 0 word)) None)) test ∙ ap (λ t. cond t (Some (digits_after 0 word)) None) under)

pub stops : (bound : ℕ) (word rest : List ℕ) (value : ℕ) → 1 ≤ length rest → digits_after value rest ≡ digits_after 0 word → list_all is_digit rest ≡ list_all is_digit word
    → (is_digit (get_or rest 0 0) ≡ false) ⊎ (bound ≤ value * 10 + (get_or rest 0 0 - 48)) → None ≡ number_below bound word
stops bound word [] value some same all why = absurd (omega (arith, some))
stops bound word (b ∷ bs) value some same all (inl wrong) = no_digits bound word (sym all ∙ ap (λ t. t && list_all is_digit bs) wrong)
stops bound word (b ∷ bs) value some same all (inr large) =
    too_large bound word (let more = grows (value * 10 + (b - 48)) bs in omega (arith, more, large, same))

pub none_left : (rest : List ℕ) → length rest < 1 → rest ≡ []
none_left [] none = refl
none_left (b ∷ bs) none = absurd (omega (arith, none))
