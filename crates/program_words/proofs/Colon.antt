-- Where the last colon of a text stands.
use Rattle.std.proofs.Common.{◌≡◌, ◌≢◌, ◌≤◌, ◌<◌, ◌+◌, ◌-◌, ◌∷◌, List, ℕ, true, false, length, take, drop, get_or, ap, ◌∙◌, subst, arith, length-drop, inl, inr}
use Rattle.std.specs.Prelude.{nat_eq, not}
use Rattle.std.specs.List.{list_any, suffix_len, before_last, after_last}
use Rattle.std.specs.Str.{NoCharPasses}
use Rattle.std.specs.Str.Pattern.{HasCharAt}
use Rattle.std.proofs.lemmas.Bool.Decides.{eqb_tells}
use Rattle.std.proofs.lemmas.List.{get_or-drop}
use Rattle.std.proofs.lemmas.List.Elements.{All-from_get_or}
use Rattle.std.proofs.lemmas.List.Folds.{list_any_at, list_any_none}
use Rattle.std.proofs.lemmas.List.Sums.{suffix_len_is}
use Rattle.std.proofs.lemmas.Str.Pattern.{NoCharPasses-char, drop_at_char}
use Rattle.program_words.specs.Asked.{is_colon}

no_colon : (b : ℕ) → b ≢ 58 → is_colon b ≡ false
no_colon b other = elim (eqb_tells b 58) [ inl h ↦ absurd (other h.1) | inr h ↦ h.0 ]

-- a text with no colon
pub lacks : (text : List ℕ) → NoCharPasses (λ d. nat_eq d 58) text → list_any is_colon text ≡ false
lacks text none =
    list_any_none is_colon text (All-from_get_or (λ b. is_colon b ≡ false) text 0
    (λ k within. no_colon (get_or text k 0) (NoCharPasses-char 58 text k none (omega arith) within)))

-- front and back stand round the last colon
pub record Cut (text : List ℕ) (front back : List ℕ) : Type 0 where
  pub has : list_any is_colon text ≡ true
  pub front_is : front ≡ before_last is_colon text
  pub back_is : back ≡ after_last is_colon text

-- a text round its last colon
pub cut : (text : List ℕ) (i j : ℕ) → NoCharPasses (λ d. nat_eq d 58) (drop j text) → HasCharAt 58 text i j
    → Cut text (take i text) (drop j text)
cut text i j none at =
    let ends : j ≡ i + 1 = at.ends in
    let byte : get_or text i 0 ≡ 58 = at.byte (omega arith) in
    let whole : drop i text ≡ 58 ∷ drop j text = drop_at_char 58 text i j at (omega arith) in
    let more : length (drop i text) ≡ length (58 ∷ drop j text) = ap length whole in
    let within : i < length text = omega (arith, more, length-drop i text) in
    let later : (k : ℕ) → i + 1 ≤ k → k < length text → not (is_colon (get_or text k 0)) ≡ true =
    λ k past below.
    let inside : k - j < length (drop j text) = omega (arith, length-drop j text) in
    let other = NoCharPasses-char 58 (drop j text) (k - j) none (omega arith) inside in
    let place : j + (k - j) ≡ k = omega arith in
    let same : get_or (drop j text) (k - j) 0 ≡ get_or text k 0 = get_or-drop j text (k - j) 0 ∙ ap (λ m. get_or text m 0) place in
    ap not (no_colon (get_or text k 0) (λ e. other (same ∙ e))) in
    let here : i ≡ i + 1 - 1 = omega arith in
    let at_colon : 0 < i + 1 → not (is_colon (get_or text (i + 1 - 1) 0)) ≡ false =
    λ _. subst (λ k. not (is_colon (get_or text k 0)) ≡ false) here (ap not (ap is_colon byte)) in
    let span : suffix_len (λ b. not (is_colon b)) text ≡ length text - (i + 1) =
    suffix_len_is (λ b. not (is_colon b)) text (i + 1) 0 (omega arith) later at_colon in
    record {
      has = list_any_at is_colon text i 0 within (ap is_colon byte);
      front_is = ap (λ k. take k text) (omega (arith, span));
      back_is = ap (λ k. drop k text) (omega (arith, span, ends));
    }
