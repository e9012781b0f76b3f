-- One item of a list changes.
use Rattle.std.proofs.Common.{◌≡◌, ℕ, ◌<◌, List, length, Some, slice_get, slice_set, get_or, sym, ap, ◌∙◌}
use Rattle.std.proofs.lemmas.Option.{slice_get-get_or}
use Rattle.proxy_lanes.specs.Ends.{ChangesAt}

-- the item at this place was changed, where the index computes to the place
pub changed : {A : Type 0} (R : A → A → Type 0) (xs : List A) (k j : ℕ) (x y : A) → k < length xs → j ≡ k
    → x ≡ get_or xs j x → R x y → ChangesAt xs k (slice_set xs j y) R
changed R xs k j x y below same value is = (
  x,
  y,
  slice_get-get_or xs k x below ∙ ap Some (sym (value ∙ ap (λ n. get_or xs n x) same)),
  ap (λ n. slice_set xs n y) same,
  is,
)

-- the item at this place, where the index computes to the place
pub found : {A : Type 0} (xs : List A) (k j : ℕ) (x : A) → k < length xs → j ≡ k → x ≡ get_or xs j x → slice_get xs k ≡ Some x
found xs k j x below same value = slice_get-get_or xs k x below ∙ ap Some (sym (value ∙ ap (λ n. get_or xs n x) same))
