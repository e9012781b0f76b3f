-- Several lists woven into one.
-- For MGET over several slots: the k-th value is the next one of the part that has the k-th key. None where the lists
-- don't fit the numbers.
use Rattle.std.specs.Prelude.{ℕ, zero, suc, List, [], ◌∷◌, drop, if◌then◌else◌, Option, None, Some, option_map, slice_index_or, length, ◌==◌}
use Rattle.std.specs.List.{list_all, slice_get}

-- the lists, without the first item of the one at a place
abbrev pub advanced : {A : Type 0} → List (List A) → ℕ → List (List A)
advanced [] n = []
advanced (xs ∷ lists) zero = drop 1 xs ∷ lists
advanced (xs ∷ lists) (suc n) = xs ∷ advanced lists n

abbrev pub led_by : {A : Type 0} → Option A → Option (List A) → Option (List A)
led_by None rest = None
led_by (Some x) rest = option_map (λ xs. x ∷ xs) rest

-- for each number the next item of the list at that place, where this takes all the items
abbrev pub woven : {A : Type 0} → List ℕ → List (List A) → Option (List A)
woven [] lists = if list_all (λ xs. length xs == 0) lists then Some [] else None
woven (n ∷ numbers) lists = led_by (slice_get (slice_index_or lists n []) 0) (woven numbers (advanced lists n))
