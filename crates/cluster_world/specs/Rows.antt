-- Rows: how many things of one kind a list has, and how many of them, the first ones, are over.
-- Only private functions cite it.
use Rattle.std.specs.Prelude.{◌≡◌, ◌↔◌, ◌<◌, ◌≤◌, ◌+◌, ℕ, zero, suc, Bool, true, List, [], ◌∷◌, length, if◌then◌else◌, Some, slice_get, unwrap_or}
use Rattle.std.specs.HashMap.{HashMap, get}
use Rattle.cluster_world.specs.declared.rows.Row.{Row}

abbrev pub no_row : Row
no_row = record { count = 0; over = 0 }

-- the row of a key; one that is not there is empty
abbrev pub row_at : {K S : Type 0} → (K → K → Bool) → HashMap K Row S → K → Row
row_at same rows key = unwrap_or (get same rows key) no_row

abbrev pub one_more : Row → Row
one_more r = record r { count = r.count + 1 }

abbrev pub one_over : Row → Row
one_over r = record r { over = r.over + 1 }

-- how many of the first `i` are of the kind
abbrev pub rank : {X : Type 0} → (X → Bool) → List X → ℕ → ℕ
rank p [] i = 0
rank p (x ∷ xs) zero = 0
rank p (x ∷ xs) (suc i) = (if p x then 1 else 0) + rank p xs i

-- `row.count` things are of the kind, and the first of them are over
pub record IsRow {X : Type 0} (p : X → Bool) (Over : X → Type 0) (xs : List X) (row : Row) : Type 0 where
  pub counted : row.count ≡ rank p xs (length xs)
  pub within : row.over ≤ row.count
  pub over : (i : ℕ) (x : X) → slice_get xs i ≡ Some x → p x ≡ true → Over x ↔ (rank p xs i < row.over)

-- `row.count` things are of the kind, and the first of them are over; so may others be
pub record IsRowSoFar {X : Type 0} (p : X → Bool) (Over : X → Type 0) (xs : List X) (row : Row) : Type 0 where
  pub counted : row.count ≡ rank p xs (length xs)
  pub within : row.over ≤ row.count
  pub over : (i : ℕ) (x : X) → slice_get xs i ≡ Some x → p x ≡ true → rank p xs i < row.over → Over x
