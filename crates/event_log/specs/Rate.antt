-- How many lines of one kind are written: at most one an interval; the next tells how many were left out.
use Rattle.std.specs.Prelude.{◌≡◌, ◌+◌, ◌-◌, ◌^◌, ◌<◌, ◌≤◌, ℕ, Option, Some, None, min}

-- when the next line may be written, and how many were left out since the last
pub record Limit : Type 0 where
  pub next : ℕ
  pub left_out : ℕ

-- a number that is kept in 64 bits, and stays at their last value
abbrev pub kept : ℕ → ℕ
kept n = min n (2 ^ 64 - 1)

-- at this time a line is asked for: it comes, with the count of those left out, or is left out itself
abbrev pub Admits : ℕ → Limit → ℕ → Option ℕ → Limit → Type 0
Admits interval old now (Some count) new =
    (old.next ≤ now) × (count ≡ old.left_out) × (new ≡ record { next = kept (now + interval); left_out = 0 })
Admits interval old now None new =
    (now < old.next) × (new ≡ record { next = old.next; left_out = kept (old.left_out + 1) })
