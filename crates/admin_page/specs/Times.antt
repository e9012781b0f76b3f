-- How long requests took, as a histogram: how many fell below each bound, and all their time together.
use Rattle.std.specs.Prelude.{ℕ, ◌+◌, ◌-◌, ◌/◌, ◌%◌, ◌^◌, List, [], ◌∷◌, ◌++◌, nat_le, min, codes, decimal, nat_eq, if◌then◌else◌, drop, take, fold, position, slice_get, unwrap_or}

-- the bounds in microseconds; what is above the last is in a bucket of its own
abbrev pub bounds : List ℕ
bounds = 250 ∷ 500 ∷ 1000 ∷ 2500 ∷ 5000 ∷ 10000 ∷ 25000 ∷ 50000 ∷ 100000 ∷ 250000 ∷ 500000 ∷ 1000000 ∷ 2500000 ∷ 5000000 ∷ 10000000 ∷ []

-- the first bucket whose bound is not below the time
abbrev pub bucket_of : ℕ → ℕ
bucket_of micros = unwrap_or (position (λ bound. nat_le micros bound) bounds) 15

-- the bound of the bucket at a place; 0 of the last, which has none
abbrev pub bound_at : ℕ → ℕ
bound_at place = unwrap_or (slice_get bounds place) 0

-- a sum that is kept in 64 bits, and stays at their last value
abbrev pub plus : ℕ → ℕ → ℕ
plus a b = min (a + b) (2 ^ 64 - 1)

-- how many were counted in these buckets
abbrev pub total : List ℕ → ℕ
total counts = fold plus 0 counts

-- how many were counted in the bucket and those before it
abbrev pub up_to : ℕ → List ℕ → ℕ
up_to place counts = total (take (place + 1) counts)

-- microseconds in seconds, with six places behind the point
abbrev pub seconds_text : ℕ → List ℕ
seconds_text micros = decimal (micros / 1000000) ++ codes "." ++ drop 1 (decimal (1000000 + micros % 1000000))

-- a bound in seconds
abbrev pub bound_text : ℕ → List ℕ
bound_text bound = if nat_eq bound 0 then codes "+Inf" else seconds_text bound
