-- When a node may be dialled again: after a failed dial it is left alone, after each further one twice as long, up to a second.
use Rattle.std.specs.Prelude.{◌+◌, ◌-◌, ◌*◌, ◌^◌, ℕ, min}

-- how many dials failed in a row, and when the next may begin, in milliseconds
pub record Pause : Type 0 where
  pub failures : ℕ
  pub until : ℕ

-- a number that is kept in 64 bits, and stays at their last value
abbrev pub kept : ℕ → ℕ
kept n = min n (2 ^ 64 - 1)

-- how long the pause is after a failure behind that many others, in milliseconds: 50, 100, 200, 400, 800, then 1,000
abbrev pub pause_millis : ℕ → ℕ
pause_millis earlier = min 1000 (50 * 2 ^ earlier)

-- a node that was never dialled, or whose last connection stood
abbrev pub no_pause : Pause
no_pause = record { failures = 0; until = 0 }

-- a dial failed at this time
abbrev pub after_failure : Pause → ℕ → Pause
after_failure old now = record { failures = kept (old.failures + 1); until = kept (now + pause_millis old.failures) }
