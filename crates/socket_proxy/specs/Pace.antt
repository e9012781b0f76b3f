-- What a thread does behind a turn.
use Rattle.std.specs.Prelude.{◌≡◌, ◌<◌, ◌≤◌, ◌+◌, ℕ, Bool, true, false}
use Rattle.socket_proxy.specs.declared.pace.Pace.{Pace}
use Rattle.socket_proxy.specs.declared.pace.Next.{Next}
use Rattle.socket_proxy.specs.declared.pace.Next.TheVariants.{Turn, Poll, Sleep}

-- so many turns have moved something since the last poll, and so many in a row nothing
abbrev pub Counts : Pace → ℕ → ℕ → Type 0
Counts pace moving still = (pace.moving ≡ moving) × (pace.still ≡ still)

-- Behind a turn that moved something comes the next, and behind the fourth of these a poll. Behind one that moved nothing comes the next,
-- and behind the third of these in a row the thread sleeps. The turns before a sleep or a poll are then forgotten.
abbrev pub Paces : Pace → Bool → Next → Pace → Type 0
Paces old true Turn new = (old.moving + 1 < 4) × Counts new (old.moving + 1) 0
Paces old true Poll new = (4 ≤ old.moving + 1) × Counts new 0 0
Paces old true Sleep new = ⊥
Paces old false Turn new = (old.still + 1 < 3) × Counts new old.moving (old.still + 1)
Paces old false Poll new = ⊥
Paces old false Sleep new = (3 ≤ old.still + 1) × Counts new 0 0
