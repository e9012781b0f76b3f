-- When the refused commands that wait are due, by the time that a worker's gate tells.
-- Only private functions cite it.
use Rattle.std.specs.Prelude.{◌≡◌, ◌⊎◌, ◌<◌, ◌≤◌, ◌+◌, ◌-◌, ◌^◌, [], ℕ, Bool, true, List, Option, Some, None, min, nat_eq}
use Rattle.std.specs.List.{AllByRecursion, list_any}
use Rattle.std.specs.Ordering.{nat_cmp, ordering_then}
use Rattle.std.specs.declared.cmp.Ordering.{Ordering}
use Rattle.std.specs.declared.cmp.Reverse.{Reverse}
use Rattle.proxy_turns.specs.declared.due_commands.PausedCommand.{PausedCommand}

-- the one that is due first, in front
abbrev pub first_due_first : Reverse PausedCommand → Reverse PausedCommand → Ordering
first_due_first a b = ordering_then (nat_cmp b.0.due a.0.due) (ordering_then (nat_cmp b.0.client a.0.client) (nat_cmp b.0.part a.0.part))

-- what is due then waits at this time; where there is no time nothing does
abbrev pub IsLater : Option ℕ → ℕ → Type 0
IsLater None due = ⊥
IsLater (Some now) due = now < due

-- each of them waits at this time
abbrev pub AreLater : Option ℕ → List (Reverse PausedCommand) → Type 0
AreLater time paused = AllByRecursion (λ p. IsLater time p.0.due) paused

-- none waits, or each does at a time that the gate told
abbrev pub AreAllLater : (Option ℕ → Type 0) → List (Reverse PausedCommand) → Type 0
AreAllLater tells paused = (paused ≡ []) ⊎ ((time : Option ℕ) × tells time × AreLater time paused)

-- A pause ends then that begins at a time that the gate told: at once where there is no pause, or no time.
abbrev pub EndsThen : (Option ℕ → Type 0) → ℕ → Option ℕ → Type 0
EndsThen tells pause None = (pause ≡ 0) ⊎ tells None
EndsThen tells pause (Some due) = (0 < pause) × ((now : ℕ) × tells (Some now) × (due ≡ min (now + pause) (2 ^ 64 - 1)))

-- when the first of them is due
abbrev pub IsFirstDue : List (Reverse PausedCommand) → Option ℕ → Type 0
IsFirstDue paused None = paused ≡ []
IsFirstDue paused (Some due) = (list_any (λ p. nat_eq due p.0.due) paused ≡ true) × AllByRecursion (λ p. due ≤ p.0.due) paused

-- each that waits waited before, until the same time
abbrev pub BeganNone : List (Reverse PausedCommand) → List (Reverse PausedCommand) → Type 0
BeganNone old new = (is : Reverse PausedCommand → Bool) → list_any is new ≡ true → list_any is old ≡ true
