-- When a connection that lingers is closed.
use Rattle.std.specs.Prelude.{◌≡◌, ◌⊎◌, ◌<◌, ◌≤◌, ℕ, Bool, true, false}
use Rattle.node_link.specs.declared.stream.Flow.{Flow}
use Rattle.node_link.specs.declared.stream.Flow.TheVariants.{Bytes, Nothing, Gone}

abbrev pub is_gone : Flow → Bool
is_gone (Bytes n) = false
is_gone Nothing = false
is_gone Gone = true

module _ {S : Type 0} (asked : S → ℕ → Flow → S → Type 0) where
  -- what the last read of the stream said: whether the other end has closed it
  abbrev pub SaysGone : Bool → S → Type 0
  SaysGone gone new = (before : S) × (room : ℕ) × (flow : Flow) × asked before room flow new × (gone ≡ is_gone flow)

  -- it is closed where its time is over, and before that just where a read said that the other end has closed it
  abbrev pub Closes : ℕ → ℕ → Bool → S → Type 0
  Closes until now closes new = ((until ≤ now) × (closes ≡ true)) ⊎ ((now < until) × SaysGone closes new)
