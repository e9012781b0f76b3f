-- What a dial says: which port it gave at the endpoint that was dialled, or that it failed, and that nothing else was dialled.
-- A dial that is under way, or may not begin yet, counts as failed: no connection stands.
use Rattle.std.specs.Prelude.{◌≡◌, ◌<◌, ℕ, Option, Some, None, Result, Ok, Err}
use Rattle.slot_map.specs.Table.{Endpoint}
use Rattle.node_link.specs.declared.dial.DialFault.{DialFault}
use Rattle.node_link.specs.declared.dial.DialFault.TheVariants.{NoMemory, Failed}

abbrev pub OpenOutcome : {P : Type 0} → (Endpoint → Option P → ℕ → ℕ → Type 0) → Endpoint → ℕ → Result P DialFault → ℕ → Type 0
OpenOutcome opens at before (Ok port) now = opens at (Some port) before now
OpenOutcome opens at before (Err NoMemory) now = now ≡ before
OpenOutcome opens at before (Err Failed) now = opens at None before now × (before < now)
