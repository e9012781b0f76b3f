-- Connections that fail after a number of calls.
use Rattle.std.specs.Prelude.{◌≡◌, ℕ, Option, Some, None}
use Rattle.slot_map.specs.Table.{Endpoint}
use Rattle.node_link.specs.FuseModel.{FuseModel}

-- a new connection, none of whose calls has failed, where the dial below gives one
abbrev pub DialsUnder : {P : Type 0} → (Endpoint → Option P → ℕ → ℕ → Type 0) → Endpoint → Option (FuseModel P) → ℕ → ℕ → Type 0
DialsUnder opens at (Some fused) before now = opens at (Some fused.port) before now × (fused.blown ≡ 0)
DialsUnder opens at None before now = opens at None before now
