-- What one call on a client's connection moves.
use Rattle.std.specs.Prelude.{◌≤◌, ℕ, ⊤}
use Rattle.node_link.specs.declared.stream.Flow.{Flow}
use Rattle.node_link.specs.declared.stream.Flow.TheVariants.{Bytes, Nothing, Gone}

-- no more bytes than there is room for
abbrev pub IsWithin : Flow → ℕ → Type 0
IsWithin (Bytes n) most = n ≤ most
IsWithin Nothing most = ⊤
IsWithin Gone most = ⊤

-- bytes only where this is so
abbrev pub BytesOnlyIf : Type 0 → Flow → Type 0
BytesOnlyIf so (Bytes n) = so
BytesOnlyIf so Nothing = ⊤
BytesOnlyIf so Gone = ⊤
