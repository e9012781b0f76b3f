-- How large the parts of a value may be.
-- The RESP2 specification names a limit for bulk strings alone (512 MB, as Redis has it); the others are this proxy's.
use Rattle.std.specs.Prelude.{◌≤◌, ℕ}

pub record LimitsModel : Type 0 where
  pub bulk : ℕ  -- bytes of a bulk string
  pub items : ℕ  -- items of an array
  pub depth : ℕ  -- arrays that stand one inside another
  pub line : ℕ  -- bytes of a line, its first byte, CR and LF not counted

-- the largest bounds that a reader may have
abbrev pub full : LimitsModel
full = record { bulk = 536870912; items = 1048576; depth = 8; line = 65536 }

pub record AreAllowed (b : LimitsModel) : Type 0 where
  pub bulk : b.bulk ≤ 536870912
  pub items : b.items ≤ 1048576
  pub depth : b.depth ≤ 8
  pub line : b.line ≤ 65536

abbrev pub bounds_of : ℕ → ℕ → ℕ → ℕ → LimitsModel
bounds_of bulk items depth line = record { bulk = bulk; items = items; depth = depth; line = line }
