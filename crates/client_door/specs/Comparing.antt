-- How a password is compared: byte by byte.
use Rattle.std.specs.Prelude.{ℕ, List, [], ◌∷◌, Bool, false, ◌==◌}

-- the bytes begin with this one
abbrev pub begins_with : List ℕ → ℕ → Bool
begins_with [] byte = false
begins_with (b ∷ bs) byte = b == byte
