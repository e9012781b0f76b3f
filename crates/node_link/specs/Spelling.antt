-- The pieces of which the spelling of a request is made.
-- Only private functions cite it.
use Rattle.std.specs.Prelude.{◌++◌, ◌∷◌, List, [], ℕ, decimal}
use Rattle.std.specs.List.{flat_map}
use Rattle.resp_wire.specs.Canonical.{canonical}
use Rattle.resp_wire.specs.Data.{bulk}

-- a line of a kind and a number
abbrev pub head : ℕ → ℕ → List ℕ
head kind number = kind ∷ (decimal number ++ 13 ∷ 10 ∷ [])

abbrev pub spelled_bulk : List ℕ → List ℕ
spelled_bulk word = canonical (bulk word)

abbrev pub spelled_bulks : List (List ℕ) → List ℕ
spelled_bulks words = flat_map spelled_bulk words
