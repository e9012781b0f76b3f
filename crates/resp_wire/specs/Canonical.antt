-- The one spelling that is written.
-- No plus sign, no leading zero, no negative zero. Readers accept more spellings; none other is written.
use Rattle.std.specs.Prelude.{ℕ, List, [], ◌∷◌, ◌++◌, length}
use Rattle.std.specs.Fmt.{decimal, signed_decimal}
use Rattle.resp_wire.specs.Data.{Data, Items, simple, error, integer, bulk, null_bulk, array, null_array, no_items, item}
use Rattle.resp_wire.specs.Spelling.{cr, lf, plus, minus, colon, dollar, star, none, count_of}

-- a line, and what follows it
abbrev pub line : ℕ → List ℕ → List ℕ → List ℕ
line kind text more = kind ∷ (text ++ cr ∷ lf ∷ more)

abbrev mutual
  pub canonical : Data → List ℕ
  canonical (simple text) = line plus text []
  canonical (error text) = line minus text []
  canonical (integer z) = line colon (signed_decimal z) []
  canonical (bulk body) = line dollar (decimal (length body)) (body ++ cr ∷ lf ∷ [])
  canonical null_bulk = line dollar none []
  canonical (array vs) = line star (decimal (count_of vs)) (canonical_all vs)
  canonical null_array = line star none []

  pub canonical_all : Items → List ℕ
  canonical_all no_items = []
  canonical_all (item v vs) = canonical v ++ canonical_all vs
