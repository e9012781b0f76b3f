-- A piece of the bytes that wait to be written. Only private functions cite it.
use Rattle.std.specs.Prelude.{◌++◌, List, [], ℕ, Option, Some, None}
use Rattle.node_link.specs.declared.piece.Piece.{Piece}

abbrev pub word_in : Option (List ℕ) → List ℕ
word_in None = []
word_in (Some word) = word

-- what is spelled, and behind it the large word
abbrev pub bytes_in : Piece → List ℕ
bytes_in piece = piece.spelled.items ++ word_in piece.word
