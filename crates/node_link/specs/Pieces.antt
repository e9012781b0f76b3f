-- Bytes that wait to be written, in pieces, of which only the last grows; behind them stand those of a request that is being
-- spelled, which may have filled some of the pieces. Only private functions cite it.
use Rattle.std.specs.Prelude.{◌≡◌, ◌≤◌, ◌+◌, ◌-◌, ◌++◌, ◌∷◌, List, [], ℕ, drop, length, take}
use Rattle.std.specs.List.{AllByRecursion, flat_map}
use Rattle.node_link.specs.Bytes.{least_offer}
use Rattle.node_link.specs.Piece.{bytes_in}
use Rattle.node_link.specs.declared.piece.Piece.{Piece}
use Rattle.node_link.specs.declared.pieces.Pieces.{Pieces}

-- the bytes of the first piece, where those of the last are these
abbrev pub first_of : List Piece → List ℕ → List ℕ
first_of [] last = last
first_of (piece ∷ later) last = bytes_in piece

-- what is spelled in the first piece
abbrev pub spelled_first : List Piece → List ℕ → List ℕ
spelled_first [] last = last
spelled_first (piece ∷ later) last = piece.spelled.items

-- the bytes of all pieces
abbrev pub joined : List Piece → List ℕ → List ℕ
joined full last = flat_map bytes_in full ++ last

-- the full pieces of whole requests alone
abbrev pub whole_in : Pieces → List Piece
whole_in pieces = take (length pieces.full.items - pieces.drafted) pieces.full.items

-- the full pieces from the one on in which the request that is being spelled began
abbrev pub drafted_in : Pieces → List Piece
drafted_in pieces = drop (length pieces.full.items - pieces.drafted) pieces.full.items

-- all bytes from that piece on
abbrev pub begun_in : Pieces → List ℕ
begun_in pieces = joined (drafted_in pieces) pieces.last.items

-- those of them that are of whole requests
abbrev pub finished_in : Pieces → List ℕ
finished_in pieces = take pieces.finished (begun_in pieces)

-- the bytes of whole requests that wait, how many of them the stream left, and those of a request that is being spelled
pub record PiecesModel : Type 0 where
  pub bytes : List ℕ
  pub refused : ℕ
  pub draft : List ℕ

abbrev pub held_in : Pieces → PiecesModel
held_in pieces = record {
  bytes = drop pieces.written (joined (whole_in pieces) (finished_in pieces));
  refused = pieces.refused;
  draft = drop pieces.finished (begun_in pieces);
}

abbrev pub AreLong : List Piece → Type 0
AreLong full = AllByRecursion (λ piece. least_offer ≤ length (bytes_in piece)) full

-- Some of the first piece may be written, and then some of it was refused. The others are whole, and all but the last are long:
-- each was filled, or has a large word.
pub record IsSound (pieces : Pieces) : Type 0 where
  pub drafted : pieces.drafted ≤ length pieces.full.items
  pub draft : pieces.drafted ≤ length (drop pieces.finished (begun_in pieces))
  pub finished : pieces.finished ≤ length (spelled_first (drafted_in pieces) pieces.last.items)
  pub front : pieces.written + pieces.refused ≤ length (first_of (whole_in pieces) (finished_in pieces))
  pub begun : pieces.refused ≡ 0 → pieces.written ≡ 0
  pub long : AreLong pieces.full.items

-- the same where no request is being spelled
pub record IsSettled (pieces : Pieces) : Type 0 where
  pub drafted : pieces.drafted ≡ 0
  pub finished : pieces.finished ≡ length pieces.last.items
  pub front : pieces.written + pieces.refused ≤ length (first_of pieces.full.items pieces.last.items)
  pub begun : pieces.refused ≡ 0 → pieces.written ≡ 0
  pub long : AreLong pieces.full.items

-- what waits then
abbrev pub waiting_in : Pieces → List ℕ
waiting_in pieces = drop pieces.written (joined pieces.full.items pieces.last.items)

-- what is offered next
abbrev pub front_of : Pieces → List ℕ
front_of pieces = drop pieces.written (first_of pieces.full.items pieces.last.items)

-- the first piece is dropped
abbrev pub DropsFirst : List Piece → List ℕ → List Piece → List ℕ → Type 0
DropsFirst [] last full' last' = (full' ≡ []) × (last' ≡ [])
DropsFirst (piece ∷ later) last full' last' = (full' ≡ later) × (last' ≡ last)
