-- Bytes in pieces.
use Rattle.std.proofs.Common.{◌≡◌, ◌⊎◌, ◌<◌, ◌≤◌, ◌+◌, ◌-◌, ◌++◌, ◌∷◌, [], List, ℕ, take, drop, length, ap, sym, ◌∙◌, arith, refl, inl, inr, subst, append_assoc, length-append, length-drop, length-take, min, suc, zero}
use Rattle.std.proofs.lemmas.Grind.{flat_map-append}
use Rattle.std.proofs.lemmas.List.{append-nil, drop-append-le, drop_all, take-append-drop, same_from_push, take-append-le, take_all}
use Rattle.std.specs.Prelude.{Vec, Some, None}
use Rattle.std.specs.declared.collections.VecDeque.{VecDeque}
use Rattle.std.specs.List.{flat_map}
use Rattle.std.specs.declared.alloc.Global.{Global}
use Rattle.node_link.specs.declared.stream.Flow.{Flow}
use Rattle.node_link.specs.Bytes.{IsOffer, Offers, least_offer, left_of}
use Rattle.node_link.specs.Piece.{bytes_in, word_in}
use Rattle.node_link.specs.Pieces.{AreLong, PiecesModel, IsSettled, IsSound, begun_in, drafted_in, finished_in, first_of, front_of, held_in, joined, spelled_first, waiting_in, whole_in}
use Rattle.node_link.specs.declared.piece.Piece.{Piece}
use Rattle.node_link.specs.declared.pieces.Pieces.{Pieces}

abbrev made : List ℕ → ℕ → List ℕ → PiecesModel
made bytes refused draft = record { bytes = bytes; refused = refused; draft = draft }

pub outgoing : (a b c d : List ℕ) (r : ℕ) → a ≡ c → b ≡ d → made a r b ≡ made c r d
outgoing a b c d r ac bd = rw (ac, bd) refl

-- what stands behind the first piece
abbrev behind : List Piece → List ℕ → List ℕ
behind [] last = []
behind (piece ∷ later) last = joined later last

split : (full : List Piece) (last : List ℕ) → joined full last ≡ first_of full last ++ behind full last
split [] last = sym (append-nil last)
split (piece ∷ later) last = append_assoc (bytes_in piece) (flat_map bytes_in later) last

first_within : (full : List Piece) (last : List ℕ) → length (first_of full last) ≤ length (joined full last)
first_within full last = omega (arith, ap length (split full last), length-append (first_of full last) (behind full last))

split_at : (full : List Piece) (last : List ℕ) (written : ℕ) → written ≤ length (first_of full last)
    → drop written (joined full last) ≡ drop written (first_of full last) ++ behind full last
split_at full last written within =
    ap (λ (bytes : List ℕ). drop written bytes) (split full last) ∙ drop-append-le written (first_of full last) (behind full last) within

grown : (full : List Piece) (last more : List ℕ) (written : ℕ) → written ≤ length (first_of full last)
    → drop written (joined full (last ++ more)) ≡ drop written (joined full last) ++ more
grown full last more written within =
    ap (λ (bytes : List ℕ). drop written bytes) (sym (append_assoc (flat_map bytes_in full) last more))
    ∙ drop-append-le written (joined full last) more (omega (arith, within, first_within full last))

-- what is spelled first is a front of the first piece
first_is : (full : List Piece) (last : List ℕ) → length (spelled_first full last) ≤ length (first_of full last)
first_is [] last = omega arith
first_is (piece ∷ later) last = omega (arith, length-append piece.spelled.items (word_in piece.word))

spelled_within : (full : List Piece) (last : List ℕ) → length (spelled_first full last) ≤ length (joined full last)
spelled_within full last = omega (arith, first_is full last, first_within full last)

-- The request that is being spelled.

-- where it begins stays, whatever is added to it
pub spelled_more : (whole : List Piece) (begun more : List ℕ) (written finished r : ℕ) → finished ≤ length begun
    → made (drop written (joined whole (take finished (begun ++ more)))) r (drop finished (begun ++ more))
    ≡ made (drop written (joined whole (take finished begun))) r (drop finished begun ++ more)
spelled_more whole begun more written finished r within =
    outgoing _ _ _ _ r (ap (λ (bytes : List ℕ). drop written (joined whole bytes)) (take-append-le finished begun more within)) (drop-append-le finished begun more within)

pub begun_more : (drafted : List Piece) (last more : List ℕ) → joined drafted (last ++ more) ≡ joined drafted last ++ more
begun_more drafted last more = sym (append_assoc (flat_map bytes_in drafted) last more)

first_grows : (drafted : List Piece) (last more : List ℕ) → length (spelled_first drafted last) ≤ length (spelled_first drafted (last ++ more))
first_grows [] last more = omega (arith, length-append last more)
first_grows (piece ∷ later) last more = omega arith

starts_within : (pieces : Pieces) → IsSound pieces → pieces.finished ≤ length (begun_in pieces)
starts_within pieces sound = omega (arith, sound.finished, spelled_within (drafted_in pieces) pieces.last.items)

-- bytes are added to the last piece
pub held_more : (old : Pieces) (last : Vec ℕ Global) (more : List ℕ) → IsSound old → last.items ≡ old.last.items ++ more
    → (held_in (record old { last = last }) ≡ record (held_in old) { draft = (held_in old).draft ++ more }) × IsSound (record old { last = last })
held_more old last more sound is =
    let begun : joined (drafted_in old) last.items ≡ begun_in old ++ more = rw is (begun_more (drafted_in old) old.last.items more) in
    let within = starts_within old sound in (
      rw begun (spelled_more (whole_in old) (begun_in old) more old.written old.finished old.refused within),
      record {
        drafted = sound.drafted;
        draft = rw begun (omega (arith, sound.draft, length-drop old.finished (begun_in old), length-drop old.finished (begun_in old ++ more), length-append (begun_in old) more));
        finished = rw is (omega (arith, sound.finished, first_grows (drafted_in old) old.last.items more));
        front = rw begun (rw (take-append-le old.finished (begun_in old) more within) sound.front);
        begun = sound.begun;
        long = sound.long;
      },
    )

-- The last piece is closed behind a large word.

kept_count : (full : List Piece) (piece : Piece) (drafted : ℕ) → length (full ++ piece ∷ []) - (drafted + 1) ≡ length full - drafted
kept_count full piece drafted = omega (arith, length-append full (piece ∷ []))

whole_after : (full : List Piece) (piece : Piece) (drafted : ℕ) → take (length (full ++ piece ∷ []) - (drafted + 1)) (full ++ piece ∷ []) ≡ take (length full - drafted) full
whole_after full piece drafted =
    ap (λ (count : ℕ). take count (full ++ piece ∷ [])) (kept_count full piece drafted) ∙ take-append-le (length full - drafted) full (piece ∷ []) (omega arith)

drafted_after : (full : List Piece) (piece : Piece) (drafted : ℕ) → drop (length (full ++ piece ∷ []) - (drafted + 1)) (full ++ piece ∷ []) ≡ drop (length full - drafted) full ++ piece ∷ []
drafted_after full piece drafted =
    ap (λ (count : ℕ). drop count (full ++ piece ∷ [])) (kept_count full piece drafted) ∙ drop-append-le (length full - drafted) full (piece ∷ []) (omega arith)

begun_after : (drafted : List Piece) (spelled : Vec ℕ Global) (word : List ℕ) → joined (drafted ++ record { spelled = spelled; word = Some word } ∷ []) [] ≡ joined drafted spelled.items ++ word
begun_after drafted spelled word =
    let piece : Piece = record { spelled = spelled; word = Some word } in
    append-nil (flat_map bytes_in (drafted ++ piece ∷ [])) ∙ flat_map-append bytes_in drafted (piece ∷ [])
    ∙ ap (λ (bytes : List ℕ). flat_map bytes_in drafted ++ bytes) (append-nil (spelled.items ++ word)) ∙ sym (append_assoc (flat_map bytes_in drafted) spelled.items word)

spelled_after : (drafted : List Piece) (spelled : Vec ℕ Global) (word : List ℕ) → spelled_first (drafted ++ record { spelled = spelled; word = Some word } ∷ []) [] ≡ spelled_first drafted spelled.items
spelled_after [] spelled word = refl
spelled_after (piece ∷ later) spelled word = refl

long_with : (full : List Piece) (piece : Piece) → AreLong full → least_offer ≤ length (bytes_in piece) → AreLong (full ++ piece ∷ [])
long_with [] piece long is = (is, tt)
long_with (first ∷ later) piece long is = (long.0, long_with later piece long.1 is)

pub held_behind : (old : Pieces) (full : VecDeque Piece Global) (last : Vec ℕ Global) (word : List ℕ) → IsSound old → least_offer ≤ length word
    → full.items ≡ old.full.items ++ record { spelled = old.last; word = Some word } ∷ [] → last.items ≡ []
    → (held_in (record old { full = full; drafted = old.drafted + 1; last = last }) ≡ record (held_in old) { draft = (held_in old).draft ++ word })
    × IsSound (record old { full = full; drafted = old.drafted + 1; last = last })
held_behind old full last word sound large full_is last_is =
    let piece : Piece = record { spelled = old.last; word = Some word } in
    let new : Pieces = record old { full = full; drafted = old.drafted + 1; last = last } in
    let whole : whole_in new ≡ whole_in old = ap (λ (all : List Piece). take (length all - (old.drafted + 1)) all) full_is ∙ whole_after old.full.items piece old.drafted in
    let drafted : drafted_in new ≡ drafted_in old ++ piece ∷ [] = ap (λ (all : List Piece). drop (length all - (old.drafted + 1)) all) full_is ∙ drafted_after old.full.items piece old.drafted in
    let begun : begun_in new ≡ begun_in old ++ word =
    ap (λ (all : List Piece). joined all last.items) drafted ∙ ap (λ (bytes : List ℕ). joined (drafted_in old ++ piece ∷ []) bytes) last_is ∙ begun_after (drafted_in old) old.last word in
    let first : spelled_first (drafted_in new) last.items ≡ spelled_first (drafted_in old) old.last.items =
    ap (λ (all : List Piece). spelled_first all last.items) drafted ∙ ap (λ (bytes : List ℕ). spelled_first (drafted_in old ++ piece ∷ []) bytes) last_is ∙ spelled_after (drafted_in old) old.last word in
    let within = starts_within old sound in (
      rw (whole, begun) (spelled_more (whole_in old) (begun_in old) word old.written old.finished old.refused within),
      record {
        drafted = rw full_is (omega (arith, sound.drafted, length-append old.full.items (piece ∷ [])));
        draft = rw begun (omega (arith, large, sound.draft, length-drop old.finished (begun_in old), length-drop old.finished (begun_in old ++ word), length-append (begun_in old) word));
        finished = rw first sound.finished;
        front = rw (whole, begun) (rw (take-append-le old.finished (begun_in old) word within) sound.front);
        begun = sound.begun;
        long = rw full_is (long_with old.full.items piece sound.long (omega (arith, large, length-append old.last.items word)));
      },
    )

-- No request is being spelled.

pub all_whole : (full : List Piece) (drafted : ℕ) → drafted ≡ 0 → take (length full - drafted) full ≡ full
all_whole full drafted none = take_all (length full - drafted) full (omega (arith, none))

none_drafted : (full : List Piece) (drafted : ℕ) → drafted ≡ 0 → drop (length full - drafted) full ≡ []
none_drafted full drafted none = drop_all (length full - drafted) full (omega (arith, none))

begun_last : (pieces : Pieces) → pieces.drafted ≡ 0 → begun_in pieces ≡ pieces.last.items
begun_last pieces none = ap (λ (all : List Piece). joined all pieces.last.items) (none_drafted pieces.full.items pieces.drafted none)

finished_last : (pieces : Pieces) → pieces.drafted ≡ 0 → pieces.finished ≡ length pieces.last.items → finished_in pieces ≡ pieces.last.items
finished_last pieces none is = rw (begun_last pieces none) (take_all pieces.finished pieces.last.items (omega (arith, is)))

pub held_settled : (pieces : Pieces) → IsSettled pieces → held_in pieces ≡ made (waiting_in pieces) pieces.refused []
held_settled pieces settled =
    outgoing _ _ _ _ pieces.refused
    (ap (λ (all : List Piece). drop pieces.written (joined all (finished_in pieces))) (all_whole pieces.full.items pieces.drafted settled.drafted)
    ∙ ap (λ (bytes : List ℕ). drop pieces.written (joined pieces.full.items bytes)) (finished_last pieces settled.drafted settled.finished))
    (ap (λ (bytes : List ℕ). drop pieces.finished bytes) (begun_last pieces settled.drafted) ∙ drop_all pieces.finished pieces.last.items (omega (arith, settled.finished)))

pub settled : (pieces : Pieces) → IsSound pieces → (held_in pieces).draft ≡ [] → IsSettled pieces
settled pieces sound no_draft =
    let none : pieces.drafted ≡ 0 = omega (arith, sound.draft, ap length no_draft) in
    let last = begun_last pieces none in
    let finished : pieces.finished ≡ length pieces.last.items =
    omega (arith, starts_within pieces sound, ap length last, ap length no_draft, length-drop pieces.finished (begun_in pieces)) in
    record {
      drafted = none;
      finished = finished;
      front = rw (all_whole pieces.full.items pieces.drafted none, finished_last pieces none finished) at sound.front;
      begun = sound.begun;
      long = sound.long;
    }

pub is_sound : (pieces : Pieces) → IsSettled pieces → IsSound pieces
is_sound pieces settled =
    let drafted = none_drafted pieces.full.items pieces.drafted settled.drafted in
    record {
      drafted = omega (arith, settled.drafted);
      draft = omega (arith, settled.drafted);
      finished = rw drafted (omega (arith, settled.finished));
      front = rw (all_whole pieces.full.items pieces.drafted settled.drafted, finished_last pieces settled.drafted settled.finished) settled.front;
      begun = settled.begun;
      long = settled.long;
    }

-- The request that was being spelled is whole, or forgotten.

first_of-append : (whole drafted : List Piece) (last : List ℕ) (finished written : ℕ) → finished ≤ length (spelled_first drafted last)
    → written ≤ length (first_of whole (take finished (joined drafted last))) → written ≤ length (first_of (whole ++ drafted) last)
first_of-append [] drafted last finished written starts within =
    omega (arith, within, starts, first_is drafted last, length-take finished (joined drafted last))
first_of-append (piece ∷ later) drafted last finished written starts within = within

joined-append : (whole drafted : List Piece) (last : List ℕ) → joined (whole ++ drafted) last ≡ flat_map bytes_in whole ++ joined drafted last
joined-append whole drafted last =
    ap (λ (bytes : List ℕ). bytes ++ last) (flat_map-append bytes_in whole drafted) ∙ append_assoc (flat_map bytes_in whole) (flat_map bytes_in drafted) last

pub finish_settled : (old : Pieces) (len : ℕ) → IsSound old → len ≡ length old.last.items → IsSettled (record old { drafted = 0; finished = len })
finish_settled old len sound is =
    record {
      drafted = refl;
      finished = is;
      front = rw (take-append-drop (length old.full.items - old.drafted) old.full.items) at
          (first_of-append (whole_in old) (drafted_in old) old.last.items old.finished (old.written + old.refused) sound.finished sound.front);
      begun = sound.begun;
      long = sound.long;
    }

waiting_whole : (whole drafted : List Piece) (last : List ℕ) (written finished : ℕ) → written ≤ length (first_of whole (take finished (joined drafted last)))
    → drop written (joined (whole ++ drafted) last) ≡ drop written (joined whole (take finished (joined drafted last))) ++ drop finished (joined drafted last)
waiting_whole whole drafted last written finished within =
    let begun = joined drafted last in
    ap (λ (bytes : List ℕ). drop written bytes)
    (joined-append whole drafted last ∙ ap (λ (bytes : List ℕ). flat_map bytes_in whole ++ bytes) (sym (take-append-drop finished begun)))
    ∙ grown whole (take finished begun) (drop finished begun) written within

pub finish_held : (old : Pieces) (len : ℕ) → IsSound old → len ≡ length old.last.items
    → held_in (record old { drafted = 0; finished = len }) ≡ record (held_in old) { bytes = (held_in old).bytes ++ (held_in old).draft; draft = [] }
finish_held old len sound is =
    held_settled (record old { drafted = 0; finished = len }) (finish_settled old len sound is)
    ∙ outgoing _ _ _ _ old.refused
    (ap (λ (all : List Piece). drop old.written (joined all old.last.items)) (sym (take-append-drop (length old.full.items - old.drafted) old.full.items))
    ∙ waiting_whole (whole_in old) (drafted_in old) old.last.items old.written old.finished (omega (arith, sound.front)))
    refl

take_first : (drafted : List Piece) (last : List ℕ) (finished : ℕ) → finished ≤ length (spelled_first drafted last) → take finished (joined drafted last) ≡ take finished (spelled_first drafted last)
take_first [] last finished starts = refl
take_first (piece ∷ later) last finished starts =
    ap (λ (bytes : List ℕ). take finished bytes) (append_assoc (bytes_in piece) (flat_map bytes_in later) last ∙ append_assoc piece.spelled.items (word_in piece.word) (flat_map bytes_in later ++ last))
    ∙ take-append-le finished piece.spelled.items (word_in piece.word ++ (flat_map bytes_in later ++ last)) starts

cut : (full : List Piece) (count : ℕ) → count < length full → (piece : Piece) × (take (suc count) full ≡ take count full ++ piece ∷ []) × (drop count full ≡ piece ∷ drop (suc count) full)
cut [] count within = elim within [ ]
cut (piece ∷ later) zero within = (piece, refl, refl)
cut (piece ∷ later) (suc count) within =
    let h = cut later count (omega (arith, within)) in
    (h.0, ap (λ (all : List Piece). piece ∷ all) h.1, h.2)

-- all but the first of `count` pieces are taken off the back, and then that one
pub front_left : (full left : List Piece) (piece : Piece) (count cut_at : ℕ) → 0 < count → count ≤ length full → cut_at ≡ length full - count + 1
    → take cut_at full ≡ left ++ piece ∷ [] → (left ≡ take (length full - count) full) × ((last : List ℕ) → piece.spelled.items ≡ spelled_first (drop (length full - count) full) last)
front_left full left piece count cut_at some within is all =
    let h = cut full (length full - count) (omega (arith, some, within)) in
    let next : cut_at ≡ suc (length full - count) = omega (arith, is) in
    let same = same_from_push left (take (length full - count) full) piece h.0 (sym all ∙ ap (λ (n : ℕ). take n full) next ∙ h.1) in
    (same.0, λ last. ap (λ (p : Piece). p.spelled.items) same.1 ∙ ap (λ (rest : List Piece). spelled_first rest last) (sym h.2))

long_front : (full : List Piece) (count : ℕ) → AreLong full → AreLong (take count full)
long_front full zero long = tt
long_front [] (suc count) long = tt
long_front (piece ∷ later) (suc count) long = (long.0, long_front later count long.1)

pub discard_settled : (old : Pieces) (full : VecDeque Piece Global) (last : Vec ℕ Global) → IsSound old → full.items ≡ whole_in old
    → last.items ≡ take old.finished (spelled_first (drafted_in old) old.last.items) → IsSettled (record old { full = full; drafted = 0; last = last })
discard_settled old full last sound full_is last_is =
    let first = last_is ∙ sym (take_first (drafted_in old) old.last.items old.finished sound.finished) in
    record {
      drafted = refl;
      finished = rw last_is (omega (arith, sound.finished, length-take old.finished (spelled_first (drafted_in old) old.last.items)));
      front = rw (full_is, first) sound.front;
      begun = sound.begun;
      long = rw full_is (long_front old.full.items (length old.full.items - old.drafted) sound.long);
    }

pub discard_held : (old : Pieces) (full : VecDeque Piece Global) (last : Vec ℕ Global) → IsSound old → full.items ≡ whole_in old
    → last.items ≡ take old.finished (spelled_first (drafted_in old) old.last.items)
    → held_in (record old { full = full; drafted = 0; last = last }) ≡ record (held_in old) { draft = [] }
discard_held old full last sound full_is last_is =
    let first = last_is ∙ sym (take_first (drafted_in old) old.last.items old.finished sound.finished) in
    held_settled (record old { full = full; drafted = 0; last = last }) (discard_settled old full last sound full_is last_is)
    ∙ outgoing _ _ _ _ old.refused (rw (full_is, first) refl) refl

-- The last piece is closed, and a new one begun.

first_sealed : (full : List Piece) (last : Vec ℕ Global) → first_of (full ++ record { spelled = last; word = None } ∷ []) [] ≡ first_of full last.items
first_sealed [] last = append-nil last.items
first_sealed (piece ∷ later) last = refl

joined_sealed : (full : List Piece) (last : Vec ℕ Global) → joined (full ++ record { spelled = last; word = None } ∷ []) [] ≡ joined full last.items
joined_sealed full last =
    let piece : Piece = record { spelled = last; word = None } in
    append-nil (flat_map bytes_in (full ++ piece ∷ [])) ∙ flat_map-append bytes_in full (piece ∷ [])
    ∙ ap (λ (bytes : List ℕ). flat_map bytes_in full ++ bytes) (append-nil (last.items ++ []) ∙ append-nil last.items)

pub sealed : (old : Pieces) (full : VecDeque Piece Global) (next : Vec ℕ Global) → IsSettled old → least_offer ≤ length old.last.items
    → full.items ≡ old.full.items ++ record { spelled = old.last; word = None } ∷ [] → next.items ≡ []
    → (held_in (record old { full = full; last = next; finished = 0 }) ≡ held_in old) × IsSound (record old { full = full; last = next; finished = 0 })
sealed old full next before large full_is next_is =
    let piece : Piece = record { spelled = old.last; word = None } in
    let new : Pieces = record old { full = full; last = next; finished = 0 } in
    let first : first_of full.items next.items ≡ first_of old.full.items old.last.items = rw (full_is, next_is) (first_sealed old.full.items old.last) in
    let all : joined full.items next.items ≡ joined old.full.items old.last.items = rw (full_is, next_is) (joined_sealed old.full.items old.last) in
    let after : IsSettled new = record {
      drafted = before.drafted;
      finished = sym (ap length next_is);
      front = rw first before.front;
      begun = before.begun;
      long = rw full_is (long_with old.full.items piece before.long (omega (arith, large, length-append old.last.items [])));
    } in (
      held_settled new after ∙ outgoing _ _ _ _ old.refused (ap (λ (bytes : List ℕ). drop old.written bytes) all) refl ∙ sym (held_settled old before),
      is_sound new after,
    )

-- Some of the first piece is written.

begun_within : (pieces : Pieces) → IsSettled pieces → pieces.written ≤ length (first_of pieces.full.items pieces.last.items)
begun_within pieces settled = omega (arith, settled.front)

-- where no byte waits, none was refused
pub none_refused : (pieces : Pieces) (len : ℕ) → IsSettled pieces → len ≡ length (front_of pieces) → len ≡ 0 → pieces.refused ≡ 0
none_refused pieces len settled is none = omega (arith, is, none, settled.front, length-drop pieces.written (first_of pieces.full.items pieces.last.items))

-- the front is what waits first
taken_off : (pieces : Pieces) (count : ℕ) → IsSettled pieces → count ≤ length (front_of pieces) → take count (waiting_in pieces) ≡ take count (front_of pieces)
taken_off pieces count settled within =
    ap (λ (bytes : List ℕ). take count bytes) (split_at pieces.full.items pieces.last.items pieces.written (begun_within pieces settled))
    ∙ take-append-le count (front_of pieces) (behind pieces.full.items pieces.last.items) within

written_off : (pieces : Pieces) (front : List ℕ) (count : ℕ) → IsSettled pieces → front ≡ front_of pieces → count ≤ length front
    → waiting_in pieces ≡ take count front ++ drop count (waiting_in pieces)
written_off pieces front count settled is within =
    let front_is = taken_off pieces count settled (subst (λ (bytes : List ℕ). count ≤ length bytes) is within) ∙ ap (λ (bytes : List ℕ). take count bytes) (sym is) in
    sym (take-append-drop count (waiting_in pieces)) ∙ ap (λ (bytes : List ℕ). bytes ++ drop count (waiting_in pieces)) front_is

offer_at : (full : List Piece) (last : List ℕ) (written refused : ℕ) → (refused ≡ 0 → written ≡ 0) → AreLong full
    → (0 < refused) ⊎ ((length (drop written (first_of full last)) ≡ length (drop written (joined full last))) ⊎ (least_offer ≤ length (drop written (first_of full last))))
offer_at [] last written refused begun long = inr (inl refl)
offer_at (piece ∷ later) last written zero begun long = inr (inr (omega (arith, begun refl, long.0, length-drop written (bytes_in piece))))
offer_at (piece ∷ later) last written (suc refused) begun long = inl (omega arith)

is_offer : (pieces : Pieces) → IsSettled pieces → IsOffer (waiting_in pieces) pieces.refused (length (front_of pieces))
is_offer pieces settled =
    let full = pieces.full.items in
    let last = pieces.last.items in (
      omega (arith, ap length (split_at full last pieces.written (begun_within pieces settled)), length-append (front_of pieces) (behind full last)),
      omega (arith, settled.front, length-drop pieces.written (first_of full last)),
      offer_at full last pieces.written pieces.refused settled.begun settled.long,
    )

-- a write of the front is one that may be made
offers_front : {S : Type 0} (offered : S → List ℕ → Flow → S → Type 0) (old new : S) (pieces : Pieces) (front : List ℕ) (given : Flow) (left : ℕ)
    → IsSettled pieces → front ≡ front_of pieces → offered old front given new → left ≡ left_of (length front) given
    → Offers offered (waiting_in pieces ≡ []) old (waiting_in pieces) pieces.refused new left
offers_front offered old new pieces front given left settled is made left_is =
    let count = length (front_of pieces) in
    let all = taken_off pieces count settled (omega arith) ∙ take_all count (front_of pieces) (omega arith) in
    inl (
      count,
      is_offer pieces settled,
      given,
      subst (λ (bytes : List ℕ). offered old bytes given new) (is ∙ sym all) made,
      left_is ∙ ap (λ (bytes : List ℕ). left_of (length bytes) given) is,
    )

-- What is left of a piece.

rest_all : (bytes : List ℕ) (begin : ℕ) → take (length bytes - begin) (drop begin bytes) ≡ drop begin bytes
rest_all bytes begin = take_all (length bytes - begin) (drop begin bytes) (omega (arith, length-drop begin bytes))

left_at : (spelled word : List ℕ) (written skipped : ℕ) → skipped ≡ min written (length spelled) → drop skipped spelled ++ drop (written - skipped) word ≡ drop written (spelled ++ word)
left_at [] word written skipped is =
    let none : skipped ≡ 0 = omega (arith, is) in
    let all : written - skipped ≡ written = omega (arith, none) in
    rw (all, none) refl
left_at (byte ∷ spelled) word zero skipped is =
    let none : skipped ≡ 0 = omega (arith, is) in
    rw none refl
left_at (byte ∷ spelled) word (suc written) zero is =
    let wrong : ⊥ = omega (arith, is) in
    elim wrong [ ]
left_at (byte ∷ spelled) word (suc written) (suc skipped) is =
    let fewer : suc written - suc skipped ≡ written - skipped = omega arith in
    rw fewer (left_at spelled word written skipped (omega (arith, is)))

-- it stands in two parts
pub left_in_two : (spelled word : List ℕ) (written skipped : ℕ) → skipped ≡ min written (length spelled)
    → take (length spelled - skipped) (drop skipped spelled) ++ take (length word - (written - skipped)) (drop (written - skipped) word) ≡ drop written (spelled ++ word)
left_in_two spelled word written skipped is =
    ap (λ (bytes : List ℕ). bytes ++ take (length word - (written - skipped)) (drop (written - skipped) word)) (rest_all spelled skipped)
    ∙ ap (λ (bytes : List ℕ). drop skipped spelled ++ bytes) (rest_all word (written - skipped)) ∙ left_at spelled word written skipped is

-- One write of the front.

waits : (pieces : Pieces) → IsSettled pieces → waiting_in pieces ≡ (held_in pieces).bytes
waits pieces settled = ap (λ (held : PiecesModel). held.bytes) (sym (held_settled pieces settled))

-- where the first piece has no bytes, none wait
no_front : (full : List Piece) (last : List ℕ) (written refused : ℕ) → (refused ≡ 0 → written ≡ 0) → written + refused ≤ length (first_of full last) → AreLong full
    → length (drop written (first_of full last)) ≡ 0 → drop written (joined full last) ≡ []
no_front [] last written refused begun within long none = no_items (drop written last) none where
  no_items : (bytes : List ℕ) → length bytes ≡ 0 → bytes ≡ []
  no_items [] none = refl
  no_items (byte ∷ bytes) none = absurd (omega (arith, none))
no_front (piece ∷ later) last written refused begun within long none =
    let all : written ≡ length (bytes_in piece) = omega (arith, none, within, length-drop written (bytes_in piece)) in
    let left : refused ≡ 0 = omega (arith, all, within) in
    absurd (omega (arith, all, begun left, long.0))

pub none_waits : (pieces : Pieces) (len : ℕ) → IsSettled pieces → len ≡ length (front_of pieces) → len ≡ 0 → (held_in pieces).bytes ≡ []
none_waits pieces len settled is none =
    sym (waits pieces settled) ∙ no_front pieces.full.items pieces.last.items pieces.written pieces.refused settled.begun settled.front settled.long (sym is ∙ none)

-- the stream took some of it
pub wrote : (old new : Pieces) (front : List ℕ) (len count : ℕ) → IsSettled old → IsSettled new → front ≡ front_of old → len ≡ length front → count ≤ length front
    → waiting_in new ≡ drop (length (front_of old) - (len - count)) (waiting_in old) → (held_in old).bytes ≡ take count front ++ (held_in new).bytes
wrote old new front len count before after is len_is within rest =
    let gone : length (front_of old) - (len - count) ≡ count = omega (arith, ap length is, len_is, within) in
    let left : drop count (waiting_in old) ≡ (held_in new).bytes = ap (λ (n : ℕ). drop n (waiting_in old)) (sym gone) ∙ sym rest ∙ waits new after in
    sym (waits old before) ∙ written_off old front count before is within ∙ ap (λ (bytes : List ℕ). take count front ++ bytes) left

-- it is one that may be made
pub offered_front : {S : Type 0} (offered : S → List ℕ → Flow → S → Type 0) (old new : S) (pieces : Pieces) (front : List ℕ) (given : Flow) (left : ℕ)
    → IsSettled pieces → front ≡ front_of pieces → offered old front given new → left ≡ left_of (length front) given
    → Offers offered ((held_in pieces).bytes ≡ []) old (held_in pieces).bytes pieces.refused new left
offered_front offered old new pieces front given left settled is made left_is =
    subst (λ (bytes : List ℕ). Offers offered (bytes ≡ []) old bytes pieces.refused new left) (waits pieces settled) (offers_front offered old new pieces front given left settled is made left_is)

-- it took nothing
pub refused_sound : (old : Pieces) (len : ℕ) → IsSettled old → len ≡ length (front_of old) → (len ≡ 0 → ⊥) → IsSound (record old { refused = len })
refused_sound old len before is some =
    is_sound (record old { refused = len }) (record {
      drafted = before.drafted;
      finished = before.finished;
      front = omega (arith, is, begun_within old before, length-drop old.written (first_of old.full.items old.last.items));
      begun = λ none. absurd (some none);
      long = before.long;
    })
