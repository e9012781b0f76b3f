-- Where a byte stands first: the word of the search for it, and that of the definition of a tag.
use Rattle.std.proofs.Common.{◌≡◌, ℕ, List, length, Option, None, Some, ◌==◌, sym, ap, ◌∙◌, arith}
use Rattle.std.proofs.lemmas.Bool.{false_from_ne_true, cond-true, cond-false, lt-ltb, le-ltb}
use Rattle.std.proofs.lemmas.List.Sums.{position_or_len_is}
use Rattle.std.specs.List.{position, position_or_len}
use Rattle.memchr.specs.Find.{IsFirstByte, is_byte}

pub position-first : (byte : ℕ) (bytes : List ℕ) (place : Option ℕ) → IsFirstByte (is_byte byte) bytes place → place ≡ position (λ other. other == byte) bytes
position-first byte bytes None nowhere =
    let test = λ (other : ℕ). other == byte in
    let none : position_or_len test bytes ≡ length bytes =
    position_or_len_is test bytes (length bytes) 0 (omega arith) (λ k below. false_from_ne_true _ (nowhere k (omega arith) below)) (λ inside. absurd (omega arith))
    in
    sym (cond-false _ (Some (position_or_len test bytes)) None (le-ltb (position_or_len test bytes) (length bytes) (omega (arith, none))))
position-first byte bytes (Some place) found =
    let test = λ (other : ℕ). other == byte in
    let first : position_or_len test bytes ≡ place =
    position_or_len_is test bytes place 0 (omega (arith, found.0.high)) (λ k below. false_from_ne_true _ (found.0.before k (omega arith) below)) (λ inside. found.1)
    in
    sym (cond-true _ (Some (position_or_len test bytes)) None (lt-ltb (position_or_len test bytes) (length bytes) (omega (arith, first, found.0.high))) ∙ ap Some first)
