-- Inputs, one read at a time.
use Rattle.std.proofs.Common.{◌≡◌, ℕ, ◌≤◌, List, [], ◌++◌, length, Option, Some, None, sym, ap, ◌∙◌, arith, append_assoc}
use Rattle.std.proofs.lemmas.List.{append-nil, length-append}
use Rattle.std.specs.Io.KnownBytes.{Consumes, IsAtEnd}

-- what was read is no longer than the input
pub within : (before now : Option (List ℕ)) (bytes input : List ℕ) → Consumes before now bytes → before ≡ Some input → length bytes ≤ length input
within None now bytes input consumes known = absurd (cc)
within (Some all) None bytes input consumes known = absurd consumes
within (Some all) (Some after) bytes input consumes known =
    let same : all ≡ input = cc in
    let long = ap length (sym same ∙ consumes) in
    omega (arith, long, length-append bytes after)

-- at the end, it is the input
pub whole : (before mid now : Option (List ℕ)) (bytes input : List ℕ) → Consumes before mid bytes → Consumes mid now [] → IsAtEnd now → before ≡ Some input → bytes ≡ input
whole None mid now bytes input consumes last ended known = absurd (cc)
whole (Some all) None now bytes input consumes last ended known = absurd consumes
whole (Some all) (Some after) None bytes input consumes last ended known = absurd last
whole (Some all) (Some after) (Some left) bytes input consumes last ended known =
    let same : all ≡ input = cc in
    sym (append-nil bytes) ∙ ap (λ t. bytes ++ t) (sym (last ∙ ended)) ∙ sym consumes ∙ same

-- a piece more
pub piece_more : (before now after : Option (List ℕ)) (bytes piece more : List ℕ) → Consumes before now bytes → Consumes now after piece → more ≡ bytes ++ piece → Consumes before after more
piece_more None now after bytes piece more consumes next is = tt
piece_more (Some all) None after bytes piece more consumes next is = absurd consumes
piece_more (Some all) (Some rest) None bytes piece more consumes next is = absurd next
piece_more (Some all) (Some rest) (Some left) bytes piece more consumes next is =
    consumes ∙ ap (λ t. bytes ++ t) next ∙ sym (append_assoc bytes piece left) ∙ ap (λ t. t ++ left) (sym is)
