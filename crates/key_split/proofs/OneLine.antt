-- A decimal is one line.
use Rattle.std.proofs.Common.{◌≡◌, ℕ, ◌+◌, ◌%◌, ◌<◌, ◌^◌, List, [], ◌∷◌, ◌++◌, true, refl, arith}
use Rattle.std.specs.Fmt.{decimal}
use Rattle.std.proofs.lemmas.Fmt.{decimal_by_steps}
use Rattle.std.proofs.lemmas.Bool.Decides.{nat_tests}
use Rattle.std.proofs.lemmas.Grind.{common_steps}
use Rattle.std.specs.Prelude.{codes}
use Rattle.slot_map.specs.Table.{Endpoint}
use Rattle.key_split.specs.Told.{redirect_text}
use Rattle.resp_wire.specs.Text.{is_one_line}

digit_passes : (n : ℕ) → n < 10 → is_one_line ((48 + n) ∷ []) ≡ true
digit_passes n h = grind (arith, nat_tests)

pub is_one_line-append : (xs ys : List ℕ) → is_one_line xs ≡ true → is_one_line ys ≡ true → is_one_line (xs ++ ys) ≡ true
is_one_line-append xs ys h k = grind (arith, common_steps)

pub is_one_line-decimal : (n : ℕ) → n < 2 ^ 64 → is_one_line (decimal n) ≡ true
is_one_line-decimal n h =
    decimal_by_steps (λ m ds. is_one_line ds ≡ true) digit_passes (λ m ds more rest. is_one_line-append ds ((48 + m % 10) ∷ []) rest (digit_passes (m % 10) (omega arith))) n h

pub is_one_line-redirect : (word : List ℕ) (slot : ℕ) (at : Endpoint) → is_one_line word ≡ true → slot < 2 ^ 64 → is_one_line at.host ≡ true → at.port < 2 ^ 64 → is_one_line (redirect_text word slot at) ≡ true
is_one_line-redirect word slot at h s k p =
    is_one_line-append (word ++ decimal slot ++ codes " " ++ at.host ++ codes ":") (decimal at.port)
    (is_one_line-append (word ++ decimal slot ++ codes " " ++ at.host) (codes ":")
    (is_one_line-append (word ++ decimal slot ++ codes " ") at.host
    (is_one_line-append (word ++ decimal slot) (codes " ") (is_one_line-append word (decimal slot) h (is_one_line-decimal slot s)) refl) k) refl)
    (is_one_line-decimal at.port p)
