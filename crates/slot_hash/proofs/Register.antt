-- What one step of the register does to the polynomial that it stands for.
use Rattle.std.proofs.Common.{length, take, get_or, ◌≡◌, ℕ, ◌+◌, ◌*◌, ◌/◌, ◌%◌, ◌^◌, ◌<◌, bit_xor, List, [], ◌∷◌, ◌++◌, add-zero, sym, ◌∙◌, ap, subst, arith}
use Rattle.std.proofs.lemmas.Nat.{xor_comm, xor_block}
use lib.Bits.{xor_zero_r}
use Rattle.std.specs.Int.Bits.{xor_shifted}
use Rattle.std.proofs.lemmas.List.Sums.{fold-append}
use Rattle.std.proofs.lemmas.List.{take_more}
use Rattle.slot_hash.specs.Polynomial.{Congruent}
use Rattle.slot_hash.specs.Division.{xor_shl, Congruent-xor, Congruent-shl, Congruent-trans}
use Rattle.slot_hash.specs.Slot.{message}

-- the register's lower half moves up, and its upper half, with the byte, gives way to a remainder
pub Congruent-with_byte : (register byte word : ℕ) → Congruent (bit_xor (register / 2 ^ 8) byte * 2 ^ 16) word → Congruent (bit_xor register (byte * 2 ^ 8) * 2 ^ 8) (bit_xor (register * 2 ^ 8 % 2 ^ 16) word)
Congruent-with_byte register byte word h =
    let high = register / 2 ^ 8 in
    let low = register % 2 ^ 8 in
    let halves : register ≡ high * 2 ^ 8 + low = omega arith in
    let moved : register * 2 ^ 8 % 2 ^ 16 ≡ low * 2 ^ 8 = omega arith in
    let sum : bit_xor register (byte * 2 ^ 8) ≡ bit_xor high byte * 2 ^ 8 + low =
    ap (λ x. bit_xor x (byte * 2 ^ 8)) halves
    ∙ ap (bit_xor (high * 2 ^ 8 + low)) (sym (add-zero (byte * 2 ^ 8)))
    ∙ xor_block 8 high byte low 0 (omega arith) (omega arith)
    ∙ ap (λ x. bit_xor high byte * 2 ^ 8 + x) (xor_zero_r low)
    in
    let whole : bit_xor (bit_xor high byte * 2 ^ 16) (low * 2 ^ 8) ≡ bit_xor register (byte * 2 ^ 8) * 2 ^ 8 =
    xor_shifted (bit_xor high byte) 16 (low * 2 ^ 8) (omega arith) ∙ omega (arith, sum)
    in
    subst (λ x. Congruent x (bit_xor (register * 2 ^ 8 % 2 ^ 16) word)) whole
    (subst (Congruent (bit_xor (bit_xor high byte * 2 ^ 16) (low * 2 ^ 8))) (ap (bit_xor word) (sym moved) ∙ xor_comm word _)
    (Congruent-xor _ word (low * 2 ^ 8) h))

-- the first bytes' message, with one byte more
pub Congruent-byte : (m c b r : ℕ) → b < 2 ^ 8 → Congruent (m * 2 ^ 16) c → Congruent (bit_xor c (b * 2 ^ 8) * 2 ^ 8) r → Congruent ((m * 2 ^ 8 + b) * 2 ^ 16) r
Congruent-byte m c b r small h k =
    let joined : bit_xor (m * 2 ^ 16 * 2 ^ 8) (b * 2 ^ 8 * 2 ^ 8) ≡ (m * 2 ^ 8 + b) * 2 ^ 16 =
    ap (λ x. bit_xor x (b * 2 ^ 8 * 2 ^ 8)) (omega arith)
    ∙ ap (bit_xor (m * 2 ^ 8 * 2 ^ 16)) (omega arith)
    ∙ xor_shl (m * 2 ^ 8) b 16
    ∙ ap (λ x. x * 2 ^ 16) (xor_shifted m 8 b small)
    in
    Congruent-trans _ (bit_xor c (b * 2 ^ 8) * 2 ^ 8) _
    (subst (λ x. Congruent x (bit_xor c (b * 2 ^ 8) * 2 ^ 8)) joined
    (subst (λ x. Congruent (bit_xor (m * 2 ^ 16 * 2 ^ 8) (b * 2 ^ 8 * 2 ^ 8)) x) (xor_shl c (b * 2 ^ 8) 8)
    (Congruent-xor _ _ (b * 2 ^ 8 * 2 ^ 8) (Congruent-shl _ _ 8 h))))
    k

pub message-push : (bytes : List ℕ) (b : ℕ) → message (bytes ++ b ∷ []) ≡ message bytes * 2 ^ 8 + b
message-push bytes b = fold-append _ 0 bytes (b ∷ [])

pub Congruent-taken : (bytes : List ℕ) (i c r : ℕ) → i < length bytes → get_or bytes i 0 < 2 ^ 8 → Congruent (message (take i bytes) * 2 ^ 16) c → Congruent (bit_xor c (get_or bytes i 0 * 2 ^ 8) * 2 ^ 8) r → Congruent (message (take (i + 1) bytes) * 2 ^ 16) r
Congruent-taken bytes i c r within small h k =
    subst (λ x. Congruent (x * 2 ^ 16) r)
    (sym (ap message (take_more bytes i 0 within) ∙ message-push (take i bytes) (get_or bytes i 0)))
    (Congruent-byte (message (take i bytes)) c (get_or bytes i 0) r small h k)
