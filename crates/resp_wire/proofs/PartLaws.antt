-- Parts of a buffer.
use Rattle.std.proofs.Common.{◌≡◌, ◌≤◌, ◌+◌, ◌-◌, ◌++◌, ◌∷◌, [], ℕ, Bool, true, eqb, List, length, take, drop, sym, ap, ◌∙◌, arith, append_assoc}
use Rattle.std.proofs.lemmas.List.{length-append, length-take, length-drop, drop-drop, drop-take, take-append-drop, take-take, take_all, take_at}
use Rattle.std.proofs.lemmas.Slice.Eq.{starts_is}
use Rattle.std.specs.Cmp.{unsigned_Decides}
use Rattle.std.specs.List.{starts_with}
use Rattle.resp_wire.specs.Spelling.{cr, lf}

within : (xs : List ℕ) (n count : ℕ) → count ≤ length (take n xs) → count ≤ n
within xs n count h = omega (arith, h, length-take n xs)

-- the part from `start` to `end` of the buffer, without its first bytes
pub part_behind : (xs : List ℕ) (start end count : ℕ) → count ≤ length (take (end - start) (drop start xs)) → take (end - (start + count)) (drop (start + count) xs) ≡ drop count (take (end - start) (drop start xs))
part_behind xs start end count h =
    let few = within (drop start xs) (end - start) count h in
    let parted : end - start ≡ count + (end - (start + count)) = omega (arith, few) in
    ap (λ (u : List ℕ). take (end - (start + count)) u) (sym (drop-drop count start xs))
    ∙ sym (drop-take count (end - (start + count)) (drop start xs))
    ∙ ap (λ (n : ℕ). drop count (take n (drop start xs))) (sym parted)

-- a part of it
pub part_within : (xs : List ℕ) (start end at count : ℕ) → at + count ≤ length (take (end - start) (drop start xs)) → take (start + at + count - (start + at)) (drop (start + at) xs) ≡ take count (drop at (take (end - start) (drop start xs)))
part_within xs start end at count h =
    let few = within (drop start xs) (end - start) (at + count) h in
    let parted : end - start ≡ at + (end - start - at) = omega (arith, few) in
    let long : count ≤ end - start - at = omega (arith, few) in
    let same : start + at + count - (start + at) ≡ count = omega arith in
    ap (λ (n : ℕ). take n (drop (start + at) xs)) same
    ∙ ap (λ (u : List ℕ). take count u) (sym (drop-drop at start xs))
    ∙ sym (take-take count (end - start - at) (drop at (drop start xs)) long)
    ∙ ap (λ (u : List ℕ). take count u) (sym (drop-take at (end - start - at) (drop start xs)))
    ∙ ap (λ (n : ℕ). take count (drop at (take n (drop start xs)))) (sym parted)

-- it and what stands behind it
behind : (xs tail rest : List ℕ) (start end : ℕ) → start ≤ end → end ≤ length xs → drop end xs ≡ tail ++ rest → take (end + length tail - start) (drop start xs) ≡ take (end - start) (drop start xs) ++ tail
behind xs tail rest start end ordered within e =
    let part = take (end - start) (drop start xs) in
    let last : start + (end - start) ≡ end = omega (arith, ordered) in
    let is : drop start xs ≡ (part ++ tail) ++ rest =
    sym (take-append-drop (end - start) (drop start xs))
    ∙ ap (λ (u : List ℕ). part ++ u) (drop-drop (end - start) start xs ∙ ap (λ (n : ℕ). drop n xs) last ∙ e)
    ∙ sym (append_assoc part tail rest) in
    let long : length (part ++ tail) ≡ end + length tail - start =
    omega (arith, ordered, within, length-append part tail, length-take (end - start) (drop start xs), length-drop start xs) in
    ap (λ (u : List ℕ). take (end + length tail - start) u) is ∙ take_at (part ++ tail) rest (end + length tail - start) long

-- it and the line end behind it, as the test tells of the buffer's bytes from there on
pub line_behind : (xs bytes : List ℕ) (start end : ℕ) (r : Bool) → bytes ≡ xs → start ≤ end → end ≤ length xs → r ≡ starts_with eqb (take (length bytes - end) (drop end bytes)) (cr ∷ lf ∷ []) → r ≡ true → take (end + 2 - start) (drop start xs) ≡ take (end - start) (drop start xs) ++ cr ∷ lf ∷ []
line_behind xs bytes start end r same ordered within tested begins =
    let all : take (length xs - end) (drop end xs) ≡ drop end xs = take_all (length xs - end) (drop end xs) (omega (arith, within, length-drop end xs)) in
    let from = take (length bytes - end) (drop end bytes) in
    let is : from ≡ drop end xs = ap (λ (u : List ℕ). take (length u - end) (drop end u)) same ∙ all in
    behind xs (cr ∷ lf ∷ []) (drop 2 from) start end ordered within (sym is ∙ (starts_is unsigned_Decides from (cr ∷ lf ∷ []) r tested).0 begins)
