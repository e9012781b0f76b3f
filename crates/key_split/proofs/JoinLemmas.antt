-- The sum of the replies, one part after another.
use Rattle.std.proofs.Common.{◌≡◌, ℕ, ℤ, ◌+ℤ◌, ◌-◌, ◌≤◌, List, [], ◌∷◌, map, length, take, drop, get_or, Option, None, Some, refl, sym, ap, ◌∙◌, subst, arith}
use Rattle.std.proofs.Common.{◌<◌, ◌*◌, ◌^◌, pos, neg_ℤ, ◌≤ℤ◌, to_z, of_z}
use Rattle.std.proofs.lemmas.Int.{ints}
use Rattle.std.specs.Int.{w128}
use Rattle.std.specs.Int.Signed.{mag}
use Rattle.std.proofs.Math.Facts.{to_z-of_z}
use Rattle.std.proofs.lemmas.Grind.{common_steps}
use Rattle.std.proofs.Math.IntN.{+ℤ_assoc}
use Rattle.std.proofs.lemmas.List.{take_all}
use Rattle.key_split.specs.declared.travel.Ended.{Ended}
use Rattle.key_split.specs.Join.{plus, total, reply_of, integer_in}

plus_twice : (s n : ℤ) (t : Option ℤ) → plus (Some s) (plus (Some n) t) ≡ plus (Some (s +ℤ n)) t
plus_twice s n None = refl
plus_twice s n (Some m) = ap Some (sym (+ℤ_assoc s n m))

total-first : (rest : List Ended) (e : Ended) → 1 ≤ length rest → e ≡ get_or rest 0 e → total (map reply_of rest) ≡ plus (integer_in (reply_of e)) (total (map reply_of (take (length rest - 1) (drop 1 rest))))
total-first [] e h k = absurd (omega arith)
total-first (x ∷ xs) e h k =
    ap (λ y. plus (integer_in (reply_of y)) (total (map reply_of xs))) (sym k)
    ∙ ap (λ ys. plus (integer_in (reply_of e)) (total (map reply_of ys))) (sym (take_all _ xs (omega arith)))

pub total-step : (ends rest : List Ended) (e : Ended) (s n : ℤ) → total (map reply_of ends) ≡ plus (Some s) (total (map reply_of rest)) → 1 ≤ length rest → e ≡ get_or rest 0 e → Some n ≡ integer_in (reply_of e)
    → total (map reply_of ends) ≡ plus (Some (s +ℤ n)) (total (map reply_of (take (length rest - 1) (drop 1 rest))))
total-step ends rest e s n h some first is =
    h ∙ ap (plus (Some s)) (total-first rest e some first ∙ ap (λ o. plus o (total (map reply_of (take (length rest - 1) (drop 1 rest))))) (sym is))
    ∙ plus_twice s n _

one_less : (rest : List Ended) → 1 ≤ length rest → length (take (length rest - 1) (drop 1 rest)) ≡ length rest - 1
one_less rest h = grind (arith, common_steps)

pub total-fits : (a : ℤ) → mag a < 2 ^ 127 → to_z w128 (of_z w128 a) ≡ a
total-fits a h = to_z-of_z {w = w128} (record { sfits = h })

above : (s n : ℤ) (l r : ℕ) → s ≤ℤ pos ((l - r) * 2 ^ 63) → mag n < 2 ^ 63 → 1 ≤ r → r ≤ l → (s +ℤ n) ≤ℤ pos ((l - (r - 1)) * 2 ^ 63)
above s n l r h k some within = omega (arith, ints)

below : (s n : ℤ) (l r : ℕ) → neg_ℤ (pos ((l - r) * 2 ^ 63)) ≤ℤ s → mag n < 2 ^ 63 → 1 ≤ r → r ≤ l → neg_ℤ (pos ((l - (r - 1)) * 2 ^ 63)) ≤ℤ (s +ℤ n)
below s n l r h k some within = omega (arith, ints)

-- the loop's invariant after one more reply
pub step : (ends rest further : List Ended) (e : Ended) (s n a : ℤ)
    → (total (map reply_of ends) ≡ plus (Some s) (total (map reply_of rest))) × (length rest ≤ length ends)
    × (s ≤ℤ pos ((length ends - length rest) * 2 ^ 63)) × (neg_ℤ (pos ((length ends - length rest) * 2 ^ 63)) ≤ℤ s)
    → 1 ≤ length rest → e ≡ get_or rest 0 e → Some n ≡ integer_in (reply_of e) → mag n < 2 ^ 63 → a ≡ s +ℤ n → further ≡ take (length rest - 1) (drop 1 rest)
    → (total (map reply_of ends) ≡ plus (Some a) (total (map reply_of further))) × (length further ≤ length ends)
    × (a ≤ℤ pos ((length ends - length further) * 2 ^ 63)) × (neg_ℤ (pos ((length ends - length further) * 2 ^ 63)) ≤ℤ a)
step ends rest further e s n a h some first is small sum tail =
    let len : length further ≡ length rest - 1 = ap length tail ∙ one_less rest some in (
      total-step ends rest e s n h.0 some first is ∙ ap (λ y. plus (Some y) (total (map reply_of (take (length rest - 1) (drop 1 rest))))) (sym sum)
          ∙ ap (λ y. plus (Some a) (total (map reply_of y))) (sym tail),
      omega arith,
      subst (λ y. y ≤ℤ pos ((length ends - length further) * 2 ^ 63)) (sym sum)
          (subst (λ y. (s +ℤ n) ≤ℤ pos ((length ends - y) * 2 ^ 63)) (sym len) (above s n (length ends) (length rest) h.2 small some h.1)),
      subst (λ y. neg_ℤ (pos ((length ends - length further) * 2 ^ 63)) ≤ℤ y) (sym sum)
          (subst (λ y. neg_ℤ (pos ((length ends - y) * 2 ^ 63)) ≤ℤ (s +ℤ n)) (sym len) (below s n (length ends) (length rest) h.3 small some h.1)),
    )
