-- Beginnings of one list.
use Rattle.std.proofs.Common.{◌≡◌, ◌≤◌, List, ◌++◌, length, take, drop, sym, ap, ◌∙◌, append_assoc}
use Rattle.std.proofs.Math.Seq.{take-append_seam}
use Rattle.std.proofs.lemmas.List.{take-append-drop, take-append-le, take_all}
use mathlib.Core.List.{IsPrefix}

-- a beginning is what the whole has up to there
pub begins_take : {A : Type 0} (xs ys : List A) → IsPrefix xs ys → take (length xs) ys ≡ xs
begins_take xs ys p = sym (ap (take (length xs)) p.1) ∙ take-append_seam xs p.0

-- of two beginnings of one list the shorter begins the longer
pub shorter_begins : {A : Type 0} (xs ys zs : List A) → IsPrefix xs zs → IsPrefix ys zs → length xs ≤ length ys → IsPrefix xs ys
shorter_begins xs ys zs p q short =
    let here : take (length xs) ys ≡ xs = sym (take-append-le (length xs) ys q.0 short) ∙ (ap (take (length xs)) q.1 ∙ begins_take xs zs p) in
    (drop (length xs) ys, ap (λ front. front ++ drop (length xs) ys) (sym here) ∙ take-append-drop (length xs) ys)

-- a beginning that is as long as the whole is the whole
pub begins_whole : {A : Type 0} (xs ys : List A) → IsPrefix xs ys → length ys ≤ length xs → xs ≡ ys
begins_whole xs ys p long = sym (begins_take xs ys p) ∙ take_all (length xs) ys long

-- a beginning of a beginning
pub begins_then : {A : Type 0} (xs ys zs : List A) → IsPrefix xs ys → IsPrefix ys zs → IsPrefix xs zs
begins_then xs ys zs p q = (p.0 ++ q.0, sym (append_assoc xs p.0 q.0) ∙ (ap (λ front. front ++ q.0) p.1 ∙ q.1))
