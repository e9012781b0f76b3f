-- Pieces of a text, one after another.
use Rattle.std.proofs.Common.{◌≡◌, refl, ℕ, zero, suc, ◌+◌, ◌<◌, List, [], ◌∷◌, ◌++◌, Result, Ok, Err, length, take, map, get_or, sym, ap, ◌∙◌, arith, append_assoc}
use Rattle.std.proofs.lemmas.List.{append-nil, flat_map_more}
use Rattle.std.proofs.lemmas.List.FromFn.{map-range_with_len_more}
use Rattle.std.proofs.lemmas.List.Concat.{flat_map-append}
use Rattle.std.specs.List.{flat_map, range_with_len}
use Rattle.std.specs.Prelude.{OnOk}

-- one more item of a list has its piece at the end
piece-more : {X : Type 0} (f : X → List ℕ) (xs : List X) (i : ℕ) (x : X) → i < length xs → x ≡ get_or xs i x → flat_map f (take (i + 1) xs) ≡ flat_map f (take i xs) ++ f x
piece-more f [] i x lt at = absurd (omega (arith, lt))
piece-more f (y ∷ ys) zero x lt at = append-nil (f y) ∙ ap f (sym at)
piece-more f (y ∷ ys) (suc i) x lt at =
    let same : suc i + 1 ≡ suc (i + 1) = omega arith in
    ap (λ n. flat_map f (take n (y ∷ ys))) same ∙ ap (λ text. f y ++ text) (piece-more f ys i x (omega (arith, lt)) at) ∙ sym (append_assoc (f y) (flat_map f (take i ys)) (f x))

pub text-more : {X : Type 0} (f : X → List ℕ) (xs : List X) (i : ℕ) (x : X) (old so_far new : List ℕ) → i < length xs → x ≡ get_or xs i x → so_far ≡ old ++ flat_map f (take i xs)
    → new ≡ so_far ++ f x → new ≡ old ++ flat_map f (take (i + 1) xs)
text-more f xs i x old so_far new lt at before added =
    added ∙ ap (λ text. text ++ f x) before ∙ append_assoc old (flat_map f (take i xs)) (f x) ∙ ap (λ text. old ++ text) (sym (piece-more f xs i x lt at))

-- the pieces of what each item becomes
pub pieces-map : {X Y : Type 0} (f : Y → List ℕ) (g : X → Y) (xs : List X) → flat_map f (map g xs) ≡ flat_map (λ x. f (g x)) xs
pieces-map f g [] = refl
pieces-map f g (x ∷ xs) = ap (λ text. f (g x) ++ text) (pieces-map f g xs)

pub mapped-more : {X Y : Type 0} (f : Y → List ℕ) (g : X → Y) (xs : List X) (i : ℕ) (x : X) (old so_far new : List ℕ) → i < length xs → x ≡ get_or xs i x
    → so_far ≡ old ++ flat_map f (map g (take i xs)) → new ≡ so_far ++ f (g x) → new ≡ old ++ flat_map f (map g (take (i + 1) xs))
mapped-more f g xs i x old so_far new lt at before added =
    text-more (λ y. f (g y)) xs i x old so_far new lt at (before ∙ ap (λ text. old ++ text) (pieces-map f g (take i xs))) added
    ∙ ap (λ text. old ++ text) (sym (pieces-map f g (take (i + 1) xs)))

-- one more number has its piece at the end
pub counted-more : {Y : Type 0} (f : Y → List ℕ) (g : ℕ → Y) (place : ℕ) (old so_far new : List ℕ)
    → so_far ≡ old ++ flat_map f (map g (range_with_len 0 place)) → new ≡ so_far ++ f (g place) → new ≡ old ++ flat_map f (map g (range_with_len 0 (place + 1)))
counted-more f g place old so_far new before added =
    added ∙ ap (λ text. text ++ f (g place)) before ∙ flat_map_more f old (map g (range_with_len 0 place)) (g place)
    ∙ ap (λ ys. old ++ flat_map f ys) (sym (map-range_with_len_more g 0 place place (omega arith)))

-- two pieces, one behind the other
pub both : (old mid new a b : List ℕ) → mid ≡ old ++ a → new ≡ mid ++ b → new ≡ old ++ (a ++ b)
both old mid new a b before added = added ∙ ap (λ text. text ++ b) before ∙ append_assoc old a b

-- one piece, and what is added behind it
pub after : {U E : Type 0} (r : Result U E) (old mid new a b : List ℕ) → mid ≡ old ++ a → OnOk r (new ≡ mid ++ b) → OnOk r (new ≡ old ++ (a ++ b))
after (Ok u) old mid new a b before added = added ∙ ap (λ text. text ++ b) before ∙ append_assoc old a b
after (Err e) old mid new a b before added = added

-- the last piece of several
pub the_last : {U E : Type 0} (r : Result U E) (old new a : List ℕ) → OnOk r (new ≡ old ++ a) → OnOk r (new ≡ old ++ (a ++ []))
the_last (Ok u) old new a added = added ∙ ap (λ text. old ++ text) (sym (append-nil a))
the_last (Err e) old new a added = added

pub joined : {U E Y : Type 0} (r : Result U E) (f : Y → List ℕ) (xs ys : List Y) (old new a : List ℕ)
    → OnOk r (new ≡ old ++ (a ++ (flat_map f xs ++ flat_map f ys))) → OnOk r (new ≡ old ++ (a ++ flat_map f (xs ++ ys)))
joined (Ok u) f xs ys old new a added = added ∙ ap (λ text. old ++ (a ++ text)) (sym (flat_map-append f xs ys))
joined (Err e) f xs ys old new a added = added
