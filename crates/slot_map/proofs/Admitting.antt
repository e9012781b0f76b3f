-- What a table numbers, by whether it holds the endpoint and has room.
use Rattle.std.proofs.Common.{◌≡◌, ℕ, ◌<◌, ◌≤◌, ◌+◌, Bool, true, false, not, ◌||◌, List, [], ◌∷◌, ◌++◌, length, None, Some, cond, ltb, refl, suc, sym, ap, ◌∙◌, subst, append_assoc, length-append, arith}
use Rattle.std.proofs.lemmas.Bool.{cond-true, cond-false, lt-ltb, le-ltb}
use Rattle.std.proofs.lemmas.Bool.Decides.{nat_tests}
use Rattle.std.proofs.lemmas.List.Folds.{list_any-append}
use Rattle.std.specs.List.{list_any, position_or_len, position}
use Rattle.slot_map.specs.Table.{Endpoint, same_endpoint, numbered, numbered_at, Admits}

at_head : (b : Bool) (m n : ℕ) (rest : Bool) → ltb m n ≡ rest → ltb (cond (not b) (1 + m) 0) (suc n) ≡ (b || rest)
at_head true m n rest h = lt-ltb 0 (suc n) (omega arith)
at_head false m n rest h = grind (arith, nat_tests, h)

-- there is a first place exactly where some element passes
ltb-position : {X : Type 0} (p : X → Bool) → (xs : List X) → ltb (position_or_len p xs) (length xs) ≡ list_any p xs
ltb-position p [] = refl
ltb-position p (x ∷ xs) = at_head (p x) (position_or_len p xs) (length xs) (list_any p xs) (ltb-position p xs)

position-held : (old : List Endpoint) (at : Endpoint) → list_any (same_endpoint at) old ≡ true → position (same_endpoint at) old ≡ Some (position_or_len (same_endpoint at) old)
position-held old at held = cond-true _ (Some (position_or_len (same_endpoint at) old)) None (ltb-position (same_endpoint at) old ∙ held)

position-new : (old : List Endpoint) (at : Endpoint) → list_any (same_endpoint at) old ≡ false → position (same_endpoint at) old ≡ None
position-new old at new = cond-false _ (Some (position_or_len (same_endpoint at) old)) None (ltb-position (same_endpoint at) old ∙ new)

pub Admits-held : (old : List Endpoint) (at : Endpoint) → list_any (same_endpoint at) old ≡ true → Admits (numbered old at) old true old
Admits-held old at held = subst (λ place. Admits (numbered_at place old at) old true old) (sym (position-held old at held)) (refl, refl)

pub Admits-full : (old : List Endpoint) (at : Endpoint) → list_any (same_endpoint at) old ≡ false → 64 ≤ length old → Admits (numbered old at) old false old
Admits-full old at new full =
    subst (λ place. Admits (numbered_at place old at) old false old) (sym (position-new old at new))
    (subst (λ given. Admits given old false old) (sym (cond-false _ (Some (record { table = old ++ at ∷ []; number = length old })) None (le-ltb (length old) 64 full))) (refl, refl))

pub Admits-new : (old : List Endpoint) (at : Endpoint) → list_any (same_endpoint at) old ≡ false → length old < 64 → Admits (numbered old at) old true (old ++ at ∷ [])
Admits-new old at new room =
    subst (λ place. Admits (numbered_at place old at) old true (old ++ at ∷ [])) (sym (position-new old at new))
    (subst (λ given. Admits given old true (old ++ at ∷ [])) (sym (cond-true _ (Some (record { table = old ++ at ∷ []; number = length old })) None (lt-ltb (length old) 64 room))) (refl, refl))

-- a table of two pieces
pub held-first : (p : Endpoint → Bool) (xs ys whole : List Endpoint) → xs ++ ys ≡ whole → list_any p xs ≡ true → list_any p whole ≡ true
held-first p xs ys whole is held = ap (list_any p) (sym is) ∙ list_any-append p xs ys ∙ ap (λ b. b || list_any p ys) held

pub held-second : (p : Endpoint → Bool) (xs ys whole : List Endpoint) → xs ++ ys ≡ whole → list_any p xs ≡ false → list_any p whole ≡ list_any p ys
held-second p xs ys whole is new = ap (list_any p) (sym is) ∙ list_any-append p xs ys ∙ ap (λ b. b || list_any p ys) new

pub length-whole : (xs ys whole : List Endpoint) → xs ++ ys ≡ whole → length whole ≡ length xs + length ys
length-whole xs ys whole is = ap length (sym is) ∙ length-append xs ys

pub whole-push : (xs ys more whole : List Endpoint) (at : Endpoint) → xs ++ ys ≡ whole → more ≡ ys ++ at ∷ [] → xs ++ more ≡ whole ++ at ∷ []
whole-push xs ys more whole at is pushed = ap (λ zs. xs ++ zs) pushed ∙ sym (append_assoc xs ys (at ∷ [])) ∙ ap (λ zs. zs ++ at ∷ []) is
