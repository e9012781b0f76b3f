-- One more item of a weaving.
use Rattle.std.proofs.Common.{◌≡◌, ℕ, zero, suc, true, false, ◌==◌, ◌-◌, ◌<◌, ◌≤◌, List, [], ◌∷◌, ◌++◌, map, set, length, take, drop, get_or, cond, Option, None, Some, option_map, refl, sym, ap, ◌∙◌, subst, arith}
use Rattle.std.specs.List.{slice_get, list_all}
use Rattle.std.proofs.lemmas.List.{take_all}
use Rattle.std.proofs.lemmas.List.{append_assoc, append-nil, map-append, map-set, length-map}
use Rattle.key_split.specs.Woven.{woven, advanced, led_by}

pub advanced-set : {A : Type 0} (lists : List (List A)) (n : ℕ) (later : List A) → n < length lists → later ≡ drop 1 (get_or lists n []) → advanced lists n ≡ set lists n later
advanced-set [] n later h e = absurd (omega arith)
advanced-set (xs ∷ lists) zero later h e = ap (λ ys. ys ∷ lists) (sym e)
advanced-set (xs ∷ lists) (suc n) later h e = ap (λ ls. xs ∷ ls) (advanced-set lists n later (omega arith) e)

woven-first : {A : Type 0} (rest : List ℕ) (n : ℕ) (lists : List (List A)) → 1 ≤ length rest → n ≡ get_or rest 0 n
    → woven rest lists ≡ led_by (slice_get (get_or lists n []) 0) (woven (take (length rest - 1) (drop 1 rest)) (advanced lists n))
woven-first [] n lists h e = absurd (omega arith)
woven-first (m ∷ rest) n lists h e =
    ap (λ k. led_by (slice_get (get_or lists k []) 0) (woven rest (advanced lists k))) (sym e)
    ∙ ap (λ r. led_by (slice_get (get_or lists n []) 0) (woven r (advanced lists n))) (sym (take_all _ rest (omega arith)))

regroup : {A : Type 0} (done : List A) (x : A) (o : Option (List A)) → option_map (λ more. done ++ more) (option_map (λ xs. x ∷ xs) o) ≡ option_map (λ more. (done ++ x ∷ []) ++ more) o
regroup done x None = refl
regroup done x (Some xs) = ap Some (sym (append_assoc done (x ∷ []) xs))

pub woven-end : {A : Type 0} (whole : Option (List A)) (done : List A) (rest : List ℕ) (lists : List (List A))
    → whole ≡ option_map (λ more. done ++ more) (woven rest lists) → length rest < 1 → true ≡ list_all (λ xs. length xs == 0) lists → Some done ≡ whole
woven-end whole done [] lists h short all =
    sym (h ∙ ap (λ b. option_map (λ more. done ++ more) (cond b (Some []) None)) (sym all) ∙ ap Some (append-nil done))
woven-end whole done (n ∷ rest) lists h short all = absurd (omega arith)

pub woven-left : {A : Type 0} (whole : Option (List A)) (done : List A) (rest : List ℕ) (lists : List (List A))
    → whole ≡ option_map (λ more. done ++ more) (woven rest lists) → length rest < 1 → false ≡ list_all (λ xs. length xs == 0) lists → None ≡ whole
woven-left whole done [] lists h short all = sym (h ∙ ap (λ b. option_map (λ more. done ++ more) (cond b (Some []) None)) (sym all))
woven-left whole done (n ∷ rest) lists h short all = absurd (omega arith)

pub seen-at : {A B : Type 0} (f : A → B) (l : List A) (n : ℕ) (y : A) (d : B) → n < length l → y ≡ get_or l n y → get_or (map f l) n d ≡ f y
seen-at f [] n y d h e = absurd (omega arith)
seen-at f (x ∷ l) zero y d h e = ap f (sym e)
seen-at f (x ∷ l) (suc n) y d h e = seen-at f l n y d (omega arith) e

pub advanced-seen : {A B : Type 0} (f : A → List B) (lists : List A) (n : ℕ) (list later : A)
    → n < length lists → list ≡ get_or lists n list → f later ≡ drop 1 (f list) → map f (set lists n later) ≡ advanced (map f lists) n
advanced-seen f lists n list later within at e =
    let inside : n < length (map f lists) = subst (λ k. n < k) (sym (length-map lists f)) within in
    map-set f lists n later ∙ sym (advanced-set (map f lists) n (f later) inside (e ∙ ap (drop 1) (sym (seen-at f lists n list [] within at))))

pub woven-turn : {A B : Type 0} (f : A → B) (whole : Option (List B)) (items items' : List A) (rest : List ℕ) (lists lists' : List (List B)) (n : ℕ) (item : A)
    → whole ≡ option_map (λ more. map f items ++ more) (woven rest lists) → 1 ≤ length rest → n ≡ get_or rest 0 n
    → Some (f item) ≡ slice_get (get_or lists n []) 0 → lists' ≡ advanced lists n → items' ≡ items ++ item ∷ []
    → whole ≡ option_map (λ more. map f items' ++ more) (woven (take (length rest - 1) (drop 1 rest)) lists')
woven-turn f whole items items' rest lists lists' n item h some first is later more =
    let further = take (length rest - 1) (drop 1 rest) in
    h ∙ ap (option_map (λ more. map f items ++ more))
    (woven-first rest n lists some first ∙ ap (λ o. led_by o (woven further (advanced lists n))) (sym is)
    ∙ ap (λ ls. option_map (λ xs. f item ∷ xs) (woven further ls)) (sym later))
    ∙ regroup (map f items) (f item) _
    ∙ ap (λ ds. option_map (λ more. ds ++ more) (woven further lists')) (sym (ap (map f) more ∙ map-append f items (item ∷ [])))

pub rest-below : (rest : List ℕ) (b : ℕ) → ((k d : ℕ) → k < length rest → get_or rest k d < b) → (k d : ℕ) → k < length (take (length rest - 1) (drop 1 rest)) → get_or (take (length rest - 1) (drop 1 rest)) k d < b
rest-below [] b h k d w = absurd (let l : length {A = ℕ} [] ≡ 0 = refl in omega arith)
rest-below (m ∷ rest) b h k d w =
    let e : take (length (m ∷ rest) - 1) rest ≡ rest = take_all _ rest (omega arith) in
    subst (λ r. get_or r k d < b) (sym e) (h (suc k) d (let w2 : k < length rest = subst (λ r. k < length r) e w in omega arith))

pub first-any : (rest : List ℕ) → 1 ≤ length rest → get_or rest 0 0 ≡ get_or rest 0 (get_or rest 0 0)
first-any [] h = absurd (omega arith)
first-any (m ∷ rest) h = refl
