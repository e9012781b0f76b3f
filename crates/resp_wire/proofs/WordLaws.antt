-- Taking the words of an array one after another.
use Rattle.std.proofs.Common.{◌≡◌, ℕ, zero, suc, ◌+◌, ◌<◌, ◌≤◌, Bool, true, false, List, [], ◌∷◌, ◌++◌, length, map, drop, get_or, Option, Some, None, refl, sym, ap, ◌∙◌, arith, append_assoc, is_some}
use Rattle.std.specs.Prelude.{option_map}
use Rattle.std.proofs.lemmas.Bool.{false≢true}
use Rattle.std.proofs.lemmas.List.{append-nil}
use Rattle.resp_wire.specs.Data.{Data, Items, simple, error, integer, bulk, null_bulk, array, null_array, no_items, item, items_of}
use Rattle.resp_wire.specs.Seen.{data_of}
use Rattle.resp_wire.specs.Words.{bulks_of, is_bulk}
use Rattle.resp_wire.specs.declared.value.Value.{Value}

-- whether all from an item on are bulk strings
abbrev pub all_from : List Value → Bool
all_from vs = is_some (bulks_of (items_of (map data_of vs)))

kept_some : {A B : Type 0} (f : A → B) (o : Option A) → is_some (option_map f o) ≡ is_some o
kept_some f None = refl
kept_some f (Some x) = refl

pub bulk_kept : (d : Data) (vs : Items) → is_bulk d ≡ true → is_some (bulks_of (item d vs)) ≡ is_some (bulks_of vs)
bulk_kept (bulk word) vs e = kept_some _ (bulks_of vs)
bulk_kept (simple t) vs e = absurd (false≢true e)
bulk_kept (error t) vs e = absurd (false≢true e)
bulk_kept (integer z) vs e = absurd (false≢true e)
bulk_kept null_bulk vs e = absurd (false≢true e)
bulk_kept (array ds) vs e = absurd (false≢true e)
bulk_kept null_array vs e = absurd (false≢true e)

pub none_kept : (d : Data) (vs : Items) → is_bulk d ≡ false → bulks_of (item d vs) ≡ None
none_kept (bulk word) vs e = absurd (false≢true (sym e))
none_kept (simple t) vs e = refl
none_kept (error t) vs e = refl
none_kept (integer z) vs e = refl
none_kept null_bulk vs e = refl
none_kept (array ds) vs e = refl
none_kept null_array vs e = refl

items_from : (vs : List Value) (i : ℕ) (d : Value) → i < length vs → items_of (map data_of (drop i vs)) ≡ item (data_of (get_or vs i d)) (items_of (map data_of (drop (i + 1) vs)))
items_from [] i d h = absurd (omega arith)
items_from (v ∷ vs) zero d h = refl
items_from (v ∷ vs) (suc i) d h =
    let next : suc i + 1 ≡ suc (i + 1) = omega arith in
    rw next (items_from vs i d (omega arith))

pub bulk_next : (vs : List Value) (i : ℕ) (v : Value) (all : Bool) → i < length vs → v ≡ get_or vs i v → is_bulk (data_of v) ≡ true → all_from (drop i vs) ≡ all → all_from (drop (i + 1) vs) ≡ all
bulk_next vs i v all h is b e =
    let k = items_from vs i v h ∙ ap (λ (w : Value). item (data_of w) (items_of (map data_of (drop (i + 1) vs)))) (sym is) in
    sym (bulk_kept (data_of v) (items_of (map data_of (drop (i + 1) vs))) b) ∙ sym (ap (λ (u : Items). is_some (bulks_of u)) k) ∙ e

pub no_bulk_next : (vs : List Value) (i : ℕ) (v : Value) (all : Bool) → i < length vs → v ≡ get_or vs i v → is_bulk (data_of v) ≡ false → all_from (drop i vs) ≡ all → false ≡ all
no_bulk_next vs i v all h is b e =
    let k = items_from vs i v h ∙ ap (λ (w : Value). item (data_of w) (items_of (map data_of (drop (i + 1) vs)))) (sym is) in
    sym (ap (λ (o : Option (List (List ℕ))). is_some o) (none_kept (data_of v) (items_of (map data_of (drop (i + 1) vs))) b)) ∙ sym (ap (λ (u : Items). is_some (bulks_of u)) k) ∙ e

-- ---- taking them

abbrev pub taken : List (List ℕ) → List Value → Option (List (List ℕ))
taken words vs = option_map (λ left. words ++ left) (bulks_of (items_of (map data_of vs)))

more : (words : List (List ℕ)) (word : List ℕ) (o : Option (List (List ℕ))) → option_map (λ left. (words ++ word ∷ []) ++ left) o ≡ option_map (λ left. words ++ left) (option_map (λ left. word ∷ left) o)
more words word None = refl
more words word (Some left) = ap (λ (u : List (List ℕ)). Some u) (append_assoc words (word ∷ []) left)

pub taken_more : (words new : List (List ℕ)) (word : List ℕ) (vs left : List Value) (v : Value) (all : Option (List (List ℕ))) → vs ≡ v ∷ left → data_of v ≡ bulk word → new ≡ words ++ word ∷ [] → taken words vs ≡ all → taken new left ≡ all
taken_more words new word vs left v all p d n e =
    ap (λ (u : List (List ℕ)). taken u left) n ∙ more words word (bulks_of (items_of (map data_of left)))
    ∙ sym (ap (λ (u : Data). option_map (λ left. words ++ left) (bulks_of (item u (items_of (map data_of left))))) d)
    ∙ sym (ap (taken words) p) ∙ e

pub taken_all : (words : List (List ℕ)) (vs : List Value) (all : Option (List (List ℕ))) → length vs ≡ 0 → taken words vs ≡ all → all ≡ Some words
taken_all words [] all h e = sym e ∙ ap (λ (u : List (List ℕ)). Some u) (append-nil words)
taken_all words (v ∷ vs) all h e = absurd (omega arith)

-- there is none that is no bulk string
pub all_bulks : (words : List (List ℕ)) (vs left : List Value) (v : Value) (all : Option (List (List ℕ))) → vs ≡ v ∷ left → is_bulk (data_of v) ≡ false → taken words vs ≡ all → is_some all ≡ true → ⊥
all_bulks words vs left v all p b e s =
    let none : taken words vs ≡ None = ap (taken words) p ∙ ap (option_map (λ (u : List (List ℕ)). words ++ u)) (none_kept (data_of v) (items_of (map data_of left)) b) in
    false≢true (ap (λ (o : Option (List (List ℕ))). is_some o) (sym none ∙ e) ∙ s)
