-- A run at a store: on a copy of what it holds of the run's keys, which is then put back.
use Rattle.std.proofs.Common.{◌≡◌, ◌≢◌, ◌⊎◌, inl, inr, ⊎_elim, Bool, true, false, ℕ, suc, zero, ◌-◌, ◌≤◌, ◌<◌, get_or, List, [], ◌∷◌, ◌++◌, map, length, Option, Some, None, Result, Ok, Err, refl, sym, ap, ◌∙◌, subst, arith, eq-eqb}
use Rattle.std.proofs.lemmas.Bool.{false≢true}
use Rattle.std.proofs.lemmas.List.Elements.{All-append}
use Rattle.std.specs.Prelude.{◌↔◌, not, All, cond, take, drop, slice_get, Vec, ◌&&◌, nat_eq, IfOk, OnOk, OnErr}
use Rattle.std.specs.List.{list_all}
use Rattle.std.specs.declared.alloc.Global.{Global}
use Rattle.std.specs.Map.{lookup}
use Rattle.std.specs.FinMap.{get}
use Rattle.std.specs.Str.{bytes_eq}
use Rattle.slot_hash.specs.Slot.{slot_of}
use Rattle.key_split.specs.PartModel.{PartModel, Pair, pairs_in, keys_of, HasOneSlot}
use Rattle.key_split.specs.declared.part.Op.TheVariants.{MSet}
use Rattle.key_split.specs.declared.travel.Told.{Told}
use Rattle.node_model.specs.Laws.{Among}
use Rattle.node_model.specs.Store.{StoreModel, put, replies, reply_to, store_after, store_along}
use Rattle.node_model.specs.Serving.{IsReply}
use Rattle.node_model.specs.Runs.{AllTold, AreReplies, keys_in, store_after_all}
use Rattle.node_model.specs.Together.{AreTaken, IsCopy, IsLaidOver, PerformsAll, or_else}
use Rattle.node_model.specs.BySlot.{gathered, store_in, HasStore, IsInPlace}
use Rattle.node_model.proofs.Keys.{among, key_tells, get-put-same, get-put-other, same_content}
use Rattle.node_model.proofs.Agreeing.{after-other, along-agree, along-other}
use Rattle.node_model.proofs.BySlot.{get-gathered, same_number, in_place, same-in_place, same-gathered}

-- lists

whole : {X : Type 0} (ys : List X) (n : ℕ) → n ≡ length ys → ys ≡ take n ys
whole [] zero e = refl
whole [] (suc n) e = refl
whole (y ∷ ys) zero e = absurd (omega (arith, e))
whole (y ∷ ys) (suc n) e = ap (λ zs. y ∷ zs) (whole ys n (omega (arith, e)))

-- a list by its first
pub by-first : {X : Type 0} (xs : List X) (x : X) → 1 ≤ length xs → x ≡ get_or xs 0 x → xs ≡ x ∷ take (length xs - 1) (drop 1 xs)
by-first [] x lt is = absurd (omega (arith, lt))
by-first (y ∷ ys) x lt is = λ i. sym is i ∷ whole ys (suc (length ys) - 1) (omega arith) i

pub none-left : {X : Type 0} (xs : List X) → length xs < 1 → xs ≡ []
none-left [] lt = refl
none-left (x ∷ xs) lt = absurd (omega (arith, lt))

pub joins : {X : Type 0} (xs ys zs : List X) → (xs ++ ys) ++ zs ≡ xs ++ (ys ++ zs)
joins [] ys zs = refl
joins (x ∷ xs) ys zs = ap (λ ws. x ∷ ws) (joins xs ys zs)

pub none-added : {X : Type 0} (xs : List X) → xs ++ [] ≡ xs
none-added [] = refl
none-added (x ∷ xs) = ap (λ ys. x ∷ ys) (none-added xs)

-- the keys of a run

pub among-left : (q : List ℕ) (xs ys : List (List ℕ)) → Among q xs → Among q (xs ++ ys)
among-left q [] ys h = absurd h
among-left q (x ∷ xs) ys (inl h) = inl h
among-left q (x ∷ xs) ys (inr h) = inr (among-left q xs ys h)

pub among-right : (q : List ℕ) (xs ys : List (List ℕ)) → Among q ys → Among q (xs ++ ys)
among-right q [] ys h = h
among-right q (x ∷ xs) ys h = inr (among-right q xs ys h)

pub among-either : (q : List ℕ) (xs ys : List (List ℕ)) → Among q (xs ++ ys) → Among q xs ⊎ Among q ys
among-either q [] ys h = inr h
among-either q (x ∷ xs) ys (inl h) = inl (inl h)
among-either q (x ∷ xs) ys (inr h) = ⊎_elim (λ (y : Among q xs). inl (inr y)) (λ (y : Among q ys). inr y) (among-either q xs ys h)

-- a key that is not the last is among the others
among-before : (q key : List ℕ) (keys : List (List ℕ)) → key ≢ q → Among q (keys ++ key ∷ []) → Among q keys
among-before q key keys ne h = ⊎_elim (λ (y : Among q keys). y)
    (λ (y : Among q (key ∷ [])). ⊎_elim (λ (e : key ≡ q). absurd (ne e)) (λ (b : ⊥). absurd b) y)
    (among-either q keys (key ∷ []) h)

-- a run at two stores

pub after-all-other : (st : StoreModel) (cs : List PartModel) (q : List ℕ) → (Among q (keys_in cs) → ⊥) → get (store_after_all st cs) q ≡ get st q
after-all-other st [] q h = refl
after-all-other st (c ∷ cs) q h = after-all-other (store_after st c) cs q (λ x. h (among-right q (keys_of c) (keys_in cs) x)) ∙ after-other st c q (λ x. h (among-left q (keys_of c) (keys_in cs) x))

reply-alike : (s t : StoreModel) (c : PartModel) (cs : List PartModel) (tolds : List Told) → reply_to s c ≡ reply_to t c
    → ((more : List Told) → AreReplies (store_after s c) cs more → AreReplies (store_after t c) cs more) → AreReplies s (c ∷ cs) tolds → AreReplies t (c ∷ cs) tolds
reply-alike s t c cs [] same rest d = absurd d
reply-alike s t c cs (x ∷ xs) same rest d = (subst (IsReply x) same d.0, rest xs d.1)

-- two stores that agree on some keys, the run's among them, answer alike, and agree on them after
pub runs-agree : (K : List ℕ → Type 0) (cs : List PartModel) (s t : StoreModel) → ((q : List ℕ) → Among q (keys_in cs) → K q) → ((q : List ℕ) → K q → get s q ≡ get t q)
    → ((q : List ℕ) → K q → get (store_after_all s cs) q ≡ get (store_after_all t cs) q) × ((tolds : List Told) → AreReplies s cs tolds → AreReplies t cs tolds)
runs-agree K [] s t in_k h = (h, none)
  where
    none : (tolds : List Told) → AreReplies s [] tolds → AreReplies t [] tolds
    none [] d = tt
    none (x ∷ xs) d = absurd d
runs-agree K (c ∷ cs) s t in_k h =
    let here = along-agree K c.op s t (pairs_in c) (λ q x. in_k q (among-left q (keys_of c) (keys_in cs) x)) h in
    let rest = runs-agree K cs (store_after s c) (store_after t c) (λ q x. in_k q (among-right q (keys_of c) (keys_in cs) x)) here.0 in
    (rest.0, λ tolds d. reply-alike s t c cs tolds (ap (replies c.op c.arg) here.1) rest.1 d)

-- the copy

pub nothing-copied : (s t : StoreModel) → ((q : List ℕ) → get t q ≡ None) → IsCopy [] s t
nothing-copied s t h = λ q. ((λ x. absurd x), (λ x. h q))

pub copied-some : (keys : List (List ℕ)) (s t u : StoreModel) (key v : List ℕ) → get s key ≡ Some v → u ≡ put t key (Some v) → IsCopy keys s t → IsCopy (keys ++ key ∷ []) s u
copied-some keys s t u key v e is h = λ q. ⊎_elim
    (λ (x : (bytes_eq key q ≡ true) × (key ≡ q)). subst (λ z. (Among z (keys ++ key ∷ []) → get u z ≡ get s z) × ((Among z (keys ++ key ∷ []) → ⊥) → get u z ≡ None)) x.1
    ((λ y. ap (λ z. get z key) is ∙ get-put-same t key (Some v) ∙ sym e), (λ n. absurd (n (among-right key keys (key ∷ []) (inl refl))))))
    (λ (x : (bytes_eq key q ≡ false) × (key ≢ q)). (
      (λ y. ap (λ z. get z q) is ∙ get-put-other t key (Some v) q x.1 ∙ (h q).0 (among-before q key keys x.1 y)),
      (λ n. ap (λ z. get z q) is ∙ get-put-other t key (Some v) q x.1 ∙ (h q).1 (λ z. n (among-left q keys (key ∷ []) z))),
    ))
    (key_tells key q)

pub copied-none : (keys : List (List ℕ)) (s t : StoreModel) (key : List ℕ) → get s key ≡ None → IsCopy keys s t → IsCopy (keys ++ key ∷ []) s t
copied-none keys s t key e h = λ q. (
  (λ y. ⊎_elim
      (λ (x : Among q keys). (h q).0 x)
      (λ (n : Among q keys → ⊥). ⊎_elim
      (λ (z : Among q keys). absurd (n z))
      (λ (z : Among q (key ∷ [])). (h q).1 n ∙ ⊎_elim (λ (same : key ≡ q). sym e ∙ ap (get s) same) (λ (b : ⊥). absurd b) z)
      (among-either q keys (key ∷ []) y))
      (among q keys)),
  (λ n. (h q).1 (λ z. n (among-left q keys (key ∷ []) z))),
)

pub on-ok-of : {T E : Type 0} (P : Type 0) (r : Result T E) → P → OnOk r P
on-ok-of P (Ok x) h = h
on-ok-of P (Err e) h = tt

pub ok-of : {T E : Type 0} (P : Type 0) (r : Result T E) (x : T) → r ≡ Ok x → OnOk r P → P
ok-of P r x e h = subst (λ z. OnOk z P) e h

-- what is taken away

pub nothing-taken : (s : StoreModel) → AreTaken [] s s
nothing-taken s = λ q. ((λ x. absurd x), (λ x. refl))

pub taken-one : (keys : List (List ℕ)) (s t u : StoreModel) (key : List ℕ) → u ≡ put t key None → AreTaken keys s t → AreTaken (keys ++ key ∷ []) s u
taken-one keys s t u key is h = λ q. ⊎_elim
    (λ (x : (bytes_eq key q ≡ true) × (key ≡ q)). subst (λ z. (Among z (keys ++ key ∷ []) → get u z ≡ None) × ((Among z (keys ++ key ∷ []) → ⊥) → get u z ≡ get s z)) x.1
    ((λ y. ap (λ z. get z key) is ∙ get-put-same t key None), (λ n. absurd (n (among-right key keys (key ∷ []) (inl refl))))))
    (λ (x : (bytes_eq key q ≡ false) × (key ≢ q)). (
      (λ y. ap (λ z. get z q) is ∙ get-put-other t key None q x.1 ∙ (h q).0 (among-before q key keys x.1 y)),
      (λ n. ap (λ z. get z q) is ∙ get-put-other t key None q x.1 ∙ (h q).1 (λ z. n (among-left q keys (key ∷ []) z))),
    ))
    (key_tells key q)

pub taken-more : (keys more : List (List ℕ)) (s t u : StoreModel) → AreTaken keys s t → AreTaken more t u → AreTaken (keys ++ more) s u
taken-more keys more s t u h g = λ q. ⊎_elim
    (λ (x : Among q more). ((λ y. (g q).0 x), (λ n. absurd (n (among-right q keys more x)))))
    (λ (m : Among q more → ⊥). (
      (λ y. (g q).1 m ∙ (h q).0 (⊎_elim (λ (z : Among q keys). z) (λ (z : Among q more). absurd (m z)) (among-either q keys more y))),
      (λ n. (g q).1 m ∙ (h q).1 (λ z. n (among-left q keys more z))),
    ))
    (among q more)

-- what is laid over

laid : (pairs : List Pair) (t d : StoreModel) → ((i : ℕ) (p : Pair) → slice_get pairs i ≡ Some p → get t p.0 ≡ Some p.1) → (q : List ℕ)
    → (Among q (map (λ pair. pair.0) pairs) → get (store_along MSet d pairs) q ≡ get t q) × ((Among q (map (λ pair. pair.0) pairs) → ⊥) → get (store_along MSet d pairs) q ≡ get d q)
laid pairs t d h q = ((λ x. inside pairs d h x), (λ n. along-other MSet d pairs q n))
  where
    inside : (pairs : List Pair) (d : StoreModel) → ((i : ℕ) (p : Pair) → slice_get pairs i ≡ Some p → get t p.0 ≡ Some p.1) → Among q (map (λ pair. pair.0) pairs) → get (store_along MSet d pairs) q ≡ get t q
    inside [] d h x = absurd x
    inside (p ∷ ps) d h x = ⊎_elim
        (λ (y : Among q (map (λ pair. pair.0) ps)). inside ps (put d p.0 (Some p.1)) (λ i r e. h (suc i) r e) y)
        (λ (n : Among q (map (λ pair. pair.0) ps) → ⊥). ⊎_elim
        (λ (same : p.0 ≡ q). along-other MSet (put d p.0 (Some p.1)) ps q n ∙ ap (get (put d p.0 (Some p.1))) (sym same) ∙ get-put-same d p.0 (Some p.1) ∙ sym (h 0 p refl) ∙ ap (get t) same)
        (λ (y : Among q (map (λ pair. pair.0) ps)). absurd (n y))
        x)
        (among q (map (λ pair. pair.0) ps))

there : (pairs : List Pair) (t : StoreModel) → ((i : ℕ) (p : Pair) → slice_get pairs i ≡ Some p → get t p.0 ≡ Some p.1) → (q : List ℕ) → Among q (map (λ pair. pair.0) pairs) → (v : List ℕ) × (get t q ≡ Some v)
there [] t h q x = absurd x
there (p ∷ ps) t h q (inl same) = (p.1, ap (get t) (sym same) ∙ h 0 p refl)
there (p ∷ ps) t h q (inr x) = there ps t (λ i r e. h (suc i) r e) q x

absent : (pairs : List Pair) (q : List ℕ) → (Among q (map (λ pair. pair.0) pairs) → ⊥) → lookup (bytes_eq q) pairs ≡ None
absent [] q n = refl
absent (p ∷ ps) q n = ⊎_elim
    (λ (x : (bytes_eq q p.0 ≡ true) × (q ≡ p.0)). absurd (n (inl (sym x.1))))
    (λ (x : (bytes_eq q p.0 ≡ false) × (q ≢ p.0)). ap (λ b. cond b (Some p.1) (lookup (bytes_eq q) ps)) x.0 ∙ absent ps q (λ y. n (inr y)))
    (key_tells q p.0)

pub laid-over : (pairs : List Pair) (t d new : StoreModel) → ((i : ℕ) (p : Pair) → slice_get pairs i ≡ Some p → get t p.0 ≡ Some p.1) → ((q : List ℕ) → lookup (bytes_eq q) pairs ≡ get t q)
    → new ≡ store_along MSet d pairs → IsLaidOver t d new
laid-over pairs t d new h found is = λ q. ap (λ z. get z q) is ∙ ⊎_elim
    (λ (x : Among q (map (λ pair. pair.0) pairs)). let some = there pairs t h q x in (laid pairs t d h q).0 x ∙ some.1 ∙ ap (λ o. or_else o (get d q)) (sym some.1))
    (λ (n : Among q (map (λ pair. pair.0) pairs) → ⊥). (laid pairs t d h q).1 n ∙ ap (λ o. or_else o (get d q)) (sym (sym (found q) ∙ absent pairs q n)))
    (among q (map (λ pair. pair.0) pairs))

or-none : (o : Option (List ℕ)) → or_else o None ≡ o
or-none None = refl
or-none (Some v) = refl

-- the whole
pub settled : (cs : List PartModel) (s t t' mid new : StoreModel) → IsCopy (keys_in cs) s t → t' ≡ store_after_all t cs → AreTaken (keys_in cs) s mid → IsLaidOver t' mid new → new ≡ store_after_all s cs
settled cs s t t' mid new copy after taken over = same_content new (store_after_all s cs) (λ q. over q ∙ ⊎_elim
    (λ (x : Among q (keys_in cs)). ap (or_else (get t' q)) ((taken q).0 x) ∙ or-none (get t' q) ∙ ap (λ z. get z q) after ∙ (runs-agree (λ k. Among k (keys_in cs)) cs t s (λ k y. y) (λ k y. (copy k).0 y)).0 q x)
    (λ (n : Among q (keys_in cs) → ⊥). ap (λ o. or_else o (get mid q)) (ap (λ z. get z q) after ∙ after-all-other t cs q n ∙ (copy q).1 n) ∙ (taken q).1 n ∙ sym (after-all-other s cs q n))
    (among q (keys_in cs)))

pub performed : (E : Type 0) (cs : List PartModel) (s t t' mid new : StoreModel) (tolds : Vec Told Global) → IsCopy (keys_in cs) s t → AreReplies t cs tolds.items → t' ≡ store_after_all t cs
    → AreTaken (keys_in cs) s mid → IsLaidOver t' mid new → PerformsAll {E = E} (Ok tolds) s new cs
performed E cs s t t' mid new tolds copy told after taken over =
    ((runs-agree (λ k. Among k (keys_in cs)) cs t s (λ k y. y) (λ k y. (copy k).0 y)).1 tolds.items told, settled cs s t t' mid new copy after taken over)

-- a run at a node, in the store for its slot

in_slot : (cs : List PartModel) (slot : ℕ) → All (λ key. slot_of key ≡ slot) (keys_in cs) → (q : List ℕ) → Among q (keys_in cs) → slot_of q ≡ slot
in_slot cs slot h q x = go (keys_in cs) h x
  where
    go : (ks : List (List ℕ)) → All (λ key. slot_of key ≡ slot) ks → Among q ks → slot_of q ≡ slot
    go [] h x = absurd x
    go (k ∷ ks) h (inl e) = ap slot_of (sym e) ∙ h 0 k (omega arith)
    go (k ∷ ks) h (inr y) = go ks (λ i d lt. h (suc i) d (omega arith)) y

agree : (stores : List (ℕ × StoreModel)) (slot : ℕ) (q : List ℕ) → slot_of q ≡ slot → get (store_in stores slot) q ≡ get (gathered stores) q
agree stores slot q e = ap (λ s. get (store_in stores s) q) (sym e) ∙ sym (get-gathered stores q)

after-gathered : (old new : List (ℕ × StoreModel)) (slot : ℕ) (cs : List PartModel) → All (λ key. slot_of key ≡ slot) (keys_in cs)
    → HasStore old new slot (store_after_all (store_in old slot) cs) → gathered new ≡ store_after_all (gathered old) cs
after-gathered old new slot cs one has = same_content _ _ (λ q. get-gathered new q ∙ ap (λ s. get s q) (has (slot_of q)) ∙ go q (nat_eq slot (slot_of q)) refl)
  where
    go : (q : List ℕ) (b : Bool) → nat_eq slot (slot_of q) ≡ b → get (cond b (store_after_all (store_in old slot) cs) (store_in old (slot_of q))) q ≡ get (store_after_all (gathered old) cs) q
    go q true e = (runs-agree (λ k. slot_of k ≡ slot) cs (store_in old slot) (gathered old) (in_slot cs slot one) (agree old slot)).0 q (sym (same_number slot (slot_of q) e))
    go q false e = sym (get-gathered old q) ∙ sym (after-all-other (gathered old) cs q (λ x. let same : slot ≡ slot_of q = sym (in_slot cs slot one q x) in absurd (false≢true (sym e ∙ eq-eqb slot (slot_of q) same))))

pub all-in_place : {E : Type 0} (r : Result (Vec Told Global) E) (old new : List (ℕ × StoreModel)) (slot : ℕ) (cs : List PartModel) → All (λ key. slot_of key ≡ slot) (keys_in cs) → IsInPlace old
    → OnOk r (HasStore old new slot (store_after_all (store_in old slot) cs)) → OnErr r (HasStore old new slot (store_in old slot)) → IsInPlace new
all-in_place (Ok tolds) old new slot cs one is after same = in_place old new slot _ is after (λ q ne. after-all-other (store_in old slot) cs q (λ x. ne (in_slot cs slot one q x)))
all-in_place (Err e) old new slot cs one is after same = same-in_place old new slot is same

pub all-performs : {E : Type 0} (r : Result (Vec Told Global) E) (old new : List (ℕ × StoreModel)) (slot : ℕ) (cs : List PartModel) → All (λ key. slot_of key ≡ slot) (keys_in cs)
    → IfOk r (λ tolds. AreReplies (store_in old slot) cs tolds.items)
    → OnOk r (HasStore old new slot (store_after_all (store_in old slot) cs)) → OnErr r (HasStore old new slot (store_in old slot)) → PerformsAll r (gathered old) (gathered new) cs
all-performs (Ok tolds) old new slot cs one told after same =
    ((runs-agree (λ k. slot_of k ≡ slot) cs (store_in old slot) (gathered old) (in_slot cs slot one) (agree old slot)).1 tolds.items told, after-gathered old new slot cs one after)
all-performs (Err e) old new slot cs one told after same = same-gathered old new slot same

pub performs-all-after : {E : Type 0} (r : Result (Vec Told Global) E) (old new : StoreModel) (cs : List PartModel) (P : Type 0) → (new ≡ store_after_all old cs → P) → PerformsAll r old new cs → OnOk r P
performs-all-after (Ok tolds) old new cs P f h = f h.1
performs-all-after (Err e) old new cs P f h = tt

-- what is told

pub replied-one : (s0 : StoreModel) (all : List PartModel) (s : StoreModel) (c : PartModel) (cs : List PartModel) (so : List Told) (told : Told) → IsReply told (reply_to s c)
    → ((more : List Told) → AreReplies s (c ∷ cs) more → AreReplies s0 all (so ++ more)) → (more : List Told) → AreReplies (store_after s c) cs more → AreReplies s0 all ((so ++ told ∷ []) ++ more)
replied-one s0 all s c cs so told is h more d = subst (AreReplies s0 all) (sym (joins so (told ∷ []) more)) (h (told ∷ more) (is, d))

pub told-one : (said : Told) (all : List PartModel) (c : PartModel) (cs : List PartModel) (so : List Told) (told : Told) → told ≡ said
    → ((more : List Told) → AllTold said (c ∷ cs) more → AllTold said all (so ++ more)) → (more : List Told) → AllTold said cs more → AllTold said all ((so ++ told ∷ []) ++ more)
told-one said all c cs so told is h more d = subst (AllTold said all) (sym (joins so (told ∷ []) more)) (h (told ∷ more) (is, d))

-- tests over all keys of a run
pub all-keys : (p : List ℕ → Bool) (xs ys : List (List ℕ)) → list_all p (xs ++ ys) ≡ (list_all p xs && list_all p ys)
all-keys p [] ys = refl
all-keys p (x ∷ xs) ys = ap (λ b. p x && b) (all-keys p xs ys) ∙ go (p x)
  where
    go : (b : Bool) → (b && (list_all p xs && list_all p ys)) ≡ ((b && list_all p xs) && list_all p ys)
    go true = refl
    go false = refl

pub replied-all : (s0 : StoreModel) (all : List PartModel) (s : StoreModel) (rest : List PartModel) (so : List Told) → length rest < 1
    → ((more : List Told) → AreReplies s rest more → AreReplies s0 all (so ++ more)) → AreReplies s0 all so
replied-all s0 all s [] so lt h = subst (AreReplies s0 all) (none-added so) (h [] tt)
replied-all s0 all s (c ∷ cs) so lt h = absurd (omega (arith, lt))

pub told-all : (said : Told) (all rest : List PartModel) (so : List Told) → length rest < 1 → ((more : List Told) → AllTold said rest more → AllTold said all (so ++ more)) → AllTold said all so
told-all said all [] so lt h = subst (AllTold said all) (none-added so) (h [] tt)
told-all said all (c ∷ cs) so lt h = absurd (omega (arith, lt))

-- one more of the keys
pub keys-more : (keys all : List (List ℕ)) (rest : List Pair) (p : Pair) → 1 ≤ length rest → p ≡ get_or rest 0 p → keys ++ map (λ pair. pair.0) rest ≡ all
    → (keys ++ p.0 ∷ []) ++ map (λ pair. pair.0) (take (length rest - 1) (drop 1 rest)) ≡ all
keys-more keys all rest p lt is h = joins keys (p.0 ∷ []) (map (λ pair. pair.0) (take (length rest - 1) (drop 1 rest))) ∙ ap (λ ps. keys ++ map (λ (pair : Pair). pair.0) ps) (sym (by-first rest p lt is)) ∙ h

-- the keys of one more of the commands
pub run-keys-more : (keys all : List (List ℕ)) (rest : List PartModel) (c : PartModel) → 1 ≤ length rest → c ≡ get_or rest 0 c → keys ++ keys_in rest ≡ all
    → (keys ++ keys_of c) ++ keys_in (take (length rest - 1) (drop 1 rest)) ≡ all
run-keys-more keys all rest c lt is h = joins keys (keys_of c) (keys_in (take (length rest - 1) (drop 1 rest))) ∙ ap (λ cs. keys ++ keys_in cs) (sym (by-first rest c lt is)) ∙ h

pub all-firsts : (p : List ℕ → Bool) (ps : List Pair) → list_all p (map (λ pair. pair.0) ps) ≡ list_all (λ pair. p pair.0) ps
all-firsts p [] = refl
all-firsts p (x ∷ xs) = ap (λ b. p x.0 && b) (all-firsts p xs)

-- keys of one slot

abbrev pub AreIn : ℕ → List (List ℕ) → Type 0
AreIn slot keys = All (λ key. slot_of key ≡ slot) keys

all-right : (slot : ℕ) (xs ys : List (List ℕ)) → AreIn slot (xs ++ ys) → AreIn slot ys
all-right slot [] ys h = h
all-right slot (x ∷ xs) ys h = all-right slot xs ys (λ k d lt. h (suc k) d (omega (arith, lt)))

-- one more command is of the slot
pub slots-on : (slot : ℕ) (all : List (List ℕ)) (rest : List PartModel) (c : PartModel) → 1 ≤ length rest → c ≡ get_or rest 0 c → HasOneSlot c → slot_of c.key ≡ slot
    → AreIn slot (keys_in rest) ↔ AreIn slot all → AreIn slot (keys_in (take (length rest - 1) (drop 1 rest))) ↔ AreIn slot all
slots-on slot all rest c lt is one here h =
    let later : List PartModel = take (length rest - 1) (drop 1 rest) in
    let first : rest ≡ c ∷ later = by-first rest c lt is in (
      (λ t. h.0 (subst (λ cs. AreIn slot (keys_in cs)) (sym first) (All-append (λ key. slot_of key ≡ slot) (keys_of c) (keys_in later) (λ k d l. one k d l ∙ here) t))),
      (λ a. all-right slot (keys_of c) (keys_in later) (subst (λ cs. AreIn slot (keys_in cs)) first (h.1 a))),
    )

pub same-slot : (a b : ℕ) → false ≡ not (nat_eq a b) → a ≡ b
same-slot a b e = same_number a b (go (nat_eq a b) e)
  where
    go : (x : Bool) → false ≡ not x → x ≡ true
    go true e = refl
    go false e = absurd (cc)
