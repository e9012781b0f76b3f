-- Two keys are in one part exactly where they have one slot.
use Rattle.std.proofs.Common.{◌≡◌, ℕ, zero, suc, ◌<◌, List, [], ◌∷◌, map, length, get_or, Bool, true, refl, sym, ap, ◌∙◌, subst, arith}
use Rattle.std.specs.Prelude.{nat_eq, All, Contains}
use Rattle.std.specs.List.{filter}
use Rattle.std.proofs.lemmas.Bool.{eqb-true, eq-eqb, or_left, or_right, cond-true, cond_both}
use Rattle.std.proofs.lemmas.List.{length-map}
use Rattle.std.proofs.lemmas.List.Elements.{All-nil, All-cons, All-map, All-contains, filter_passes}
use Rattle.std.proofs.lemmas.Simd.{map-map}
use Rattle.key_split.specs.declared.part.Op.{Op}
use Rattle.key_split.specs.PartModel.{PartModel, Pair, pairs_in}
use Rattle.key_split.specs.Groups.{slot_at, slots, of_slot, groups, on_group, parts_of}
use Rattle.key_split.specs.Laws.{TogetherBySlot}
use Rattle.key_split.proofs.Grouping.{among, place, AllAmong, all-among, get-place, place-within}
use Rattle.key_split.proofs.PutBack.{pairs-part}

-- a fact of each slot, for each place of the list
pub All-among : (P : ℕ → Type 0) (ns : List ℕ) → ((n : ℕ) → among n ns ≡ true → P n) → All P ns
All-among P [] h = All-nil P
All-among P (n ∷ ns) h = All-cons P n ns (h n (or_left _ _ (eq-eqb n n refl))) (All-among P ns (λ m e. h m (or_right _ _ e)))

-- the part's keys are a group
abbrev IsGroup : List Pair → PartModel → Type 0
IsGroup ps part = (s : ℕ) × (pairs_in part ≡ of_slot ps s)

each-is-group : (o : Op) (ps : List Pair) → All (IsGroup ps) (parts_of o ps)
each-is-group o ps =
    All-map (IsGroup ps) (on_group o) (groups ps)
    (All-map (λ g. IsGroup ps (on_group o g)) (of_slot ps) (slots ps)
    (All-among (λ s. IsGroup ps (on_group o (of_slot ps s))) (slots ps) (λ s e. (s, pairs-part o ps s e))))

-- the keys of a group have its slot
own-slot : (ps : List Pair) (s : ℕ) (a : Pair) → Contains (of_slot ps s) a → s ≡ slot_at a
own-slot ps s a h = eqb-true s (slot_at a) (All-contains (λ p. nat_eq s (slot_at p) ≡ true) (of_slot ps s) a (filter_passes (λ p. nat_eq s (slot_at p)) ps) h)

-- what passes is kept
kept : (p : Pair → Bool) (ps : List Pair) (a : Pair) (k : ℕ) → k < length ps → get_or ps k a ≡ a → p a ≡ true → Contains (filter p ps) a
kept p [] a k w e h = absurd (omega arith)
kept p (q ∷ ps) a zero w e h =
    subst (λ qs. Contains qs a) (sym (cond-true (p q) (q ∷ filter p ps) (filter p ps) (ap p e ∙ h))) (0, (omega arith), e)
kept p (q ∷ ps) a (suc k) w e h =
    let later = kept p ps a k (omega arith) e h in
    cond_both (p q) (q ∷ filter p ps) (filter p ps) (λ qs. Contains qs a) (λ _. (suc later.0, (let l = later.1 in omega arith), later.2)) (λ _. later)

in-group : (ps : List Pair) (s : ℕ) (a : Pair) → Contains ps a → s ≡ slot_at a → Contains (of_slot ps s) a
in-group ps s a h e = kept (λ p. nat_eq s (slot_at p)) ps a h.0 h.1 h.2 (eq-eqb s (slot_at a) e)

All-of-among : (ps : List Pair) (ns : List ℕ) → AllAmong ps ns → All (λ p. among (slot_at p) ns ≡ true) ps
All-of-among [] ns h = All-nil _
All-of-among (p ∷ ps) ns h = All-cons (λ q. among (slot_at q) ns ≡ true) p ps h.0 (All-of-among ps ns h.1)

slot-among : (ps : List Pair) (a : Pair) → Contains ps a → among (slot_at a) (slots ps) ≡ true
slot-among ps a h = All-contains (λ p. among (slot_at p) (slots ps) ≡ true) ps a (All-of-among ps (slots ps) (all-among ps)) h

mapped : {A : Type 0} (f : ℕ → A) (s : ℕ) (ns : List ℕ) → among s ns ≡ true → Contains (map f ns) (f s)
mapped f s ns h = (place s ns, subst (λ n. place s ns < n) (sym (length-map ns f)) (place-within s ns h), get-place f s ns (f s) h)

part-of-slot : (o : Op) (ps : List Pair) (s : ℕ) → among s (slots ps) ≡ true → Contains (parts_of o ps) (on_group o (of_slot ps s))
part-of-slot o ps s h =
    subst (λ parts. Contains parts (on_group o (of_slot ps s))) (sym (map-map (on_group o) (of_slot ps) (slots ps))) (mapped (λ t. on_group o (of_slot ps t)) s (slots ps) h)

pub together-by-slot : TogetherBySlot
together-by-slot o ps a b ha hb = (
  λ shared. (
      let group = All-contains (IsGroup ps) (parts_of o ps) shared.0 (each-is-group o ps) shared.1 in
      let of_a = own-slot ps group.0 a (subst (λ g. Contains g a) group.1 shared.2) in
      let of_b = own-slot ps group.0 b (subst (λ g. Contains g b) group.1 shared.3) in sym of_a ∙ of_b),
  λ same. (
      let s = slot_at a in
      let there = slot-among ps a ha in
      let back = sym (pairs-part o ps s there) in (
        on_group o (of_slot ps s),
        part-of-slot o ps s there,
        subst (λ g. Contains g a) back (in-group ps s a ha refl),
        subst (λ g. Contains g b) back (in-group ps s b hb same),
      )),
)
