-- The replies to a block, each at its place.
use Rattle.std.proofs.Common.{◌≡◌, ◌<◌, ◌+◌, ◌-◌, ◌++◌, ◌∷◌, [], List, ℕ, zero, suc, length, drop, take, refl, ap, sym, subst, ◌∙◌, arith, Some}
use Rattle.std.specs.Prelude.{Option, Bool, true, false, ◌&&◌, codes, nat_lt, replicate, slice_get, slice_index_or}
use Rattle.std.specs.List.{list_all}
use Rattle.std.proofs.lemmas.List.{length-replicate}
use Rattle.std.proofs.lemmas.List.{length-map}
use Rattle.std.proofs.lemmas.Bool.Decides.{nat_tests}
use Rattle.std.proofs.lemmas.Option.{slice_get_read}
use Rattle.resp_wire.specs.Seen.{data_of}
use Rattle.resp_wire.specs.declared.value.Value.{Value}
use Rattle.resp_wire.specs.declared.value.Value.TheVariants.{Simple, Error, Integer, Bulk, NullBulk, Array, NullArray}
use Rattle.node_link.specs.Runs.{IsRefusedBlock, IsToldByBlock, IsToldByExec, ends_block, is_answer, is_end, is_error, is_queued, is_text, told_of_none}
use Rattle.node_link.specs.Items.{AreItems}

-- a list and its last
split_last : {X : Type 0} (xs : List X) (n : ℕ) → length xs ≡ n + 1 → (x : X) × (xs ≡ take n xs ++ x ∷ []) × (slice_get xs n ≡ Some x) × (length (take n xs) ≡ n)
split_last [] n e = absurd (omega (arith, e))
split_last (x ∷ []) zero e = (x, refl, refl, refl)
split_last (x ∷ y ∷ xs) zero e = absurd (omega (arith, e))
split_last (x ∷ xs) (suc n) e = let h = split_last xs n (omega (arith, e)) in (h.0, ap (λ ys. x ∷ ys) h.1, h.2, ap suc h.3)

both : (a b : Bool) → (a && b) ≡ true → (a ≡ true) × (b ≡ true)
both true b e = (refl, e)
both false b e = absurd (cc)

-- MULTI's, those of the commands, and EXEC's
placed : (count : ℕ) (replies : List Value) → length replies ≡ count + 2 → is_answer count replies ≡ true
    → (exec : Value) × (slice_get replies (count + 1) ≡ Some exec) × (ends_block count exec ≡ true) × (length (take count (drop 1 replies)) ≡ count) × (0 < count)
    × ((told : List Value) → IsToldByExec (take count (drop 1 replies)) exec told → IsToldByBlock count replies told)
placed count [] len is = absurd (cc)
placed count (begun ∷ later) len is =
    let h = split_last later count (omega (arith, len)) in
    let a = both (nat_lt 0 count && is_text (codes "OK") begun && list_all is_queued (take count later)) (is_end count (slice_get later count)) is in
    let b = both (nat_lt 0 count && is_text (codes "OK") begun) (list_all is_queued (take count later)) a.0 in
    let c = both (nat_lt 0 count) (is_text (codes "OK") begun) b.0 in
    let ends : ends_block count h.0 ≡ true = subst (λ (o : Option Value). is_end count o ≡ true) h.2 a.1 in
    let more : 0 < count = grind (arith, nat_tests) in (
      h.0,
      get_later begun later count h.0 h.2,
      ends,
      h.3,
      more,
      λ told by. (begun, take count later, h.0, ap (λ xs. begun ∷ xs) h.1, h.3, c.1, b.1, by),
    ) where
      get_later : (first : Value) (xs : List Value) (i : ℕ) (x : Value) → slice_get xs i ≡ Some x → slice_get (first ∷ xs) (i + 1) ≡ Some x
      get_later first xs i x e = let next : suc i ≡ i + 1 = omega arith in subst (λ k. slice_get (first ∷ xs) k ≡ Some x) next e

by_array : (count : ℕ) (queued : List Value) (last : Value) (told : List Value) → is_error last ≡ false → ends_block count last ≡ true → length queued ≡ count
    → AreItems (Some last) told → IsToldByExec queued last told × (length told ≡ count)
by_array count queued (Array items) told absent ends len items_are =
    let many : length items ≡ count = grind (arith, nat_tests) in
    ((items_are, many ∙ sym len), sym (length-map told data_of) ∙ ap length items_are ∙ many)
by_array count queued (Error line) told absent ends len items_are = absurd (cc)
by_array count queued (Simple line) told absent ends len items_are = absurd (cc)
by_array count queued (Integer number) told absent ends len items_are = absurd (cc)
by_array count queued (Bulk bytes) told absent ends len items_are = absurd (cc)
by_array count queued NullBulk told absent ends len items_are = absurd (cc)
by_array count queued NullArray told absent ends len items_are = absurd (cc)

by_error : (queued : List Value) (last : Value) (told : List Value) → is_error last ≡ true → told ≡ replicate (length queued) (told_of_none queued last) → IsToldByExec queued last told
by_error queued (Error line) told present is = is
by_error queued (Array items) told present is = absurd (cc)
by_error queued (Simple line) told present is = absurd (cc)
by_error queued (Integer number) told present is = absurd (cc)
by_error queued (Bulk bytes) told present is = absurd (cc)
by_error queued NullBulk told present is = absurd (cc)
by_error queued NullArray told present is = absurd (cc)

-- EXEC's reply is the last
last_is : (count : ℕ) (replies : List Value) (exec last : Value) → length replies ≡ count + 2 → slice_get replies (count + 1) ≡ Some exec
    → last ≡ slice_index_or replies (count + 1) last → exec ≡ last
last_is count replies exec last len at e =
    let there : slice_get replies (count + 1) ≡ Some last = slice_get_read replies (length replies) (count + 1) last refl (omega (arith, len)) e in
    cc

-- none of the commands was executed
pub none_executed : (count : ℕ) (replies : List Value) (last : Value) → length replies ≡ count + 2 → is_answer count replies ≡ true
    → last ≡ slice_index_or replies (count + 1) last → is_error last ≡ true → IsRefusedBlock count replies
none_executed count replies last len is at present = (is, λ exec found. ap is_error (last_is count replies exec last len found at) ∙ present)

pub executed : (count n : ℕ) (replies : List Value) (last : Value) (popped : Option Value) (told : List Value) → n ≡ count + 2 → length replies ≡ count + 2 → is_answer count replies ≡ true
    → last ≡ slice_index_or replies (count + 1) last → is_error last ≡ false → ((d : Value) → 0 < n → popped ≡ Some (slice_index_or replies (n - 1) d)) → AreItems popped told
    → IsToldByBlock count replies told × (0 < length told)
executed count n replies last popped told many len is at absent pop items =
    let p = placed count replies len is in
    let same = last_is count replies p.0 last len p.1 at in
    let place : n - 1 ≡ count + 1 = omega (arith, many) in
    let given : popped ≡ Some (slice_index_or replies (count + 1) last) =
    subst (λ k. popped ≡ Some (slice_index_or replies k last)) place (pop last (omega (arith, many))) in
    let pops : popped ≡ Some p.0 = given ∙ ap (λ (v : Value). Some v) (sym at ∙ sym same) in
    let a = by_array count (take count (drop 1 replies)) p.0 told (ap is_error same ∙ absent) p.2 p.3 (subst (λ (o : Option Value). AreItems o told) pops items) in
    (p.5 told a.0, omega (arith, a.1, p.4))

pub refused : (count : ℕ) (replies queued : List Value) (seen last value : Value) → length replies ≡ count + 2 → is_answer count replies ≡ true
    → seen ≡ slice_index_or replies (count + 1) seen → is_error seen ≡ true → last ≡ slice_index_or replies (count + 1) last → queued ≡ take count (drop 1 replies)
    → value ≡ told_of_none queued last → IsToldByBlock count replies (replicate count value) × (0 < length (replicate count value))
refused count replies queued seen last value len is seen_at seen_error at cut same_value =
    let p = placed count replies len is in
    let alike : last ≡ seen = sym (last_is count replies p.0 last len p.1 at) ∙ last_is count replies p.0 seen len p.1 seen_at in
    let present : is_error last ≡ true = ap is_error alike ∙ seen_error in
    let same = last_is count replies p.0 last len p.1 at in
    let many : length queued ≡ count = ap (λ (xs : List Value). length xs) cut ∙ p.3 in
    let told : replicate count value ≡ replicate (length queued) (told_of_none queued last) =
    ap (λ k. replicate k value) (sym many) ∙ ap (λ (v : Value). replicate (length queued) v) same_value in
    let by = by_error queued last (replicate count value) present told in (
      p.5 (replicate count value)
          (subst (λ (qs : List Value). IsToldByExec qs p.0 (replicate count value)) cut (subst (λ (v : Value). IsToldByExec queued v (replicate count value)) (sym same) by)),
      omega (arith, length-replicate count value, p.4),
    )
