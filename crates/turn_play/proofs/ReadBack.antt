-- Which values are read back: those whose lines, lengths and counts are within the largest limits.
use Rattle.std.proofs.Common.{◌≡◌, ◌⊎◌, inl, inr, ◌<◌, ◌≤◌, ◌+◌, ◌-◌, ◌^◌, ℕ, ℤ, pos, negsuc, zero, suc, true, false, eqb, List, [], ◌∷◌, ◌++◌, length, map, take, get_or, Some, refl, sym, ap, subst, ◌∙◌, arith, append_assoc, IsTrue, FitsSigned, w64}
use Rattle.std.specs.Prelude.{All, nat_le, slice_index_or}
use Rattle.std.specs.Fmt.{decimal}
use Rattle.std.specs.Str.{all_ascii_digits}
use Rattle.std.specs.Str.Parse.{starts_with_minus, without_leading_sign}
use Rattle.std.proofs.lemmas.Bool.{leb-true, lt-ltb, le-leb, ne_eqb}
use Rattle.std.proofs.lemmas.Fmt.{length-decimal-le, decimal_is_IsNumeral}
use Rattle.std.proofs.lemmas.List.{append-nil, get_or_default, take_more, take_all}
use Rattle.std.proofs.lemmas.Str.Parse.{tells_all_ascii_digits}
use Rattle.resp_wire.specs.Canonical.{canonical}
use Rattle.resp_wire.specs.Data.{Data, simple, error, integer, bulk, null_bulk, array, null_array, items_of}
use Rattle.resp_wire.specs.LimitsModel.{full}
use Rattle.resp_wire.specs.Seen.{data_of}
use Rattle.resp_wire.specs.Spelling.{count_of, integer_in, is_digits, length_in, Spells, SpellsAll}
use Rattle.resp_wire.specs.Text.{is_one_line}
use Rattle.resp_wire.specs.declared.value.Value.{Value}
use Rattle.resp_wire.proofs.CanonicalLaws.{canonical_reads}
use Rattle.resp_wire.proofs.Digits.{from_digits, is_digits_from}
use Rattle.resp_wire.proofs.OneLine.{plain_more}
use Rattle.resp_wire.proofs.WriteLaws.{counts}
use Rattle.key_split.proofs.OneLine.{is_one_line-decimal}
use Rattle.node_link.specs.Bytes.{Splits}
use Rattle.turn_play.specs.Answering.{CanAllBeSpelled, CanBeSpelled, IsReadable, all_bytes}
use Rattle.turn_play.proofs.Heard.{all-later}

-- ---- numbers

pub length-in-decimal : (n : ℕ) → n < 10 ^ 10 → length_in (decimal n) ≡ Some n
unfolding length_in
length-in-decimal n small =
    let numeral = decimal_is_IsNumeral n (omega (arith, small)) in
    let short : length (decimal n) ≤ 10 = length-decimal-le 10 n (omega arith) small (omega (arith, small)) in
    let digits : is_digits 10 (decimal n) ≡ true = is_digits_from 10 (decimal n) numeral.0.0 short numeral.0.1 in
    rw (digits, numeral.1) refl

-- digits have no sign
no-sign : (ds : List ℕ) → 0 < length ds → all_ascii_digits ds ≡ true → (starts_with_minus ds ≡ false) × (without_leading_sign ds ≡ ds)
no-sign [] h e = absurd (omega arith)
no-sign (c ∷ cs) h e =
    let r = (tells_all_ascii_digits.parts c cs e).0 in
    let minus : eqb c 45 ≡ false = ne_eqb c 45 (λ k. absurd (omega arith)) in
    let plus : eqb c 43 ≡ false = ne_eqb c 43 (λ k. absurd (omega arith)) in
    (minus, rw (minus, plus) refl)

integer-in-decimal : (m : ℕ) → m < 9223372036854775808 → integer_in (decimal m) ≡ Some (pos m)
unfolding integer_in
integer-in-decimal m small =
    let numeral = decimal_is_IsNumeral m (omega (arith, small)) in
    let short : length (decimal m) ≤ 20 = length-decimal-le 20 m (omega arith) (omega (arith, small)) (omega (arith, small)) in
    let digits : is_digits 20 (decimal m) ≡ true = is_digits_from 20 (decimal m) numeral.0.0 short numeral.0.1 in
    let n = no-sign (decimal m) numeral.0.0 (from_digits (decimal m) numeral.0.1) in
    rw (n.1, digits, n.0, numeral.1, lt-ltb m 9223372036854775808 small) refl

integer-in-minus : (k : ℕ) → suc k ≤ 9223372036854775808 → integer_in (45 ∷ decimal (suc k)) ≡ Some (negsuc k)
unfolding integer_in
integer-in-minus k small =
    let numeral = decimal_is_IsNumeral (suc k) (omega (arith, small)) in
    let short : length (decimal (suc k)) ≤ 20 = length-decimal-le 20 (suc k) (omega arith) (omega (arith, small)) (omega (arith, small)) in
    let digits : is_digits 20 (decimal (suc k)) ≡ true = is_digits_from 20 (decimal (suc k)) numeral.0.0 short numeral.0.1 in
    rw (digits, numeral.1, le-leb (suc k) 9223372036854775808 small) refl

pos-small : (m : ℕ) → FitsSigned w64 (pos m) → m < 9223372036854775808
pos-small m f = let small = f.sfits in omega (arith, small)

neg-small : (k : ℕ) → FitsSigned w64 (negsuc k) → suc k ≤ 9223372036854775808
neg-small k f = let small = f.sfits in omega (arith, small)

pub number-spelled : (z : ℤ) → FitsSigned w64 z → (room : ℕ) → CanBeSpelled room (integer z)
number-spelled (pos m) fits room =
    let small = pos-small m fits in
    (canonical (integer (pos m)), (decimal m, integer-in-decimal m small, record { plain = is_one_line-decimal m (omega (arith, small)); short = omega (arith, length-decimal-le 20 m (omega arith) (omega (arith, small)) (omega (arith, small))); are = refl }))
number-spelled (negsuc k) fits room =
    let small = neg-small k fits in (
      canonical (integer (negsuc k)),
      (
        45 ∷ decimal (suc k),
        integer-in-minus k small,
        record {
          plain = plain_more 45 (decimal (suc k)) ((λ j. absurd (omega (arith, j))), (λ j. absurd (omega (arith, j)))) (is_one_line-decimal (suc k) (omega (arith, small)));
          short = omega (arith, length-decimal-le 20 (suc k) (omega arith) (omega (arith, small)) (omega (arith, small)));
          are = refl;
        },
      ),
    )

-- ---- values

pub simple-spelled : (text : List ℕ) → IsTrue (is_one_line text) → length text ≤ 65536 → (room : ℕ) → CanBeSpelled room (simple text)
simple-spelled text plain short room = (canonical (simple text), record { plain = plain; short = short; are = refl })

pub error-spelled : (text : List ℕ) → IsTrue (is_one_line text) → length text ≤ 65536 → (room : ℕ) → CanBeSpelled room (error text)
error-spelled text plain short room = (canonical (error text), record { plain = plain; short = short; are = refl })

pub bulk-spelled : (body : List ℕ) → length body ≤ 536870912 → (room : ℕ) → CanBeSpelled room (bulk body)
bulk-spelled body small room = (
  canonical (bulk body),
  (
    decimal (length body),
    length-in-decimal (length body) (omega (arith, small)),
    small,
    record {
      plain = is_one_line-decimal (length body) (omega (arith, small));
      short = omega (arith, length-decimal-le 10 (length body) (omega arith) (omega (arith, small)) (omega (arith, small)));
      are = refl;
    },
  ),
)

-- a bulk string whose length was tested
pub bulk-told : (body slice : List ℕ) (room : ℕ) → slice ≡ body → IsTrue (nat_le (length slice) 536870912) → CanBeSpelled room (bulk body)
bulk-told body slice room is small = bulk-spelled body (let le = leb-true (length slice) 536870912 small in omega (arith, le, ap length is)) room

pub null-spelled : (room : ℕ) → CanBeSpelled room null_bulk
null-spelled room = (canonical null_bulk, record { plain = refl; short = omega arith; are = refl })

pub null-array-spelled : (room : ℕ) → CanBeSpelled room null_array
null-array-spelled room = (canonical null_array, record { plain = refl; short = omega arith; are = refl })

-- ---- arrays

pub none-spelled : (room : ℕ) → CanAllBeSpelled room []
none-spelled room = ([], refl)

spells-more : (room : ℕ) (ds : List Data) (d : Data) (bytes more : List ℕ) → SpellsAll full room bytes (items_of ds) → Spells full room more d → SpellsAll full room (bytes ++ more) (items_of (ds ++ d ∷ []))
spells-more room [] d bytes more s t = (more, [], ap (λ b. b ++ more) s ∙ sym (append-nil more), t, refl)
spells-more room (e ∷ ds) d bytes more s t = (s.0, s.1 ++ more, ap (λ b. b ++ more) s.2 ∙ append_assoc s.0 s.1 more, s.3, spells-more room ds d s.1 more s.4 t)

-- one item more
pub more-spelled : (room : ℕ) (ds : List Data) (d : Data) → CanAllBeSpelled room ds → CanBeSpelled room d → CanAllBeSpelled room (ds ++ d ∷ [])
more-spelled room ds d s t = (s.0 ++ t.0, spells-more room ds d s.0 t.0 s.1 t.1)

pub array-spelled : (room : ℕ) (ds : List Data) → length ds ≤ 1048576 → CanAllBeSpelled room ds → CanBeSpelled (suc room) (array (items_of ds))
array-spelled room ds few s =
    let count = counts ds in
    let small : count_of (items_of ds) < 10 ^ 10 = omega (arith, few, count) in
    let text = decimal (count_of (items_of ds)) in (
      42 ∷ (text ++ 13 ∷ 10 ∷ s.0),
      (
        text,
        s.0,
        room,
        refl,
        length-in-decimal (count_of (items_of ds)) small,
        omega (arith, few, count),
        record {
          plain = is_one_line-decimal (count_of (items_of ds)) (omega (arith, small));
          short = omega (arith, length-decimal-le 10 (count_of (items_of ds)) (omega arith) small (omega (arith, small)));
          are = refl;
        },
        s.1,
      ),
    )

mapped-more : (vs : List Value) (v : Value) → map data_of (vs ++ v ∷ []) ≡ map data_of vs ++ data_of v ∷ []
mapped-more [] v = refl
mapped-more (w ∷ vs) v = ap (λ ds. data_of w ∷ ds) (mapped-more vs v)

-- the items of a slice, up to a place
pub item-spelled : (room : ℕ) (vs : List Value) (i : ℕ) (v : Value) → i < length vs → v ≡ get_or vs i v → CanAllBeSpelled room (map data_of (take i vs)) → CanBeSpelled room (data_of v) → CanAllBeSpelled room (map data_of (take (i + 1) vs))
item-spelled room vs i v lt is s t =
    let one : take (i + 1) vs ≡ take i vs ++ v ∷ [] = take_more vs i v lt ∙ ap (λ x. take i vs ++ x ∷ []) (sym is) in
    subst (CanAllBeSpelled room) (sym (ap (map data_of) one ∙ mapped-more (take i vs) v)) (more-spelled room (map data_of (take i vs)) (data_of v) s t)

-- all of them
pub items-spelled : (room : ℕ) (vs : List Value) (i : ℕ) (ds : List Data) → length vs ≤ i → map data_of vs ≡ ds → length ds ≤ 1048576 → CanAllBeSpelled room (map data_of (take i vs)) → CanBeSpelled (suc room) (array (items_of ds))
items-spelled room vs i ds past is few s = array-spelled room ds few (subst (CanAllBeSpelled room) (ap (map data_of) (take_all i vs past) ∙ is) s)

-- ---- values that were looked at one by one

below-or-at : (k n : ℕ) → k < n + 1 → (k < n) ⊎ (k ≡ n)
below-or-at zero zero lt = inr refl
below-or-at zero (suc n) lt = inl (omega arith)
below-or-at (suc k) zero lt = absurd (omega (arith, lt))
below-or-at (suc k) (suc n) lt = elim (below-or-at k n (omega (arith, lt))) [
  | inl h ↦ inl (omega (arith, h))
  | inr e ↦ inr (ap suc e)
]

pub one-more-readable : (vs : List Value) (at : ℕ) (v : Value) → at < length vs → v ≡ slice_index_or vs at v → IsReadable v → ((k : ℕ) (d : Value) → k < at → IsReadable (slice_index_or vs k d)) → (k : ℕ) (d : Value) → k < at + 1 → IsReadable (slice_index_or vs k d)
one-more-readable vs at v within is now before k d lt = elim (below-or-at k at lt) [
  | inl h ↦ before k d h
  | inr e ↦ subst IsReadable (is ∙ get_or_default vs at v d within ∙ ap (λ n. slice_index_or vs n d) (sym e)) now
]

-- ---- what is read back

-- the canonical spellings of values that can be read are read back
pub splits-all : (vs : List Value) → All IsReadable vs → Splits full (all_bytes vs) vs []
splits-all [] a = refl
splits-all (v ∷ vs) a = (all_bytes vs, canonical_reads full (a 0 v (omega arith)).0 (data_of v) (a 0 v (omega arith)).1 (all_bytes vs), splits-all vs (all-later IsReadable v vs a))
