-- Reading finds a value exactly where one is spelled, and a fault exactly where it is the first.
use Rattle.std.proofs.Common.{◌≡◌, ℕ, zero, suc, ◌<◌, ◌≤◌, cond, ltb, List, [], ◌∷◌, ◌++◌, length, take, drop, Some, refl, sym, ap, subst, ◌∙◌, append_assoc, arith, inl, inr}
use Rattle.std.proofs.lemmas.Bool.{ltb-true, ltb-false}
use Rattle.resp_wire.specs.Data.{Data, Items, simple, error, integer, bulk, null_bulk, array, null_array, no_items, item}
use Rattle.resp_wire.specs.LimitsModel.{LimitsModel}
use Rattle.resp_wire.specs.Spelling.{cr, lf, plus, minus, colon, dollar, star, none, BeginsLine, length_in, integer_in, count_of, Spells, SpellsAll}
use Rattle.resp_wire.specs.Faults.{FirstFault, bad_integer, bad_bulk_length, bad_array_length, long_bulk, too_deep, too_many, no_end, inside}
use Rattle.resp_wire.specs.Reading.{Reading, whole, faulty, then_read, body_at, integer_at, bulk_at, array_at, items_at, items_in, value_at}
use Rattle.resp_wire.specs.declared.fault.WireFault.{WireFault}
use Rattle.resp_wire.specs.declared.fault.WireFault.TheVariants.{BadNumber, TooLong, TooMany, TooDeep}
use Rattle.resp_wire.proofs.Sound.{then_is_whole, then_is_faulty, chosen, mapped, whole_is, faulty_is}
use Rattle.resp_wire.proofs.SoundValue.{line_is, line_fault, of_plus, of_minus, of_colon, of_dollar, of_star, by_kind, is_null, no_length, has_length, by_length_of, IsBody, body_is, body_fault}

-- the value is spelled at the front
pub record Front (l : LimitsModel) (room : ℕ) (bytes : List ℕ) (v : Data) (after : List ℕ) : Type 0 where
  pub text : List ℕ
  pub spelled : Spells l room text v
  pub are : bytes ≡ text ++ after

pub record Fronts (l : LimitsModel) (room n : ℕ) (bytes : List ℕ) (vs : Items) (after : List ℕ) : Type 0 where
  pub text : List ℕ
  pub spelled : SpellsAll l room text vs
  pub count : count_of vs ≡ n
  pub are : bytes ≡ text ++ after

-- a line alone
one_line : (l : LimitsModel) (room kind : ℕ) (text bytes more after : List ℕ) (v : Data) → BeginsLine l kind text bytes more → more ≡ after → ((front : List ℕ) → BeginsLine l kind text front [] → Spells l room front v) → Front l room bytes v after
one_line l room kind text bytes more after v b e spells = record {
  text = kind ∷ (text ++ cr ∷ lf ∷ []);
  spelled = spells (kind ∷ (text ++ cr ∷ lf ∷ [])) (record { plain = b.plain; short = b.short; are = refl });
  are = b.are ∙ rw e (ap (λ (u : List ℕ). kind ∷ u) (sym (append_assoc text (cr ∷ lf ∷ []) after)));
}

pub same_front : {l : LimitsModel} {room : ℕ} {bytes after rest : List ℕ} {v w : Data} → Front l room bytes v after → v ≡ w → after ≡ rest → Front l room bytes w rest
same_front {l} {room} {bytes} {after} {rest} {v} {w} f e g = subst (λ (u : List ℕ). Front l room bytes w u) g (subst (λ (u : Data). Front l room bytes u after) e f)

integer_front : (l : LimitsModel) (room : ℕ) (text bytes more after : List ℕ) (v : Data) → BeginsLine l colon text bytes more → integer_at text more ≡ whole v after → Front l room bytes v after
unfolding integer_at
integer_front l room text bytes more after v b e =
    elim (mapped (λ z. whole (integer z) more) (integer_in text) (faulty BadNumber) (whole v after) e) [
      | inl h ↦ absurd (let z = h.1 in cc)
      | inr h ↦
          let same = whole_is (integer h.0) v more after h.2 in
          same_front (one_line l room colon text bytes more more (integer h.0) b refl (λ front p. (text, h.1, p))) same.0 same.1
    ]

integer_first : (l : LimitsModel) (room : ℕ) (text bytes more : List ℕ) (f : WireFault) → BeginsLine l colon text bytes more → integer_at text more ≡ faulty f → FirstFault l room bytes f
unfolding integer_at
integer_first l room text bytes more f b e =
    elim (mapped (λ z. whole (integer z) more) (integer_in text) (faulty BadNumber) (faulty f) e) [
      | inl h ↦ subst (λ (g : WireFault). FirstFault l room bytes g) (faulty_is BadNumber f h.1) (bad_integer text more b h.0)
      | inr h ↦ absurd (let z = h.2 in cc)
    ]

bulk_body : LimitsModel → List ℕ → ℕ → Reading Data
bulk_body l more n = cond (ltb l.bulk n) (faulty TooLong) (then_read (body_at n more) (λ body after. whole (bulk body) after))

whole_bulk : (l : LimitsModel) (room : ℕ) (text bytes more body after : List ℕ) (n : ℕ) → BeginsLine l dollar text bytes more → length_in text ≡ Some n → n ≤ l.bulk → IsBody n more body (cr ∷ lf ∷ after) → Front l room bytes (bulk body) after
whole_bulk l room text bytes more body after n b t h i = record {
  text = dollar ∷ (text ++ cr ∷ lf ∷ (body ++ cr ∷ lf ∷ []));
  spelled = (text, rw i.all t, omega (arith, i.all), record { plain = b.plain; short = b.short; are = refl });
  are = b.are ∙ rw (i.are, append_assoc text (cr ∷ lf ∷ (body ++ cr ∷ lf ∷ [])) after, append_assoc body (cr ∷ lf ∷ []) after) refl;
}

bulk_front : (l : LimitsModel) (room : ℕ) (text bytes more after : List ℕ) (v : Data) → BeginsLine l dollar text bytes more → bulk_at l text more ≡ whole v after → Front l room bytes v after
unfolding bulk_at bulk_body
bulk_front l room text bytes more after v b e =
    elim (by_length_of text (whole null_bulk more) (bulk_body l more) (whole v after) e) [
      | is_null t h ↦
          let same = whole_is null_bulk v more after h in
          same_front (one_line l room dollar text bytes more more null_bulk b refl (λ front p. subst (λ (u : List ℕ). BeginsLine l dollar u front []) t p)) same.0 same.1
      | no_length t k h ↦ absurd (let z = h in cc)
      | has_length n t h ↦ elim (chosen (ltb l.bulk n) (faulty TooLong) (then_read (body_at n more) (λ body after. whole (bulk body) after)) (whole v after) h) [
        | inl k ↦ absurd (let z = k.1 in cc)
        | inr k ↦
            let r = then_is_whole (body_at n more) (λ body after. whole (bulk body) after) v after k.1 in
            let same = whole_is (bulk r.0) v r.1 after r.3 in
            let i = body_is n more r.0 r.1 r.2 in
            same_front (whole_bulk l room text bytes more r.0 r.1 n b t (ltb-false l.bulk n k.0) i) same.0 same.1
      ]
    ]

bulk_first : (l : LimitsModel) (room : ℕ) (text bytes more : List ℕ) (f : WireFault) → BeginsLine l dollar text bytes more → bulk_at l text more ≡ faulty f → FirstFault l room bytes f
unfolding bulk_at bulk_body
bulk_first l room text bytes more f b e =
    elim (by_length_of text (whole null_bulk more) (bulk_body l more) (faulty f) e) [
      | is_null t h ↦ absurd (let z = h in cc)
      | no_length t k h ↦ subst (λ (g : WireFault). FirstFault l room bytes g) (faulty_is BadNumber f h) (bad_bulk_length text more b t k)
      | has_length n t h ↦ elim (chosen (ltb l.bulk n) (faulty TooLong) (then_read (body_at n more) (λ body after. whole (bulk body) after)) (faulty f) h) [
        | inl k ↦ subst (λ (g : WireFault). FirstFault l room bytes g) (faulty_is TooLong f k.1) (long_bulk text more n b t (ltb-true l.bulk n k.0))
        | inr k ↦ elim (then_is_faulty (body_at n more) (λ body after. whole (bulk body) after) f k.1) [
          | inl x ↦
              let d = body_fault n more f x in
              let begins : BeginsLine l dollar text bytes (take n more ++ drop n more) = subst (λ (u : List ℕ). BeginsLine l dollar text bytes u) d.2.are b in
              let len : length_in text ≡ Some (length (take n more)) = rw d.2.all t in
              subst (λ (g : WireFault). FirstFault l room bytes g) (sym d.0) (no_end text (take n more) (drop n more) begins len (omega (arith, ltb-false l.bulk n k.0, d.2.all)) d.1)
          | inr y ↦ absurd (let z = y.3 in cc)
        ]
      ]
    ]

-- ---- arrays

-- what the values of this room come to
abbrev Sound : LimitsModel → ℕ → Type 0
Sound l room = (bytes : List ℕ) (v : Data) (after : List ℕ) → value_at l room bytes ≡ whole v after → Front l room bytes v after

abbrev First : LimitsModel → ℕ → Type 0
First l room = (bytes : List ℕ) (f : WireFault) → value_at l room bytes ≡ faulty f → FirstFault l room bytes f

joined : (a b c rest bytes : List ℕ) → bytes ≡ a ++ rest → rest ≡ b ++ c → bytes ≡ (a ++ b) ++ c
joined a b c rest bytes e f = e ∙ ap (λ (u : List ℕ). a ++ u) f ∙ sym (append_assoc a b c)

items_front : (l : LimitsModel) (room n : ℕ) → Sound l room → (bytes : List ℕ) (vs : Items) (after : List ℕ) → items_at (value_at l room) n bytes ≡ whole vs after → Fronts l room n bytes vs after
unfolding items_at
items_front l room zero sound bytes vs after e =
    let same = whole_is no_items vs bytes after e in
    let here : Fronts l room 0 bytes no_items bytes = record { text = []; spelled = refl; count = refl; are = refl } in
    subst (λ (u : Items). Fronts l room 0 bytes u after) same.0 (subst (λ (u : List ℕ). Fronts l room 0 bytes no_items u) same.1 here)
items_front l room (suc n) sound bytes vs after e =
    let r = then_is_whole (value_at l room bytes) (λ v rest. then_read (items_at (value_at l room) n rest) (λ vs after. whole (item v vs) after)) vs after e in
    let s = then_is_whole (items_at (value_at l room) n r.1) (λ vs after. whole (item r.0 vs) after) vs after r.3 in
    let first = sound bytes r.0 r.1 r.2 in
    let others = items_front l room n sound r.1 s.0 s.1 s.2 in
    let same = whole_is (item r.0 s.0) vs s.1 after s.3 in
    let here : Fronts l room (suc n) bytes (item r.0 s.0) s.1 = record {
      text = first.text ++ others.text;
      spelled = (first.text, others.text, refl, first.spelled, others.spelled);
      count = ap suc others.count;
      are = joined first.text others.text s.1 r.1 bytes first.are others.are;
    } in
    subst (λ (u : Items). Fronts l room (suc n) bytes u after) same.0 (subst (λ (u : List ℕ). Fronts l room (suc n) bytes (item r.0 s.0) u) same.1 here)

-- some items, and then a fault
record Stops (l : LimitsModel) (room n : ℕ) (bytes : List ℕ) (f : WireFault) : Type 0 where
  pub before : List ℕ
  pub after : List ℕ
  pub vs : Items
  pub spelled : SpellsAll l room before vs
  pub fewer : count_of vs < n
  pub are : bytes ≡ before ++ after
  pub next : FirstFault l room after f

items_stop : (l : LimitsModel) (room n : ℕ) → Sound l room → First l room → (bytes : List ℕ) (f : WireFault) → items_at (value_at l room) n bytes ≡ faulty f → Stops l room n bytes f
unfolding items_at
items_stop l room zero sound first bytes f e = absurd cc
items_stop l room (suc n) sound first bytes f e =
    elim (then_is_faulty (value_at l room bytes) (λ v rest. then_read (items_at (value_at l room) n rest) (λ vs after. whole (item v vs) after)) f e) [
      | inl x ↦ record { before = []; after = bytes; vs = no_items; spelled = refl; fewer = omega arith; are = refl; next = first bytes f x }
      | inr r ↦ elim (then_is_faulty (items_at (value_at l room) n r.1) (λ vs after. whole (item r.0 vs) after) f r.3) [
        | inl x ↦
            let here = sound bytes r.0 r.1 r.2 in
            let s = items_stop l room n sound first r.1 f x in
            record {
              before = here.text ++ s.before;
              after = s.after;
              vs = item r.0 s.vs;
              spelled = (here.text, s.before, refl, here.spelled, s.spelled);
              fewer = omega (arith, s.fewer);
              are = joined here.text s.before s.after r.1 bytes here.are s.are;
              next = s.next;
            }
        | inr y ↦ absurd (let z = y.3 in cc)
      ]
    ]

null_front : (l : LimitsModel) (room : ℕ) (text bytes more after : List ℕ) (v : Data) → BeginsLine l star text bytes more → text ≡ none → (let r : Reading Data = whole null_array more in r) ≡ whole v after → Front l room bytes v after
null_front l room text bytes more after v b t h =
    let same = whole_is null_array v more after h in
    same_front (one_line l room star text bytes more more null_array b refl (λ front p. subst (λ (u : List ℕ). BeginsLine l star u front []) t p)) same.0 same.1

whole_array : (l : LimitsModel) (inner : ℕ) (text bytes more after : List ℕ) (n : ℕ) (vs : Items) → BeginsLine l star text bytes more → length_in text ≡ Some n → n ≤ l.items → Fronts l inner n more vs after → Front l (suc inner) bytes (array vs) after
whole_array l inner text bytes more after n vs b t h i = record {
  text = star ∷ (text ++ cr ∷ lf ∷ i.text);
  spelled = (text, i.text, inner, refl, rw i.count t, omega (arith, i.count), record { plain = b.plain; short = b.short; are = refl }, i.spelled);
  are = b.are ∙ rw (i.are, append_assoc text (cr ∷ lf ∷ i.text) after) refl;
}

array_front : (l : LimitsModel) (room : ℕ) (text bytes more after : List ℕ) (v : Data) → ((inner : ℕ) → room ≡ suc inner → Sound l inner) → BeginsLine l star text bytes more → array_at (items_in l room) text more ≡ whole v after → Front l room bytes v after
unfolding array_at
array_front l zero text bytes more after v below b e =
    elim (by_length_of text (whole null_array more) (λ n. then_read (items_in l zero n more) (λ vs rest. whole (array vs) rest)) (whole v after) e) [
      | is_null t h ↦ null_front l zero text bytes more after v b t h
      | no_length t k h ↦ absurd (let z = h in cc)
      | has_length n t h ↦ absurd (let z = h in cc)
    ]
array_front l (suc inner) text bytes more after v below b e =
    elim (by_length_of text (whole null_array more) (λ n. then_read (items_in l (suc inner) n more) (λ vs rest. whole (array vs) rest)) (whole v after) e) [
      | is_null t h ↦ null_front l (suc inner) text bytes more after v b t h
      | no_length t k h ↦ absurd (let z = h in cc)
      | has_length n t h ↦
          let r = then_is_whole (items_in l (suc inner) n more) (λ vs rest. whole (array vs) rest) v after h in
          let same = whole_is (array r.0) v r.1 after r.3 in
          elim (chosen (ltb l.items n) (faulty TooMany) (items_at (value_at l inner) n more) (whole r.0 r.1) r.2) [
            | inl k ↦ absurd (let z = k.1 in cc)
            | inr k ↦ same_front (whole_array l inner text bytes more r.1 n r.0 b t (ltb-false l.items n k.0) (items_front l inner n (below inner refl) more r.0 r.1 k.1)) same.0 same.1
          ]
    ]

array_first : (l : LimitsModel) (room : ℕ) (text bytes more : List ℕ) (f : WireFault) → ((inner : ℕ) → room ≡ suc inner → Sound l inner) → ((inner : ℕ) → room ≡ suc inner → First l inner) → BeginsLine l star text bytes more → array_at (items_in l room) text more ≡ faulty f → FirstFault l room bytes f
unfolding array_at
array_first l zero text bytes more f below first b e =
    elim (by_length_of text (whole null_array more) (λ n. then_read (items_in l zero n more) (λ vs rest. whole (array vs) rest)) (faulty f) e) [
      | is_null t h ↦ absurd (let z = h in cc)
      | no_length t k h ↦ subst (λ (g : WireFault). FirstFault l zero bytes g) (faulty_is BadNumber f h) (bad_array_length text more b t k)
      | has_length n t h ↦ subst (λ (g : WireFault). FirstFault l zero bytes g) (faulty_is TooDeep f h) (too_deep text more n b t refl)
    ]
array_first l (suc inner) text bytes more f below first b e =
    elim (by_length_of text (whole null_array more) (λ n. then_read (items_in l (suc inner) n more) (λ vs rest. whole (array vs) rest)) (faulty f) e) [
      | is_null t h ↦ absurd (let z = h in cc)
      | no_length t k h ↦ subst (λ (g : WireFault). FirstFault l (suc inner) bytes g) (faulty_is BadNumber f h) (bad_array_length text more b t k)
      | has_length n t h ↦ elim (then_is_faulty (items_in l (suc inner) n more) (λ vs rest. whole (array vs) rest) f h) [
        | inl x ↦ elim (chosen (ltb l.items n) (faulty TooMany) (items_at (value_at l inner) n more) (faulty f) x) [
          | inl k ↦ subst (λ (g : WireFault). FirstFault l (suc inner) bytes g) (faulty_is TooMany f k.1) (too_many text more n b t (omega arith) (ltb-true l.items n k.0))
          | inr k ↦
              let s = items_stop l inner n (below inner refl) (first inner refl) more f k.1 in
              let begins : BeginsLine l star text bytes (s.before ++ s.after) = subst (λ (u : List ℕ). BeginsLine l star text bytes u) s.are b in
              inside text s.before s.after n inner s.vs begins t (ltb-false l.items n k.0) refl s.spelled s.fewer s.next
        ]
        | inr y ↦ absurd (let z = y.3 in cc)
      ]
    ]

-- ---- values

of_kind : {l : LimitsModel} {kind other : ℕ} {text bytes more : List ℕ} → kind ≡ other → BeginsLine l kind text bytes more → BeginsLine l other text bytes more
of_kind {l} {kind} {other} {text} {bytes} {more} e b = subst (λ (k : ℕ). BeginsLine l k text bytes more) e b

value_front : (l : LimitsModel) (room : ℕ) → ((inner : ℕ) → room ≡ suc inner → Sound l inner) → Sound l room
value_front l room below bytes v after e =
    let i = line_is l (items_in l room) bytes v after e in
    elim (by_kind l (items_in l room) i.kind i.text i.rest (whole v after) i.known i.then_is) [
      | of_plus k h ↦ let same = whole_is (simple i.text) v i.rest after h in same_front (one_line l room plus i.text bytes i.rest i.rest (simple i.text) (of_kind k i.begins) refl (λ front p. p)) same.0 same.1
      | of_minus k h ↦ let same = whole_is (error i.text) v i.rest after h in same_front (one_line l room minus i.text bytes i.rest i.rest (error i.text) (of_kind k i.begins) refl (λ front p. p)) same.0 same.1
      | of_colon k h ↦ integer_front l room i.text bytes i.rest after v (of_kind k i.begins) h
      | of_dollar k h ↦ bulk_front l room i.text bytes i.rest after v (of_kind k i.begins) h
      | of_star k h ↦ array_front l room i.text bytes i.rest after v below (of_kind k i.begins) h
    ]

value_first : (l : LimitsModel) (room : ℕ) → ((inner : ℕ) → room ≡ suc inner → Sound l inner) → ((inner : ℕ) → room ≡ suc inner → First l inner) → First l room
value_first l room below first bytes f e =
    elim (line_fault l room (items_in l room) bytes f e) [
      | inl x ↦ x
      | inr i ↦ elim (by_kind l (items_in l room) i.kind i.text i.rest (faulty f) i.known i.then_is) [
        | of_plus k h ↦ absurd (let z = h in cc)
        | of_minus k h ↦ absurd (let z = h in cc)
        | of_colon k h ↦ integer_first l room i.text bytes i.rest f (of_kind k i.begins) h
        | of_dollar k h ↦ bulk_first l room i.text bytes i.rest f (of_kind k i.begins) h
        | of_star k h ↦ array_first l room i.text bytes i.rest f below first (of_kind k i.begins) h
      ]
    ]

-- what is read is spelled so
pub read_sound : (l : LimitsModel) (room : ℕ) → Sound l room
read_sound l zero = value_front l zero (λ inner e. absurd (omega arith))
read_sound l (suc room) = value_front l (suc room) (λ inner e. let same : room ≡ inner = omega arith in subst (λ (r : ℕ). Sound l r) same (read_sound l room))

-- a fault that reading finds is the first
pub fault_first : (l : LimitsModel) (room : ℕ) → First l room
fault_first l zero = value_first l zero (λ inner e. absurd (omega arith)) (λ inner e. absurd (omega arith))
fault_first l (suc room) =
    value_first l (suc room)
    (λ inner e. let same : room ≡ inner = omega arith in subst (λ (r : ℕ). Sound l r) same (read_sound l room))
    (λ inner e. let same : room ≡ inner = omega arith in subst (λ (r : ℕ). First l r) same (fault_first l room))
