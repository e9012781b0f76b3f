-- A value that is read is spelled so, and a fault that reading finds is the first.
use Rattle.std.proofs.Common.{◌≡◌, ◌≢◌, ℕ, ◌<◌, Bool, true, false, eqb, ◌||◌, List, [], ◌∷◌, ◌++◌, length, take, drop, Some, None, refl, sym, ap, subst, ◌∙◌, arith, inl, inr, ◌⊎◌}
use Rattle.std.specs.Option.{option_map_or}
use Rattle.std.proofs.lemmas.Bool.{false≢true, eqb-true}
use Rattle.std.proofs.lemmas.List.{take-append-drop, length-take, length-drop}
use Rattle.resp_wire.specs.Data.{Data, Items, simple, error}
use Rattle.resp_wire.specs.LimitsModel.{LimitsModel}
use Rattle.resp_wire.specs.Spelling.{cr, lf, plus, minus, colon, dollar, star, none, BeginsLine, length_in}
use Rattle.resp_wire.specs.Faults.{is_kind, IsNoEnd, FirstFault, unknown_kind, bare_lf, bare_cr, long_line}
use Rattle.resp_wire.specs.Reading.{Reading, whole, faulty, then_read, end_at, text_at, body_at, is_none, by_length, after_line, value_with, integer_at, bulk_at, array_at}
use Rattle.resp_wire.specs.declared.fault.WireFault.{WireFault}
use Rattle.resp_wire.specs.declared.fault.WireFault.TheVariants.{BadType, BadNumber, BadEnd}
use Rattle.resp_wire.proofs.Lines.{none_is}
use Rattle.resp_wire.proofs.Sound.{then_is_whole, then_is_faulty, chosen, mapped, whole_is, faulty_is, end_is, end_fault, EndsBadly, long, lf_alone, cr_alone, text_is, text_fault}

-- ---- a line

-- a whole line, and what comes of it
pub record Line (l : LimitsModel) (items : ℕ → List ℕ → Reading Items) (bytes : List ℕ) (z : Reading Data) : Type 0 where
  pub kind : ℕ
  pub text : List ℕ
  pub rest : List ℕ
  pub known : is_kind kind ≡ true
  pub begins : BeginsLine l kind text bytes rest
  pub then_is : after_line l items kind text rest ≡ z

line_of : (l : LimitsModel) (items : ℕ → List ℕ → Reading Items) (b : ℕ) (bytes text rest : List ℕ) (z : Reading Data) → is_kind b ≡ true → text_at bytes l.line ≡ whole text rest → after_line l items b text rest ≡ z → Line l items (b ∷ bytes) z
line_of l items b bytes text rest z k t e =
    let i = text_is bytes l.line text rest t in
    record { kind = b; text = text; rest = rest; known = k; begins = record { plain = i.plain; short = i.short; are = ap (λ (u : List ℕ). b ∷ u) i.are }; then_is = e }

pub line_is : (l : LimitsModel) (items : ℕ → List ℕ → Reading Items) (bytes : List ℕ) (v : Data) (after : List ℕ) → value_with l items bytes ≡ whole v after → Line l items bytes (whole v after)
unfolding value_with
line_is l items [] v after e = absurd cc
line_is l items (b ∷ bytes) v after e =
    elim (chosen (is_kind b) (then_read (text_at bytes l.line) (after_line l items b)) (faulty BadType) (whole v after) e) [
      | inl h ↦ let t = then_is_whole (text_at bytes l.line) (after_line l items b) v after h.1 in line_of l items b bytes t.0 t.1 (whole v after) h.0 t.2 t.3
      | inr h ↦ absurd (let z = h.1 in cc)
    ]

bad_line : (l : LimitsModel) (room b : ℕ) (bytes : List ℕ) (f : WireFault) → is_kind b ≡ true → EndsBadly l.line bytes f → FirstFault l room (b ∷ bytes) f
bad_line l room b bytes f k (long text more p n e) = long_line b text more k p n (ap (λ (u : List ℕ). b ∷ u) e)
bad_line l room b bytes f k (lf_alone text more p n e) = bare_lf b text more k p n (ap (λ (u : List ℕ). b ∷ u) e)
bad_line l room b bytes f k (cr_alone c text more p n ne e) = bare_cr b c text more k p n ne (ap (λ (u : List ℕ). b ∷ u) e)

pub line_fault : (l : LimitsModel) (room : ℕ) (items : ℕ → List ℕ → Reading Items) (bytes : List ℕ) (f : WireFault) → value_with l items bytes ≡ faulty f → FirstFault l room bytes f ⊎ Line l items bytes (faulty f)
unfolding value_with
line_fault l room items [] f e = absurd cc
line_fault l room items (b ∷ bytes) f e =
    elim (chosen (is_kind b) (then_read (text_at bytes l.line) (after_line l items b)) (faulty BadType) (faulty f) e) [
      | inl h ↦ elim (then_is_faulty (text_at bytes l.line) (after_line l items b) f h.1) [
        | inl x ↦ inl (bad_line l room b bytes f h.0 (text_fault bytes l.line f x))
        | inr t ↦ inr (line_of l items b bytes t.0 t.1 (faulty f) h.0 t.2 t.3)
      ]
      | inr h ↦ inl (subst (λ (g : WireFault). FirstFault l room (b ∷ bytes) g) (faulty_is BadType f h.1) (unknown_kind b bytes h.0 refl))
    ]

-- ---- which kind

pub data ByKind (l : LimitsModel) (items : ℕ → List ℕ → Reading Items) (kind : ℕ) (text rest : List ℕ) (z : Reading Data) : Type 0 where
  of_plus : kind ≡ plus → whole (simple text) rest ≡ z → ByKind l items kind text rest z
  of_minus : kind ≡ minus → whole (error text) rest ≡ z → ByKind l items kind text rest z
  of_colon : kind ≡ colon → integer_at text rest ≡ z → ByKind l items kind text rest z
  of_dollar : kind ≡ dollar → bulk_at l text rest ≡ z → ByKind l items kind text rest z
  of_star : kind ≡ star → array_at items text rest ≡ z → ByKind l items kind text rest z

last_kind : (a b c d e : Bool) → (a || b || c || d || e) ≡ true → a ≡ false → b ≡ false → c ≡ false → d ≡ false → e ≡ true
last_kind a b c d e h p q r s = let k = h in (rw (p, q, r, s) at k)

pub by_kind : (l : LimitsModel) (items : ℕ → List ℕ → Reading Items) (kind : ℕ) (text rest : List ℕ) (z : Reading Data) → is_kind kind ≡ true → after_line l items kind text rest ≡ z → ByKind l items kind text rest z
unfolding after_line
by_kind l items kind text rest z k e =
    elim (chosen (eqb kind 43) _ _ z e) [
      | inl h ↦ of_plus (eqb-true kind 43 h.0) h.1
      | inr h1 ↦ elim (chosen (eqb kind 45) _ _ z h1.1) [
        | inl h ↦ of_minus (eqb-true kind 45 h.0) h.1
        | inr h2 ↦ elim (chosen (eqb kind 58) _ _ z h2.1) [
          | inl h ↦ of_colon (eqb-true kind 58 h.0) h.1
          | inr h3 ↦ elim (chosen (eqb kind 36) _ _ z h3.1) [
            | inl h ↦ of_dollar (eqb-true kind 36 h.0) h.1
            | inr h4 ↦ of_star (eqb-true kind 42 (last_kind (eqb kind 43) (eqb kind 45) (eqb kind 58) (eqb kind 36) (eqb kind 42) k h1.0 h2.0 h3.0 h4.0)) h4.1
          ]
        ]
      ]
    ]

-- ---- which length

pub data ByLength {A : Type 0} (text : List ℕ) (null : Reading A) (counted : ℕ → Reading A) (z : Reading A) : Type 0 where
  is_null : text ≡ none → null ≡ z → ByLength text null counted z
  no_length : text ≢ none → length_in text ≡ None → (let r : Reading A = faulty BadNumber in r) ≡ z → ByLength text null counted z
  has_length : (n : ℕ) → length_in text ≡ Some n → counted n ≡ z → ByLength text null counted z

pub by_length_of : {A : Type 0} (text : List ℕ) (null : Reading A) (counted : ℕ → Reading A) (z : Reading A) → by_length text null counted ≡ z → ByLength text null counted z
by_length_of text null counted z e =
    elim (chosen (is_none text) null (option_map_or counted (length_in text) (faulty BadNumber)) z e) [
      | inl h ↦ is_null (none_is text h.0) h.1
      | inr h ↦ elim (mapped counted (length_in text) (faulty BadNumber) z h.1) [
        | inl k ↦ no_length (λ p. false≢true (sym h.0 ∙ rw p refl)) k.0 k.1
        | inr k ↦ has_length k.0 k.1 k.2
      ]
    ]

-- ---- the bytes of a bulk string

pub record IsBody (n : ℕ) (bytes body after : List ℕ) : Type 0 where
  pub all : length body ≡ n
  pub are : bytes ≡ body ++ after

split : (n : ℕ) (bytes : List ℕ) → 0 < length (drop n bytes) → IsBody n bytes (take n bytes) (drop n bytes)
split n bytes h = record { all = omega (arith, length-take n bytes, length-drop n bytes); are = sym (take-append-drop n bytes) }

pub body_is : (n : ℕ) (bytes body rest : List ℕ) → body_at n bytes ≡ whole body rest → IsBody n bytes body (cr ∷ lf ∷ rest)
unfolding body_at
body_is n bytes body rest e =
    let t = then_is_whole (end_at (drop n bytes)) (λ _ more. whole (take n bytes) more) body rest e in
    let same = whole_is (take n bytes) body t.1 rest t.3 in
    let ends : drop n bytes ≡ cr ∷ lf ∷ rest = end_is (drop n bytes) t.1 t.0 t.2 ∙ ap (λ (u : List ℕ). cr ∷ lf ∷ u) same.1 in
    let parts = split n bytes (rw ends (omega arith)) in
    subst (λ (u : List ℕ). IsBody n bytes u (cr ∷ lf ∷ rest)) same.0 (subst (λ (u : List ℕ). IsBody n bytes (take n bytes) u) ends parts)

no_end_there : (bytes : List ℕ) → IsNoEnd bytes → 0 < length bytes
no_end_there [] h = absurd h
no_end_there (b ∷ bytes) h = omega arith

pub body_fault : (n : ℕ) (bytes : List ℕ) (f : WireFault) → body_at n bytes ≡ faulty f → (f ≡ BadEnd) × IsNoEnd (drop n bytes) × IsBody n bytes (take n bytes) (drop n bytes)
unfolding body_at
body_fault n bytes f e = elim (then_is_faulty (end_at (drop n bytes)) (λ _ more. whole (take n bytes) more) f e) [
  | inl x ↦ let d = end_fault (drop n bytes) f x in (d.0, d.1, split n bytes (no_end_there (drop n bytes) d.1))
  | inr y ↦ absurd (let z = y.3 in cc)
]
