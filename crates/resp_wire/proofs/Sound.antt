-- What is read is spelled so, and a fault that reading finds is the first.
use Rattle.std.proofs.Common.{IsTrue, ◌≡◌, ◌≢◌, ℕ, ◌+◌, ◌-◌, ◌<◌, ◌≤◌, Bool, true, false, cond, eqb, ◌||◌, ◌&&◌, List, [], ◌∷◌, ◌++◌, length, Option, Some, None, refl, sym, ap, subst, ◌∙◌, arith, inl, inr, ◌⊎◌}
use Rattle.std.specs.Option.{option_map_or}
use Rattle.std.proofs.lemmas.Bool.{false≢true, and_parts, eqb-true, eqb-false}
use Rattle.resp_wire.specs.Spelling.{cr, lf}
use Rattle.resp_wire.specs.Faults.{IsNoEnd}
use Rattle.resp_wire.specs.Reading.{Reading, whole, partial, faulty, then_read, end_at, text_at}
use Rattle.resp_wire.specs.declared.fault.WireFault.{WireFault}
use Rattle.resp_wire.specs.declared.fault.WireFault.TheVariants.{TooLong, BadEnd}
use Rattle.resp_wire.specs.Text.{is_one_line}
use Rattle.resp_wire.proofs.OneLine.{plain_more}

pub then_is_whole : {A B : Type 0} (r : Reading A) (f : A → List ℕ → Reading B) (y : B) (z : List ℕ) → then_read r f ≡ whole y z → (x : A) × (rest : List ℕ) × (r ≡ whole x rest) × (f x rest ≡ whole y z)
then_is_whole (whole x rest) f y z e = (x, rest, refl, e)
then_is_whole partial f y z e = absurd cc
then_is_whole (faulty d) f y z e = absurd cc

pub then_is_faulty : {A B : Type 0} (r : Reading A) (f : A → List ℕ → Reading B) (d : WireFault) → then_read r f ≡ faulty d → (r ≡ faulty d) ⊎ ((x : A) × (rest : List ℕ) × (r ≡ whole x rest) × (f x rest ≡ faulty d))
then_is_faulty (whole x rest) f d e = inr (x, rest, refl, e)
then_is_faulty partial f d e = absurd cc
then_is_faulty (faulty c) f d e = let same : c ≡ d = cc in inl (ap (λ w. faulty w) same)

pub chosen : {A : Type 0} (b : Bool) (x y z : A) → cond b x y ≡ z → ((b ≡ true) × (x ≡ z)) ⊎ ((b ≡ false) × (y ≡ z))
chosen true x y z e = inl (refl, e)
chosen false x y z e = inr (refl, e)

pub mapped : {X Y : Type 0} (g : X → Y) (o : Option X) (d z : Y) → option_map_or g o d ≡ z → ((o ≡ None) × (d ≡ z)) ⊎ ((n : X) × (o ≡ Some n) × (g n ≡ z))
mapped g None d z e = inl (refl, e)
mapped g (Some n) d z e = inr (n, refl, e)

-- equal readings have equal parts
pub whole_is : {A : Type 0} (x y : A) (p q : List ℕ) → (let r : Reading A = whole x p in r) ≡ whole y q → (x ≡ y) × (p ≡ q)
whole_is x y p q e = (cc, cc)

pub faulty_is : {A : Type 0} (c d : WireFault) → (let r : Reading A = faulty c in r) ≡ faulty d → c ≡ d
faulty_is c d e = cc

pub end_is : (bytes rest : List ℕ) (u : Unit {0}) → end_at bytes ≡ whole u rest → bytes ≡ cr ∷ lf ∷ rest
end_is [] rest u e = absurd cc
end_is (b ∷ []) rest u e = elim (chosen (eqb b 13) partial (faulty BadEnd) (whole u rest) e) [ inl h ↦ absurd (let k = h.1 in cc) | inr h ↦ absurd (let k = h.1 in cc) ]
end_is (b ∷ c ∷ more) rest u e = elim (chosen (eqb b 13 && eqb c 10) (whole tt more) (faulty BadEnd) (whole u rest) e) [
  | inl h ↦ let p = and_parts (eqb b 13) (eqb c 10) h.0 in rw (eqb-true b 13 p.0, eqb-true c 10 p.1, (whole_is tt u more rest h.1).1) refl
  | inr h ↦ absurd (let k = h.1 in cc)
]

pub end_fault : (bytes : List ℕ) (f : WireFault) → end_at bytes ≡ faulty f → (f ≡ BadEnd) × IsNoEnd bytes
end_fault [] f e = absurd cc
end_fault (b ∷ []) f e = elim (chosen (eqb b 13) partial (faulty BadEnd) (faulty f) e) [
  | inl h ↦ absurd (let k = h.1 in cc)
  | inr h ↦ (sym (faulty_is BadEnd f h.1), eqb-false b 13 h.0)
]
end_fault (b ∷ c ∷ more) f e = elim (chosen (eqb b 13 && eqb c 10) (whole tt more) (faulty BadEnd) (faulty f) e) [
  | inl h ↦ absurd (let k = h.1 in cc)
  | inr h ↦ (sym (faulty_is BadEnd f h.1), λ p q. false≢true (sym h.0 ∙ rw (p, q) refl))
]

-- ---- a line's text

-- a text that a fault ends: too long, or with no CR and LF at its end
pub data EndsBadly (left : ℕ) : List ℕ → WireFault → Type 0 where
  long : {bytes : List ℕ} (text more : List ℕ) → IsTrue (is_one_line text) → length text ≡ left + 1 → bytes ≡ text ++ more → EndsBadly left bytes TooLong
  lf_alone : {bytes : List ℕ} (text more : List ℕ) → IsTrue (is_one_line text) → length text ≤ left → bytes ≡ text ++ lf ∷ more → EndsBadly left bytes BadEnd
  cr_alone : {bytes : List ℕ} (c : ℕ) (text more : List ℕ) → IsTrue (is_one_line text) → length text ≤ left → c ≢ lf → bytes ≡ text ++ cr ∷ c ∷ more → EndsBadly left bytes BadEnd

-- one plain byte before it
longer : (left b : ℕ) (bytes : List ℕ) (f : WireFault) → 0 < left → (b ≢ 13) × (b ≢ 10) → EndsBadly (left - 1) bytes f → EndsBadly left (b ∷ bytes) f
longer left b bytes f h p (long text more q n e) = long (b ∷ text) more (plain_more b text p q) (omega arith) (ap (λ (u : List ℕ). b ∷ u) e)
longer left b bytes f h p (lf_alone text more q n e) = lf_alone (b ∷ text) more (plain_more b text p q) (omega arith) (ap (λ (u : List ℕ). b ∷ u) e)
longer left b bytes f h p (cr_alone c text more q n ne e) = cr_alone c (b ∷ text) more (plain_more b text p q) (omega arith) ne (ap (λ (u : List ℕ). b ∷ u) e)

or_parts : (x y : Bool) → (x || y) ≡ true → (x ≡ true) ⊎ (y ≡ true)
or_parts true y e = inl refl
or_parts false y e = inr e

not_plain : (b : ℕ) → (eqb b 13 || eqb b 10) ≡ true → (b ≡ 13) ⊎ (b ≡ 10)
not_plain b e = elim (or_parts (eqb b 13) (eqb b 10) e) [ inl x ↦ inl (eqb-true b 13 x) | inr y ↦ inr (eqb-true b 10 y) ]

is_plain : (b : ℕ) → (eqb b 13 || eqb b 10) ≡ false → (b ≢ 13) × (b ≢ 10)
is_plain b e =
    ((λ p. false≢true (sym e ∙ rw p refl)), (λ p. false≢true (sym e ∙ rw p refl)))

pub record IsText (left : ℕ) (bytes text rest : List ℕ) : Type 0 where
  pub plain : IsTrue (is_one_line text)
  pub short : length text ≤ left
  pub are : bytes ≡ text ++ cr ∷ lf ∷ rest

pub text_is : (bytes : List ℕ) (left : ℕ) (text rest : List ℕ) → text_at bytes left ≡ whole text rest → IsText left bytes text rest
unfolding text_at
text_is [] left text rest e = absurd cc
text_is (b ∷ bytes) left text rest e =
    elim (chosen (eqb b 13 || eqb b 10) (then_read (end_at (b ∷ bytes)) (λ _ more. whole [] more)) _ (whole text rest) e) [
      | inl h ↦
          let t = then_is_whole (end_at (b ∷ bytes)) (λ _ more. whole [] more) text rest h.1 in
          let same = whole_is [] text t.1 rest t.3 in
          let all : b ∷ bytes ≡ cr ∷ lf ∷ rest = end_is (b ∷ bytes) t.1 t.0 t.2 ∙ ap (λ (u : List ℕ). cr ∷ lf ∷ u) same.1 in
          let here : IsText left (b ∷ bytes) [] rest = record { plain = refl; short = omega arith; are = all } in
          subst (λ (u : List ℕ). IsText left (b ∷ bytes) u rest) same.0 here
      | inr h ↦ elim (chosen (eqb left 0) (faulty TooLong) (then_read (text_at bytes (left - 1)) (λ t more. whole (b ∷ t) more)) (whole text rest) h.1) [
        | inl k ↦ absurd (let z = k.1 in cc)
        | inr k ↦
            let t = then_is_whole (text_at bytes (left - 1)) (λ t more. whole (b ∷ t) more) text rest k.1 in
            let same = whole_is (b ∷ t.0) text t.1 rest t.3 in
            let i = text_is bytes (left - 1) t.0 t.1 t.2 in
            let some : left ≢ 0 = eqb-false left 0 k.0 in
            let plain : IsTrue (is_one_line (b ∷ t.0)) = plain_more b t.0 (is_plain b h.0) i.plain in
            let here : IsText left (b ∷ bytes) (b ∷ t.0) t.1 = record { plain = plain; short = omega (arith, i.short); are = ap (λ (u : List ℕ). b ∷ u) i.are } in
            subst (λ (u : List ℕ). IsText left (b ∷ bytes) u rest) same.0 (subst (λ (u : List ℕ). IsText left (b ∷ bytes) (b ∷ t.0) u) same.1 here)
      ]
    ]

ends_here : (left b : ℕ) (bytes : List ℕ) → (b ≡ 13) ⊎ (b ≡ 10) → IsNoEnd (b ∷ bytes) → EndsBadly left (b ∷ bytes) BadEnd
ends_here left b [] (inl p) h = absurd (h p)
ends_here left b (c ∷ more) (inl p) h = cr_alone c [] more refl (omega arith) (h p) (rw p refl)
ends_here left b bytes (inr p) h = lf_alone [] bytes refl (omega arith) (rw p refl)

pub text_fault : (bytes : List ℕ) (left : ℕ) (f : WireFault) → text_at bytes left ≡ faulty f → EndsBadly left bytes f
unfolding text_at
text_fault [] left f e = absurd cc
text_fault (b ∷ bytes) left f e =
    elim (chosen (eqb b 13 || eqb b 10) (then_read (end_at (b ∷ bytes)) (λ _ more. whole [] more)) _ (faulty f) e) [
      | inl h ↦ elim (then_is_faulty (end_at (b ∷ bytes)) (λ _ more. whole [] more) f h.1) [
        | inl x ↦ let d = end_fault (b ∷ bytes) f x in subst (λ (g : WireFault). EndsBadly left (b ∷ bytes) g) (sym d.0) (ends_here left b bytes (not_plain b h.0) d.1)
        | inr y ↦ absurd (let z = y.3 in cc)
      ]
      | inr h ↦ elim (chosen (eqb left 0) (faulty TooLong) (then_read (text_at bytes (left - 1)) (λ t more. whole (b ∷ t) more)) (faulty f) h.1) [
        | inl k ↦ subst (λ (g : WireFault). EndsBadly left (b ∷ bytes) g) (faulty_is TooLong f k.1) (let none_left : left ≡ 0 = eqb-true left 0 k.0 in long (b ∷ []) bytes (plain_more b [] (is_plain b h.0) refl) (omega arith) refl)
        | inr k ↦ elim (then_is_faulty (text_at bytes (left - 1)) (λ t more. whole (b ∷ t) more) f k.1) [
          | inl x ↦ let some : left ≢ 0 = eqb-false left 0 k.0 in longer left b bytes f (omega arith) (is_plain b h.0) (text_fault bytes (left - 1) f x)
          | inr y ↦ absurd (let z = y.3 in cc)
        ]
      ]
    ]
