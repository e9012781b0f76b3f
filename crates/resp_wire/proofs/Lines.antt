-- Reading a line, a bulk string's bytes and a length.
use Rattle.std.proofs.Common.{IsTrue, ◌≡◌, ◌≢◌, ℕ, zero, suc, ◌+◌, ◌-◌, ◌<◌, ◌≤◌, Bool, true, false, eqb, ◌||◌, List, [], ◌∷◌, ◌++◌, length, min, get_or, take, drop, Some, refl, sym, ap, subst, ◌∙◌, append_assoc, arith, inl, inr, ◌⊎◌}
use Rattle.std.proofs.lemmas.Bool.{ne_eqb, false≢true}
use Rattle.std.proofs.lemmas.Bool.Decides.{eqb_tells}
use Rattle.std.proofs.lemmas.List.{take_at, drop_at, drop_all, take_all, append-nil, take-take, get_or-drop, get_or-take, length-take, length-drop, take-append-drop}
use Rattle.resp_wire.specs.Data.{Items}
use Rattle.resp_wire.specs.LimitsModel.{LimitsModel}
use Rattle.resp_wire.specs.Spelling.{cr, lf, none, BeginsLine, length_in}
use Rattle.resp_wire.specs.Faults.{is_kind}
use Rattle.resp_wire.specs.Reading.{Reading, whole, partial, faulty, then_read, end_at, text_at, body_at, is_none, by_length, after_line, value_with}
use Rattle.resp_wire.specs.declared.fault.WireFault.TheVariants.{BadType, TooLong}
use Rattle.resp_wire.specs.Text.{is_one_line}
use Rattle.resp_wire.proofs.OneLine.{and_both, plain_head, plain_tail}

pub then_whole : {A : Type 0} (r : Reading A) → then_read r (λ x rest. whole x rest) ≡ r
then_whole (whole x rest) = refl
then_whole partial = refl
then_whole (faulty e) = refl

pub then_then : {A B C : Type 0} (r : Reading A) (f : A → List ℕ → Reading B) (g : B → List ℕ → Reading C) → then_read (then_read r f) g ≡ then_read r (λ x rest. then_read (f x rest) g)
then_then (whole x rest) f g = refl
then_then partial f g = refl
then_then (faulty e) f g = refl

pub plain_byte : (b : ℕ) → (b ≢ 13) × (b ≢ 10) → (eqb b 13 || eqb b 10) ≡ false
plain_byte b h = rw (ne_eqb b 13 h.0, ne_eqb b 10 h.1) refl

pub true_or_false : (b : Bool) → (b ≡ true) ⊎ (b ≡ false)
true_or_false true = inl refl
true_or_false false = inr refl

eqb_is : (a b : ℕ) → eqb a b ≡ true → a ≡ b
eqb_is a b e = elim (eqb_tells a b) [ inl h ↦ h.1 | inr h ↦ absurd (false≢true (sym h.0 ∙ e)) ]

-- a plain text in front
pub text_front : (t after : List ℕ) (left : ℕ) → IsTrue (is_one_line t) → length t ≤ left → text_at (t ++ after) left ≡ then_read (text_at after (left - length t)) (λ u rest. whole (t ++ u) rest)
unfolding text_at
text_front [] after left p h = let zero_off : left - 0 ≡ left = omega arith in rw zero_off (sym (then_whole (text_at after left)))
text_front (b ∷ t) after left p h =
    let some : left ≢ 0 = λ e. omega arith in
    let again : text_at (t ++ after) (left - 1) ≡ then_read (text_at after (left - 1 - length t)) (λ u rest. whole (t ++ u) rest) = text_front t after (left - 1) (plain_tail b t p) (omega arith) in
    let less : left - 1 - length t ≡ left - suc (length t) = omega arith in
    rw (plain_byte b (plain_head b t p), ne_eqb left 0 some, again, less) (then_then (text_at after (left - suc (length t))) _ _)

-- a text that ends where CR or LF stands, or where the bytes do
ends_first : (bytes : List ℕ) (left : ℕ) → (0 < length bytes → (eqb (get_or bytes 0 0) 13 || eqb (get_or bytes 0 0) 10) ≡ true) → text_at bytes left ≡ then_read (end_at bytes) (λ _ rest. whole [] rest)
unfolding text_at
ends_first [] left h = refl
ends_first (b ∷ bytes) left h = rw (h (omega arith)) refl

pub text_stops : (bytes : List ℕ) (n limit : ℕ) → n ≤ limit → n ≤ length bytes → IsTrue (is_one_line (take n bytes)) → (n < length bytes → (eqb (get_or bytes n 0) 13 || eqb (get_or bytes n 0) 10) ≡ true)
    → text_at bytes limit ≡ then_read (end_at (drop n bytes)) (λ _ rest. whole (take n bytes) rest)
text_stops bytes n limit h k p e =
    let parts : take n bytes ++ drop n bytes ≡ bytes = take-append-drop n bytes in
    let len : length (take n bytes) ≡ n = omega (arith, length-take n bytes) in
    let front = text_front (take n bytes) (drop n bytes) limit p (omega arith) in
    let first : text_at (drop n bytes) (limit - length (take n bytes)) ≡ then_read (end_at (drop n bytes)) (λ _ rest. whole [] rest) =
    ends_first (drop n bytes) (limit - length (take n bytes)) (λ some. rw (get_or-drop n bytes 0 0) (let same : n + 0 ≡ n = omega arith in rw same (e (omega (arith, length-drop n bytes))))) in
    ap (λ (u : List ℕ). text_at u limit) (sym parts) ∙ front ∙ ap (λ r. then_read r (λ u rest. whole (take n bytes ++ u) rest)) first
    ∙ then_then (end_at (drop n bytes)) _ _ ∙ (rw (append-nil (take n bytes)) refl)

pub text_long : (text more : List ℕ) (left : ℕ) → IsTrue (is_one_line text) → length text ≡ left + 1 → text_at (text ++ more) left ≡ faulty TooLong
unfolding text_at
text_long [] more left p h = absurd (omega arith)
text_long (b ∷ text) more zero p h = rw (plain_byte b (plain_head b text p)) refl
text_long (b ∷ text) more (suc left) p h =
    let less : suc left - 1 ≡ left = omega arith in
    rw (plain_byte b (plain_head b text p), ne_eqb (suc left) 0 (λ e. absurd (omega arith)), less, text_long text more left (plain_tail b text p) (omega arith)) refl

-- the same, where the first bytes alone were looked at
pub record IsWindow (bytes window : List ℕ) (limit len : ℕ) : Type 0 where
  pub size : ℕ
  pub small : size ≡ min (length bytes) (limit + 1)
  pub are : window ≡ take size bytes
  pub within : len ≤ length window
  pub plain : IsTrue (is_one_line (take len window))
  pub stops : len < length window → (eqb (get_or window len 0) 13 || eqb (get_or window len 0) 10) ≡ true

pub window_stops : (bytes window : List ℕ) (limit len : ℕ) → IsWindow bytes window limit len → len ≤ limit → text_at bytes limit ≡ then_read (end_at (drop len bytes)) (λ _ rest. whole (take len bytes) rest)
window_stops bytes window limit len w h =
    let long : length window ≡ min w.size (length bytes) = rw w.are (length-take w.size bytes) in
    let s = w.small in
    let k = w.within in
    let front : take len window ≡ take len bytes = rw w.are (take-take len w.size bytes (omega arith)) in
    let plain : IsTrue (is_one_line (take len bytes)) = subst (λ (u : List ℕ). IsTrue (is_one_line u)) front w.plain in
    let ends : len < length bytes → (eqb (get_or bytes len 0) 13 || eqb (get_or bytes len 0) 10) ≡ true =
    λ more.
    let inside : len < w.size = omega arith in
    let same : get_or window len 0 ≡ get_or bytes len 0 = rw w.are (get_or-take w.size bytes len 0 inside) in
    subst (λ (b : ℕ). (eqb b 13 || eqb b 10) ≡ true) same (w.stops (omega arith)) in
    text_stops bytes len limit h (omega arith) plain ends

pub text_by_window : (bytes window text after : List ℕ) (limit len : ℕ) → IsWindow bytes window limit len → len ≤ limit → text ≡ take len bytes → after ≡ drop len bytes → text_at bytes limit ≡ then_read (end_at after) (λ _ rest. whole text rest)
text_by_window bytes window text after limit len w h t a = rw (t, a) (window_stops bytes window limit len w h)

pub window_long : (bytes window : List ℕ) (limit len : ℕ) → IsWindow bytes window limit len → limit < len → text_at bytes limit ≡ faulty TooLong
window_long bytes window limit len w h =
    let long : length window ≡ min w.size (length bytes) = rw w.are (length-take w.size bytes) in
    let s = w.small in
    let k = w.within in
    let front : take len window ≡ take len bytes = rw w.are (take-take len w.size bytes (omega arith)) in
    let plain : IsTrue (is_one_line (take len bytes)) = subst (λ (u : List ℕ). IsTrue (is_one_line u)) front w.plain in
    ap (λ (u : List ℕ). text_at u limit) (sym (take-append-drop len bytes))
    ∙ text_long (take len bytes) (drop len bytes) limit plain (omega (arith, length-take len bytes))

-- the text of a line
pub text_whole : (t more : List ℕ) (left : ℕ) → IsTrue (is_one_line t) → length t ≤ left → text_at (t ++ cr ∷ lf ∷ more) left ≡ whole t more
unfolding text_at
text_whole t more left p h = text_front t (cr ∷ lf ∷ more) left p h ∙ ap (λ u. whole u more) (append-nil t)

-- a line is read
pub line_whole : (l : LimitsModel) (items : ℕ → List ℕ → Reading Items) (kind : ℕ) (text bytes more : List ℕ) → BeginsLine l kind text bytes more → is_kind kind ≡ true → value_with l items bytes ≡ after_line l items kind text more
unfolding value_with
line_whole l items kind text bytes more b k = rw (b.are, k, text_whole text more l.line b.plain b.short) refl

pub begins_more : (l : LimitsModel) (kind : ℕ) (text bytes more after : List ℕ) → BeginsLine l kind text bytes more → BeginsLine l kind text (bytes ++ after) (more ++ after)
begins_more l kind text bytes more after b = record { plain = b.plain; short = b.short; are = rw b.are (ap (λ (u : List ℕ). kind ∷ u) (append_assoc text (cr ∷ lf ∷ more) after)) }

pub end_whole : (more : List ℕ) → end_at (cr ∷ lf ∷ more) ≡ whole tt more
end_whole more = refl

pub body_whole : (body more : List ℕ) → body_at (length body) (body ++ cr ∷ lf ∷ more) ≡ whole body more
unfolding body_at
body_whole body more = rw (take_at body (cr ∷ lf ∷ more) (length body) refl, drop_at body (cr ∷ lf ∷ more) (length body) refl) refl

pub none_is : (t : List ℕ) → is_none t ≡ true → t ≡ none
none_is [] e = absurd (false≢true e)
none_is (a ∷ []) e = absurd (false≢true e)
none_is (a ∷ b ∷ []) e = let h = and_both (eqb a 45) (eqb b 49) e in rw (eqb_is a 45 h.0, eqb_is b 49 h.1) refl
none_is (a ∷ b ∷ c ∷ more) e = absurd (false≢true e)

none_no_length : (n : ℕ) → length_in none ≡ Some n → ⊥
unfolding length_in
none_no_length n e = cc

pub length_no_null : (t : List ℕ) (n : ℕ) → length_in t ≡ Some n → is_none t ≡ false
unfolding length_in
length_no_null t n e = elim (true_or_false (is_none t)) [ inl y ↦ absurd (none_no_length n (ap length_in (sym (none_is t y)) ∙ e)) | inr y ↦ y ]

pub by_length_some : {A : Type 0} (t : List ℕ) (n : ℕ) (null : Reading A) (counted : ℕ → Reading A) → length_in t ≡ Some n → by_length t null counted ≡ counted n
by_length_some t n null counted e = rw (length_no_null t n e, e) refl

-- ---- what the code finds

pub body_short : (n : ℕ) (bytes : List ℕ) → length bytes < n → body_at n bytes ≡ partial
unfolding body_at
body_short n bytes h = rw (drop_all n bytes (omega arith)) refl

pub body_by_end : (n : ℕ) (bytes body after : List ℕ) (r : Reading (Unit {0})) → body ≡ take n bytes → after ≡ drop n bytes → end_at after ≡ r → body_at n bytes ≡ then_read r (λ _ rest. whole body rest)
unfolding body_at
body_by_end n bytes body after r b a e = rw (b, ← e, a) refl

pub front_of : (bytes : List ℕ) → 0 < length bytes → bytes ≡ get_or bytes 0 0 ∷ drop 1 bytes
front_of [] h = absurd (omega arith)
front_of (b ∷ bytes) h = refl

pub empty_of : (bytes : List ℕ) → length bytes < 1 → bytes ≡ []
empty_of [] h = refl
empty_of (b ∷ bytes) h = absurd (omega arith)

pub nothing_there : (l : LimitsModel) (items : ℕ → List ℕ → Reading Items) (bytes : List ℕ) → length bytes < 1 → value_with l items bytes ≡ partial
unfolding value_with
nothing_there l items bytes h = rw (empty_of bytes h) refl

pub unknown_there : (l : LimitsModel) (items : ℕ → List ℕ → Reading Items) (bytes : List ℕ) → 0 < length bytes → is_kind (get_or bytes 0 0) ≡ false → value_with l items bytes ≡ faulty BadType
unfolding value_with
unknown_there l items bytes h k = ap (value_with l items) (front_of bytes h) ∙ rw k refl

-- what the line's text comes to
pub line_there : (l : LimitsModel) (items : ℕ → List ℕ → Reading Items) (bytes : List ℕ) (kind limit : ℕ) (more : List ℕ) (r : Reading (List ℕ)) → 0 < length bytes → is_kind (get_or bytes 0 0) ≡ true → get_or bytes 0 0 ≡ kind → limit ≡ l.line → more ≡ drop 1 bytes → text_at more limit ≡ r
    → value_with l items bytes ≡ then_read r (after_line l items kind)
unfolding value_with
line_there l items bytes kind limit more r h k e m d t = ap (value_with l items) (front_of bytes h) ∙ rw (k, ← m, ← d, t, e) refl

pub not_plain_at : (text : List ℕ) (i : ℕ) → i < length text → (eqb (get_or text i 0) 13 || eqb (get_or text i 0) 10) ≡ true → IsTrue (is_one_line text) → ⊥
not_plain_at [] i h e p = omega arith
not_plain_at (b ∷ text) zero h e p = false≢true (sym (plain_byte b (plain_head b text p)) ∙ e)
not_plain_at (b ∷ text) (suc i) h e p = not_plain_at text i (omega arith) e (plain_tail b text p)

pub plain_whole : (text : List ℕ) (n : ℕ) → length text ≤ n → IsTrue (is_one_line (take n text)) → IsTrue (is_one_line text)
plain_whole text n h p = subst (λ (u : List ℕ). IsTrue (is_one_line u)) (take_all n text h) p
