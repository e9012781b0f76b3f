-- How a value goes on after its first line.
use Rattle.std.proofs.Common.{◌≡◌, ℕ, ℤ, zero, suc, ◌<◌, ◌≤◌, true, List, [], ◌∷◌, ◌++◌, length, Option, Some, None, Result, Ok, Err, refl, sym, ap, ◌∙◌, arith, append_assoc, get_or, drop}
use Rattle.std.proofs.lemmas.List.{append-nil, length-append}
use Rattle.resp_wire.specs.Faults.{is_kind}
use Rattle.resp_wire.proofs.Lines.{body_whole, front_of, line_whole, begins_more}
use Rattle.resp_wire.proofs.Sound.{text_is}
use Rattle.resp_wire.proofs.SoundValue.{body_is}
use Rattle.std.proofs.lemmas.Bool.{le-ltb, lt-ltb}
use Rattle.resp_wire.specs.Data.{Data, Items, simple, error, integer, bulk, null_bulk, array, null_array}
use Rattle.resp_wire.specs.LimitsModel.{LimitsModel}
use Rattle.resp_wire.specs.Spelling.{cr, lf, plus, minus, colon, dollar, star, integer_in, BeginsLine}
use Rattle.resp_wire.specs.Reading.{Reading, whole, partial, faulty, then_read, text_at, value_with, body_at, after_line, integer_at, bulk_at, array_at, items_at, items_in, value_at, counted_bulk, counted_array}
use Rattle.resp_wire.specs.Gives.{LengthIs}
use Rattle.resp_wire.specs.Heads.{IsHeadOf, IsBehind, IsFurther}
use Rattle.resp_wire.specs.declared.head.Head.{Head}
use Rattle.resp_wire.specs.declared.head.Head.TheVariants.{Whole, Array}
use Rattle.resp_wire.specs.declared.fault.WireFault.{WireFault}
use Rattle.resp_wire.specs.declared.fault.WireFault.TheVariants.{BadNumber, TooDeep, TooMany}
use Rattle.resp_wire.proofs.Complete.{after_colon, after_dollar, after_star, integer_whole}

pub head_same : (l : LimitsModel) (room : ℕ) (result : Result (Option Head) WireFault) (r s : List ℕ → Reading Data) → ((more : List ℕ) → r more ≡ s more) → IsHeadOf l room result s → IsHeadOf l room result r
head_same l room (Ok None) r s e h = e [] ∙ h
head_same l room (Ok (Some (Whole rest))) r s e h = (h.0, λ more. e more ∙ h.1 more)
head_same l room (Ok (Some (Array n rest))) r s e h = (h.0, h.1, λ more. e more ∙ h.2 more)
head_same l room (Err f) r s e h = e [] ∙ h

pub array_goes_on : (l : LimitsModel) (room n : ℕ) (rest : List ℕ) → (room ≡ 0 → ⊥) → n ≤ l.items → (inner : ℕ) × (room ≡ suc inner) × ((more : List ℕ) → counted_array (items_in l room) (rest ++ more) n ≡ then_read (items_at (value_at l inner) n (rest ++ more)) (λ vs after. whole (array vs) after))
array_goes_on l zero n rest h k = absurd (h refl)
array_goes_on l (suc inner) n rest h k = (inner, refl, λ more. rw (le-ltb l.items n k) refl)

pub array_too_deep : (l : LimitsModel) (n : ℕ) (rest : List ℕ) → (room : ℕ) → room ≡ 0 → counted_array (items_in l room) rest n ≡ faulty TooDeep
array_too_deep l n rest room e = rw e refl

pub array_too_many : (l : LimitsModel) (room n : ℕ) (rest : List ℕ) → (room ≡ 0 → ⊥) → l.items < n → counted_array (items_in l room) rest n ≡ faulty TooMany
array_too_many l zero n rest h k = absurd (h refl)
array_too_many l (suc inner) n rest h k = rw (lt-ltb l.items n k) refl

body_more : (n : ℕ) (rest body after more : List ℕ) → body_at n rest ≡ whole body after → body_at n (rest ++ more) ≡ whole body (after ++ more)
body_more n rest body after more e =
    let i = body_is n rest body after e in
    rw (i.are, append_assoc body (cr ∷ lf ∷ after) more, ← i.all) (body_whole body (after ++ more))

pub bulk_there : (l : LimitsModel) (n limit : ℕ) (rest body after : List ℕ) → limit ≡ l.bulk → n ≤ limit → body_at n rest ≡ whole body after → (v : Data) × ((more : List ℕ) → counted_bulk l (rest ++ more) n ≡ whole v (after ++ more))
bulk_there l n limit rest body after m h e = (bulk body, λ more. rw (le-ltb l.bulk n (omega arith), body_more n rest body after more e) refl)

pub bulk_not_yet : (l : LimitsModel) (n limit : ℕ) (rest : List ℕ) → limit ≡ l.bulk → n ≤ limit → body_at n rest ≡ partial → counted_bulk l (rest ++ []) n ≡ partial
bulk_not_yet l n limit rest m h e = rw (le-ltb l.bulk n (omega arith), append-nil rest, e) refl

pub bulk_faulty : (l : LimitsModel) (n limit : ℕ) (rest : List ℕ) (f : WireFault) → limit ≡ l.bulk → n ≤ limit → body_at n rest ≡ faulty f → counted_bulk l (rest ++ []) n ≡ faulty f
bulk_faulty l n limit rest f m h e = rw (le-ltb l.bulk n (omega arith), append-nil rest, e) refl

-- a line that is read is read, whatever comes later
pub line_more : (l : LimitsModel) (items : ℕ → List ℕ → Reading Items) (bytes : List ℕ) (kind limit : ℕ) (tail text rest more : List ℕ) → 0 < length bytes → is_kind (get_or bytes 0 0) ≡ true → get_or bytes 0 0 ≡ kind → limit ≡ l.line → tail ≡ drop 1 bytes → text_at tail limit ≡ whole text rest
    → value_with l items (bytes ++ more) ≡ after_line l items kind text (rest ++ more)
line_more l items bytes kind limit tail text rest more h k e m d t =
    let i = text_is tail limit text rest t in
    let are : bytes ≡ kind ∷ (text ++ cr ∷ lf ∷ rest) = front_of bytes h ∙ rw (e, ← d, i.are) refl in
    let b : BeginsLine l kind text bytes rest = record { plain = i.plain; short = omega (arith, i.short); are = are } in
    line_whole l items kind text (bytes ++ more) (rest ++ more) (begins_more l kind text bytes rest more b) (rw (← e) k)

pub head_none : (l : LimitsModel) (room : ℕ) (bytes : List ℕ) (r : Reading Data) → value_at l room bytes ≡ r → value_at l room (bytes ++ []) ≡ r
head_none l room bytes r e = ap (λ (u : List ℕ). value_at l room u) (append-nil bytes) ∙ e

-- ---- by kind

pub of_simple : (l : LimitsModel) (items : ℕ → List ℕ → Reading Items) (text rest : List ℕ) → after_line l items plus text rest ≡ whole (simple text) rest
unfolding after_line
of_simple l items text rest = refl

pub of_error : (l : LimitsModel) (items : ℕ → List ℕ → Reading Items) (text rest : List ℕ) → after_line l items minus text rest ≡ whole (error text) rest
unfolding after_line
of_error l items text rest = refl

pub of_integer : (l : LimitsModel) (items : ℕ → List ℕ → Reading Items) (text rest : List ℕ) (z : ℤ) → Some z ≡ integer_in text → after_line l items colon text rest ≡ whole (integer z) rest
of_integer l items text rest z e = after_colon l items text rest ∙ integer_whole text rest z (sym e)

pub of_no_integer : (l : LimitsModel) (items : ℕ → List ℕ → Reading Items) (text rest : List ℕ) → None ≡ integer_in text → after_line l items colon text rest ≡ faulty BadNumber
unfolding integer_at
of_no_integer l items text rest e = after_colon l items text rest ∙ rw (← e) refl

pub of_bulk : (l : LimitsModel) (items : ℕ → List ℕ → Reading Items) (text rest : List ℕ) (n : ℕ) → LengthIs text (Ok (Some n)) → after_line l items dollar text rest ≡ counted_bulk l rest n
unfolding bulk_at
of_bulk l items text rest n h = after_dollar l items text rest ∙ rw (h.0, h.1) refl

pub of_null_bulk : (l : LimitsModel) (items : ℕ → List ℕ → Reading Items) (text rest : List ℕ) → LengthIs text (Ok None) → after_line l items dollar text rest ≡ whole null_bulk rest
unfolding bulk_at
of_null_bulk l items text rest h = after_dollar l items text rest ∙ rw h refl

pub of_bad_bulk : (l : LimitsModel) (items : ℕ → List ℕ → Reading Items) (text rest : List ℕ) (f : WireFault) → LengthIs text (Err f) → after_line l items dollar text rest ≡ faulty f
unfolding bulk_at
of_bad_bulk l items text rest f h = after_dollar l items text rest ∙ rw (h.0, h.1, h.2) refl

pub of_array : (l : LimitsModel) (items : ℕ → List ℕ → Reading Items) (text rest : List ℕ) (n : ℕ) → LengthIs text (Ok (Some n)) → after_line l items star text rest ≡ counted_array items rest n
unfolding array_at
of_array l items text rest n h = after_star l items text rest ∙ rw (h.0, h.1) refl

pub of_null_array : (l : LimitsModel) (items : ℕ → List ℕ → Reading Items) (text rest : List ℕ) → LengthIs text (Ok None) → after_line l items star text rest ≡ whole null_array rest
unfolding array_at
of_null_array l items text rest h = after_star l items text rest ∙ rw h refl

pub of_bad_array : (l : LimitsModel) (items : ℕ → List ℕ → Reading Items) (text rest : List ℕ) (f : WireFault) → LengthIs text (Err f) → after_line l items star text rest ≡ faulty f
unfolding array_at
of_bad_array l items text rest f h = after_star l items text rest ∙ rw (h.0, h.1, h.2) refl

pub body_behind : (n : ℕ) (rest body after : List ℕ) → body_at n rest ≡ whole body after → (front : List ℕ) × (rest ≡ front ++ after)
body_behind n rest body after e = let i = body_is n rest body after e in (body ++ cr ∷ lf ∷ [], i.are ∙ sym (append_assoc body (cr ∷ lf ∷ []) after))

pub line_behind : (bytes tail text rest : List ℕ) (limit : ℕ) → 0 < length bytes → tail ≡ drop 1 bytes → text_at tail limit ≡ whole text rest → (front : List ℕ) × (0 < length front) × (bytes ≡ front ++ rest)
line_behind bytes tail text rest limit h d t =
    let i = text_is tail limit text rest t in
    (get_or bytes 0 0 ∷ (text ++ cr ∷ lf ∷ []), omega arith, front_of bytes h ∙ rw (← d, i.are) (ap (λ (u : List ℕ). get_or bytes 0 0 ∷ u) (sym (append_assoc text (cr ∷ lf ∷ []) rest))))

farther : (bytes first rest second last : List ℕ) → 0 < length first → bytes ≡ first ++ rest → rest ≡ second ++ last → (front : List ℕ) × (0 < length front) × (bytes ≡ front ++ last)
farther bytes first rest second last h e f = (first ++ second, omega (arith, length-append first second), e ∙ ap (λ (u : List ℕ). first ++ u) f ∙ sym (append_assoc first second last))

pub further : (bytes rest : List ℕ) (result : Result (Option Head) WireFault) → (front : List ℕ) × (0 < length front) × (bytes ≡ front ++ rest) → IsBehind rest result → IsFurther bytes result
further bytes rest (Ok None) b h = tt
further bytes rest (Ok (Some (Whole last))) b h = farther bytes b.0 rest h.0 last.now b.1 b.2 h.1
further bytes rest (Ok (Some (Array n last))) b h = farther bytes b.0 rest h.0 last.now b.1 b.2 h.1
further bytes rest (Err f) b h = tt
