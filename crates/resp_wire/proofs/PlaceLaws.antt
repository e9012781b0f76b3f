-- Reading on from a place.
use Rattle.std.proofs.Common.{◌≡◌, ◌≢◌, ℕ, zero, suc, ◌+◌, ◌-◌, ◌<◌, ◌≤◌, Bool, true, false, ◌&&◌, ◌||◌, eqb, nat_lt, List, [], ◌∷◌, ◌++◌, length, take, drop, get_or, Option, Some, None, Result, Ok, Err, refl, sym, ap, subst, ◌∙◌, inl, inr, ◌⊎◌, arith, append_assoc, IsTrue, IfSome}
use Rattle.std.specs.Bool.{OnTrue}
use Rattle.std.proofs.Math.Seq.{take-add}
use Rattle.std.proofs.lemmas.Bool.{false≢true, ltb-true}
use Rattle.std.proofs.lemmas.List.{append-nil, take_all, take_more, drop_at, drop-drop, length-append, length-drop, length-take, take-append-drop, take-append-le, drop-append-le}
use Rattle.std.proofs.lemmas.List.Folds.{list_all-append}
use Rattle.resp_wire.specs.Data.{Data, Items}
use Rattle.resp_wire.specs.Text.{is_one_line}
use Rattle.resp_wire.specs.LimitsModel.{LimitsModel}
use Rattle.resp_wire.specs.Spelling.{cr, lf}
use Rattle.resp_wire.specs.Faults.{is_kind}
use Rattle.resp_wire.specs.Reading.{Reading, whole, partial, faulty, then_read, end_at, text_at, value_at, value_with, items_in}
use Rattle.resp_wire.specs.Resume.{extent, resume, GoesOn, WantsItem, ComesTo}
use Rattle.resp_wire.specs.Places.{IsPlainTo, IsUnfinished, Waits, IsPlace, Finds}
use Rattle.resp_wire.specs.declared.place.Place.{Place}
use Rattle.resp_wire.specs.declared.fault.WireFault.{WireFault}
use Rattle.resp_wire.proofs.Lines.{text_front, line_there}
use Rattle.resp_wire.proofs.Sound.{chosen}
use Rattle.resp_wire.proofs.ResumeLaws.{resume_start, resume_nil, resume_partial}

-- ---- the extent and the value

extent_partial : (r : Reading Data) → extent r ≡ partial → r ≡ partial
extent_partial (whole v after) e = absurd (let k = e in cc)
extent_partial partial e = refl
extent_partial (faulty f) e = absurd (let k = e in cc)

extent_faulty : (r : Reading Data) (f : WireFault) → extent r ≡ faulty f → r ≡ faulty f
extent_faulty (whole v after) f e = absurd (let k = e in cc)
extent_faulty partial f e = absurd (let k = e in cc)
extent_faulty (faulty g) f e = let same : g ≡ f = cc in ap (λ w. faulty w) same

extent_whole : (r : Reading Data) (rest : List ℕ) → extent r ≡ whole tt rest → (v : Data) × (r ≡ whole v rest)
extent_whole (whole v after) rest e = let same : after ≡ rest = cc in (v, ap (λ u. whole v u) same)
extent_whole partial rest e = absurd (let k = e in cc)
extent_whole (faulty f) rest e = absurd (let k = e in cc)

-- from the start of the value to where reading goes on
at_start : (l : LimitsModel) (rest counts left : List ℕ) → GoesOn l (1 ∷ []) rest counts left → extent (value_at l l.depth rest) ≡ resume l l.depth counts left
at_start l rest counts left g =
    sym (resume_start l l.depth rest) ∙ ap (λ (u : List ℕ). resume l l.depth (1 ∷ []) u) (sym (append-nil rest)) ∙ g [] ∙ ap (λ (u : List ℕ). resume l l.depth counts u) (append-nil left)

pub found_partial : (l : LimitsModel) (rest counts left : List ℕ) → GoesOn l (1 ∷ []) rest counts left → resume l l.depth counts left ≡ partial → value_at l l.depth rest ≡ partial
found_partial l rest counts left g e = extent_partial (value_at l l.depth rest) (at_start l rest counts left g ∙ e)

pub found_faulty : (l : LimitsModel) (rest counts left : List ℕ) (f : WireFault) → GoesOn l (1 ∷ []) rest counts left → resume l l.depth counts left ≡ faulty f → value_at l l.depth rest ≡ faulty f
found_faulty l rest counts left f g e = extent_faulty (value_at l l.depth rest) f (at_start l rest counts left g ∙ e)

pub found_whole : (l : LimitsModel) (rest counts left : List ℕ) → GoesOn l (1 ∷ []) rest counts left → counts ≡ [] → (v : Data) × (value_at l l.depth rest ≡ whole v left)
found_whole l rest counts left g e = extent_whole (value_at l l.depth rest) left (at_start l rest counts left g ∙ ap (λ (u : List ℕ). resume l l.depth u left) e ∙ resume_nil l l.depth left)

-- ---- the position

-- a front that is left behind
pub position_is : (bytes front rest : List ℕ) → bytes ≡ front ++ rest → drop (length bytes - length rest) bytes ≡ rest
position_is bytes front rest e =
    let len : length bytes ≡ length front + length rest = rw e (length-append front rest) in
    rw e (drop_at front rest (length (front ++ rest) - length rest) (omega (arith, length-append front rest)))

-- ---- an unfinished line

tail_partial : (tail : List ℕ) (left : ℕ) → end_at tail ≡ partial → text_at tail left ≡ partial
unfolding text_at
tail_partial [] left e = refl
tail_partial (b ∷ []) left e = elim (chosen (eqb b cr) partial _ partial e) [
  | inl h ↦ rw h.0 refl
  | inr h ↦ absurd (let k = h.1 in cc)
]
tail_partial (b ∷ c ∷ more) left e = elim (chosen (eqb b cr && eqb c lf) _ _ partial e) [
  | inl h ↦ absurd (let k = h.1 in cc)
  | inr h ↦ absurd (let k = h.1 in cc)
]

text_waits : (text : List ℕ) (known limit : ℕ) → IsTrue (is_one_line (take known text)) → known ≤ limit → end_at (drop known text) ≡ partial → text_at text limit ≡ partial
text_waits text known limit p h e =
    ap (λ (u : List ℕ). text_at u limit) (sym (take-append-drop known text))
    ∙ text_front (take known text) (drop known text) limit p (omega (arith, length-take known text))
    ∙ ap (λ r. then_read r (λ u rest. whole (take known text ++ u) rest)) (tail_partial (drop known text) (limit - length (take known text)) e)

plain_join : (text : List ℕ) (a b : ℕ) → IsTrue (is_one_line (take a text)) → IsTrue (is_one_line (take b (drop a text))) → IsTrue (is_one_line (take (a + b) text))
plain_join text a b p q = rw (take-add a b text) (list_all-append _ (take a text) (take b (drop a text)) ∙ rw (p, q) refl)

-- what was known and what was found behind it
pub record IsFound (bytes text behind after : List ℕ) (plain count limit : ℕ) : Type 0 where
  pub some : 0 < length bytes
  pub kind : is_kind (get_or bytes 0 0) ≡ true
  pub text_is : text ≡ drop 1 bytes
  pub known : IsPlainTo bytes plain
  pub behind_is : behind ≡ drop plain text
  pub within : count ≤ length behind
  pub plain_count : IsTrue (is_one_line (take count behind))
  pub short : plain + count ≤ limit
  pub after_is : after ≡ drop (plain + count) text
  pub ends : end_at after ≡ partial

pub unfinished_is : (bytes text behind after : List ℕ) (plain count limit : ℕ) → IsFound bytes text behind after plain count limit → IsPlainTo bytes (plain + count) × IsUnfinished bytes limit
unfinished_is bytes text behind after plain count limit f =
    let at : behind ≡ drop plain (drop 1 bytes) = f.behind_is ∙ ap (λ (u : List ℕ). drop plain u) f.text_is in
    let len : length behind ≡ length (drop 1 bytes) - plain = ap length at ∙ length-drop plain (drop 1 bytes) in
    let all : IsTrue (is_one_line (take (plain + count) (drop 1 bytes))) = plain_join (drop 1 bytes) plain count f.known.plain (subst (λ (u : List ℕ). IsTrue (is_one_line (take count u))) at f.plain_count) in
    let end : end_at (drop (plain + count) (drop 1 bytes)) ≡ partial = subst (λ (u : List ℕ). end_at u ≡ partial) (f.after_is ∙ ap (λ (u : List ℕ). drop (plain + count) u) f.text_is) f.ends in (
      record { within = omega (arith, f.known.within, f.within, len); plain = all },
      λ l items e. line_there l items bytes (get_or bytes 0 0) limit (drop 1 bytes) partial f.some f.kind refl (sym e) refl (text_waits (drop 1 bytes) (plain + count) limit all f.short end),
    )

on_true : {P : Type 0} (b : Bool) → (b ≡ true → P) → OnTrue b P
on_true true h = h refl
on_true false h = tt

pub wants_at : (counts now : List ℕ) (len : ℕ) → 0 < len → len ≤ length counts → take len counts ≡ now → OnTrue (nat_lt 0 (get_or counts (len - 1) 0)) (WantsItem now)
wants_at counts now len h k e =
    on_true (nat_lt 0 (get_or counts (len - 1) 0))
    (λ t.
    let last = get_or counts (len - 1) 0 in
    let some : 0 < last = ltb-true 0 last t in
    let at : last ≡ suc (last - 1) = omega (arith, some) in
    let next : len ≡ len - 1 + 1 = omega arith in
    (take (len - 1) counts, last - 1, sym e ∙ ap (λ (n : ℕ). take n counts) next ∙ take_more counts (len - 1) 0 (omega arith) ∙ ap (λ (n : ℕ). take (len - 1) counts ++ n ∷ []) at))

pub line_waits : (l : LimitsModel) (counts bytes : List ℕ) (limit : ℕ) → WantsItem counts → l.line ≡ limit → IsUnfinished bytes limit → Waits l counts bytes
line_waits l counts bytes limit w e u =
    ap (λ (c : List ℕ). resume l l.depth c bytes) w.2 ∙ resume_partial l l.depth w.0 w.1 bytes (u l (items_in l (l.depth - length w.0)) e)

pub some_waits : (l : LimitsModel) (counts bytes : List ℕ) (limit : ℕ) (o : Option ℕ) → WantsItem counts → limit ≡ l.line → IfSome o (λ plain. IsPlainTo bytes plain × IsUnfinished bytes limit) → IfSome o (λ plain. IsPlainTo bytes plain × Waits l counts bytes)
some_waits l counts bytes limit None w e h = tt
some_waits l counts bytes limit (Some plain) w e h = (h.0, line_waits l counts bytes limit w (sym e) h.1)

-- ---- a place

-- the bytes from the position as the code slices them
pub sliced : (bytes : List ℕ) (position : ℕ) → take (length bytes - position) (drop position bytes) ≡ drop position bytes
sliced bytes position = take_all (length bytes - position) (drop position bytes) (omega (arith, length-drop position bytes))

abbrev pub place : ℕ → ℕ → List ℕ → Place
place position plain counts = record { position = position; plain = plain; counts = counts }

pub place_waits : (l : LimitsModel) (bytes rest : List ℕ) (p : Place) (plain : ℕ) → IsPlace l bytes p → rest ≡ drop p.position bytes → IsPlainTo rest plain → Waits l p.counts rest
    → IsPlace l bytes (place p.position plain p.counts) × (value_at l l.depth bytes ≡ partial)
place_waits l bytes rest p plain i e k w = (
  record { within = i.within; few = i.few; goes_on = i.goes_on; known = subst (λ (u : List ℕ). IsPlainTo u plain) e k },
  found_partial l bytes p.counts rest (λ more. i.goes_on more ∙ ap (λ (u : List ℕ). resume l l.depth p.counts (u ++ more)) (sym e)) w,
)

none_known : (bytes : List ℕ) → IsPlainTo bytes 0
none_known bytes = record { within = omega arith; plain = refl }

-- after a scan from the position
pub record IsScan (l : LimitsModel) (bytes rest left : List ℕ) (p : Place) (counts : List ℕ) (next : ℕ) : Type 0 where
  pub was : IsPlace l bytes p
  pub rest_is : rest ≡ drop p.position bytes
  pub next_is : next ≡ length bytes - length left
  pub few : length counts ≤ l.depth + 1
  pub goes_on : GoesOn l p.counts rest counts left
  pub front : (front : List ℕ) × (rest ≡ front ++ left)

left_is : {l : LimitsModel} {bytes rest left : List ℕ} {p : Place} {counts : List ℕ} {next : ℕ} → IsScan l bytes rest left p counts next → (next ≤ length bytes) × (drop next bytes ≡ left)
left_is {l} {bytes} {rest} {left} {p} {counts} {next} s =
    let front = s.front in
    let rest_len : length rest ≡ length front.0 + length left = rw front.1 (length-append front.0 left) in
    let drop_len : length rest ≡ length bytes - p.position = rw s.rest_is (length-drop p.position bytes) in
    let at : next ≡ p.position + length front.0 = omega (arith, s.next_is, s.was.within, rest_len, drop_len) in (
      omega (arith, s.next_is),
      ap (λ (k : ℕ). drop k bytes) at ∙ sym (drop-drop (length front.0) p.position bytes) ∙ ap (λ (u : List ℕ). drop (length front.0) u) (sym s.rest_is ∙ front.1) ∙ drop_at front.0 left (length front.0) refl,
    )

from_start : {l : LimitsModel} {bytes rest left : List ℕ} {p : Place} {counts : List ℕ} {next : ℕ} → IsScan l bytes rest left p counts next → GoesOn l (1 ∷ []) bytes counts left
from_start {l} {bytes} {rest} {left} {p} {counts} {next} s = λ more.
    s.was.goes_on more ∙ ap (λ (u : List ℕ). resume l l.depth p.counts (u ++ more)) (sym s.rest_is) ∙ s.goes_on more

pub place_after : (l : LimitsModel) (bytes rest left : List ℕ) (p : Place) (counts : List ℕ) (next : ℕ) → IsScan l bytes rest left p counts next → IsPlace l bytes (place next 0 counts)
place_after l bytes rest left p counts next s = let i = left_is s in record {
  within = i.0;
  few = s.few;
  goes_on = λ more. from_start s more ∙ ap (λ (u : List ℕ). resume l l.depth counts (u ++ more)) (sym i.1);
  known = none_known (drop next bytes);
}

pub scan_finds : (l : LimitsModel) (bytes rest left : List ℕ) (p : Place) (counts : List ℕ) (next : ℕ) (result : Result Bool WireFault) → IsScan l bytes rest left p counts next → ComesTo l counts left result → Finds l bytes next result
scan_finds l bytes rest left p counts next (Ok true) s c =
    let w = found_whole l bytes counts left (from_start s) c in (w.0, w.1 ∙ ap (λ (u : List ℕ). whole w.0 u) (sym (left_is s).1))
scan_finds l bytes rest left p counts next (Ok false) s c = found_partial l bytes counts left (from_start s) c
scan_finds l bytes rest left p counts next (Err f) s c = found_faulty l bytes counts left f (from_start s) c

plain_fed : (bytes piece : List ℕ) (count : ℕ) → IsPlainTo bytes count → IsPlainTo (bytes ++ piece) count
plain_fed [] piece count k = let z : count ≡ 0 = omega (arith, k.within) in subst (λ (n : ℕ). IsPlainTo piece n) (sym z) (none_known piece)
plain_fed (b ∷ bytes) piece count k = record {
  within = omega (arith, k.within, length-append bytes piece);
  plain = subst (λ (u : List ℕ). IsTrue (is_one_line u)) (sym (take-append-le count bytes piece k.within)) k.plain;
}

-- a piece comes
pub place_fed : (l : LimitsModel) (bytes piece : List ℕ) (p : Place) → IsPlace l bytes p → IsPlace l (bytes ++ piece) p
place_fed l bytes piece p i =
    let rest : drop p.position (bytes ++ piece) ≡ drop p.position bytes ++ piece = drop-append-le p.position bytes piece i.within in
    record {
      within = omega (arith, i.within, length-append bytes piece);
      few = i.few;
      goes_on = λ more.
          ap (λ (u : List ℕ). resume l l.depth (1 ∷ []) u) (append_assoc bytes piece more) ∙ i.goes_on (piece ++ more)
          ∙ ap (λ (u : List ℕ). resume l l.depth p.counts u) (sym (append_assoc (drop p.position bytes) piece more) ∙ ap (λ (u : List ℕ). u ++ more) (sym rest));
      known = subst (λ (u : List ℕ). IsPlainTo u p.plain) (sym rest) (plain_fed (drop p.position bytes) piece p.plain i.known);
    }

pub place_start : (l : LimitsModel) (bytes : List ℕ) → IsPlace l bytes (place 0 0 (1 ∷ []))
place_start l bytes = record { within = omega arith; few = omega arith; goes_on = λ more. refl; known = none_known bytes }
