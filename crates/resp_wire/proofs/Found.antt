-- A first fault is found by reading.
use Rattle.std.proofs.Common.{IsTrue, ◌≡◌, ◌≢◌, ℕ, zero, suc, ◌-◌, ◌<◌, ◌≤◌, true, false, eqb, ◌||◌, ◌&&◌, List, [], ◌∷◌, ◌++◌, length, Some, None, refl, ◌∙◌, append_assoc, arith, inl, inr}
use Rattle.std.proofs.lemmas.Bool.{ne_eqb, le-ltb, lt-ltb, and_parts, eqb-true}
use Rattle.std.proofs.lemmas.List.{drop_at}
use Rattle.resp_wire.specs.Data.{Data, Items, no_items, item}
use Rattle.resp_wire.specs.LimitsModel.{LimitsModel}
use Rattle.resp_wire.specs.Spelling.{cr, lf, colon, dollar, star, none, BeginsLine, length_in, integer_in, count_of, SpellsAll}
use Rattle.resp_wire.specs.Faults.{is_kind, IsNoEnd, FirstFault, unknown_kind, bare_lf, bare_cr, long_line, bad_integer, bad_bulk_length, bad_array_length, long_bulk, too_deep, too_many, no_end, inside}
use Rattle.resp_wire.specs.Reading.{Reading, faulty, end_at, text_at, body_at, is_none, value_with, integer_at, bulk_at, array_at, items_at, items_in, value_at}
use Rattle.resp_wire.specs.declared.fault.WireFault.{WireFault}
use Rattle.resp_wire.specs.declared.fault.WireFault.TheVariants.{BadType, BadNumber, TooLong, TooMany, BadEnd}
use Rattle.resp_wire.proofs.Lines.{text_front, line_whole, none_is, length_no_null, true_or_false, text_long}
use Rattle.resp_wire.proofs.Complete.{after_colon, after_dollar, after_star, array_counted, items_more, read_again}
use Rattle.resp_wire.specs.Text.{is_one_line}

kind_unknown : (l : LimitsModel) (items : ℕ → List ℕ → Reading Items) (b : ℕ) (more : List ℕ) → is_kind b ≡ false → value_with l items (b ∷ more) ≡ faulty BadType
unfolding value_with
kind_unknown l items b more k = rw k refl

line_fault : (l : LimitsModel) (items : ℕ → List ℕ → Reading Items) (b : ℕ) (more : List ℕ) (f : WireFault) → is_kind b ≡ true → text_at more l.line ≡ faulty f → value_with l items (b ∷ more) ≡ faulty f
unfolding value_with
line_fault l items b more f k e = rw (k, e) refl

end_no : (after : List ℕ) → IsNoEnd after → end_at after ≡ faulty BadEnd
end_no [] h = absurd h
end_no (b ∷ []) h = rw (ne_eqb b 13 h) refl
end_no (b ∷ c ∷ more) h = elim (true_or_false (eqb b 13 && eqb c 10)) [
  | inl y ↦ let p = and_parts (eqb b 13) (eqb c 10) y in absurd (h (eqb-true b 13 p.0) (eqb-true c 10 p.1))
  | inr n ↦ rw n refl
]

text_ends : (after : List ℕ) (b : ℕ) (left : ℕ) → (eqb b 13 || eqb b 10) ≡ true → IsNoEnd (b ∷ after) → text_at (b ∷ after) left ≡ faulty BadEnd
unfolding text_at
text_ends after b left e h = rw (e, end_no (b ∷ after) h) refl

lf_no_end : (more : List ℕ) → IsNoEnd (lf ∷ more)
lf_no_end [] = λ e. absurd (omega arith)
lf_no_end (c ∷ more) = λ e. absurd (omega arith)

text_bad : (text after : List ℕ) (b : ℕ) (left : ℕ) → IsTrue (is_one_line text) → length text ≤ left → (eqb b 13 || eqb b 10) ≡ true → IsNoEnd (b ∷ after) → text_at (text ++ b ∷ after) left ≡ faulty BadEnd
text_bad text after b left p h e n = text_front text (b ∷ after) left p h ∙ rw (text_ends after b (left - length text) e n) refl

integer_bad : (text rest : List ℕ) → integer_in text ≡ None → integer_at text rest ≡ faulty BadNumber
unfolding integer_at
integer_bad text rest e = rw e refl

not_null : (text : List ℕ) → text ≢ none → is_none text ≡ false
not_null text ne = elim (true_or_false (is_none text)) [ inl y ↦ absurd (ne (none_is text y)) | inr n ↦ n ]

bulk_bad : (l : LimitsModel) (text rest : List ℕ) → text ≢ none → length_in text ≡ None → bulk_at l text rest ≡ faulty BadNumber
unfolding bulk_at
bulk_bad l text rest ne e = rw (not_null text ne, e) refl

bulk_long : (l : LimitsModel) (text rest : List ℕ) (n : ℕ) → length_in text ≡ Some n → l.bulk < n → bulk_at l text rest ≡ faulty TooLong
unfolding bulk_at
bulk_long l text rest n e h = rw (length_no_null text n e, e, lt-ltb l.bulk n h) refl

bulk_no_end : (l : LimitsModel) (text body after : List ℕ) → length_in text ≡ Some (length body) → length body ≤ l.bulk → IsNoEnd after → bulk_at l text (body ++ after) ≡ faulty BadEnd
unfolding bulk_at body_at
bulk_no_end l text body after e h n = rw (length_no_null text (length body) e, e, le-ltb l.bulk (length body) h, drop_at body after (length body) refl, end_no after n) refl

array_bad : (items : ℕ → List ℕ → Reading Items) (text rest : List ℕ) → text ≢ none → length_in text ≡ None → array_at items text rest ≡ faulty BadNumber
unfolding array_at
array_bad items text rest ne e = rw (not_null text ne, e) refl

items_bad : (read : List ℕ → Reading Data) (n : ℕ) (bytes : List ℕ) (f : WireFault) → read bytes ≡ faulty f → items_at read (suc n) bytes ≡ faulty f
unfolding items_at
items_bad read n bytes f e = rw e refl

-- after some items the next has the fault
items_stop : (l : LimitsModel) (room n : ℕ) (before after : List ℕ) (vs : Items) (f : WireFault) → SpellsAll l room before vs → count_of vs < n → value_at l room after ≡ faulty f → items_at (value_at l room) n (before ++ after) ≡ faulty f
items_stop l room zero before after vs f s h e = absurd (omega arith)
items_stop l room (suc n) before after no_items f s h e = rw s (items_bad (value_at l room) n after f e)
items_stop l room (suc n) before after (item v vs) f s h e =
    rw (s.2, append_assoc s.0 s.1 after) (items_more (value_at l room) n (s.0 ++ (s.1 ++ after)) (s.1 ++ after) v (read_again l room s.0 (s.1 ++ after) v s.3)
    ∙ rw (items_stop l room n s.1 after vs f s.4 (omega arith) e) refl)

array_stop : (l : LimitsModel) (inner : ℕ) (text before after bytes : List ℕ) (n : ℕ) (vs : Items) (f : WireFault) → BeginsLine l star text bytes (before ++ after) → length_in text ≡ Some n → n ≤ l.items
    → items_at (value_at l inner) n (before ++ after) ≡ faulty f → value_at l (suc inner) bytes ≡ faulty f
array_stop l inner text before after bytes n vs f b e h stop =
    line_whole l (items_in l (suc inner)) star text bytes (before ++ after) b refl
    ∙ after_star l (items_in l (suc inner)) text (before ++ after)
    ∙ array_counted (items_in l (suc inner)) text (before ++ after) n e
    ∙ rw (le-ltb l.items n h, stop) refl

many : (l : LimitsModel) (inner : ℕ) (text more bytes : List ℕ) (n : ℕ) → BeginsLine l star text bytes more → length_in text ≡ Some n → l.items < n → value_at l (suc inner) bytes ≡ faulty TooMany
many l inner text more bytes n b e h =
    line_whole l (items_in l (suc inner)) star text bytes more b refl
    ∙ after_star l (items_in l (suc inner)) text more
    ∙ array_counted (items_in l (suc inner)) text more n e
    ∙ rw (lt-ltb l.items n h) refl

many_at : (l : LimitsModel) (room : ℕ) (text more bytes : List ℕ) (n : ℕ) → BeginsLine l star text bytes more → length_in text ≡ Some n → 0 < room → l.items < n → value_at l room bytes ≡ faulty TooMany
many_at l zero text more bytes n b e r h = absurd (omega arith)
many_at l (suc inner) text more bytes n b e r h = many l inner text more bytes n b e h

pub fault_found : (l : LimitsModel) (room : ℕ) (bytes : List ℕ) (f : WireFault) → FirstFault l room bytes f → value_at l room bytes ≡ faulty f
fault_found l room bytes f (unknown_kind b more k e) = rw e (kind_unknown l (items_in l room) b more k)
fault_found l room bytes f (bare_lf b text more k p h e) = rw e (line_fault l (items_in l room) b (text ++ lf ∷ more) BadEnd k (text_bad text more lf l.line p h refl (lf_no_end more)))
fault_found l room bytes f (bare_cr b c text more k p h ne e) = rw e (line_fault l (items_in l room) b (text ++ cr ∷ c ∷ more) BadEnd k (text_bad text (c ∷ more) cr l.line p h refl (λ _. ne)))
fault_found l room bytes f (long_line b text more k p h e) = rw e (line_fault l (items_in l room) b (text ++ more) TooLong k (text_long text more l.line p h))
fault_found l room bytes f (bad_integer text more b e) = line_whole l (items_in l room) colon text bytes more b refl ∙ after_colon l (items_in l room) text more ∙ integer_bad text more e
fault_found l room bytes f (bad_bulk_length text more b ne e) = line_whole l (items_in l room) dollar text bytes more b refl ∙ after_dollar l (items_in l room) text more ∙ bulk_bad l text more ne e
fault_found l room bytes f (bad_array_length text more b ne e) = line_whole l (items_in l room) star text bytes more b refl ∙ after_star l (items_in l room) text more ∙ array_bad (items_in l room) text more ne e
fault_found l room bytes f (long_bulk text more n b e h) = line_whole l (items_in l room) dollar text bytes more b refl ∙ after_dollar l (items_in l room) text more ∙ bulk_long l text more n e h
fault_found l room bytes f (too_deep text more n b e r) = rw r (line_whole l (items_in l 0) star text bytes more b refl ∙ after_star l (items_in l 0) text more ∙ array_counted (items_in l 0) text more n e)
fault_found l room bytes f (too_many text more n b e r h) = many_at l room text more bytes n b e r h
fault_found l room bytes f (no_end text body after b e h n) = line_whole l (items_in l room) dollar text bytes (body ++ after) b refl ∙ after_dollar l (items_in l room) text (body ++ after) ∙ bulk_no_end l text body after e h n
fault_found l room bytes f (inside text before after n inner vs b e h r s few next) =
    rw r (array_stop l inner text before after bytes n vs f b e h (items_stop l inner n before after vs f s few (fault_found l inner after f next)))
