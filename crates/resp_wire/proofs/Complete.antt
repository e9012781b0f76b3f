-- What is spelled is read, and a first fault is found.
use Rattle.std.proofs.Common.{◌≡◌, ℕ, suc, ◌≤◌, List, [], ◌∷◌, ◌++◌, length, Some, refl, ◌∙◌, append_assoc}
use Rattle.std.proofs.lemmas.Bool.{le-ltb}
use Rattle.resp_wire.specs.Data.{Data, Items, simple, error, integer, bulk, null_bulk, array, null_array, no_items, item}
use Rattle.resp_wire.specs.LimitsModel.{LimitsModel}
use Rattle.resp_wire.specs.Spelling.{cr, lf, plus, minus, colon, dollar, star, none, BeginsLine, length_in, integer_in, count_of, Spells, SpellsAll}
use Rattle.resp_wire.specs.Reading.{Reading, whole, then_read, after_line, integer_at, bulk_at, array_at, items_at, items_in, value_at}
use Rattle.resp_wire.proofs.Lines.{line_whole, begins_more, body_whole, length_no_null, by_length_some}

-- what follows a line of each kind
pub after_colon : (l : LimitsModel) (items : ℕ → List ℕ → Reading Items) (text rest : List ℕ) → after_line l items colon text rest ≡ integer_at text rest
unfolding after_line
after_colon l items text rest = refl

pub after_dollar : (l : LimitsModel) (items : ℕ → List ℕ → Reading Items) (text rest : List ℕ) → after_line l items dollar text rest ≡ bulk_at l text rest
unfolding after_line
after_dollar l items text rest = refl

pub after_star : (l : LimitsModel) (items : ℕ → List ℕ → Reading Items) (text rest : List ℕ) → after_line l items star text rest ≡ array_at items text rest
unfolding after_line
after_star l items text rest = refl

pub integer_whole : (text rest : List ℕ) (z : _) → integer_in text ≡ Some z → integer_at text rest ≡ whole (integer z) rest
unfolding integer_at
integer_whole text rest z e = rw e refl

bulk_whole : (l : LimitsModel) (text body after : List ℕ) → length_in text ≡ Some (length body) → length body ≤ l.bulk → bulk_at l text (body ++ cr ∷ lf ∷ after) ≡ whole (bulk body) after
unfolding bulk_at
bulk_whole l text body after e h = rw (length_no_null text (length body) e, e, le-ltb l.bulk (length body) h, body_whole body after) refl

bulk_null : (l : LimitsModel) (rest : List ℕ) → bulk_at l none rest ≡ whole null_bulk rest
unfolding bulk_at
bulk_null l rest = refl

array_null : (items : ℕ → List ℕ → Reading Items) (rest : List ℕ) → array_at items none rest ≡ whole null_array rest
unfolding array_at
array_null items rest = refl

pub array_counted : (items : ℕ → List ℕ → Reading Items) (text rest : List ℕ) (n : ℕ) → length_in text ≡ Some n → array_at items text rest ≡ then_read (items n rest) (λ vs after. whole (array vs) after)
unfolding array_at
array_counted items text rest n e = by_length_some text n (whole null_array rest) (λ n. then_read (items n rest) (λ vs after. whole (array vs) after)) e

pub items_more : (read : List ℕ → Reading Data) (n : ℕ) (bytes rest : List ℕ) (v : Data) → read bytes ≡ whole v rest → items_at read (suc n) bytes ≡ then_read (items_at read n rest) (λ vs after. whole (item v vs) after)
unfolding items_at
items_more read n bytes rest v e = rw e refl

pub items_none : (read : List ℕ → Reading Data) (bytes : List ℕ) → items_at read 0 bytes ≡ whole no_items bytes
unfolding items_at
items_none read bytes = refl

array_again : (l : LimitsModel) (inner : ℕ) (text body bytes after : List ℕ) (vs : Items) → length_in text ≡ Some (count_of vs) → count_of vs ≤ l.items → BeginsLine l star text bytes body
    → items_at (value_at l inner) (count_of vs) (body ++ after) ≡ whole vs after → value_at l (suc inner) (bytes ++ after) ≡ whole (array vs) after
array_again l inner text body bytes after vs e h b again =
    line_whole l (items_in l (suc inner)) star text (bytes ++ after) (body ++ after) (begins_more l star text bytes body after b) refl
    ∙ after_star l (items_in l (suc inner)) text (body ++ after)
    ∙ array_counted (items_in l (suc inner)) text (body ++ after) (count_of vs) e
    ∙ rw (le-ltb l.items (count_of vs) h, again) refl

simple_again : (l : LimitsModel) (room : ℕ) (bytes after text : List ℕ) → BeginsLine l plus text bytes [] → value_at l room (bytes ++ after) ≡ whole (simple text) after
unfolding after_line
simple_again l room bytes after text s = line_whole l (items_in l room) plus text (bytes ++ after) after (begins_more l plus text bytes [] after s) refl

error_again : (l : LimitsModel) (room : ℕ) (bytes after text : List ℕ) → BeginsLine l minus text bytes [] → value_at l room (bytes ++ after) ≡ whole (error text) after
unfolding after_line
error_again l room bytes after text s = line_whole l (items_in l room) minus text (bytes ++ after) after (begins_more l minus text bytes [] after s) refl

mutual
  -- a spelled value is read, whatever follows it
  pub read_again : (l : LimitsModel) (room : ℕ) (bytes after : List ℕ) (v : Data) → Spells l room bytes v → value_at l room (bytes ++ after) ≡ whole v after
  read_again l room bytes after (simple text) s = simple_again l room bytes after text s
  read_again l room bytes after (error text) s = error_again l room bytes after text s
  read_again l room bytes after (integer z) s =
      line_whole l (items_in l room) colon s.0 (bytes ++ after) after (begins_more l colon s.0 bytes [] after s.2) refl
      ∙ after_colon l (items_in l room) s.0 after
      ∙ integer_whole s.0 after z s.1
  read_again l room bytes after (bulk body) s =
      line_whole l (items_in l room) dollar s.0 (bytes ++ after) ((body ++ cr ∷ lf ∷ []) ++ after) (begins_more l dollar s.0 bytes (body ++ cr ∷ lf ∷ []) after s.3) refl
      ∙ after_dollar l (items_in l room) s.0 ((body ++ cr ∷ lf ∷ []) ++ after)
      ∙ rw (append_assoc body (cr ∷ lf ∷ []) after) (bulk_whole l s.0 body after s.1 s.2)
  read_again l room bytes after null_bulk s =
      line_whole l (items_in l room) dollar none (bytes ++ after) after (begins_more l dollar none bytes [] after s) refl
      ∙ after_dollar l (items_in l room) none after
      ∙ bulk_null l after
  read_again l room bytes after (array vs) s = rw s.3 (array_again l s.2 s.0 s.1 bytes after vs s.4 s.5 s.6 (all_again l s.2 s.1 after vs s.7))
  read_again l room bytes after null_array s =
      line_whole l (items_in l room) star none (bytes ++ after) after (begins_more l star none bytes [] after s) refl
      ∙ after_star l (items_in l room) none after
      ∙ array_null (items_in l room) after

  pub all_again : (l : LimitsModel) (room : ℕ) (bytes after : List ℕ) (vs : Items) → SpellsAll l room bytes vs → items_at (value_at l room) (count_of vs) (bytes ++ after) ≡ whole vs after
  all_again l room bytes after no_items s = rw s (items_none (value_at l room) after)
  all_again l room bytes after (item v vs) s =
      rw (s.2, append_assoc s.0 s.1 after) (items_more (value_at l room) (count_of vs) (s.0 ++ (s.1 ++ after)) (s.1 ++ after) v (read_again l room s.0 (s.1 ++ after) v s.3)
      ∙ rw (all_again l room s.1 after vs s.4) refl)
