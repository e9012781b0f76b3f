-- One step inside arrays that have begun.
use Rattle.std.proofs.Common.{◌≡◌, ℕ, suc, ◌-◌, List, [], ◌∷◌, ◌++◌, length, refl, sym, ap, ◌∙◌, arith}
use Rattle.std.proofs.lemmas.List.{length-append}
use Rattle.resp_wire.specs.Data.{Data, item, array}
use Rattle.resp_wire.specs.LimitsModel.{LimitsModel}
use Rattle.resp_wire.specs.Reading.{Reading, whole, partial, faulty, then_read, value_at, items_at}
use Rattle.resp_wire.specs.Resume.{extent, resume}
use Rattle.resp_wire.specs.declared.fault.WireFault.{WireFault}
use Rattle.resp_wire.proofs.Lines.{then_then}
use Rattle.resp_wire.proofs.Complete.{items_none}

as_it_is : (r : Reading (Unit {0})) → then_read r (λ _ rest. whole tt rest) ≡ r
as_it_is (whole x rest) = refl
as_it_is partial = refl
as_it_is (faulty e) = refl

-- the inner arrays first
resume_both : (l : LimitsModel) (room : ℕ) (outer inner bytes : List ℕ) → resume l room (outer ++ inner) bytes ≡ then_read (resume l (room - length outer) inner bytes) (λ _ rest. resume l room outer rest)
unfolding resume
resume_both l room [] inner bytes = let same : room - 0 ≡ room = omega arith in rw same (sym (as_it_is (resume l room inner bytes)))
resume_both l room (n ∷ outer) inner bytes =
    let less : room - 1 - length outer ≡ room - suc (length outer) = omega arith in
    rw (resume_both l (room - 1) outer inner bytes, less) (then_then (resume l (room - suc (length outer)) inner bytes) _ _)

-- the innermost array
pub resume_last : (l : LimitsModel) (room : ℕ) (outer : List ℕ) (n : ℕ) (bytes : List ℕ) → resume l room (outer ++ n ∷ []) bytes ≡ then_read (items_at (value_at l (room - length outer)) n bytes) (λ _ rest. resume l room outer rest)
unfolding resume
resume_last l room outer n bytes = resume_both l room outer (n ∷ []) bytes ∙ then_then (items_at (value_at l (room - length outer)) n bytes) _ _

-- it has no item left
pub resume_end : (l : LimitsModel) (room : ℕ) (outer bytes : List ℕ) → resume l room (outer ++ 0 ∷ []) bytes ≡ resume l room outer bytes
resume_end l room outer bytes = resume_last l room outer 0 bytes ∙ rw (items_none (value_at l (room - length outer)) bytes) refl

items_first : (read : List ℕ → Reading Data) (n : ℕ) (bytes : List ℕ) → items_at read (suc n) bytes ≡ then_read (read bytes) (λ v rest. then_read (items_at read n rest) (λ vs after. whole (item v vs) after))
unfolding items_at
items_first read n bytes = refl

resume_first : (l : LimitsModel) (room : ℕ) (outer : List ℕ) (n : ℕ) (bytes : List ℕ) → resume l room (outer ++ suc n ∷ []) bytes ≡ then_read (value_at l (room - length outer) bytes) (λ _ rest. resume l room (outer ++ n ∷ []) rest)
resume_first l room outer n bytes =
    resume_last l room outer (suc n) bytes
    ∙ ap (λ r. then_read r (λ _ rest. resume l room outer rest)) (items_first (value_at l (room - length outer)) n bytes)
    ∙ then_then (value_at l (room - length outer) bytes) _ _
    ∙ ap (then_read (value_at l (room - length outer) bytes)) (λ i v rest. (then_then (items_at (value_at l (room - length outer)) n rest) (λ vs after. whole (item v vs) after) (λ _ rest. resume l room outer rest) ∙ sym (resume_last l room outer n rest)) i)

-- its next item is whole
pub resume_whole : (l : LimitsModel) (room : ℕ) (outer : List ℕ) (n : ℕ) (bytes rest : List ℕ) (v : Data) → value_at l (room - length outer) bytes ≡ whole v rest → resume l room (outer ++ suc n ∷ []) bytes ≡ resume l room (outer ++ n ∷ []) rest
resume_whole l room outer n bytes rest v e = resume_first l room outer n bytes ∙ rw e refl

-- its next item is an array
pub resume_array : (l : LimitsModel) (room : ℕ) (outer : List ℕ) (n m inner : ℕ) (bytes rest : List ℕ) → room - length outer ≡ suc inner → value_at l (room - length outer) bytes ≡ then_read (items_at (value_at l inner) m rest) (λ vs after. whole (array vs) after)
    → resume l room (outer ++ suc n ∷ []) bytes ≡ resume l room ((outer ++ n ∷ []) ++ m ∷ []) rest
resume_array l room outer n m inner bytes rest k e =
    let same : room - length (outer ++ n ∷ []) ≡ inner = omega (arith, length-append outer (n ∷ [])) in
    resume_first l room outer n bytes
    ∙ ap (λ r. then_read r (λ _ next. resume l room (outer ++ n ∷ []) next)) e
    ∙ then_then (items_at (value_at l inner) m rest) _ _
    ∙ sym (resume_last l room (outer ++ n ∷ []) m rest ∙ ap (λ (k : ℕ). then_read (items_at (value_at l k) m rest) (λ _ next. resume l room (outer ++ n ∷ []) next)) same)

pub resume_partial : (l : LimitsModel) (room : ℕ) (outer : List ℕ) (n : ℕ) (bytes : List ℕ) → value_at l (room - length outer) bytes ≡ partial → resume l room (outer ++ suc n ∷ []) bytes ≡ partial
resume_partial l room outer n bytes e = resume_first l room outer n bytes ∙ rw e refl

pub resume_faulty : (l : LimitsModel) (room : ℕ) (outer : List ℕ) (n : ℕ) (bytes : List ℕ) (f : WireFault) → value_at l (room - length outer) bytes ≡ faulty f → resume l room (outer ++ suc n ∷ []) bytes ≡ faulty f
resume_faulty l room outer n bytes f e = resume_first l room outer n bytes ∙ rw e refl

pub resume_nil : (l : LimitsModel) (room : ℕ) (bytes : List ℕ) → resume l room [] bytes ≡ whole tt bytes
unfolding resume
resume_nil l room bytes = refl

-- at the start
pub resume_start : (l : LimitsModel) (room : ℕ) (bytes : List ℕ) → resume l room (1 ∷ []) bytes ≡ extent (value_at l room bytes)
resume_start l room bytes =
    let none_off : room - 0 ≡ room = omega arith in
    resume_first l room [] 0 bytes
    ∙ ap (λ (k : ℕ). then_read (value_at l k bytes) (λ _ rest. resume l room (0 ∷ []) rest)) none_off
    ∙ ap (then_read (value_at l room bytes)) (λ i v rest. (resume_end l room [] rest ∙ resume_nil l room rest) i)
