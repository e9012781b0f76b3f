-- The front of a text is what spelling and first fault say.
use Rattle.std.proofs.Common.{◌≡◌, ℕ, List, refl, sym, ap, ◌∙◌}
use Rattle.resp_wire.specs.Data.{Data}
use Rattle.resp_wire.specs.LimitsModel.{LimitsModel}
use Rattle.resp_wire.specs.Reading.{Reading, whole, partial, faulty, value_at}
use Rattle.resp_wire.specs.FirstValue.{Whole, Partial, Faulty, front, front_of, front-is}
use Rattle.resp_wire.specs.Stream.{Begins, NoneWhole, NoFault, HasFault}
use Rattle.resp_wire.specs.Laws.{FrontIsWhole, FrontIsFaulty, FrontIsPartial}
use Rattle.resp_wire.specs.declared.fault.WireFault.{WireFault}
use Rattle.resp_wire.proofs.Complete.{read_again}
use Rattle.resp_wire.proofs.Found.{fault_found}
use Rattle.resp_wire.proofs.Exact.{read_sound, fault_first}

-- ---- reading, and what the public words say

pub begins_reads : (l : LimitsModel) (rest after : List ℕ) (v : Data) → Begins l rest v after → value_at l l.depth rest ≡ whole v after
begins_reads l rest after v t = ap (λ (u : List ℕ). value_at l l.depth u) t.2 ∙ read_again l l.depth t.0 after v t.1

pub reads_begins : (l : LimitsModel) (rest after : List ℕ) (v : Data) → value_at l l.depth rest ≡ whole v after → Begins l rest v after
reads_begins l rest after v e = let f = read_sound l l.depth rest v after e in (f.text, f.spelled, f.are)

pub partial_none : (l : LimitsModel) (rest : List ℕ) → value_at l l.depth rest ≡ partial → NoneWhole l rest × NoFault l rest
partial_none l rest e = ((λ v after t. let k = sym e ∙ begins_reads l rest after v t in cc), (λ f h. let k = sym e ∙ fault_found l l.depth rest f h in cc))

pub faulty_is_first : (l : LimitsModel) (rest : List ℕ) (f : WireFault) → value_at l l.depth rest ≡ faulty f → NoneWhole l rest × HasFault l rest f
faulty_is_first l rest f e = ((λ v after t. let k = sym e ∙ begins_reads l rest after v t in cc), fault_first l l.depth rest f e)

-- ---- reading, and the front

pub front_whole : (l : LimitsModel) (rest after : List ℕ) (v : Data) → value_at l l.depth rest ≡ whole v after → front l rest ≡ Whole v after
front_whole l rest after v e = front-is l rest ∙ ap front_of e

pub front_partial : (l : LimitsModel) (rest : List ℕ) → value_at l l.depth rest ≡ partial → front l rest ≡ Partial
front_partial l rest e = front-is l rest ∙ ap front_of e

pub front_faulty : (l : LimitsModel) (rest : List ℕ) (f : WireFault) → value_at l l.depth rest ≡ faulty f → front l rest ≡ Faulty f
front_faulty l rest f e = front-is l rest ∙ ap front_of e

of_whole : (r : Reading Data) (v : Data) (after : List ℕ) → front_of r ≡ Whole v after → r ≡ whole v after
of_whole (whole w rest) v after e = let same : w ≡ v = cc in let left : rest ≡ after = cc in λ i. whole (same i) (left i)
of_whole partial v after e = absurd (let k = e in cc)
of_whole (faulty f) v after e = absurd (let k = e in cc)

of_partial : (r : Reading Data) → front_of r ≡ Partial → r ≡ partial
of_partial (whole w rest) e = absurd (let k = e in cc)
of_partial partial e = refl
of_partial (faulty f) e = absurd (let k = e in cc)

of_faulty : (r : Reading Data) (f : WireFault) → front_of r ≡ Faulty f → r ≡ faulty f
of_faulty (whole w rest) f e = absurd (let k = e in cc)
of_faulty partial f e = absurd (let k = e in cc)
of_faulty (faulty g) f e = let same : g ≡ f = cc in ap (λ w. faulty w) same

pub whole_reads : (l : LimitsModel) (rest after : List ℕ) (v : Data) → front l rest ≡ Whole v after → value_at l l.depth rest ≡ whole v after
whole_reads l rest after v e = of_whole (value_at l l.depth rest) v after (sym (front-is l rest) ∙ e)

pub partial_reads : (l : LimitsModel) (rest : List ℕ) → front l rest ≡ Partial → value_at l l.depth rest ≡ partial
partial_reads l rest e = of_partial (value_at l l.depth rest) (sym (front-is l rest) ∙ e)

pub faulty_reads : (l : LimitsModel) (rest : List ℕ) (f : WireFault) → front l rest ≡ Faulty f → value_at l l.depth rest ≡ faulty f
faulty_reads l rest f e = of_faulty (value_at l l.depth rest) f (sym (front-is l rest) ∙ e)

-- neither a value nor a fault
neither : (l : LimitsModel) (rest : List ℕ) (r : Reading Data) → value_at l l.depth rest ≡ r → NoneWhole l rest × NoFault l rest → r ≡ partial
neither l rest (whole v after) e n = absurd (n.0 v after (reads_begins l rest after v e))
neither l rest partial e n = refl
neither l rest (faulty f) e n = absurd (n.1 f (faulty_is_first l rest f e).1)

-- ---- the laws

pub front_is_whole : FrontIsWhole
front_is_whole l text after value = (
  (λ e. reads_begins l text after value (whole_reads l text after value e)),
  (λ b. front_whole l text after value (begins_reads l text after value b)),
)

pub front_is_faulty : FrontIsFaulty
front_is_faulty l text fault = (
  (λ e. (faulty_is_first l text fault (faulty_reads l text fault e)).1),
  (λ h. front_faulty l text fault (fault_found l l.depth text fault h)),
)

pub front_is_partial : FrontIsPartial
front_is_partial l text = (
  (λ e. partial_none l text (partial_reads l text e)),
  (λ n. front_partial l text (neither l text (value_at l l.depth text) refl n)),
)
