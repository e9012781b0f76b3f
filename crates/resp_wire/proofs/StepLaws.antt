-- What one step of the scan does, over plain values.
use Rattle.std.proofs.Common.{◌≡◌, ◌≢◌, ℕ, suc, ◌+◌, ◌-◌, ◌<◌, ◌≤◌, List, [], ◌∷◌, ◌++◌, length, refl, sym, ap, ◌∙◌, arith}
use Rattle.std.proofs.lemmas.List.{append-nil, length-append}
use Rattle.resp_wire.specs.Data.{Data, array}
use Rattle.resp_wire.specs.LimitsModel.{LimitsModel}
use Rattle.resp_wire.specs.Reading.{whole, partial, faulty, then_read, value_at, items_at}
use Rattle.resp_wire.specs.Resume.{resume, Steps}
use Rattle.resp_wire.specs.declared.fault.WireFault.{WireFault}
use Rattle.resp_wire.proofs.ResumeLaws.{resume_end, resume_whole, resume_array, resume_partial, resume_faulty}

pub step_end : (l : LimitsModel) (old outer bytes : List ℕ) (count : ℕ) → old ≡ outer ++ count ∷ [] → count ≡ 0 → length old ≤ l.depth + 1 → Steps l old bytes outer bytes
step_end l old outer bytes count e z few =
    let len : length old ≡ length outer + 1 = rw e (length-append outer (count ∷ [])) in
    record {
      goes_on = λ more. ap (λ (u : List ℕ). resume l l.depth u (bytes ++ more)) (e ∙ ap (λ (n : ℕ). outer ++ n ∷ []) z) ∙ resume_end l l.depth outer (bytes ++ more);
      few = omega arith;
      nearer = omega arith;
      front = ([], refl);
    }

pub step_whole : (l : LimitsModel) (old outer new bytes rest : List ℕ) (count room : ℕ) (v : Data) → old ≡ outer ++ count ∷ [] → new ≡ outer ++ (count - 1) ∷ [] → count ≢ 0 → room ≡ l.depth - length outer → length old ≤ l.depth + 1
    → ((more : List ℕ) → value_at l room (bytes ++ more) ≡ whole v (rest ++ more)) → (front : List ℕ) × (0 < length front) × (bytes ≡ front ++ rest) → Steps l old bytes new rest
step_whole l old outer new bytes rest count room v e f ne r few reads front =
    let pred : count ≡ suc (count - 1) = omega arith in
    let old_is : old ≡ outer ++ suc (count - 1) ∷ [] = e ∙ ap (λ (n : ℕ). outer ++ n ∷ []) pred in
    let old_len : length old ≡ length outer + 1 = rw e (length-append outer (count ∷ [])) in
    let new_len : length new ≡ length outer + 1 = rw f (length-append outer ((count - 1) ∷ [])) in
    let bytes_len : length bytes ≡ length front.0 + length rest = rw front.2 (length-append front.0 rest) in
    record {
      goes_on = λ more.
          ap (λ (u : List ℕ). resume l l.depth u (bytes ++ more)) old_is
          ∙ resume_whole l l.depth outer (count - 1) (bytes ++ more) (rest ++ more) v (ap (λ (n : ℕ). value_at l n (bytes ++ more)) (sym r) ∙ reads more)
          ∙ ap (λ (u : List ℕ). resume l l.depth u (rest ++ more)) (sym f);
      few = omega arith;
      nearer = omega (arith, front.1);
      front = (front.0, front.2);
    }

pub step_array : (l : LimitsModel) (old outer new bytes rest : List ℕ) (count room m inner : ℕ) → old ≡ outer ++ count ∷ [] → new ≡ (outer ++ (count - 1) ∷ []) ++ m ∷ [] → count ≢ 0 → room ≡ l.depth - length outer → length old ≤ l.depth + 1 → room ≡ suc inner
    → ((more : List ℕ) → value_at l room (bytes ++ more) ≡ then_read (items_at (value_at l inner) m (rest ++ more)) (λ vs after. whole (array vs) after)) → (front : List ℕ) × (0 < length front) × (bytes ≡ front ++ rest) → Steps l old bytes new rest
step_array l old outer new bytes rest count room m inner e f ne r few k reads front =
    let pred : count ≡ suc (count - 1) = omega arith in
    let old_is : old ≡ outer ++ suc (count - 1) ∷ [] = e ∙ ap (λ (n : ℕ). outer ++ n ∷ []) pred in
    let old_len : length old ≡ length outer + 1 = rw e (length-append outer (count ∷ [])) in
    let mid_len : length (outer ++ (count - 1) ∷ []) ≡ length outer + 1 = length-append outer ((count - 1) ∷ []) in
    let new_len : length new ≡ length (outer ++ (count - 1) ∷ []) + 1 = rw f (length-append (outer ++ (count - 1) ∷ []) (m ∷ [])) in
    let bytes_len : length bytes ≡ length front.0 + length rest = rw front.2 (length-append front.0 rest) in
    record {
      goes_on = λ more.
          ap (λ (u : List ℕ). resume l l.depth u (bytes ++ more)) old_is
          ∙ resume_array l l.depth outer (count - 1) m inner (bytes ++ more) (rest ++ more) (sym r ∙ k) (ap (λ (n : ℕ). value_at l n (bytes ++ more)) (sym r) ∙ reads more)
          ∙ ap (λ (u : List ℕ). resume l l.depth u (rest ++ more)) (sym f);
      few = omega arith;
      nearer = omega (arith, front.1);
      front = (front.0, front.2);
    }

pub step_partial : (l : LimitsModel) (old outer new bytes : List ℕ) (count room : ℕ) → old ≡ outer ++ count ∷ [] → new ≡ outer ++ count ∷ [] → count ≢ 0 → room ≡ l.depth - length outer
    → value_at l room (bytes ++ []) ≡ partial → (new ≡ old) × (resume l l.depth old bytes ≡ partial)
step_partial l old outer new bytes count room e f ne r reads =
    let pred : count ≡ suc (count - 1) = omega arith in
    let old_is : old ≡ outer ++ suc (count - 1) ∷ [] = e ∙ ap (λ (n : ℕ). outer ++ n ∷ []) pred in (
      f ∙ sym e,
      ap (λ (u : List ℕ). resume l l.depth u bytes) old_is
          ∙ resume_partial l l.depth outer (count - 1) bytes (ap (λ (n : ℕ). value_at l n bytes) (sym r) ∙ ap (λ (u : List ℕ). value_at l room u) (sym (append-nil bytes)) ∙ reads),
    )

pub step_faulty : (l : LimitsModel) (old outer new bytes : List ℕ) (count room : ℕ) (g : WireFault) → old ≡ outer ++ count ∷ [] → new ≡ outer ++ count ∷ [] → count ≢ 0 → room ≡ l.depth - length outer
    → value_at l room (bytes ++ []) ≡ faulty g → (new ≡ old) × (resume l l.depth old bytes ≡ faulty g)
step_faulty l old outer new bytes count room g e f ne r reads =
    let pred : count ≡ suc (count - 1) = omega arith in
    let old_is : old ≡ outer ++ suc (count - 1) ∷ [] = e ∙ ap (λ (n : ℕ). outer ++ n ∷ []) pred in (
      f ∙ sym e,
      ap (λ (u : List ℕ). resume l l.depth u bytes) old_is
          ∙ resume_faulty l l.depth outer (count - 1) bytes g (ap (λ (n : ℕ). value_at l n bytes) (sym r) ∙ ap (λ (u : List ℕ). value_at l room u) (sym (append-nil bytes)) ∙ reads),
    )
