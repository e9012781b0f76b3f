-- The laws of spelling.
use Rattle.std.proofs.Common.{◌≡◌, ◌++◌, ℕ, List, sym, ap, ◌∙◌}
use Rattle.std.proofs.lemmas.List.{append_cancel_right}
use Rattle.resp_wire.specs.Data.{Data}
use Rattle.resp_wire.specs.Laws.{OneSpelling, OneFault}
use Rattle.resp_wire.specs.Reading.{Reading, whole, faulty, value_at}
use Rattle.resp_wire.specs.declared.fault.WireFault.{WireFault}
use Rattle.resp_wire.proofs.Complete.{read_again}
use Rattle.resp_wire.proofs.Found.{fault_found}

parts : (v w : Data) (x y : List ℕ) → whole v x ≡ whole w y → (v ≡ w) × (x ≡ y)
parts v w x y e = (cc, cc)

fault_parts : (f g : WireFault) → (let r : Reading Data = faulty f in r) ≡ faulty g → f ≡ g
fault_parts f g e = cc

pub one_spelling : OneSpelling
one_spelling l room a b x y v w s t e =
    let p = parts v w x y (sym (read_again l room a x v s) ∙ ap (λ (u : List ℕ). value_at l room u) e ∙ read_again l room b y w t) in
    (append_cancel_right a b x (e ∙ ap (λ (u : List ℕ). b ++ u) (sym p.1)), p.0)

pub one_fault : OneFault
one_fault l room text f h = (
  (λ g k. fault_parts g f (sym (fault_found l room text g k) ∙ fault_found l room text f h)),
  (λ a x v s e. let k = sym (fault_found l room text f h) ∙ ap (λ (u : List ℕ). value_at l room u) e ∙ read_again l room a x v s in cc),
)
