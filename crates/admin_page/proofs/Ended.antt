-- A read of nothing is the end of the input.
use Rattle.std.proofs.Common.{◌≡◌, refl, ℕ, Bool, true, false, List, [], ◌∷◌, ◌++◌, length, ap, ◌∙◌, arith}
use Rattle.std.specs.Prelude.{IsTrue, if◌then◌else◌}
use Rattle.http_server.specs.History.{History, after_read}

stays : (b : Bool) → (if b then b else true) ≡ true
stays true = refl
stays false = refl

pub ended_by_nothing : (old new : History) (more left : List ℕ) → [] ≡ more ++ left → new ≡ after_read old more → IsTrue new.ended
ended_by_nothing old new [] left none is = ap (λ (h : History). h.ended) is ∙ stays old.ended
ended_by_nothing old new (x ∷ more) left none is = absurd (omega (arith, ap length none))
