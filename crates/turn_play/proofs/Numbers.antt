-- A number is itself.
use Rattle.std.proofs.Common.{◌≡◌, ℕ, true, refl, sym, ◌∙◌, eq-eqb}
use Rattle.std.specs.Cmp.{unsigned_ties}
use Rattle.std.specs.Ordering.{nat_cmp, eq_by_cmp}

pub itself : (k : ℕ) → eq_by_cmp nat_cmp k k ≡ true
itself k = sym (unsigned_ties k k) ∙ eq-eqb k k refl
