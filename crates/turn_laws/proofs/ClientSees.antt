-- What happens to one client, and what happens to another.
use Rattle.std.proofs.Common.{◌≡◌, ◌≢◌, ⊎_elim, ℕ, true, false, List, [], refl, ap}
use Rattle.std.specs.Prelude.{nat_eq, if◌then◌else◌}
use Rattle.std.proofs.lemmas.Bool.Decides.{eqb_tells}
use Rattle.turn_laws.specs.ClientSees.{ClientsSeeTheirOwn, if_own, pulled_by, pushed_by}

pub own : {X : Type 0} (number other : ℕ) (seen : List X) → nat_eq other number ≡ true → if_own number other seen ≡ seen
own number other seen same = ap (λ b. if b then seen else []) same

pub not-own : {X : Type 0} (number other : ℕ) (seen : List X) → nat_eq other number ≡ false → if_own number other seen ≡ []
not-own number other seen apart = ap (λ b. if b then seen else []) apart

pub clients-see-their-own : ClientsSeeTheirOwn
clients-see-their-own number other event = (
  (own number number (pulled_by event) itself, own number number (pushed_by event) itself),
  λ apart. (not-own number other (pulled_by event) (another apart), not-own number other (pushed_by event) (another apart)),
)
  where
    itself : nat_eq number number ≡ true
    itself = ⊎_elim
        (λ (z : (nat_eq number number ≡ true) × (number ≡ number)). z.0)
        (λ (z : (nat_eq number number ≡ false) × (number ≢ number)). absurd (z.1 refl))
        (eqb_tells number number)

    another : other ≢ number → nat_eq other number ≡ false
    another apart = ⊎_elim
        (λ (z : (nat_eq other number ≡ true) × (other ≡ number)). absurd (apart z.1))
        (λ (z : (nat_eq other number ≡ false) × (other ≢ number)). z.0)
        (eqb_tells other number)
