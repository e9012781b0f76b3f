-- What the phases of a moving slot say: which follows which, and where no ASK is bad.
use Rattle.std.proofs.Common.{◌≡◌, ◌≢◌, ◌⊎◌, inl, inr, Bool, false, Some, None, refl, ap}
use Rattle.std.specs.Prelude.{IsSome, unwrap_or, Option}
use Rattle.node_model.specs.Standings.{after_own, after_release}
use Rattle.node_model.specs.declared.standing.Phase.{Phase}
use Rattle.node_model.specs.declared.standing.Phase.TheVariants.{Settled, Imported, Migrated, Owned, Released, Forgotten}
use Rattle.world_laws.specs.Homes.{is_bad}

pub own-good : (p q : Phase) (b : Bool) → after_own p ≡ Some q → is_bad q b ≡ false
own-good Migrated q b e = let same : q ≡ Owned = cc in ap (λ r. is_bad r b) same
own-good Released q b e = let same : q ≡ Settled = cc in ap (λ r. is_bad r b) same
own-good Settled q b e = absurd (cc)
own-good Imported q b e = absurd (cc)
own-good Owned q b e = absurd (cc)
own-good Forgotten q b e = absurd (cc)

pub release-good : (p q : Phase) (b : Bool) → after_release p ≡ Some q → is_bad q b ≡ false
release-good Migrated q b e = let same : q ≡ Released = cc in ap (λ r. is_bad r b) same
release-good Owned q b e = let same : q ≡ Settled = cc in ap (λ r. is_bad r b) same
release-good Settled q b e = absurd (cc)
release-good Imported q b e = absurd (cc)
release-good Released q b e = absurd (cc)
release-good Forgotten q b e = absurd (cc)

pub own-moving : (p q : Phase) → after_own p ≡ Some q → p ≢ Settled
own-moving Settled q e = absurd (cc)
own-moving Imported q e = absurd (cc)
own-moving Migrated q e = λ x. absurd (cc)
own-moving Owned q e = absurd (cc)
own-moving Released q e = λ x. absurd (cc)
own-moving Forgotten q e = absurd (cc)

pub release-moving : (p q : Phase) → after_release p ≡ Some q → p ≢ Settled
release-moving Settled q e = absurd (cc)
release-moving Imported q e = absurd (cc)
release-moving Migrated q e = λ x. absurd (cc)
release-moving Owned q e = λ x. absurd (cc)
release-moving Released q e = absurd (cc)
release-moving Forgotten q e = absurd (cc)

pub giving : (p : Phase) → (p ≡ Migrated) ⊎ (p ≡ Owned) → (p ≢ Settled) × (is_bad p false ≡ false)
giving Migrated e = ((λ x. absurd (cc)), refl)
giving Owned e = ((λ x. absurd (cc)), refl)
giving Settled (inl e) = absurd (cc)
giving Settled (inr e) = absurd (cc)
giving Imported (inl e) = absurd (cc)
giving Imported (inr e) = absurd (cc)
giving Released (inl e) = absurd (cc)
giving Released (inr e) = absurd (cc)
giving Forgotten (inl e) = absurd (cc)
giving Forgotten (inr e) = absurd (cc)

pub some-is : {X : Type 0} (o : Option X) (x : X) → IsSome o → o ≡ Some (unwrap_or o x)
some-is (Some y) x h = refl
some-is None x h = absurd (cc)

pub some-value : {X : Type 0} (o : Option X) → IsSome o → (x : X) × (o ≡ Some x)
some-value (Some y) h = (y, refl)
some-value None h = absurd (cc)
