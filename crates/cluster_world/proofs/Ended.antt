-- How a program's run ends.
use Rattle.std.proofs.Common.{◌≡◌, ◌⊎◌, inl, inr, ℕ, Bool, true, List, Option, Result, Ok, Err, refl}
use Rattle.std.specs.Prelude.{OnErr}
use Rattle.std.specs.Io.KnownBytes.{Keeps}
use Rattle.std.proofs.KnownBytes.{Keeps-refl}
use Rattle.cluster_world.specs.Watched.{EndsAs}

-- a fault that comes before anything is written
pub unwritten : {A E : Type 0} (result : Result A E) (contents : Option (List ℕ)) (failed : Bool) → OnErr result (Keeps contents contents ⊎ (failed ≡ true))
unwritten (Ok value) contents failed = tt
unwritten (Err fault) contents failed = inl (Keeps-refl contents)

-- nothing was written, or a write failed
pub ends_early : (Says : ℕ → List ℕ → Type 0) (old new : Option (List ℕ)) (failed : Bool) → Keeps old new ⊎ (failed ≡ true) → EndsAs Says 1 old new failed
ends_early Says old new failed (inl kept) = inr (inl (refl, kept))
ends_early Says old new failed (inr is) = inr (inr (refl, is))
