-- Places of a list of flags.
use Rattle.std.proofs.Common.{arith, ◌≡◌, ◌<◌, [], ◌∷◌, ℕ, zero, suc, List, Bool, false, length, set, slice_get, refl}
use Rattle.std.specs.Prelude.{unwrap_or}

-- the flag that was set is there
pub set_there : (flag : Bool) (flags : List Bool) (at : ℕ) → at < length flags → unwrap_or (slice_get (set flags at flag) at) false ≡ flag
set_there flag [] at within = absurd (omega arith)
set_there flag (first ∷ more) zero within = refl
set_there flag (first ∷ more) (suc at) within = set_there flag more at (omega arith)
