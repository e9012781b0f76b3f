-- What the stories show.
use Rattle.std.proofs.Common.{[], ◌∷◌, refl}
use Rattle.turn_laws.specs.Scripts.{set, ok, did}
use Rattle.turn_laws.specs.Stories.{LostYetExecuted}

pub lost-yet-executed : LostYetExecuted
lost-yet-executed = (3, 2, did 0 set ok, refl, (did 0 set ok ∷ [], refl, (0, refl)))
