use Rattle.cluster_world.proofs.simulate.open.Goals as goal
use Rattle.std.proofs.Common.{refl}

pub returns-in-Ok : goal.returns-in-Ok
returns-in-Ok c = λ owners shows. let opened = c.in-Ok.ensures owners shows in (opened.1.0, (opened.0, opened.1.1, opened.2))

pub returns-in-Err-BadOwners : goal.returns-in-Err-BadOwners
returns-in-Err-BadOwners c = (refl, λ owners shows. (rw c.in-Err-BadOwners.field-0-is at c.in-Err-BadOwners.ensures) owners shows)
