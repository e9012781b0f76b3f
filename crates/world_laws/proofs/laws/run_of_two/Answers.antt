use Rattle.world_laws.proofs.RunOfTwo.{run_of_two}
use Rattle.world_laws.proofs.laws.run_of_two.Goals as goal

pub returns : goal.returns
returns c = run_of_two
