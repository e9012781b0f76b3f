use Rattle.world_laws.proofs.Allowed.{one-slot}
use Rattle.world_laws.proofs.laws.runs_have_one_slot.Goals as goal

pub returns : goal.returns
returns c = one-slot
