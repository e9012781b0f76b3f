use Rattle.key_split.proofs.Plain.{plans-plain}
use Rattle.key_split.proofs.laws.parts_of_plans_are_plain.Goals as goal

pub returns : goal.returns
returns c = plans-plain
