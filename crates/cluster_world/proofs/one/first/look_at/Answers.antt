use Rattle.cluster_world.proofs.Openings.{values_found, none_found, fault_found}
use Rattle.cluster_world.proofs.one.first.look_at.Goals as goal

pub returns-in-Ok-Some : goal.returns-in-Ok-Some
returns-in-Ok-Some c = values_found _ _ _ _ c.requires (rw c.in-Ok-Some.field-0-is at c.in-Ok-Some.ensures.exact) c.asked.ensures

pub returns-in-Ok-None : goal.returns-in-Ok-None
returns-in-Ok-None c = none_found _ _ c.requires (rw c.in-Ok-None.field-0-is at c.in-Ok-None.ensures.exact)

pub returns-in_default : goal.returns-in_default
returns-in_default c = fault_found c.front_is_faulty.ensures c.front_keeps_fault.ensures _ _ _ c.in_default.not-NoMemory c.requires c.in-Err.ensures.exact
