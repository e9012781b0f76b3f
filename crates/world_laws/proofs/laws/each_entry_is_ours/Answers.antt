use Rattle.world_laws.proofs.Headlines.{each-arrived, none-share, none-twice}
use Rattle.world_laws.proofs.laws.each_entry_is_ours.Goals as goal

pub returns-clause-moment : goal.returns-clause-moment
returns-clause-moment c = none-share

pub returns-clause-arrived : goal.returns-clause-arrived
returns-clause-arrived c = each-arrived

pub returns-clause-once : goal.returns-clause-once
returns-clause-once c = none-twice
