use Rattle.turn_laws.proofs.LogHeadline.{each-arrived, log-headline-follows, none-twice}
use Rattle.turn_laws.proofs.parts.each_execution_is_ours.Goals as goal

pub returns-clause-follows : goal.returns-clause-follows
returns-clause-follows c = log-headline-follows

pub returns-clause-once : goal.returns-clause-once
returns-clause-once c = none-twice

pub returns-clause-arrived : goal.returns-clause-arrived
returns-clause-arrived c = each-arrived
