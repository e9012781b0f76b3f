use Rattle.command_future.specs.declared.stage.Want.TheVariants.{Finished}
use Rattle.command_future.proofs.LawLemmas.{no_more, one_want}
use Rattle.command_future.proofs.laws.ends_for_good.Goals as goal

pub returns-clause-wants_nothing : goal.returns-clause-wants_nothing
returns-clause-wants_nothing c = λ events end want ended wanted. one_want events want Finished wanted (end, ended)

pub returns-clause-no_event : goal.returns-clause-no_event
returns-clause-no_event c = no_more
