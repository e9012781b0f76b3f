use Rattle.std.proofs.Common.{◌∙◌, ap, sym}
use Rattle.std.specs.Prelude.{is_some}
use Rattle.proxy_turns.proofs.Tables.{at_number, taken_at}
use Rattle.proxy_turns.proofs.commands.take_at.Goals as goal

pub unwrap-requires : goal.unwrap-requires
unwrap-requires c = ap is_some (c.remove.ensures.value ∙ at_number c.args.number c.args.posted.now.entries) ∙ c.requires

pub returns-clause-held : goal.returns-clause-held
returns-clause-held c = sym (at_number c.args.number c.args.posted.now.entries) ∙ sym c.remove.ensures.value ∙ c.unwrap.ensures

pub returns-clause-left : goal.returns-clause-left
returns-clause-left c = taken_at c.args.number c.args.posted.now.entries c.remove.new.self.entries c.remove.ensures.updates.0
