use Rattle.std.proofs.Common.{◌∙◌, ap, sym, refl}
use Rattle.std.specs.Prelude.{is_some}
use Rattle.std.specs.Option.{option_copied_mut}
use Rattle.proxy_turns.specs.Commands.{commanded}
use Rattle.proxy_turns.proofs.Tables.{wrote}
use Rattle.proxy_turns.proofs.Posting.{hears_at, silent}
use Rattle.proxy_turns.proofs.commands.tell_at.Goals as goal

pub returns : goal.returns
returns c = λ fresh.
    let entries = c.args.posted.now.entries in
    let writes = c.get_mut.follows.holds c.tell_command.new.command in
    let there = sym c.get_mut.ensures.value ∙ ap option_copied_mut c.in-Some.is in
    let put = wrote c.args.ticket.part c.in-Some.command.now c.tell_command.new.command entries _ there (writes.3 (ap is_some there)).0 in
    hears_at fresh entries _ c.args.ticket.part c.in-Some.command.now c.tell_command.new.command put.0 put.1 c.args.ticket c.args.told c.tell_command.result refl c.tell_command.ensures

pub returns-in_default : goal.returns-in_default
returns-in_default c = λ fresh.
    let same = ap (λ m. m.entries) c.get_mut.follows.holds-at-none in
    let absent = sym c.get_mut.ensures.value ∙ ap option_copied_mut c.in_default.is in
    (silent fresh c.args.posted.now.entries c.args.ticket absent, ap (commanded fresh) same)
