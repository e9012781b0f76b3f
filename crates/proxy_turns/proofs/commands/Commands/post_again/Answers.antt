use Rattle.std.proofs.Common.{◌∙◌, ap, sym}
use Rattle.std.specs.Prelude.{is_some}
use Rattle.std.specs.Option.{option_copied_mut}
use Rattle.proxy_turns.specs.Commands.{commanded}
use Rattle.proxy_turns.proofs.Tables.{at_number, wrote}
use Rattle.proxy_turns.proofs.Posting.{posts_at, still_on, wants_here, wants_nowhere}
use Rattle.proxy_turns.proofs.commands.Commands.post_again.Goals as goal

pub returns-clause-posts : goal.returns-clause-posts
returns-clause-posts g c =
    let fresh = c.self.inside.fresh.items in
    let entries = c.self.inside.posted.entries in
    let writes = c.get_mut.follows.holds c.post_command.new.command in
    let there = sym c.get_mut.ensures.value ∙ ap option_copied_mut c.in-Some.is in
    let put = wrote c.args.number c.in-Some.command.now c.post_command.new.command entries _ there (writes.3 (ap is_some there)).0 in
    rw (← c.self.view_is) (posts_at fresh entries _ c.args.number c.in-Some.command.now c.post_command.new.command put.0 put.1 _ _ _ _ c.post_command.result c.post_command.ensures.ok c.post_command.ensures.err)

pub returns-in_default-clause-full : goal.returns-in_default-clause-full
returns-in_default-clause-full g c = λ wants.
    let fresh = c.self.inside.fresh.items in
    let entries = c.self.inside.posted.entries in
    let absent = sym c.get_mut.ensures.value ∙ ap option_copied_mut c.in_default.is in
    absurd (wants_nowhere (commanded fresh entries) c.args.number (sym (at_number c.args.number entries) ∙ absent) (rw (← c.self.view_is) at wants))

pub returns-clause-full : goal.returns-clause-full
returns-clause-full g c =
    let fresh = c.self.inside.fresh.items in
    let entries = c.self.inside.posted.entries in
    let there = sym c.get_mut.ensures.value ∙ ap option_copied_mut c.in-Some.is in
    rw (← c.self.view_is) (still_on c.post_command.result (λ full wants. full (wants_here (commanded fresh entries) c.args.number c.in-Some.command.now (sym (at_number c.args.number entries) ∙ there) wants)) c.post_command.ensures.full)
