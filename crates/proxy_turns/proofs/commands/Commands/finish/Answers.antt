use Rattle.std.proofs.Common.{◌∙◌, ap, sym, subst}
use Rattle.std.specs.Prelude.{is_some}
use Rattle.command_future.specs.CommandModel.{CommandModel, IsOver}
use Rattle.proxy_turns.proofs.Posting.{some_same}
use Rattle.proxy_turns.proofs.commands.Commands.finish.Goals as goal

pub take_at-requires : goal.take_at-requires
take_at-requires c =
    let ends = rw (← c.self.view_is) at c.requires in ap is_some ends.2.1

pub unreachable-requires : goal.unreachable-requires
unreachable-requires c =
    let ends = rw (← c.self.view_is) at c.requires in
    let one = some_same ends.2.0 c.take_at.result (sym ends.2.1 ∙ c.take_at.ensures.held) in
    c.in-Err.ensures.progress.1 (subst (λ (x : CommandModel). IsOver x.stage) one (subst IsOver (sym ends.2.3) tt))

pub returns : goal.returns
returns c =
    rw (← c.self.view_is) (
      (c.take_at.result, c.take_at.ensures.held, sym c.in-Ok.ensures.progress.0, c.in-Ok.ensures.progress.1),
      λ i. record { fresh = c.self.inside.fresh.items; posted = c.take_at.ensures.left i },
    )
