use Rattle.std.proofs.Common.{◌∙◌, ap}
use Rattle.std.specs.FinMap.{get}
use Rattle.proxy_turns.specs.ClientModel.{ClientModel}
use Rattle.proxy_turns.proofs.client_parts.ClientParts.next_step.Goals as goal

pub returns-then-not-may_repost : goal.returns-then-not-may_repost
returns-then-not-may_repost g c = λ d stands.
    let step = (rw c.in-Post.is at c.next_step.ensures) d (ap (λ (m : ClientModel _). get m.commands.posted c.args.number) c.self.view_is ∙ stands.0) in
    c.may_repost.ensures.none c.if-not-may_repost.true d stands step.0
