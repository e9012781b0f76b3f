use Rattle.std.proofs.Common.{sym, subst}
use Rattle.proxy_turns.specs.ClientModel.{ClientModel}
use Rattle.proxy_turns.specs.DueCommands.{IsToSettle}
use Rattle.proxy_turns.proofs.client_state.ClientState.next_step.Goals as goal

pub returns : goal.returns
returns g c = λ d stands. c.next_step.ensures d (subst (λ (m : ClientModel _). IsToSettle m c.args.number d) (sym c.self.view_is) stands)
