use Rattle.std.proofs.Common.{subst}
use Rattle.std.specs.Prelude.{All}
use Rattle.proxy_turns.specs.Awake.{IsAwake}
use Rattle.proxy_turns.proofs.worker_state.wake_those_with_news.Goals as goal

pub returns-clause-woken : goal.returns-clause-woken
returns-clause-woken g c = (c.in_ok-take_news.ensures.named, subst (All (IsAwake c.wake_each.new.self.entries c.wake_each.new.self.marks)) c.deref.ensures.value c.wake_each.ensures.woken)
