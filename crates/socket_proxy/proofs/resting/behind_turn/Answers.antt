use Rattle.proxy_engine.proofs.Turning.{either-still}
use Rattle.socket_proxy.proofs.resting.behind_turn.Goals as goal

pub returns : goal.returns
returns g c = record { rests = λ sleeps. c.requires.turned (either-still c.args.moved c.args.turned.now.moved (c.after.ensures.rests sleeps)).1 }
