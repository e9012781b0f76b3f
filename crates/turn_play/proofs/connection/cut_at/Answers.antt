use Rattle.std.proofs.Common.{Ok, inr, subst}
use Rattle.proxy_engine.specs.Engine.{engine_model}
use Rattle.proxy_turns.specs.Swapping.{SwapOutcome}
use Rattle.turn_laws.specs.ByteWires.{over_stream}
use Rattle.turn_play.specs.Connection.{cut_to}
use Rattle.turn_play.specs.Dialling.{no_failures}
use Rattle.turn_play.specs.Stream.{StreamModel}
use Rattle.turn_play.proofs.Swapping.{stream-back}
use Rattle.turn_play.proofs.connection.cut_at.Goals as goal

pub returns-clause-cuts : goal.returns-clause-cuts
returns-clause-cuts g c =
    let old = (engine_model no_failures c.args.engine.now).carrier in
    let mid = (engine_model no_failures c.swap_port.new.self).carrier in
    let new = (engine_model no_failures c.swap_port-2.new.self).carrier in
    let taken = c.in-Ok.taken in
    let back = stream-back c.args.node old mid new c.new_port.result taken c.swap_stream-stream.new.self c.swap_stream.new.self c.new_stream.result c.cut.new.self c.swap_port-2.result
    c.swap_stream-stream.ensures.put c.swap_stream.ensures.put c.in-Ok.ensures.swaps c.swap_port-2.ensures.swaps in
    inr (
      taken,
      subst (λ (s : StreamModel). SwapOutcome c.args.node old (over_stream taken (cut_to c.args.most s)) (Ok taken) new) c.swap_stream-stream.ensures.taken
          (subst (λ (s : StreamModel). SwapOutcome c.args.node old (over_stream taken s) (Ok taken) new) c.cut.ensures back),
    )
