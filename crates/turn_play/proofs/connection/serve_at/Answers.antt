use Rattle.std.proofs.Common.{◌≡◌, Ok, Err, inr, rules, sym, subst}
use Rattle.proxy_engine.specs.Engine.{engine_model}
use Rattle.turn_play.specs.Connection.{ServesAt}
use Rattle.turn_play.specs.Dialling.{no_failures}
use Rattle.turn_play.specs.Stream.{StreamModel, StreamOutcome}
use Rattle.turn_play.proofs.Swapping.{stream-back}
use Rattle.turn_play.proofs.connection.serve_at.Goals as goal

pub returns-in_err-served-clause-serves : goal.returns-in_err-served-clause-serves
returns-in_err-served-clause-serves g c =
    let old = (engine_model no_failures c.args.engine.now).carrier in
    let mid = (engine_model no_failures c.swap_port.new.self).carrier in
    let new = (engine_model no_failures c.swap_port-2.new.self).carrier in
    let taken = c.in-Ok.taken in
    let now = c.serve-served.new.self in
    let cluster = c.serve-served.new.cluster in
    let why = c.in_err-served.field-0.0 in
    let back = stream-back c.args.node old mid new c.new_port.result taken c.swap_stream-stream.new.self c.swap_stream.new.self c.new_stream.result now c.swap_port-2.result
    c.swap_stream-stream.ensures.put c.swap_stream.ensures.put c.in-Ok.ensures.swaps c.swap_port-2.ensures.swaps in
    let is : c.from_residual.result ≡ Err why = search rules in
    subst
    (λ r. ServesAt c.args.nodes.now c.args.cluster.now c.args.node old c.args.verdict r cluster new)
    (sym is)
    (taken, now, back, subst (λ (s : StreamModel). StreamOutcome c.args.nodes.now c.args.cluster.now c.args.node s c.args.verdict (Err why) cluster now) c.swap_stream-stream.ensures.taken c.in_err-served.ensures)

pub returns-clause-serves : goal.returns-clause-serves
returns-clause-serves g c =
    let old = (engine_model no_failures c.args.engine.now).carrier in
    let mid = (engine_model no_failures c.swap_port.new.self).carrier in
    let new = (engine_model no_failures c.swap_port-2.new.self).carrier in
    let taken = c.in-Ok.taken in
    let now = c.serve-served.new.self in
    let cluster = c.serve-served.new.cluster in
    let moved = c.in_ok-served.field-0 in
    let back = stream-back c.args.node old mid new c.new_port.result taken c.swap_stream-stream.new.self c.swap_stream.new.self c.new_stream.result now c.swap_port-2.result
    c.swap_stream-stream.ensures.put c.swap_stream.ensures.put c.in-Ok.ensures.swaps c.swap_port-2.ensures.swaps in
    inr (moved, (taken, now, back, subst (λ (s : StreamModel). StreamOutcome c.args.nodes.now c.args.cluster.now c.args.node s c.args.verdict (Ok moved) cluster now) c.swap_stream-stream.ensures.taken c.in_ok-served.ensures))
