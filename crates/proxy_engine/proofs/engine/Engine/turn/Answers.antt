use Rattle.std.proofs.Common.{◌≡◌, ◌||◌, Ok, Err, refl, sym, subst, rules}
use Rattle.proxy_turns.specs.Backend.{GaveNone}
use Rattle.proxy_turns.specs.CarrierModel.{CarrierGoes}
use Rattle.proxy_turns.specs.Waiting.{AreAllLater}
use Rattle.proxy_engine.specs.Engine.{engine_model, waiting_in}
use Rattle.proxy_engine.proofs.Turning.{both-turned, carrier-failed, engine-rests, still-later, worker-failed}
use Rattle.proxy_engine.proofs.engine.Engine.turn.Goals as goal

pub returns-in_err-worked-clause-turns : goal.returns-in_err-worked-clause-turns
returns-in_err-worked-clause-turns g c =
    let f = g.D.Dial.failures in
    let node = g.P.NodePort in
    let was : c.turn_worker.result ≡ Err c.in_err-worked.field-0.0 = search rules in
    let is : c.from_residual.result ≡ Err c.in_err-worked.field-0.0 = search rules in
    worker-failed g.C.ClientPort.moves (CarrierGoes node.calls g.D.Dial.opens g.P.RunPort.longest) (engine_model f c.args.self.now) (engine_model f c.turn_worker.new.self) c.turn_worker.result _ c.from_residual.result
    was is c.turn_worker.ensures.ends

pub returns-in_err-carried-clause-turns : goal.returns-in_err-carried-clause-turns
returns-in_err-carried-clause-turns g c =
    let f = g.D.Dial.failures in
    let node = g.P.NodePort in
    let was : c.turn_worker.result ≡ Ok c.in_ok-worked.worked = search rules in
    let then : c.turn_carrier.result ≡ Err c.in_err-carried.field-0.0 = search rules in
    let is : c.from_residual-in_err-carried.result ≡ Err c.in_err-carried.field-0.0 = search rules in
    carrier-failed g.C.ClientPort.moves (CarrierGoes node.calls g.D.Dial.opens g.P.RunPort.longest) (engine_model f c.args.self.now) (engine_model f c.turn_worker.new.self) (engine_model f c.turn_carrier.new.self)
    c.turn_worker.result c.turn_carrier.result c.in_ok-worked.worked _ c.from_residual-in_err-carried.result was then is c.turn_worker.ensures.ends c.turn_carrier.ensures.ends

pub returns-clause-turns : goal.returns-clause-turns
returns-clause-turns g c =
    let f = g.D.Dial.failures in
    let node = g.P.NodePort in
    let was : c.turn_worker.result ≡ Ok c.in_ok-worked.worked = search rules in
    let then : c.turn_carrier.result ≡ Ok c.in_ok-carried.carried = search rules in
    both-turned g.C.ClientPort.moves (CarrierGoes node.calls g.D.Dial.opens g.P.RunPort.longest) (engine_model f c.args.self.now) (engine_model f c.turn_worker.new.self) (engine_model f c.turn_carrier.new.self)
    c.turn_worker.result c.turn_carrier.result c.in_ok-worked.worked c.in_ok-carried.carried (record { moved = c.in_ok-worked.worked || c.in_ok-carried.carried; next_due = c.next_due.result; served = c.is_served.result }) was then refl c.turn_worker.ensures.ends c.turn_carrier.ensures.ends

pub returns-clause-rests : goal.returns-clause-rests
returns-clause-rests g c =
    let f = g.D.Dial.failures in
    let node = g.P.NodePort in
    let ports = g.C.ClientPort in
    let was : c.turn_worker.result ≡ Ok c.in_ok-worked.worked = search rules in
    let then : c.turn_carrier.result ≡ Ok c.in_ok-carried.carried = search rules in
    λ none. engine-rests ports.gives_none ports.takes_none (GaveNone node.calls) (CarrierGoes node.calls g.D.Dial.opens g.P.RunPort.longest)
    (engine_model f c.turn_worker.new.self) (engine_model f c.turn_carrier.new.self) c.turn_worker.result c.turn_carrier.result c.in_ok-worked.worked c.in_ok-carried.carried was then c.turn_worker.ensures.rests c.turn_carrier.ensures.ends c.turn_carrier.ensures.rests none

pub returns-clause-later : goal.returns-clause-later
returns-clause-later g c =
    let tells = g.G.Gate.tells c.args.self.now.worker.gate.now in
    let was : c.turn_worker.result ≡ Ok c.in_ok-worked.worked = search rules in
    λ none. subst (λ waiting. AreAllLater tells waiting) (sym c.turn_carrier.ensures.waiting) (still-later (AreAllLater tells (waiting_in c.turn_worker.new.self)) c.turn_worker.result c.in_ok-worked.worked c.in_ok-carried.carried was c.turn_worker.ensures.later none)
