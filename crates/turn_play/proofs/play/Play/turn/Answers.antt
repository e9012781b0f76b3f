use Rattle.std.proofs.Common.{◌≡◌, Err, refl, rules, subst, sym}
use Rattle.proxy_engine.specs.Engine.{engine_model}
use Rattle.turn_play.specs.Dialling.{no_failures}
use Rattle.turn_play.specs.Faults.{of_turn}
use Rattle.turn_play.specs.Obeying.{TurnsEngine}
use Rattle.turn_play.specs.Play.{play_model}
use Rattle.turn_play.proofs.play.Play.turn.Goals as goal

pub returns-in_err-turn : goal.returns-in_err-turn
returns-in_err-turn g c = λ cluster.
    let old = play_model c.args.self.now cluster in
    let cause = c.in_err-turn.field-0.0 in
    let e = c.in_err-turn.ensures in
    let m = g.C.ClientPort in
    let is : c.from_residual.result ≡ Err (of_turn cause) = search rules in
    subst
    (λ r. TurnsEngine m.moves m.gives_none m.takes_none old r (record old { engine = engine_model no_failures c.turn.new.self }))
    (sym is)
    (cause, refl, (e.turns, e.rests, refl))

pub returns : goal.returns
returns g c = λ cluster. let e = c.in_ok-turn.ensures in (c.in_ok-turn.field-0, (e.turns, e.rests, refl))
