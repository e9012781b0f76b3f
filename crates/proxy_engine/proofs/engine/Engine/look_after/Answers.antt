use Rattle.std.proofs.Common.{◌≡◌, Ok, Err, sym, subst, rules}
use Rattle.std.proofs.lemmas.Bool.{MatchBool-at_false, MatchBool-at_true}
use mathlib.Core.List.{IsPrefix}
use Rattle.proxy_engine.specs.declared.turned.EngineFault.TheVariants as fault
use Rattle.proxy_engine.specs.Engine.{engine_model}
use Rattle.proxy_engine.specs.EngineModel.{Looks, SeesMore}
use Rattle.proxy_engine.proofs.Looking.{in-order}
use Rattle.proxy_engine.proofs.Turning.{looked-on, looked-out, looked-starved}
use Rattle.proxy_engine.proofs.engine.Engine.look_after.Goals as goal

pub returns-then-not-sees_front-clause-looks : goal.returns-then-not-sees_front-clause-looks
returns-then-not-sees_front-clause-looks g c =
    let f = g.D.Dial.failures in
    let old = engine_model f c.args.self.now in
    let new = engine_model f c.sees_front.new.self in
    let looks : Looks old c.look-left.result new = subst (λ e. Looks old c.look-left.result e) (sym c.sees_front.ensures.same) c.look-left.ensures.looks in
    let more : SeesMore new = MatchBool-at_false (IsPrefix new.worker.view.known new.carrier.published) (SeesMore new) c.if-not-sees_front.true c.sees_front.ensures.front in
    looked-out old new c.args.went c.look-left.result looks more

pub returns-in_err-moved-clause-looks : goal.returns-in_err-moved-clause-looks
returns-in_err-moved-clause-looks g c =
    let f = g.D.Dial.failures in
    let old = engine_model f c.args.self.now in
    let new = engine_model f c.sees_front.new.self in
    let looks : Looks old c.look-left.result new = subst (λ e. Looks old c.look-left.result e) (sym c.sees_front.ensures.same) c.look-left.ensures.looks in
    let is : c.from_residual.result ≡ Err fault.NoMemory = search rules in
    let was : c.args.went ≡ Err c.in_err-moved.field-0.0 = search rules in
    let front : IsPrefix new.worker.view.known new.carrier.published = MatchBool-at_true (IsPrefix new.worker.view.known new.carrier.published) (SeesMore new) c.if-not-sees_front.false c.sees_front.ensures.front in
    looked-starved old new c.args.went _ c.from_residual.result c.look-left.result was is looks (in-order old new c.look-left.result looks front)

pub returns-clause-looks : goal.returns-clause-looks
returns-clause-looks g c =
    let f = g.D.Dial.failures in
    let old = engine_model f c.args.self.now in
    let new = engine_model f c.sees_front.new.self in
    let looks : Looks old c.look-left.result new = subst (λ e. Looks old c.look-left.result e) (sym c.sees_front.ensures.same) c.look-left.ensures.looks in
    let was : c.args.went ≡ Ok c.in_ok-moved.moved = search rules in
    let front : IsPrefix new.worker.view.known new.carrier.published = MatchBool-at_true (IsPrefix new.worker.view.known new.carrier.published) (SeesMore new) c.if-not-sees_front.false c.sees_front.ensures.front in
    looked-on old new c.args.went c.in_ok-moved.moved c.look-left.result was looks (in-order old new c.look-left.result looks front)
