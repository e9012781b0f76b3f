use Rattle.std.proofs.Common.{◌≡◌, Ok, Err, rules, subst, sym}
use Rattle.turn_play.specs.Obeying.{ObeysAll}
use Rattle.turn_play.specs.Play.{play_model}
use Rattle.turn_play.proofs.Obeyed.{all-obeyed, ends-here, ends-too-long, goes-on}
use Rattle.turn_play.proofs.play.Play.play.Goals as goal

pub loop-rest-init : goal.loop-rest-init
loop-rest-init g c = λ result new does. does

pub loop-rest-preserved : goal.loop-rest-preserved
loop-rest-preserved g c =
    let m = g.C.ClientPort in
    goes-on m.moves m.gives_none m.takes_none (play_model c.args.self.now c.args.cluster.now) c.args.orders.now (play_model c.loop-rest.self c.loop-rest.cluster) c.loop-rest.rest.now c.order-item.result (play_model c.obey.new.self c.obey.new.cluster)
    c.in-len1-up.len_at_least c.order-item.is c.loop-rest.invariant c.in_ok-obey.ensures

pub returns-in_err-obey-clause-obeys : goal.returns-in_err-obey-clause-obeys
returns-in_err-obey-clause-obeys g c =
    let m = g.C.ClientPort in
    let is : c.from_residual.result ≡ Err c.in_err-obey.field-0.0 = search rules in
    subst
    (λ r. ObeysAll m.moves m.gives_none m.takes_none (play_model c.args.self.now c.args.cluster.now) c.args.orders.now r (play_model c.obey.new.self c.obey.new.cluster))
    (sym is)
    (ends-here m.moves m.gives_none m.takes_none (play_model c.args.self.now c.args.cluster.now) c.args.orders.now (play_model c.loop-rest.self c.loop-rest.cluster) c.loop-rest.rest.now c.order-item.result c.in_err-obey.field-0.0 (play_model c.obey.new.self c.obey.new.cluster)
    c.in-len1-up.len_at_least c.order-item.is c.loop-rest.invariant c.in_err-obey.ensures)

pub returns-in_err-obey-clause-sound : goal.returns-in_err-obey-clause-sound
returns-in_err-obey-clause-sound g c = λ stays.
    c.obeyed_is_sound.ensures.alone (play_model c.args.self.now c.args.cluster.now) (play_model c.obey.new.self c.obey.new.cluster) c.args.orders.now c.from_residual.result (returns-in_err-obey-clause-obeys g c) stays

pub returns-in_err-obey-clause-beside : goal.returns-in_err-obey-clause-beside
returns-in_err-obey-clause-beside g c = λ stays.
    c.obeyed_is_sound.ensures.beside (play_model c.args.self.now c.args.cluster.now) (play_model c.obey.new.self c.obey.new.cluster) c.args.orders.now c.from_residual.result (returns-in_err-obey-clause-obeys g c) stays

pub returns-in_err-obey-clause-plays_on : goal.returns-in_err-obey-clause-plays_on
returns-in_err-obey-clause-plays_on g c = λ stays.
    c.obeyed_is_sound.ensures.plays_on (play_model c.args.self.now c.args.cluster.now) (play_model c.obey.new.self c.obey.new.cluster) c.args.orders.now c.from_residual.result (returns-in_err-obey-clause-obeys g c) stays

pub returns-in_err-obey-clause-too_long : goal.returns-in_err-obey-clause-too_long
returns-in_err-obey-clause-too_long g c =
    let m = g.C.ClientPort in
    ends-too-long m.moves m.gives_none m.takes_none c.obeyed_is_sound.ensures.beside (play_model c.args.self.now c.args.cluster.now) c.args.orders.now c.from_residual.result (play_model c.obey.new.self c.obey.new.cluster) (returns-in_err-obey-clause-obeys g c)

pub returns-clause-obeys : goal.returns-clause-obeys
returns-clause-obeys g c =
    let m = g.C.ClientPort in
    all-obeyed m.moves m.gives_none m.takes_none (play_model c.args.self.now c.args.cluster.now) c.args.orders.now (play_model c.loop-rest.self c.loop-rest.cluster) c.loop-rest.rest.now c.in_default.len_below c.loop-rest.invariant

pub returns-clause-sound : goal.returns-clause-sound
returns-clause-sound g c =
    c.obeyed_is_sound.ensures.alone (play_model c.args.self.now c.args.cluster.now) (play_model c.loop-rest.self c.loop-rest.cluster) c.args.orders.now (Ok tt) (returns-clause-obeys g c)

pub returns-clause-beside : goal.returns-clause-beside
returns-clause-beside g c =
    c.obeyed_is_sound.ensures.beside (play_model c.args.self.now c.args.cluster.now) (play_model c.loop-rest.self c.loop-rest.cluster) c.args.orders.now (Ok tt) (returns-clause-obeys g c)

pub returns-clause-plays_on : goal.returns-clause-plays_on
returns-clause-plays_on g c =
    c.obeyed_is_sound.ensures.plays_on (play_model c.args.self.now c.args.cluster.now) (play_model c.loop-rest.self c.loop-rest.cluster) c.args.orders.now (Ok tt) (returns-clause-obeys g c)

pub returns-clause-too_long : goal.returns-clause-too_long
returns-clause-too_long g c =
    let m = g.C.ClientPort in
    ends-too-long m.moves m.gives_none m.takes_none c.obeyed_is_sound.ensures.beside (play_model c.args.self.now c.args.cluster.now) c.args.orders.now (Ok tt) (play_model c.loop-rest.self c.loop-rest.cluster) (returns-clause-obeys g c)
