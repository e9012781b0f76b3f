use Rattle.std.proofs.Common.{Bool, [], nat_lt, refl, subst}
use Rattle.std.proofs.lemmas.Result.{err_from_is_err_and}
use Rattle.proxy_turns.specs.WorkerModel.{WorkerGoesBy, takes_told}
use Rattle.proxy_turns.specs.WorkerState.{state_model}
use Rattle.proxy_turns.proofs.ClientResting.{if_still, if_turned}
use Rattle.proxy_turns.proofs.Lifting.{all_err, all_then}
use Rattle.proxy_turns.proofs.Places.{none_moved, one_moved, some_moved}
use Rattle.proxy_turns.proofs.worker_state.WorkerState.take_told.Goals as goal

pub loop-told-init : goal.loop-told-init
loop-told-init g c = ([], refl, refl, refl)

pub loop-told-preserved : goal.loop-told-preserved
loop-told-preserved g c =
    let Q : Bool → Type 0 = λ moved. WorkerGoesBy g.C.ClientPort.moves takes_told (state_model c.args.self.now) moved (state_model c.take_one.new.self) in
    subst Q (one_moved c.loop-told.told c.in_ok-moved.moved c.if-not-moved.false) (all_then g.C.ClientPort.moves takes_told _ _ _ _ _ c.loop-told.invariant c.in_ok-moved.ensures.takes)

pub returns-in_err-moved-clause-takes : goal.returns-in_err-moved-clause-takes
returns-in_err-moved-clause-takes g c =
    let is = (err_from_is_err_and c.from_residual.result c.from_residual.ensures.1).1 in
    all_err g.C.ClientPort.moves takes_told _ _ _ _ _ _ _ c.loop-told.invariant c.in_err-moved.ensures.takes is

pub returns-then-not-moved-clause-takes : goal.returns-then-not-moved-clause-takes
returns-then-not-moved-clause-takes g c =
    let Q : Bool → Type 0 = λ moved. WorkerGoesBy g.C.ClientPort.moves takes_told (state_model c.args.self.now) moved (state_model c.take_one.new.self) in
    subst Q (none_moved c.loop-told.told c.in_ok-moved.moved c.if-not-moved.true) (all_then g.C.ClientPort.moves takes_told _ _ _ _ _ c.loop-told.invariant c.in_ok-moved.ensures.takes)

pub returns-then-not-moved-clause-none : goal.returns-then-not-moved-clause-none
returns-then-not-moved-clause-none g c = if_still (nat_lt 0 c.loop-told.told) (λ none. if_turned _ c.in_ok-moved.ensures.none c.if-not-moved.true)

pub returns-clause-takes : goal.returns-clause-takes
returns-clause-takes g c =
    let Q : Bool → Type 0 = λ moved. WorkerGoesBy g.C.ClientPort.moves takes_told (state_model c.args.self.now) moved (state_model c.loop-told.self) in
    subst Q (some_moved c.loop-told.told _ c.loop-told-test.false) c.loop-told.invariant
