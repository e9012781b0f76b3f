use Rattle.std.proofs.Common.{Bool, [], nat_lt, refl, subst}
use Rattle.std.proofs.lemmas.Result.{err_from_is_err_and}
use Rattle.proxy_turns.specs.WorkerModel.{WorkerGoesBy, admits}
use Rattle.proxy_turns.specs.WorkerState.{state_model}
use Rattle.proxy_turns.proofs.ClientResting.{if_still, if_turned}
use Rattle.proxy_turns.proofs.Lifting.{all_err, all_then}
use Rattle.proxy_turns.proofs.Places.{none_moved, one_moved, some_moved}
use Rattle.proxy_turns.proofs.worker_state.WorkerState.admit_all.Goals as goal

pub loop-came-init : goal.loop-came-init
loop-came-init g c = ([], refl, refl, refl)

pub loop-came-preserved : goal.loop-came-preserved
loop-came-preserved g c =
    let Q : Bool → Type 0 = λ moved. WorkerGoesBy g.C.ClientPort.moves admits (state_model c.args.self.now) moved (state_model c.admit.new.self) in
    subst Q (one_moved c.loop-came.came c.in_ok-moved.moved c.if-not-moved.false) (all_then g.C.ClientPort.moves admits _ _ _ _ _ c.loop-came.invariant c.in_ok-moved.ensures.admits)

pub returns-in_err-moved-clause-admits : goal.returns-in_err-moved-clause-admits
returns-in_err-moved-clause-admits g c =
    let is = (err_from_is_err_and c.from_residual.result c.from_residual.ensures.1).1 in
    all_err g.C.ClientPort.moves admits _ _ _ _ _ _ _ c.loop-came.invariant c.in_err-moved.ensures.admits is

pub returns-then-not-moved-clause-admits : goal.returns-then-not-moved-clause-admits
returns-then-not-moved-clause-admits g c =
    let Q : Bool → Type 0 = λ moved. WorkerGoesBy g.C.ClientPort.moves admits (state_model c.args.self.now) moved (state_model c.admit.new.self) in
    subst Q (none_moved c.loop-came.came c.in_ok-moved.moved c.if-not-moved.true) (all_then g.C.ClientPort.moves admits _ _ _ _ _ c.loop-came.invariant c.in_ok-moved.ensures.admits)

pub returns-then-not-moved-clause-none : goal.returns-then-not-moved-clause-none
returns-then-not-moved-clause-none g c = if_still (nat_lt 0 c.loop-came.came) (λ none. if_turned _ c.in_ok-moved.ensures.none c.if-not-moved.true)

pub returns-clause-admits : goal.returns-clause-admits
returns-clause-admits g c =
    let Q : Bool → Type 0 = λ moved. WorkerGoesBy g.C.ClientPort.moves admits (state_model c.args.self.now) moved (state_model c.loop-came.self) in
    subst Q (some_moved c.loop-came.came _ c.loop-came-test.false) c.loop-came.invariant
