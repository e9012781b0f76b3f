use Rattle.std.proofs.Common.{◌∙◌, arith, refl}
use Rattle.std.proofs.lemmas.Result.{err_from_is_err_and}
use Rattle.proxy_turns.specs.ClientTable.{IsStillAt}
use Rattle.proxy_turns.specs.WorkerModel.{serves_client}
use Rattle.proxy_turns.specs.WorkerState.{state_model}
use Rattle.proxy_turns.proofs.ClientResting.{if_still, if_turned}
use Rattle.proxy_turns.proofs.Lifting.{all_err, all_then, stays_all}
use Rattle.proxy_turns.proofs.Places.{or_false}
use Rattle.proxy_turns.proofs.Rounds.{full_on}
use Rattle.proxy_turns.proofs.Sleeping.{rests_first, rests_past, rests_too}
use Rattle.proxy_turns.proofs.worker_state.WorkerState.serve_between.Goals as goal

pub returns-in_err-moved-clause-serves : goal.returns-in_err-moved-clause-serves
returns-in_err-moved-clause-serves g c =
    let is = (err_from_is_err_and c.from_residual.result c.from_residual.ensures.1).1 in
    all_err g.C.ClientPort.moves serves_client _ _ _ _ _ _ _ c.loop-place.invariant.goes c.in_err-moved.ensures.serves is

pub returns-in_err-moved-clause-due : goal.returns-in_err-moved-clause-due
returns-in_err-moved-clause-due g c = c.in_err-moved.ensures.due ∙ c.loop-place.invariant.due

pub loop-place-init : goal.loop-place-init
loop-place-init g c = record {
  goes = stays_all g.C.ClientPort.moves serves_client _ _ refl;
  due = refl;
  rests = λ none. rests_first g.C.ClientPort.gives_none g.C.ClientPort.takes_none c.args.from c.args.self.now.clients.entries c.args.self.now.uplink.outlet;
}

pub loop-place-preserved : goal.loop-place-preserved
loop-place-preserved g c =
    let gives = g.C.ClientPort.gives_none in
    let takes = g.C.ClientPort.takes_none in
    let old = c.loop-place.self in
    let new = c.serve_client_at.new.self in
    record {
      goes = all_then g.C.ClientPort.moves serves_client _ _ _ _ _ c.loop-place.invariant.goes c.in_ok-moved.ensures.serves;
      due = c.in_ok-moved.ensures.due ∙ c.loop-place.invariant.due;
      rests = λ none. let both = or_false _ _ none in
          let still : IsStillAt gives takes old.clients.entries c.in-Some.place new.uplink.outlet new.clients.entries = if_turned _ c.in_ok-moved.ensures.rests both.1 in
          let full = full_on g.C.ClientPort.moves _ (state_model old) (state_model new) both.1 c.in_ok-moved.ensures.serves in
          let past = rests_past gives takes c.args.from c.loop-place.next c.in-Some.place c.args.self.now.clients.entries c.args.self.now.uplink.outlet old.clients.entries old.uplink.outlet (c.loop-place.invariant.rests both.0) c.in-Some.ensures.asleep in
          rests_too gives takes c.args.from c.in-Some.place c.args.self.now.clients.entries old.clients.entries new.clients.entries c.args.self.now.uplink.outlet old.uplink.outlet new.uplink.outlet full past still;
    }

pub returns-clause-serves : goal.returns-clause-serves
returns-clause-serves g c = c.loop-place.invariant.goes

pub returns-clause-rest : goal.returns-clause-rest
returns-clause-rest g c =
    if_still _ (λ none. rests_past g.C.ClientPort.gives_none g.C.ClientPort.takes_none c.args.from c.loop-place.next c.args.end c.args.self.now.clients.entries c.args.self.now.uplink.outlet c.loop-place.self.clients.entries c.loop-place.self.uplink.outlet (c.loop-place.invariant.rests none) c.in_default.ensures.asleep)

pub returns-clause-due : goal.returns-clause-due
returns-clause-due g c = c.loop-place.invariant.due
