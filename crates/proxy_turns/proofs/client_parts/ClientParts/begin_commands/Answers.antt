use Rattle.std.proofs.Common.{◌∙◌}
use Rattle.std.proofs.lemmas.Result.{err_from_is_err_and}
use Rattle.proxy_turns.specs.ClientTurn.{is_begin}
use Rattle.proxy_turns.proofs.Going.{goes_then, moved_by, turns_err}
use Rattle.proxy_turns.proofs.client_parts.ClientParts.begin_commands.Goals as goal

pub returns-then-not-first-clause-begins : goal.returns-then-not-first-clause-begins
returns-then-not-first-clause-begins g c = rw c.if-not-first.true at c.in_ok-first.ensures.begins

pub returns-then-not-first-clause-none : goal.returns-then-not-first-clause-none
returns-then-not-first-clause-none g c = rw c.if-not-first.true at c.in_ok-first.ensures.none

pub returns-in_err-followed-clause-begins : goal.returns-in_err-followed-clause-begins
returns-in_err-followed-clause-begins g c = λ outlet view.
    let is = (err_from_is_err_and c.from_residual-in_err-followed.result c.from_residual-in_err-followed.ensures.1).1 in
    turns_err g.C.ClientPort.moves is_begin _ _ _ _ _ _ _ (c.loop.invariant.goes outlet view) (c.in_err-followed.ensures.begins outlet view) is

pub returns-then-not-followed-clause-begins : goal.returns-then-not-followed-clause-begins
returns-then-not-followed-clause-begins g c = λ outlet view. goes_then g.C.ClientPort.moves is_begin _ _ _ _ _ (c.loop.invariant.goes outlet view) (c.in_ok-followed.ensures.begins outlet view)

pub loop-preserved : goal.loop-preserved
loop-preserved g c = record {
  gone = c.in_ok-followed.ensures.gone ∙ c.loop.invariant.gone;
  goes = λ outlet view. goes_then g.C.ClientPort.moves is_begin _ _ _ _ _ (c.loop.invariant.goes outlet view) (c.in_ok-followed.ensures.begins outlet view);
}

pub loop-init : goal.loop-init
loop-init g c = record {
  gone = c.in_ok-first.ensures.gone;
  goes = λ outlet view. moved_by g.C.ClientPort.moves is_begin _ c.in_ok-first.first _ c.if-not-first.false (c.in_ok-first.ensures.begins outlet view);
}
