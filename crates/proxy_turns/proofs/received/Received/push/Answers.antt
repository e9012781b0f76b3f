use Rattle.std.proofs.lemmas.Result.{err_from_is_err_and}
use Rattle.proxy_turns.proofs.Counting.{fed_counted}
use Rattle.proxy_turns.proofs.received.Received.push.Goals as goal

pub invariant_of-self-in-Ok : goal.invariant_of-self-in-Ok
invariant_of-self-in-Ok c =
    rw c.in_ok-extend_from_slice.ensures.items (fed_counted c.front_keeps_value.ensures c.front_keeps_fault.ensures _ c.args.piece.now
    c.self.inside.reader c.feed.new.reader _ c.self.invariant c.in-Ok.ensures)

pub invariant_of-self : goal.invariant_of-self
invariant_of-self c = rw c.in_err-extend_from_slice.ensures.items c.self.invariant

pub returns-in_err-extend_from_slice-clause-err : goal.returns-in_err-extend_from_slice-clause-err
returns-in_err-extend_from_slice-clause-err c =
    let is = (err_from_is_err_and c.from_residual.result c.from_residual.ensures.1).1 in
    rw is (rw (← c.self.view_is) c.in_err-extend_from_slice.ensures.items)

pub returns-in-Ok-clause-ok : goal.returns-in-Ok-clause-ok
returns-in-Ok-clause-ok c = rw (← c.self.view_is) c.in_ok-extend_from_slice.ensures.items
