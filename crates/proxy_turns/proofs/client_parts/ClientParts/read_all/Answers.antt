use Rattle.std.proofs.lemmas.Result.{err_from_is_err_and}
use Rattle.proxy_turns.specs.ClientTurn.{is_read}
use Rattle.proxy_turns.proofs.Going.{goes_seen, goes_then, turns_err}
use Rattle.proxy_turns.proofs.client_parts.ClientParts.read_all.Goals as goal

pub returns-then-not-first-clause-reads : goal.returns-then-not-first-clause-reads
returns-then-not-first-clause-reads g c = rw c.if-not-first.true at c.in_ok-first.ensures.reads

pub returns-then-not-first-clause-none : goal.returns-then-not-first-clause-none
returns-then-not-first-clause-none g c = rw c.if-not-first.true at c.in_ok-first.ensures.none

pub returns-in_err-read-clause-reads : goal.returns-in_err-read-clause-reads
returns-in_err-read-clause-reads g c = λ outlet view.
    let is = (err_from_is_err_and c.from_residual-in_err-read.result c.from_residual-in_err-read.ensures.1).1 in
    turns_err g.C.ClientPort.moves is_read _ _ _ _ _ _ _ (c.loop-count.invariant outlet view) (c.in_err-read.ensures.reads outlet view) is

pub returns-then-not-read-clause-reads : goal.returns-then-not-read-clause-reads
returns-then-not-read-clause-reads g c = λ outlet view. goes_seen g.C.ClientPort.moves is_read _ _ c.read-in-loop-count.new.self _ outlet view c.self.view_is (goes_then g.C.ClientPort.moves is_read _ _ _ _ _ (c.loop-count.invariant outlet view) (c.in_ok-read.ensures.reads outlet view))

pub returns-clause-reads : goal.returns-clause-reads
returns-clause-reads g c = λ outlet view. goes_seen g.C.ClientPort.moves is_read _ _ c.loop-count.self _ outlet view c.self-2.view_is (c.loop-count.invariant outlet view)

pub loop-count-init : goal.loop-count-init
loop-count-init g c = λ outlet view. rw c.if-not-first.false at (c.in_ok-first.ensures.reads outlet view)

pub loop-count-preserved : goal.loop-count-preserved
loop-count-preserved g c = λ outlet view. goes_then g.C.ClientPort.moves is_read _ _ _ _ _ (c.loop-count.invariant outlet view) (c.in_ok-read.ensures.reads outlet view)
