use Rattle.std.proofs.Common.{◌≤◌, ◌++◌, ◌∙◌, true, ap, sym, length}
use Rattle.session_order.specs.Replies.{bytes_of, lines_owed}
use Rattle.session_order.proofs.Fewer.{line_written}
use Rattle.session_order.proofs.Tail.{line_behind, no_tail, still_grown}
use Rattle.session_order.proofs.replies.Due.write.Goals as goal

pub returns-then-len-written-clause-written : goal.returns-then-len-written-clause-written
returns-then-len-written-clause-written c =
    let w = c.in_ok-written.ensures.written in
    let tail = c.in_ok-written.written.tail in
    let none = no_tail c.least_tail-least.result tail (c.least_tail-least.ensures.line c.if-line_owed.true) c.in_ok-written.ensures.tail in
    let all : length c.self.inside.requests.now.items ≤ c.in_ok-written.written.requests = rw (← c.self.inside.requests.now.ok.0, ← c.len.ensures) c.if-len-written.true in rw (← c.self.view_is) (
      w.0 ++ bytes_of (lines_owed true),
      line_behind c.args.out.now.items _ _ (bytes_of (lines_owed true)) w.0 tail none w.1 c.in_ok-write_line.ensures.ok,
      line_written _ _ _ _ _ _ w.0 _ c.self.invariant.counted w.2 all (ap (λ owed. bytes_of (lines_owed owed)) (sym c.if-line_owed.true)),
    )

pub returns-then-len-written-clause-grown : goal.returns-then-len-written-clause-grown
returns-then-len-written-clause-grown c =
    let so_far = c.in_ok-written.ensures.grown in
    still_grown c.args.out.now.items _ _ so_far.0 (bytes_of (lines_owed true)) so_far.1 c.in_ok-write_line.ensures.ok

pub returns-in_err-write_line-clause-grown : goal.returns-in_err-write_line-clause-grown
returns-in_err-write_line-clause-grown c =
    let so_far = c.in_ok-written.ensures.grown in (so_far.0, c.in_err-write_line.ensures.err ∙ so_far.1)

pub returns-in_err-written-clause-grown : goal.returns-in_err-written-clause-grown
returns-in_err-written-clause-grown c = c.in_err-written.ensures.grown

pub returns-clause-grown : goal.returns-clause-grown
returns-clause-grown c = c.in_ok-written.ensures.grown
