use Rattle.std.proofs.Common.{refl, ap, arith, length, length-append}
use Rattle.session_order.specs.Replies.{bytes_behind}
use Rattle.proxy_turns.proofs.Draining.{drained_behind, tail_waits}
use Rattle.proxy_turns.proofs.unpushed.Unpushed.drain.Goals as goal

pub returns-then-not-is_empty : goal.returns-then-not-is_empty
returns-then-not-is_empty c =
    rw (← c.self.view_is) (record { does = (tail_waits c.is_empty.result _ c.self.inside.tail c.is_empty.ensures c.if-not-is_empty.true, refl, refl) })

pub returns : goal.returns
returns c =
    let given = c.in_ok-drained.drained in
    let none = c.is_empty.ensures.0 c.if-not-is_empty.false in
    rw (← c.self.view_is, c.new.ensures)
    (record { does = drained_behind c.args.most c.self.inside.pushed given.count _ _ c.self.inside.bytes.items _ c.self.inside.tail (bytes_behind given.tail) c.self.invariant none c.in_ok-drained.ensures.grown c.in_ok-drained.ensures.does })

pub invariant_of-self-2 : goal.invariant_of-self-2
invariant_of-self-2 c =
    let grown = c.in_ok-drained.ensures.grown in
    omega (arith, c.self.invariant, ap length grown.1, length-append c.self.inside.bytes.items grown.0)
