use Rattle.std.proofs.Common.{arith, ap, subst, sym, ◌∙◌, ◌≡◌, length, suc}
use Rattle.std.specs.Prelude.{All}
use Rattle.std.specs.Vec.Iter.{drain_items}
use Rattle.std.proofs.lemmas.List.Elements.{All-head, All-rest}
use Rattle.command_future.specs.CommandModel.{MayPostTo}
use Rattle.proxy_turns.specs.Commands.{in_table, with_posted}
use Rattle.proxy_turns.proofs.commands.posting.keep_posted.Goals as goal

pub keep_one-requires-clause-room : goal.keep_one-requires-clause-room
keep_one-requires-clause-room c =
    let fewer : length (drain_items c.loop-command.command-iterator) ≡ suc (length (drain_items c.next.new.self)) = ap length c.in-Some.ensures.steps.0 in
    omega (arith, c.loop-command.invariant.room, fewer)

pub keep_one-requires-clause-may : goal.keep_one-requires-clause-may
keep_one-requires-clause-may c =
    All-head (λ d. MayPostTo d.stage c.args.node) c.in-Some.command (drain_items c.next.new.self) (subst (All (λ d. MayPostTo d.stage c.args.node)) c.in-Some.ensures.steps.0 c.loop-command.invariant.may)

pub loop-command-preserved : goal.loop-command-preserved
loop-command-preserved c =
    let i = c.loop-command.invariant in
    let rest = drain_items c.next.new.self in
    let left = c.in-Some.ensures.steps.0 in
    let fewer : length (drain_items c.loop-command.command-iterator) ≡ suc (length rest) = ap length left in
    record {
      room = c.keep_one.ensures.room (length rest) (omega (arith, i.room, fewer));
      may = All-rest (λ d. MayPostTo d.stage c.args.node) c.in-Some.command rest (drain_items c.loop-command.command-iterator) left i.may;
      put = ap (λ m. with_posted m rest) c.keep_one.ensures.put ∙ ap (with_posted (in_table c.loop-command.posted.entries)) (sym left) ∙ i.put;
      none = c.in-Some.ensures.steps.2.1 ∙ i.none;
    }
