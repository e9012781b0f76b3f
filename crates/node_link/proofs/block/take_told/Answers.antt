use Rattle.std.proofs.Common.{◌≡◌, ◌+◌, ◌-◌, List, arith, drop, refl, rules, take}
use Rattle.resp_wire.specs.declared.value.Value.{Value}
use Rattle.node_link.proofs.Answering.{executed, none_executed, refused}
use Rattle.node_link.proofs.block.take_told.Goals as goal

pub returns-then-not-is_error : goal.returns-then-not-is_error
returns-then-not-is_error c =
    let all = executed c.args.count _ _ c.index.result.now c.pop-executed.result _ (search rules) c.requires (search rules) c.index.ensures (search rules) c.pop-executed.ensures.value c.items_backwards.ensures in
    (all.0, search rules, all.1)

pub returns-in-Ok : goal.returns-in-Ok
returns-in-Ok c =
    let queued : List Value = take (c.args.count + 1 - 1) (drop 1 c.deref-2.result.now) in
    let span : c.args.count + 1 - 1 ≡ c.args.count = omega arith in
    let same : c.deref-2.result.now ≡ c.args.replies.now.items = search rules in
    let cut : queued ≡ take c.args.count (drop 1 c.args.replies.now.items) = rw (span, same) refl in
    let all = refused c.args.count c.args.replies.now.items queued c.index.result.now c.index-2.result.now c.in-Ok.value c.requires (search rules) c.index.ensures (search rules) c.index-2.ensures cut (search rules) in
    (all.0, search rules, all.1)

pub returns-in-Err : goal.returns-in-Err
returns-in-Err c = (refl, none_executed c.args.count c.args.replies.now.items c.index.result.now c.requires (search rules) c.index.ensures (search rules))
