use Rattle.std.proofs.Common.{◌≡◌, ◌∙◌, ◌∷◌, ◌++◌, [], ap, arith, false, map, subst, true}
use Rattle.resp_wire.specs.Data.{array, items_of}
use Rattle.resp_wire.specs.Seen.{data_of}
use Rattle.resp_wire.specs.declared.value.Value.TheVariants.{Array}
use Rattle.turn_play.specs.Answering.{IsDoneRun}
use Rattle.turn_play.proofs.Answered.{block-done, refused-err, refused-ok}
use Rattle.turn_play.proofs.Said.{told-length}
use Rattle.turn_play.proofs.answering.serve_block.Goals as goal

pub returns-then-not-is_done-clause-ok : goal.returns-then-not-is_done-clause-ok
returns-then-not-is_done-clause-ok c =
    let done = subst (λ ts. IsDoneRun ts false) c.as_slice.ensures.value (subst (λ b. IsDoneRun c.as_slice.result.now b) c.if-not-is_done.true c.is_done.ensures) in
    refused-ok c.args.nodes.now c.args.cluster.now c.args.node c.args.asking c.args.parts.now c.args.verdict c.serve_run.new.self c.in_ok-tolds.tolds c.in_ok-tolds.ensures c.refuse_block.result c.requires.some done c.refuse_block.ensures

pub returns-then-not-is_done-clause-err : goal.returns-then-not-is_done-clause-err
returns-then-not-is_done-clause-err c =
    let done = subst (λ ts. IsDoneRun ts false) c.as_slice.ensures.value (subst (λ b. IsDoneRun c.as_slice.result.now b) c.if-not-is_done.true c.is_done.ensures) in
    refused-err c.args.nodes.now c.args.cluster.now c.args.node c.args.asking c.args.parts.now c.args.verdict c.serve_run.new.self c.in_ok-tolds.tolds c.in_ok-tolds.ensures c.refuse_block.result c.requires.some done c.refuse_block.ensures

pub values_of-values-requires-clause-room : goal.values_of-values-requires-clause-room
values_of-values-requires-clause-room c =
    let many = told-length c.args.nodes.now c.args.cluster.now c.args.node c.args.asking c.args.parts.now c.args.verdict c.serve_run.new.self c.in_ok-tolds.tolds c.in_ok-tolds.ensures in
    omega (arith, many, c.in_ok-room.ensures.exact)

pub returns-clause-ok : goal.returns-clause-ok
returns-clause-ok c =
    let done = subst (λ ts. IsDoneRun ts true) c.as_slice.ensures.value (subst (λ b. IsDoneRun c.as_slice.result.now b) c.if-not-is_done.false c.is_done.ensures) in
    let exec = Array c.new.result in
    block-done c.args.nodes.now c.args.cluster.now c.args.node c.args.asking c.args.parts.now c.args.verdict c.serve_run.new.self c.in_ok-tolds.tolds c.in_ok-tolds.ensures exec c.push_back_reserved.new.self.items done
    (ap (λ ds. array (items_of ds)) (c.new.ensures ∙ ap (map data_of) c.values_of-values.ensures)) (c.push_back_reserved.ensures.items ∙ ap (λ rs. rs ++ exec ∷ []) c.in_ok-replies.ensures.items)
