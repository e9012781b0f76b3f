use Rattle.std.proofs.Common.{refl, ◌∙◌, ap, ◌++◌, ◌∷◌, [], ℕ, List}
use Rattle.resp_wire.proofs.StepLaws.{step_end, step_whole, step_array, step_partial, step_faulty}
use Rattle.resp_wire.proofs.scan.step.Goals as goal

pub returns-then-count-eq0 : goal.returns-then-count-eq0
returns-then-count-eq0 c = step_end c.args.limits.now c.args.counts.now c.pop-count.new.self c.args.bytes.now c.pop-count.result c.pop-count.ensures c.if-count-eq0.true c.requires.few

pub returns-in-Ok-Some-Whole : goal.returns-in-Ok-Some-Whole
returns-in-Ok-Some-Whole c =
    let h = rw (c.in-Ok-Some-Whole.field-0-is, c.in-Ok-Some-Whole.field-0-0-is) at c.in-Ok-Some-Whole.ensures.head in
    let b = rw (c.in-Ok-Some-Whole.field-0-is, c.in-Ok-Some-Whole.field-0-0-is) at c.in-Ok-Some-Whole.ensures.further in
    step_whole c.args.limits.now c.args.counts.now c.pop-count.new.self c.push.new.self c.args.bytes.now c.in-Ok-Some-Whole.rest.now c.pop-count.result _ h.0 c.pop-count.ensures c.push.ensures c.if-count-eq0.false (rw (c.depth.ensures.value, c.len.ensures.value) refl) c.requires.few h.1 b

pub returns-in-Ok-Some-Array : goal.returns-in-Ok-Some-Array
returns-in-Ok-Some-Array c =
    let h = rw (c.in-Ok-Some-Array.field-0-is, c.in-Ok-Some-Array.field-0-0-is) at c.in-Ok-Some-Array.ensures.head in
    let b = rw (c.in-Ok-Some-Array.field-0-is, c.in-Ok-Some-Array.field-0-0-is) at c.in-Ok-Some-Array.ensures.further in
    step_array c.args.limits.now c.args.counts.now c.pop-count.new.self c.push-in-Ok-Some-Array-2.new.self c.args.bytes.now c.in-Ok-Some-Array.rest.now c.pop-count.result _ c.in-Ok-Some-Array.items h.0 c.pop-count.ensures (c.push-in-Ok-Some-Array-2.ensures ∙ ap (λ (u : List ℕ). u ++ c.in-Ok-Some-Array.items ∷ []) c.push-in-Ok-Some-Array.ensures) c.if-count-eq0.false (rw (c.depth.ensures.value, c.len.ensures.value) refl) c.requires.few h.1 h.2 b

pub returns-in-Ok-None : goal.returns-in-Ok-None
returns-in-Ok-None c = step_partial c.args.limits.now c.args.counts.now c.pop-count.new.self c.push-in-Ok-None.new.self c.args.bytes.now c.pop-count.result _ c.pop-count.ensures c.push-in-Ok-None.ensures c.if-count-eq0.false (rw (c.depth.ensures.value, c.len.ensures.value) refl) (rw c.in-Ok-None.field-0-is at c.in-Ok-None.ensures.head)

pub returns-in-Err : goal.returns-in-Err
returns-in-Err c = step_faulty c.args.limits.now c.args.counts.now c.pop-count.new.self c.push-in-Err.new.self c.args.bytes.now c.pop-count.result _ c.in-Err.fault c.pop-count.ensures c.push-in-Err.ensures c.if-count-eq0.false (rw (c.depth.ensures.value, c.len.ensures.value) refl) c.in-Err.ensures.head
