use Rattle.std.proofs.Common.{◌∙◌, ap, refl}
use Rattle.resp_wire.specs.Reading.{then_read, whole}
use Rattle.resp_wire.proofs.Lines.{text_by_window, window_long}
use Rattle.resp_wire.proofs.line.text_at.Goals as goal

pub returns-then-len-limit : goal.returns-then-len-limit
returns-then-len-limit c =
    window_long c.args.bytes.now _ c.args.limit c.plain_len-len.result
    (record { size = c.min.result; small = c.min.ensures; are = refl; within = c.plain_len-len.ensures.within; plain = c.plain_len-len.ensures.plain; stops = c.plain_len-len.ensures.stops })
    c.if-len-limit.true

pub returns-in-Ok-Some : goal.returns-in-Ok-Some
returns-in-Ok-Some c =
    text_by_window c.args.bytes.now _ c.split_at.result.0.now c.split_at.result.1.now c.args.limit c.plain_len-len.result
    (record { size = c.min.result; small = c.min.ensures; are = refl; within = c.plain_len-len.ensures.within; plain = c.plain_len-len.ensures.plain; stops = c.plain_len-len.ensures.stops })
    c.if-len-limit.false c.split_at.ensures.front c.split_at.ensures.back
    ∙ ap (λ r. then_read r (λ _ rest. whole c.split_at.result.0.now rest)) (rw c.in-Ok-Some.field-0-is at c.in-Ok-Some.ensures)

pub returns-in-Ok-None : goal.returns-in-Ok-None
returns-in-Ok-None c =
    text_by_window c.args.bytes.now _ c.split_at.result.0.now c.split_at.result.1.now c.args.limit c.plain_len-len.result
    (record { size = c.min.result; small = c.min.ensures; are = refl; within = c.plain_len-len.ensures.within; plain = c.plain_len-len.ensures.plain; stops = c.plain_len-len.ensures.stops })
    c.if-len-limit.false c.split_at.ensures.front c.split_at.ensures.back
    ∙ ap (λ r. then_read r (λ _ rest. whole c.split_at.result.0.now rest)) (rw c.in-Ok-None.field-0-is at c.in-Ok-None.ensures)

pub returns-in-Err : goal.returns-in-Err
returns-in-Err c =
    text_by_window c.args.bytes.now _ c.split_at.result.0.now c.split_at.result.1.now c.args.limit c.plain_len-len.result
    (record { size = c.min.result; small = c.min.ensures; are = refl; within = c.plain_len-len.ensures.within; plain = c.plain_len-len.ensures.plain; stops = c.plain_len-len.ensures.stops })
    c.if-len-limit.false c.split_at.ensures.front c.split_at.ensures.back
    ∙ ap (λ r. then_read r (λ _ rest. whole c.split_at.result.0.now rest)) c.in-Err.ensures
