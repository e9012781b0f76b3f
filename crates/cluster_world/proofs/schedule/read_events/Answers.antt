use Rattle.std.proofs.Common.{sym, ap, arith, ◌∙◌}
use Rattle.cluster_world.specs.Schedule.{event_of}
use Rattle.cluster_world.proofs.Headers.{no_event_here, no_words_no_event, one_event}
use Rattle.cluster_world.proofs.schedule.read_events.Goals as goal

pub returns-in_default-words : goal.returns-in_default-words
returns-in_default-words c =
    let read = rw c.in-Some.is at c.in_ok-words.ensures in
    no_event_here c.args.workers c.loop-events.number _ c.loop-events.rest.now c.in-Some.field-0.rest.now c.in-Some.field-0.words c.loop-events.events.items c.loop-events.invariant.0 read.0
    (no_words_no_event c.args.workers c.in-Some.field-0.words (sym c.in_default-words.is))

pub loop-events-preserved : goal.loop-events-preserved
loop-events-preserved c =
    let read = rw c.in-Some.is at c.in_ok-words.ensures in (
      one_event c.args.workers c.loop-events.number _ c.loop-events.rest.now c.in-Some.field-0.rest.now c.in-Some.field-0.words c.in-Some-2.event c.loop-events.events.items _ c.loop-events.invariant.0 read.0
          (sym c.in-Some-2.is ∙ c.in_ok-event.ensures ∙ ap (event_of c.args.workers) (sym c.in-Some-words.is)) c.in_ok-push.ensures.items,
      omega (arith, c.loop-events.invariant.1, read.1),
    )
