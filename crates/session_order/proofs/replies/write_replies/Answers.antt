use Rattle.std.proofs.Common.{◌≡◌, ◌<◌, ◌≤◌, ◌+◌, ◌-◌, ◌∙◌, [], None, ℕ, ap, arith, drop, length, length-drop, refl, subst, sym, take}
use Rattle.std.proofs.lemmas.List.{append-nil}
use Rattle.session_order.specs.Turn.{is_done}
use Rattle.session_order.proofs.Lists.{all_take}
use Rattle.session_order.proofs.Draining.{joinable_drop}
use Rattle.session_order.proofs.Fewer.{at_place, has_parts, none_left, none_replied, one_more_replied, still_few, written_more, written_so_far}
use Rattle.session_order.proofs.Tail.{copied_so_far, ended_by_tail, still_grown, tail_enough}
use Rattle.session_order.specs.Replies.{bytes_of, parts_of, replies, reply_of}
use Rattle.session_order.proofs.replies.write_replies.Goals as goal

pub loop-i-preserved : goal.loop-i-preserved
loop-i-preserved c =
    let does = rw c.in-Whole.is at c.in_ok-count.ensures.does in
    let done = rw c.in-Whole.is at c.in_ok-count.ensures.done in
    let so_far = c.loop-i.invariant in
    let requests = c.args.requests.now.items in
    let stages = c.args.queue.now.stages in
    let ends = c.args.ends.now in
    let below : c.loop-i.i < length requests = omega (arith, c.args.requests.now.ok.0, c.len-i-end.ensures) in
    let next = c.loop-i.i + 1 in
    let more = one_more_replied c.loop-i.i c.index.result.now requests stages ends c.args.ends.now c.loop-i.parts does.0 c.in-Whole.count
    (at_place requests c.loop-i.i c.index.result.now below c.index.ensures) so_far.request_count so_far.parts refl c.requires.counted.counted does.1 in
    let few : length c.loop-i.out.items - length c.args.out.now.items < c.args.most = omega (arith, c.if-len-start.false, c.len.ensures, c.len-start.ensures, c.loop-i.out.ok.0, c.args.out.now.ok.0) in
    record {
      bound = more.bound;
      known = all_take is_done c.args.queue.now.stages c.loop-i.parts c.in-Whole.count _ refl so_far.known done;
      counted = more.counted;
      joinable = joinable_drop requests next c.requires.counted.joinable;
      written = written_more c.args.out.now.items c.loop-i.out.items c.write_reply.new.out.items (replies (take c.loop-i.i requests) stages ends [])
          (replies (take next requests) stages ends []) does.0 so_far.written does.2 more.spelled;
      parts = more.parts;
      request_count = more.left;
      no_more = still_few c.args.most c.loop-i.i requests stages ends c.args.out.now.items c.loop-i.out.items so_far.no_more so_far.written below few;
    }

pub returns-then-len-start-clause-written : goal.returns-then-len-start-clause-written
returns-then-len-start-clause-written c =
    let so_far = c.loop-i.invariant in
    let enough : c.args.most ≤ length c.loop-i.out.items - length c.args.out.now.items = omega (arith, c.if-len-start.true, c.len.ensures, c.len-start.ensures, c.loop-i.out.ok.0, c.args.out.now.ok.0) in
    copied_so_far c.args.most c.loop-i.i c.args.requests.now.items c.args.queue.now.stages c.args.ends.now c.args.out.now.items _ c.copied.result
    (written_so_far _ _ _ _ _ c.args.queue.now.stages _ _ _ so_far.request_count so_far.written so_far.no_more (λ few. absurd (omega (arith, few, enough))) refl)
    c.copied.ensures.requests c.copied.ensures.tail

pub returns-in-Nothing-clause-written : goal.returns-in-Nothing-clause-written
returns-in-Nothing-clause-written c =
    let does = rw c.in-Nothing.is at c.in_ok-count.ensures.does in
    let so_far = c.loop-i.invariant in
    let requests = c.args.requests.now.items in
    let stages = drop c.loop-i.parts c.args.queue.now.stages in
    let below : c.loop-i.i < length requests = omega (arith, c.args.requests.now.ok.0, c.len-i-end.ensures) in
    let at = at_place requests c.loop-i.i c.index.result.now below c.index.ensures in
    copied_so_far c.args.most c.loop-i.i requests c.args.queue.now.stages c.args.ends.now c.args.out.now.items _ c.copied-in-Nothing.result
    (written_so_far _ _ _ _ _ c.args.queue.now.stages _ _ _ so_far.request_count (does.1 ∙ so_far.written) so_far.no_more (λ few. none_replied c.loop-i.i _ requests stages _ at does.0) refl)
    c.copied-in-Nothing.ensures.requests c.copied-in-Nothing.ensures.tail

pub returns-clause-written : goal.returns-clause-written
returns-clause-written c =
    let so_far = c.loop-i.invariant in
    let requests = c.args.requests.now.items in
    let all : length requests ≤ c.loop-i.i = omega (arith, c.args.requests.now.ok.0, c.len-i-end.ensures) in
    let end : c.loop-i.i ≡ c.len-2.result = omega (arith, c.len-i-end.ensures, c.len-2.ensures) in
    copied_so_far c.args.most c.len-2.result requests c.args.queue.now.stages c.args.ends.now c.args.out.now.items _ c.copied-2.result
    (written_so_far _ _ _ _ _ c.args.queue.now.stages _ _ _ so_far.request_count so_far.written so_far.no_more (λ few. none_left c.loop-i.i requests _ _ all) end)
    c.copied-2.ensures.requests c.copied-2.ensures.tail

pub returns-in-Head-clause-written : goal.returns-in-Head-clause-written
returns-in-Head-clause-written c =
    let does = rw c.in-Head.is at c.in_ok-count.ensures.does in
    let large = rw c.in-Head.is at c.in_ok-count.ensures.tail in
    let so_far = c.loop-i.invariant in
    let requests = c.args.requests.now.items in
    let stages = c.args.queue.now.stages in
    let ends = c.args.ends.now in
    let below : c.loop-i.i < length requests = omega (arith, c.args.requests.now.ok.0, c.len-i-end.ensures) in
    let next = c.loop-i.i + 1 in
    let more = one_more_replied c.loop-i.i c.index.result.now requests stages ends c.args.ends.now c.loop-i.parts does.0 c.in-Head.count
    (at_place requests c.loop-i.i c.index.result.now below c.index.ensures) so_far.request_count so_far.parts refl c.requires.counted.counted does.1 in
    let few : length c.loop-i.out.items - length c.args.out.now.items < c.args.most = omega (arith, c.if-len-start.false, c.len.ensures, c.len-start.ensures, c.loop-i.out.ok.0, c.args.out.now.ok.0) in
    ended_by_tail c.args.most next _ requests stages ends c.args.out.now.items c.loop-i.out.items _ does.2.0 c.in-Head.tail
    (replies (take c.loop-i.i requests) stages ends []) does.0 more.left so_far.written does.2.1 does.2.2 more.spelled
    (tail_enough c.args.most c.args.least c.in-Head.tail c.requires.enough large)
    (still_few c.args.most c.loop-i.i requests stages ends c.args.out.now.items c.loop-i.out.items so_far.no_more so_far.written below few)

pub returns-in-Head-clause-parts : goal.returns-in-Head-clause-parts
returns-in-Head-clause-parts c =
    let does = rw c.in-Head.is at c.in_ok-count.ensures.does in
    let so_far = c.loop-i.invariant in
    let requests = c.args.requests.now.items in
    let stages = c.args.queue.now.stages in
    let ends = c.args.ends.now in
    let below : c.loop-i.i < length requests = omega (arith, c.args.requests.now.ok.0, c.len-i-end.ensures) in
    (one_more_replied c.loop-i.i c.index.result.now requests stages ends c.args.ends.now c.loop-i.parts does.0 c.in-Head.count
    (at_place requests c.loop-i.i c.index.result.now below c.index.ensures) so_far.request_count so_far.parts refl c.requires.counted.counted does.1).parts

pub returns-in-Head-clause-grown : goal.returns-in-Head-clause-grown
returns-in-Head-clause-grown c =
    let does = rw c.in-Head.is at c.in_ok-count.ensures.does in
    let so_far = bytes_of (replies (take c.loop-i.i c.args.requests.now.items) c.args.queue.now.stages c.args.ends.now []) in
    still_grown c.args.out.now.items c.loop-i.out.items _ so_far does.2.0 c.loop-i.invariant.written does.2.1

pub loop-i-init : goal.loop-i-init
loop-i-init c =
    record {
      bound = omega arith;
      known = refl;
      counted = c.requires.counted.counted;
      joinable = c.requires.counted.joinable;
      written = sym (append-nil c.args.out.now.items);
      parts = refl;
      request_count = omega arith;
      no_more = λ fewer none. absurd (omega (arith, none));
    }

pub write_reply-requires-clause-parts : goal.write_reply-requires-clause-parts
write_reply-requires-clause-parts c =
    let so_far = c.loop-i.invariant in
    let requests = c.args.requests.now.items in
    let below : c.loop-i.i < length requests = omega (arith, c.args.requests.now.ok.0, c.len-i-end.ensures) in
    let places : length c.args.ends.now ≡ length c.args.queue.now.stages = c.requires.counted.places in
    has_parts c.loop-i.i _ _ requests (at_place requests c.loop-i.i _ below c.index.ensures) so_far.joinable
    (omega (arith, so_far.counted, length-drop c.loop-i.parts c.args.queue.now.stages, places))

pub returns-clause-parts : goal.returns-clause-parts
returns-clause-parts c =
    let requests = c.args.requests.now.items in
    let end : c.loop-i.i ≡ c.len-2.result = omega (arith, c.len-i-end.ensures, c.len-2.ensures) in
    c.copied-2.ensures.parts ∙ c.loop-i.invariant.parts ∙ ap (λ (n : ℕ). parts_of (take n requests)) (end ∙ sym c.copied-2.ensures.requests)

pub returns-then-len-start-clause-grown : goal.returns-then-len-start-clause-grown
returns-then-len-start-clause-grown c = (_, c.loop-i.invariant.written)

pub returns-in_err-count-clause-grown : goal.returns-in_err-count-clause-grown
returns-in_err-count-clause-grown c = (_, c.in_err-count.ensures.does ∙ c.loop-i.invariant.written)

pub returns-in-Nothing-clause-grown : goal.returns-in-Nothing-clause-grown
returns-in-Nothing-clause-grown c = (_, (rw c.in-Nothing.is at c.in_ok-count.ensures.does).1 ∙ c.loop-i.invariant.written)

pub returns-clause-grown : goal.returns-clause-grown
returns-clause-grown c = (_, c.loop-i.invariant.written)

pub overflow_add-parts : goal.overflow_add-parts
overflow_add-parts c =
    let does = rw c.in-Whole.is at c.in_ok-count.ensures.does in
    let so_far = c.loop-i.invariant in
    let requests = c.args.requests.now.items in
    let stages = c.args.queue.now.stages in
    let ends = c.args.ends.now in
    let below : c.loop-i.i < length requests = omega (arith, c.args.requests.now.ok.0, c.len-i-end.ensures) in
    let bound = (one_more_replied c.loop-i.i c.index.result.now requests stages ends c.args.ends.now c.loop-i.parts does.0 c.in-Whole.count
    (at_place requests c.loop-i.i c.index.result.now below c.index.ensures) so_far.request_count so_far.parts refl c.requires.counted.counted does.1).bound in
    omega (arith, bound, c.requires.counted.places)

pub write_reply-requires-clause-known : goal.write_reply-requires-clause-known
write_reply-requires-clause-known c = c.loop-i.invariant.known

pub write_reply-requires-clause-places : goal.write_reply-requires-clause-places
write_reply-requires-clause-places c = c.requires.counted.places

pub write_reply-requires-clause-fits : goal.write_reply-requires-clause-fits
write_reply-requires-clause-fits c =
    let places : length c.args.ends.now ≡ length c.args.queue.now.stages = c.requires.counted.places in
    omega (arith, c.loop-i.invariant.bound, places)

pub returns-then-len-start-clause-parts : goal.returns-then-len-start-clause-parts
returns-then-len-start-clause-parts c =
    c.copied.ensures.parts ∙ c.loop-i.invariant.parts ∙ ap (λ (n : ℕ). parts_of (take n c.args.requests.now.items)) (sym c.copied.ensures.requests)

pub returns-in-Nothing-clause-parts : goal.returns-in-Nothing-clause-parts
returns-in-Nothing-clause-parts c =
    c.copied-in-Nothing.ensures.parts ∙ c.loop-i.invariant.parts ∙ ap (λ (n : ℕ). parts_of (take n c.args.requests.now.items)) (sym c.copied-in-Nothing.ensures.requests)

pub returns-then-len-start-clause-tail : goal.returns-then-len-start-clause-tail
returns-then-len-start-clause-tail c = rw c.copied.ensures.tail tt

pub returns-in-Nothing-clause-tail : goal.returns-in-Nothing-clause-tail
returns-in-Nothing-clause-tail c = rw c.copied-in-Nothing.ensures.tail tt

pub returns-clause-tail : goal.returns-clause-tail
returns-clause-tail c = rw c.copied-2.ensures.tail tt

pub returns-in-Head-clause-tail : goal.returns-in-Head-clause-tail
returns-in-Head-clause-tail c = rw c.in-Head.is at c.in_ok-count.ensures.tail

pub overflow_add-result-in-Head : goal.overflow_add-result-in-Head
overflow_add-result-in-Head c =
    let does = rw c.in-Head.is at c.in_ok-count.ensures.does in
    let so_far = c.loop-i.invariant in
    let requests = c.args.requests.now.items in
    let stages = c.args.queue.now.stages in
    let ends = c.args.ends.now in
    let below : c.loop-i.i < length requests = omega (arith, c.args.requests.now.ok.0, c.len-i-end.ensures) in
    let bound = (one_more_replied c.loop-i.i c.index.result.now requests stages ends c.args.ends.now c.loop-i.parts does.0 c.in-Head.count
    (at_place requests c.loop-i.i c.index.result.now below c.index.ensures) so_far.request_count so_far.parts refl c.requires.counted.counted does.1).bound in
    omega (arith, bound, c.requires.counted.places)
