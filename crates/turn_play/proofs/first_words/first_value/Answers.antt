use Rattle.std.proofs.Common.{◌≡◌, ◌∙◌, ◌+◌, ◌-◌, ℕ, [], Err, None, ap, arith, drop, length, rules, subst, sym, take}
use Rattle.turn_play.specs.Hearing.{FindsValue}
use Rattle.turn_play.proofs.Feeding.{next-fails, next-short, next-whole, nothing-fed}
use Rattle.turn_play.proofs.first_words.first_value.Goals as goal

pub loop-at-init : goal.loop-at-init
loop-at-init c =
    let begun = nothing-fed c.args.bytes.now c.new-reader.result (c.new-reader.ensures ∙ (λ i. record { bounds = c.full.ensures i; unread = []; fault = None })) in
    record { reader = begun.0; none = begun.1 }

-- the piece that is fed is one byte
one : (n : ℕ) → n + 1 - n ≡ 1
one n = omega arith

pub returns-in_err-value : goal.returns-in_err-value
returns-in_err-value c =
    let at = c.loop-at.at in
    let bytes = c.args.bytes.now in
    let is : c.from_residual-in_err-value.result ≡ Err c.in_err-value.field-0.0 = search rules in
    subst (FindsValue bytes) (sym is)
    (next-fails bytes at c.loop-at-test.true c.loop-at.reader c.loop-at.invariant.reader (take (at + 1 - at) (drop at bytes)) (ap (λ n. take n (drop at bytes)) (one at)) c.feed.new.self c.in_ok-feed.ensures c.in_err-value.field-0.0 c.next.new.self c.in_err-value.ensures.takes)

pub loop-at-preserved : goal.loop-at-preserved
loop-at-preserved c =
    let at = c.loop-at.at in
    let bytes = c.args.bytes.now in
    let short = next-short bytes at c.loop-at-test.true c.loop-at.reader c.loop-at.invariant.reader (take (at + 1 - at) (drop at bytes)) (ap (λ n. take n (drop at bytes)) (one at)) c.feed.new.self c.in_ok-feed.ensures c.next.new.self (rw c.in_default.is at c.in_ok-value.ensures.takes) in
    record { reader = short.0; none = short.1 }

pub returns-in-loop-at : goal.returns-in-loop-at
returns-in-loop-at c =
    let at = c.loop-at.at in
    let bytes = c.args.bytes.now in
    next-whole bytes at c.loop-at-test.true c.loop-at.reader c.loop-at.invariant.reader (take (at + 1 - at) (drop at bytes)) (ap (λ n. take n (drop at bytes)) (one at)) c.feed.new.self c.in_ok-feed.ensures c.in-Some.value c.next.new.self c.loop-at.invariant.none (rw c.in-Some.is at c.in_ok-value.ensures.takes)
