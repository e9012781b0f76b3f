use Rattle.std.proofs.Common.{ap, ◌∙◌, arith}
use Rattle.resp_wire.specs.ReaderModel.{ReaderModel}
use Rattle.proxy_turns.proofs.Counting.{ends_here, went_over, went_on, all_read}
use Rattle.proxy_turns.proofs.owing.replies_owed.Goals as goal

pub returns-in-Ends : goal.returns-in-Ends
returns-in-Ends c = ends_here _ _ _ _ c.loop-reader.invariant.goes (rw (c.in-Some.is, c.in-Ends.is) at c.in_ok-effect.ensures)

pub loop-reader-preserved-in-Skips : goal.loop-reader-preserved-in-Skips
loop-reader-preserved-in-Skips c =
    let is = c.loop-reader.invariant in
    let took = rw (c.in-Some.is, c.in-Skips.is) at c.in_ok-effect.ensures in
    record {
      bounds = ap (λ (input : ReaderModel). input.bounds) took.3 ∙ is.bounds;
      faultless = ap (λ (input : ReaderModel). input.fault) took.3 ∙ is.faultless;
      few = is.few;
      short = omega (arith, is.short, took.4);
      goes = went_over _ _ _ c.loop-reader.reader c.next_effect.new.reader is.goes took;
    }

pub loop-reader-preserved : goal.loop-reader-preserved
loop-reader-preserved c =
    let is = c.loop-reader.invariant in
    let took = rw (c.in-Some.is, c.in-Asks.is) at c.in_ok-effect.ensures in
    record {
      bounds = ap (λ (input : ReaderModel). input.bounds) took.0.3 ∙ is.bounds;
      faultless = ap (λ (input : ReaderModel). input.fault) took.0.3 ∙ is.faultless;
      few = took.1;
      short = omega (arith, is.short, took.0.4);
      goes = went_on _ _ _ _ c.loop-reader.reader c.next_effect.new.reader is.goes took.0;
    }

pub returns : goal.returns
returns c = all_read _ _ _ _ c.loop-reader.invariant.goes (rw c.in_default.is at c.in_ok-effect.ensures)
