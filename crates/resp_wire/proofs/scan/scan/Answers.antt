use Rattle.std.proofs.Common.{◌∙◌, ap, sym, ◌++◌, ℕ, List, append_assoc}
use Rattle.resp_wire.specs.Resume.{Steps}
use Rattle.resp_wire.proofs.scan.scan.Goals as goal

pub loop-counts-preserved : goal.loop-counts-preserved
loop-counts-preserved c =
    let s : Steps c.args.limits.now c.loop-counts.counts c.loop-counts.bytes.now c.step.new.counts c.in-Ok-Some.rest.now = rw c.in-Ok-Some.field-0-is at c.in-Ok-Some.ensures in
    let f = c.loop-counts.invariant.front in
    record {
      few = s.few;
      goes_on = λ more. c.loop-counts.invariant.goes_on more ∙ s.goes_on more;
      front = (f.0 ++ s.front.0, f.1 ∙ ap (λ (u : List ℕ). f.0 ++ u) s.front.1 ∙ sym (append_assoc f.0 s.front.0 c.in-Ok-Some.rest.now));
    }
