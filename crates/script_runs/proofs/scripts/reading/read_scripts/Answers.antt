use Rattle.std.proofs.Common.{◌≡◌, ◌∙◌, Bool, Some, ap, arith}
use Rattle.cluster_world.specs.Script.{lines_of}
use Rattle.script_runs.specs.Scripts.{task_from, task_of, where_fits, with_line}
use Rattle.script_runs.proofs.Saying.{fits, one-more}
use Rattle.script_runs.proofs.scripts.reading.read_scripts.Goals as goal

pub loop-scripts-preserved : goal.loop-scripts-preserved
loop-scripts-preserved c =
    let i = c.loop-scripts.invariant in
    let read = rw c.in-Some.is at c.in_ok-words.ensures in
    let t = task_of c.loop-scripts.scripts in
    let next = task_of c.add_line.new.scripts in
    let is : with_line t c.in-Some.field-0.words ≡ Some next =
    ap (with_line t) c.in-Some-words.is ∙ c.in_ok-add_line.ensures ∙ ap (λ (b : Bool). where_fits b next) c.if-not-branch.false in
    let more = one-more t next c.in-Some-words.words (c.in_ok-add_line.ensures ∙ ap (λ (b : Bool). where_fits b next) c.if-not-branch.false) in
    record {
      says = i.says ∙ ap (task_from c.loop-scripts.number t) read.0
          ∙ fits c.loop-scripts.number t next c.in-Some.field-0.words (lines_of c.in-Some.field-0.rest.now) is;
      lines = omega (arith, i.lines, read.1);
      clients = omega (arith, i.clients, read.1, more);
    }
