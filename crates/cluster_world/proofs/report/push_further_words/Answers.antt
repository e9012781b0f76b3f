use Rattle.std.proofs.Common.{◌++◌, ◌∙◌, ap}
use Rattle.cluster_world.specs.Report.{space}
use Rattle.cluster_world.proofs.Texts.{text-more}
use Rattle.cluster_world.proofs.report.push_further_words.Goals as goal

pub loop-word-preserved : goal.loop-word-preserved
loop-word-preserved c =
    text-more (λ word. space ++ word) c.args.words.now c.loop-word.word-index c.word-item.result _ _ _ c.loop-word-test.true c.word-item.is c.loop-word.invariant (c.in_ok-push_two.ensures.ok ∙ ap (λ word. c.loop-word.out.items ++ (space ++ word)) c.as_slice.ensures)
