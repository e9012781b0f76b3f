use Rattle.cluster_world.specs.Report.{answer_line}
use Rattle.cluster_world.proofs.Texts.{text-more}
use Rattle.cluster_world.proofs.report.push_answers.Goals as goal

pub loop-answer-preserved : goal.loop-answer-preserved
loop-answer-preserved c =
    text-more answer_line c.args.answers.now c.loop-answer.answer-index c.answer-item.result _ _ _ c.loop-answer-test.true c.answer-item.is c.loop-answer.invariant c.in_ok-push_answer.ensures.ok
