use Rattle.std.proofs.Common.{List, Ok, refl, subst, sym, ap, ◌∙◌}
use Rattle.std.proofs.lemmas.Bool.{false≢true}
use Rattle.key_split.specs.PartModel.{PartModel}
use Rattle.key_split.specs.Plan.{plan_of, PlanAnswer}
use Rattle.node_model.specs.Nodes.{ClusterModel}
use Rattle.node_server.specs.NodeAnswers.{planned, Queues, QueuesParts}
use Rattle.node_server.specs.declared.answer.Answer.{Answer}
use Rattle.node_server.specs.declared.answer.Answer.TheVariants.{Says, Closes}
use Rattle.node_server.specs.declared.block.Block.TheVariants.{Aborted}
use Rattle.node_server.proofs.Answering.{if-ok, planned-ok, planned-err}
use Rattle.node_server.proofs.block_answer.queue_command.Goals as goal
use Rattle.node_server.proofs.block_answer.queue_command.Goals.{in-Array-1, in-One-1}

pub returns-in-Ok-Local-clause-answer : goal.returns-in-Ok-Local-clause-answer
unfolding planned
returns-in-Ok-Local-clause-answer c =
    let is = planned-ok (plan_of c.args.words.now) c.in-Ok-Local.field-0 c.in-Ok-Local.ensures.value ∙ ap Ok c.in-Ok-Local.field-0-is in
    if-ok c.abort_with.result (λ (answer : Answer) h.
    subst (λ (p : PlanAnswer). Queues c.args.table.now c.args.node c.args.block.now c.args.state.now.nodes p answer c.abort_with.new.block) (sym is) h) c.abort_with.ensures.answer

pub returns-in-Ok-Close-clause-answer : goal.returns-in-Ok-Close-clause-answer
unfolding planned
returns-in-Ok-Close-clause-answer c =
    let is = planned-ok (plan_of c.args.words.now) c.in-Ok-Close.field-0 c.in-Ok-Close.ensures.value ∙ ap Ok c.in-Ok-Close.field-0-is in
    subst (λ (p : PlanAnswer). Queues c.args.table.now c.args.node c.args.block.now c.args.state.now.nodes p (Closes c.in_ok-simple_line-in-Ok-Close.field-0) c.args.block.now) (sym is)
    (ap Closes c.in_ok-simple_line-in-Ok-Close.ensures, refl)

pub returns-in-Ok-Parts-clause-answer : goal.returns-in-Ok-Parts-clause-answer
unfolding planned
returns-in-Ok-Parts-clause-answer c =
    let is = planned-ok (plan_of c.args.words.now) c.in-Ok-Parts.field-0 c.in-Ok-Parts.ensures.value ∙ ap Ok c.in-Ok-Parts.field-0-is in
    let whole = if-ok c.queue_parts.result (λ (answer : Answer) h.
    subst (λ (p : PlanAnswer). Queues c.args.table.now c.args.node c.args.block.now c.args.state.now.nodes p answer c.queue_parts.new.block) (sym is)
    (subst (λ (x : ClusterModel × List PartModel). QueuesParts c.args.table.now c.args.node c.args.block.now x.0 x.1 answer c.queue_parts.new.block) (λ i. (c.cluster.ensures.value i, c.into_vec.ensures i)) h)) c.queue_parts.ensures.answer in
    elim c.match-this.branch [ in-Array-1 w ↦ whole | in-One-1 w ↦ whole ]

pub returns-clause-answer : goal.returns-clause-answer
unfolding planned
returns-clause-answer c =
    let is = planned-err (plan_of c.args.words.now) c.in-Err.why (λ e. absurd (false≢true (c.in_ok-line-in-Err.ensures.no_memory e))) c.in-Err.ensures.value in
    subst (λ (p : PlanAnswer). Queues c.args.table.now c.args.node c.args.block.now c.args.state.now.nodes p (Says c.in_ok-line-in-Err.line) Aborted) (sym is) (ap Says c.in_ok-line-in-Err.ensures.value, refl)
