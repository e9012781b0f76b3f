use Rattle.std.proofs.Common.{List, Ok, refl, subst, sym, ap, ◌∙◌}
use Rattle.std.proofs.lemmas.Bool.{false≢true}
use Rattle.key_split.specs.PartModel.{PartModel}
use Rattle.key_split.specs.Plan.{plan_of, PlanAnswer}
use Rattle.node_server.specs.NodeAnswers.{planned, AnswersPlan, AnswersParts}
use Rattle.node_server.specs.declared.answer.Answer.{Answer}
use Rattle.node_server.specs.declared.answer.Answer.TheVariants.{Says, Closes}
use Rattle.node_server.proofs.Answering.{if-ok, planned-ok, planned-err}
use Rattle.node_server.proofs.answer.answer_command.Goals as goal
use Rattle.node_server.proofs.answer.answer_command.Goals.{in-Array-1, in-One-1}

pub returns-in-Ok-Local-clause-answer : goal.returns-in-Ok-Local-clause-answer
unfolding planned
returns-in-Ok-Local-clause-answer c =
    let is = planned-ok (plan_of c.args.words.now) c.in-Ok-Local.field-0 c.in-Ok-Local.ensures.value ∙ ap Ok c.in-Ok-Local.field-0-is in
    subst (λ (p : PlanAnswer). AnswersPlan c.args.table.now c.args.caller c.args.state.now p (Says c.in-Ok-Local.reply) c.args.state.now) (sym is) (refl, refl)

pub returns-in-Ok-Close-clause-answer : goal.returns-in-Ok-Close-clause-answer
unfolding planned
returns-in-Ok-Close-clause-answer c =
    let is = planned-ok (plan_of c.args.words.now) c.in-Ok-Close.field-0 c.in-Ok-Close.ensures.value ∙ ap Ok c.in-Ok-Close.field-0-is in
    subst (λ (p : PlanAnswer). AnswersPlan c.args.table.now c.args.caller c.args.state.now p (Closes c.in_ok-simple_line-in-Ok-Close.field-0) c.args.state.now) (sym is) (ap Closes c.in_ok-simple_line-in-Ok-Close.ensures, refl)

pub returns-in-Ok-Parts-clause-answer : goal.returns-in-Ok-Parts-clause-answer
unfolding planned
returns-in-Ok-Parts-clause-answer c =
    let is = planned-ok (plan_of c.args.words.now) c.in-Ok-Parts.field-0 c.in-Ok-Parts.ensures.value ∙ ap Ok c.in-Ok-Parts.field-0-is in
    let whole = if-ok c.answer_parts.result (λ (answer : Answer) h.
    subst (λ (p : PlanAnswer). AnswersPlan c.args.table.now c.args.caller c.args.state.now p answer c.answer_parts.new.state) (sym is)
    (subst (λ (ps : List PartModel). AnswersParts c.args.table.now c.args.caller c.args.state.now ps answer c.answer_parts.new.state) c.into_vec.ensures h)) c.answer_parts.ensures.answer in
    elim c.match-this.branch [ in-Array-1 w ↦ whole | in-One-1 w ↦ whole ]

pub returns-clause-answer : goal.returns-clause-answer
unfolding planned
returns-clause-answer c =
    let is = planned-err (plan_of c.args.words.now) c.in-Err.why (λ e. absurd (false≢true (c.in_ok-refusal-in-Err.ensures.no_memory e))) c.in-Err.ensures.value in
    subst (λ (p : PlanAnswer). AnswersPlan c.args.table.now c.args.caller c.args.state.now p (Says c.in_ok-refusal-in-Err.field-0) c.args.state.now) (sym is) (ap Says c.in_ok-refusal-in-Err.ensures.value, refl)
