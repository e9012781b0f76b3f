use Rattle.std.proofs.Common.{◌≡◌, true, Ok, Some, rules, subst}
use Rattle.resp_wire.specs.FirstValue.{ReaderTakes}
use Rattle.node_server.specs.contracts.connection.Connection.{the_view}
use Rattle.node_server.specs.NodeConnections.{ConnectionModel, AnswersFront}
use Rattle.node_server.proofs.Fronting.{answers-whole}
use Rattle.node_server.proofs.connection.Connection.answer_next.Goals as goal

pub returns-in_ok-answer_value-in-Whole : goal.returns-in_ok-answer_value-in-Whole
returns-in_ok-answer_value-in-Whole c =
    let on : c.self.inside.reads_on ≡ true = search (rules, c.if-not-self.false) in
    let takes : ReaderTakes c.self.inside.reader (Ok (Some c.in-Whole.value)) c.take_next.new.reader = rw c.in-Whole.is at c.in_ok-value.ensures in
    subst (λ (v : ConnectionModel). (v.reads_on ≡ true) × AnswersFront c.args.table.now v c.args.state.now c.answer_value.new.self c.answer_value.new.state) c.self.view_is
    (answers-whole c.args.table.now (the_view c.self.inside) c.args.state.now c.in-Whole.value c.take_next.new.reader c.answer_value.new.self c.answer_value.new.state on takes c.in_ok-answer_value-in-Whole.ensures.answered)
