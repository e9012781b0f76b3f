use Rattle.std.proofs.Common.{ℕ, List, Ok, OnOk, OnErr, subst}
use Rattle.session_order.specs.Requests.{Words}
use Rattle.node_server.specs.contracts.connection.Connection.{the_view}
use Rattle.node_server.specs.NodeAnswers.{Answers}
use Rattle.node_server.specs.NodeConnections.{ConnectionModel, AnswersAsked, Unanswered}
use Rattle.node_server.proofs.Fronting.{words-answered, words-unanswered}
use Rattle.node_server.proofs.connection.Connection.answer_words.Goals as goal

pub returns-clause-answered : goal.returns-clause-answered
returns-clause-answered c =
    let answers = subst (λ (words : List (List ℕ)). Answers c.args.table.now c.self.inside.caller c.self.inside.block c.args.state.now words (Ok c.in_ok-answer.answer) c.answer_request.new.caller c.answer_request.new.block c.answer_request.new.state) c.as_slice.ensures c.in_ok-answer.ensures in
    subst (λ (v : ConnectionModel). OnOk c.reply.result (AnswersAsked c.args.table.now v c.args.state.now (Words c.args.words.now) c.reply.new.self c.answer_request.new.state)) c.self.view_is
    (words-answered c.reply.result c.args.table.now (the_view c.self.inside) c.reply.new.self c.args.state.now c.answer_request.new.state c.args.words.now c.in_ok-answer.answer c.answer_request.new.caller c.answer_request.new.block answers c.reply.ensures.ok)

pub returns-clause-unanswered : goal.returns-clause-unanswered
returns-clause-unanswered c =
    let answers = subst (λ (words : List (List ℕ)). Answers c.args.table.now c.self.inside.caller c.self.inside.block c.args.state.now words (Ok c.in_ok-answer.answer) c.answer_request.new.caller c.answer_request.new.block c.answer_request.new.state) c.as_slice.ensures c.in_ok-answer.ensures in
    subst (λ (v : ConnectionModel). OnErr c.reply.result (Unanswered c.args.table.now v c.args.state.now c.reply.new.self c.answer_request.new.state)) c.self.view_is
    (words-unanswered c.reply.result c.args.table.now (the_view c.self.inside) c.reply.new.self c.args.state.now c.answer_request.new.state c.args.words.now c.in_ok-answer.answer c.answer_request.new.caller c.answer_request.new.block answers c.reply.ensures.err)
