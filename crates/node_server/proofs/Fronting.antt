-- The value that stands first is answered.
use Rattle.std.proofs.Common.{◌≡◌, ℕ, List, true, Ok, Some, OnOk, OnErr, inl, inr, ap}
use Rattle.std.specs.Prelude.{Result}
use Rattle.resp_wire.specs.FirstValue.{ReaderTakes}
use Rattle.resp_wire.specs.ReaderModel.{ReaderModel}
use Rattle.resp_wire.specs.Seen.{data_of}
use Rattle.resp_wire.specs.declared.value.Value.{Value}
use Rattle.session_order.specs.Requests.{Words, asked_of}
use Rattle.slot_map.specs.Table.{Endpoint}
use Rattle.local_cluster.specs.Local.{LocalStateModel}
use Rattle.node_server.specs.NodeAnswers.{Answers}
use Rattle.node_server.specs.NodeConnections.{ConnectionModel, AnswersAsked, AnswersFront, Unanswered, replied}
use Rattle.node_server.specs.declared.answer.Answer.{Answer}
use Rattle.node_server.specs.declared.block.Block.{Block}
use Rattle.node_server.specs.declared.caller.Caller.{Caller}
use Rattle.node_server.proofs.Answering.{on-err, on-ok}

pub answers-whole : (table : List Endpoint) (c : ConnectionModel) (s : LocalStateModel) (value : Value) (input : ReaderModel) (c' : ConnectionModel) (s' : LocalStateModel)
    → c.reads_on ≡ true → ReaderTakes c.input (Ok (Some value)) input → AnswersAsked table (record c { input = input }) s (asked_of (data_of value)) c' s'
    → (c.reads_on ≡ true) × AnswersFront table c s c' s'
answers-whole table c s value input c' s' on takes asked = (on, inl (value, input, takes, asked))

-- A request is answered, and its reply put behind what is to be sent; or there is no memory for the reply.
module _ {R E : Type 0} (r : Result R E) (table : List Endpoint) (c c' : ConnectionModel) (s s' : LocalStateModel) (words : List (List ℕ)) (answer : Answer) (caller : Caller) (block : Block)
    (answers : Answers table c.caller c.block s words (Ok answer) caller block s') where
  pub words-answered : OnOk r (c' ≡ replied (record c { caller = caller; block = block }) answer) → OnOk r (AnswersAsked table c s (Words words) c' s')
  words-answered e = on-ok r (λ x. (answer, caller, block, answers, x)) e

  pub words-unanswered : OnErr r (c' ≡ record c { caller = caller; block = block }) → OnErr r (Unanswered table c s c' s')
  words-unanswered e = on-err r (λ x. (ap (λ (v : ConnectionModel). v.unsent) x, inr (words, answer, caller, block, answers))) e
