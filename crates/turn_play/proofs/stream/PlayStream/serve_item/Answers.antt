use Rattle.std.proofs.Common.{◌≡◌, ◌∙◌, ◌≤◌, ◌++◌, ◌+◌, Err, ap, arith, refl, rules}
use Rattle.std.specs.Prelude.{is_ok}
use Rattle.std.specs.VecDeque.{deque_capacity, deque_len}
use Rattle.turn_play.specs.Answering.{all_bytes}
use Rattle.turn_play.specs.Hearing.{item_of}
use Rattle.turn_play.specs.declared.fault.PlayFault.TheVariants.{NoMemory}
use Rattle.turn_play.proofs.Answered.{replies-fit}
use Rattle.turn_play.proofs.Streamed.{appended, first-back, item-refused, item-served, same-stream}
use Rattle.turn_play.proofs.stream.PlayStream.serve_item.Goals as goal

pub returns-in_err-reserve : goal.returns-in_err-reserve
returns-in_err-reserve c =
    let is : c.from_residual.result ≡ Err NoMemory = search rules in
    let s = c.self.inside in
    item-refused c.args.self.now s.unserved s.spelled s.replies.items s.asking s.broken s.most c.self.view_is c.args.nodes.now c.args.cluster.now c.args.node c.args.verdict c.args.cluster.now (item_of c.args.heard.now) NoMemory refl _
    (same-stream c.args.self.now s.unserved s.spelled s.replies.items s.asking s.broken s.most c.self.view_is s.spelled c.reserve.new.self.items (ap (λ rs. s.spelled ++ all_bytes rs) c.in_err-reserve.ensures.items)) c.from_residual.result is

pub returns-in_err-said : goal.returns-in_err-said
returns-in_err-said c =
    let is : c.from_residual-in_err-said.result ≡ Err c.in_err-said.field-0.0 = search rules in
    let s = c.self.inside in
    item-refused c.args.self.now s.unserved s.spelled s.replies.items s.asking s.broken s.most c.self.view_is c.args.nodes.now c.args.cluster.now c.args.node c.args.verdict c.answer.new.cluster (item_of c.args.heard.now) c.in_err-said.field-0.0
    c.in_err-said.ensures _ (same-stream c.args.self.now s.unserved s.spelled s.replies.items s.asking s.broken s.most c.self.view_is s.spelled c.reserve.new.self.items (ap (λ rs. s.spelled ++ all_bytes rs) c.in_ok-reserve.ensures.items)) c.from_residual-in_err-said.result is

pub returns : goal.returns
returns c =
    let s = c.self.inside in
    let says = c.in_ok-said.ensures in
    let item = item_of c.args.heard.now in
    let fits = replies-fit c.args.nodes.now c.args.cluster.now c.args.node s.asking c.args.verdict c.answer.new.cluster item c.in_ok-said.said.items says.0 in
    let room : deque_len c.reserve.new.self + deque_len c.in_ok-said.said ≤ deque_capacity c.reserve.new.self = omega (arith, fits, c.most_replies.ensures, c.in_ok-reserve.ensures.ok, c.in_ok-said.said.ok.0) in
    let behind : c.append.new.self.items ≡ c.reserve.new.self.items ++ c.in_ok-said.said.items = appended (is_ok c.append.result) _ _ _ (c.append.ensures.succeeds room) c.append.ensures.items in
    item-served c.args.self.now s.unserved s.spelled s.replies.items s.asking s.broken s.most c.self.view_is c.args.nodes.now c.args.cluster.now c.args.node c.args.verdict c.answer.new.cluster item c.args.count c.in_ok-said.said.items
    (first-back c.args.self.now s.unserved s.spelled s.replies.items s.asking s.broken s.most c.self.view_is item c.args.count c.requires.first) says.0 says.1 c.skip.new.self c.skip.ensures c.append.new.self.items
    (behind ∙ ap (λ vs. vs ++ c.in_ok-said.said.items) c.in_ok-reserve.ensures.items) c.asking_after-self-inside.result c.asking_after-self-inside.ensures
