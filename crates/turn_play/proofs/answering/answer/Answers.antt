use Rattle.std.proofs.Common.{◌≡◌, Err, rules}
use Rattle.turn_play.specs.Hearing.{item_of}
use Rattle.turn_play.proofs.Answered.{answer-failed}
use Rattle.turn_play.proofs.Overlong.{fails-true, too-long}
use Rattle.turn_play.proofs.answering.answer.Goals as goal

pub returns-in_err-replies : goal.returns-in_err-replies
returns-in_err-replies c =
    let is : c.from_residual.result ≡ Err c.in_err-replies.field-0.0 = search rules in
    answer-failed c.args.nodes.now c.args.cluster.now c.args.node c.args.asking c.args.verdict c.reply.new.cluster (item_of c.args.heard.now) c.in_err-replies.field-0.0 c.from_residual.result is c.in_err-replies.ensures.err

pub returns-then-not-are_readable : goal.returns-then-not-are_readable
returns-then-not-are_readable c =
    (c.in_ok-replies.replies.items, c.in_ok-replies.ensures.ok, too-long c.in_ok-replies.replies.items (λ all. fails-true c.are_readable.result c.if-not-are_readable.true (c.are_readable.ensures.1 all)))

pub returns : goal.returns
returns c = (c.in_ok-replies.ensures.ok, c.are_readable.ensures.0 c.if-not-are_readable.false)
