use Rattle.std.proofs.Common.{◌≡◌, Err, rules}
use Rattle.turn_play.proofs.Answered.{refuse-failed, refused-replies}
use Rattle.turn_play.proofs.answering.refuse_block.Goals as goal

pub returns-in_err-write_all : goal.returns-in_err-write_all
returns-in_err-write_all c =
    let is : c.from_residual-in_err-write_all.result ≡ Err c.in_err-write_all.field-0.0 = search rules in
    refuse-failed c.args.nodes.now c.args.tolds.items c.in_err-write_all.field-0.0 c.write_all.new.said.items c.in_err-write_all.ensures c.from_residual-in_err-write_all.result is

pub returns : goal.returns
returns c = (
  c.write_all.new.said.items,
  c.in_ok-write_all.ensures,
  refused-replies c.write_all.new.said.items c.reserve.new.self.items c.push_front_reserved.new.self.items c.push_back_reserved.new.self.items c.in_ok-okay.field-0 c.in_ok-aborted.aborted c.push_back_reserved.ensures.items c.push_front_reserved.ensures.items c.in_ok-reserve.ensures.items
      c.in_ok-okay.ensures c.in_ok-aborted.ensures,
)
