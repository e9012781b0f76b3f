-- What the calls of a session keep of the parts that are out.
use Rattle.std.proofs.Common.{refl}
use Rattle.session_order.specs.Turn.{blocks, waits_for}
use Rattle.session_order.specs.Kept.{CallsKeep}
use Rattle.session_order.proofs.Keeping.{blocks_eases, waits_eases, drain_keeps, ended_keeps, ended_over, feed_keeps, follower_keeps, follower_out, read_keeps, ready_keeps, ready_out}
use Rattle.session_order.proofs.Behind.{drain_parts, ended_behind, feed_parts, follower_parts, hangs_parts, read_parts, ready_parts}
use Rattle.session_order.proofs.HangingUp.{hung_keeps, hung_orders}

pub calls_keep : CallsKeep
calls_keep = record {
  feed = λ old piece result new does. record {
    out = feed_keeps blocks old piece result new does;
    order = feed_keeps waits_for old piece result new does;
    parts = feed_parts old piece result new does;
  };
  read = λ old result new does. record {
    out = read_keeps blocks old result new does;
    order = read_keeps waits_for old result new does;
    parts = read_parts old result new does;
  };
  ready = λ old given new does. (
    record {
      out = ready_keeps blocks blocks_eases old given new does;
      order = ready_keeps waits_for waits_eases old given new does;
      parts = ready_parts old given new does;
    },
    ready_out old given new does,
  );
  follower = λ old ticket given new does. (
    record {
      out = follower_keeps blocks blocks_eases old ticket given new does;
      order = follower_keeps waits_for waits_eases old ticket given new does;
      parts = follower_parts old ticket given new does;
    },
    follower_out old ticket given new does,
  );
  ended = λ old ticket end new was_out does. record {
    over = ended_over old ticket end new was_out does;
    out = ended_keeps blocks blocks_eases old ticket end new was_out does;
    order = ended_keeps waits_for waits_eases old ticket end new was_out does;
    behind = ended_behind old ticket end new was_out does;
  };
  drain = λ most old before result new after does. record {
    out = drain_keeps blocks most old before result new after does;
    order = drain_keeps waits_for most old before result new after does;
    parts = drain_parts most old before result new after does;
  };
  hang_up = λ old new does. record {
    out = hung_keeps old new does;
    order = hung_orders old new does;
    parts = hangs_parts old new does;
  };
  stop = λ held. record {
    out = λ ticket out. out;
    order = λ ticket out. out;
    parts = record { owner = (refl, refl); out = λ slot number out. out; none_opens = λ slot number less opens. opens };
  };
}
