use Rattle.std.proofs.Common.{◌≡◌, false, nat_lt}
use Rattle.proxy_turns.specs.ClientTurn.{ClientGoesBy, is_send}
use Rattle.proxy_turns.proofs.client_parts.ClientParts.send.Given as goal

abbrev pub invariant-loop-sent : goal.invariant-loop-sent
invariant-loop-sent g l = record {
  goes : ClientGoesBy g.C.ClientPort.moves is_send (record { client = l.initial.self; outlet = l.initial.uplink.outlet; view = l.initial.uplink.view }) (nat_lt 0 l.sent)
      (record { client = l.self; outlet = l.uplink.outlet; view = l.uplink.view });
  same : nat_lt 0 l.sent ≡ false → l.self ≡ l.initial.self;
}
