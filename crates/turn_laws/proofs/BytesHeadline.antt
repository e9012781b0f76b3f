-- The headline in bytes, from its three parts.
use Rattle.resp_wire.specs.Laws.{FrontIsFaulty, FrontIsWhole}
use Rattle.key_split.specs.Laws.{PlansArePlain}
use Rattle.session_order.specs.Life.{DrainsOutput}
use Rattle.turn_laws.specs.BytesHeadline.{HeadlineOfBytes}
use Rattle.turn_laws.proofs.ArrivalsSent.{shared-arrivals-are-sent}
use Rattle.turn_laws.proofs.LoggedFronts.{shared-log-is-written}
use Rattle.turn_laws.proofs.LogsOfSystems.{headline-of-shared-logs}

pub headline-of-bytes : (C J : Type 0) → DrainsOutput → FrontIsWhole → FrontIsFaulty → PlansArePlain → HeadlineOfBytes C J
headline-of-bytes C J drains whole faulty plain s s' events start steps = record {
  sent = shared-arrivals-are-sent C J drains whole faulty plain s s' events start steps;
  headline = headline-of-shared-logs C J plain s s' events start steps;
  written = shared-log-is-written C J drains whole faulty plain s s' events start steps;
}
