use Rattle.socket_proxy.specs.LingerEnd.{SaysGone, is_gone}
use Rattle.socket_proxy.proofs.linger_end.has_closed.Given as goal

-- the last read gave this
abbrev pub invariant-loop : goal.invariant-loop
invariant-loop g l = SaysGone g.S.Stream.asked (is_gone l.flow) l.stream
