use Rattle.std.proofs.Common.{ℕ, ◌<◌, ◌≤◌, get_or, length}
use Rattle.socket_proxy.proofs.emptiest.emptiest.Given as goal

-- of the workers so far
abbrev pub invariant-loop-worker : goal.invariant-loop-worker
invariant-loop-worker l = (l.emptiest < length l.clients) × ((other : ℕ) → other < l.worker → get_or l.clients l.emptiest 0 ≤ get_or l.clients other 0)
