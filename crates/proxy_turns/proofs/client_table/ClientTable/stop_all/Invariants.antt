use Rattle.std.proofs.Common.{◌≡◌}
use Rattle.proxy_turns.proofs.StoppedClients.{first_stopped}
use Rattle.proxy_turns.proofs.client_table.ClientTable.stop_all.Given as goal

abbrev pub invariant-loop-place : goal.invariant-loop-place
invariant-loop-place g l = l.self.entries ≡ first_stopped l.place l.initial.self.entries
