use Rattle.std.proofs.Common.{◌∙◌, ap, refl, length, arith}
use Rattle.proxy_turns.proofs.StoppedClients.{all_stopped, length_stopped, next_stopped}
use Rattle.proxy_turns.proofs.client_table.ClientTable.stop_all.Goals as goal

pub loop-place-init : goal.loop-place-init
loop-place-init g c = refl

pub loop-place-preserved : goal.loop-place-preserved
loop-place-preserved g c = next_stopped c.loop-place.place c.args.self.now.entries c.loop-place.self.entries c.stop_at.new.self.entries c.loop-place.invariant c.stop_at.ensures

pub returns-clause-stopped : goal.returns-clause-stopped
returns-clause-stopped g c = all_stopped c.loop-place.place c.args.self.now.entries c.loop-place.self.entries (omega (arith, c.len-count.ensures.len, c.loop-place-test.false)) c.loop-place.invariant

pub returns-clause-len : goal.returns-clause-len
returns-clause-len g c = ap length c.loop-place.invariant ∙ length_stopped c.loop-place.place c.args.self.now.entries
