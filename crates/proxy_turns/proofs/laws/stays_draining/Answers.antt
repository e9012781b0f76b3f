use Rattle.proxy_turns.proofs.StoppedClients as stopping
use Rattle.proxy_turns.proofs.laws.stays_draining.Goals as goal

pub returns : goal.returns
returns g c = stopping.stays_draining g.C.ClientPort.moves
