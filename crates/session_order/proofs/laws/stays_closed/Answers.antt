use Rattle.session_order.proofs.Stopping as stopping
use Rattle.session_order.proofs.laws.stays_closed.Goals as goal

pub returns : goal.returns
returns c = stopping.stays_closed
