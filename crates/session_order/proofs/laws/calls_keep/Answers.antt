use Rattle.session_order.proofs.Kept as kept
use Rattle.session_order.proofs.laws.calls_keep.Goals as goal

pub returns : goal.returns
returns c = kept.calls_keep
