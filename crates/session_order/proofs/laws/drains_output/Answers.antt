use Rattle.session_order.proofs.Lifelong as lifelong
use Rattle.session_order.proofs.laws.drains_output.Goals as goal

pub returns : goal.returns
returns c = lifelong.drains_output
