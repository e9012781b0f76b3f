use Rattle.turn_laws.proofs.ServedRuns.{first-is-served, runs-are-in-order}
use Rattle.turn_laws.proofs.parts.nodes_serve_in_order.Goals as goal

pub returns-clause-first : goal.returns-clause-first
returns-clause-first c = first-is-served

pub returns-clause-runs : goal.returns-clause-runs
returns-clause-runs c = runs-are-in-order
