-- Steps of moves that may be made where others may.
use Rattle.std.proofs.Common.{Ok, Err}
use Rattle.std.specs.Prelude.{Result}
use Rattle.node_model.specs.declared.standing.MoveFault.{MoveFault}
use Rattle.node_model.specs.declared.standing.MoveFault.TheVariants.{NoMemory, NotNow}
use Rattle.node_model.specs.Moves.{Moves}
use Rattle.node_model.specs.Nodes.{ClusterModel}

pub moves-so : {U : Type 0} (P Q needs : Type 0) (done k k' : ClusterModel) (result : Result U MoveFault) → (P → Q) → (Q → P) → Moves P needs done result k k' → Moves Q needs done result k k'
moves-so P Q needs done k k' (Ok u) to from m = (to m.0, m.1)
moves-so P Q needs done k k' (Err NotNow) to from m = ((λ q. m.0 (from q)), m.1)
moves-so P Q needs done k k' (Err NoMemory) to from m = (to m.0, m.1, m.2)
