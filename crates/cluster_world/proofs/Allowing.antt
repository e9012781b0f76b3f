-- An event for which there is no memory could happen.
use Rattle.std.proofs.Common.{◌≡◌, Result, Err, sym, ap, ◌∙◌, subst}
use Rattle.node_model.specs.Nodes.{ClusterModel}
use Rattle.node_model.specs.Moves.{Moves}
use Rattle.node_model.specs.declared.standing.MoveFault.{MoveFault}
use Rattle.node_model.specs.declared.standing.MoveFault.TheVariants as move
use Rattle.world_laws.specs.State.{WorldModel}
use Rattle.world_laws.specs.World.{WorldDoes, with_nodes}
use Rattle.world_laws.specs.declared.event.Event.{Event}
use Rattle.cluster_world.specs.Fault.{of_move}
use Rattle.cluster_world.specs.Machine.{MachineAnswers, Can}
use Rattle.cluster_world.specs.declared.fault.WorldFault.{WorldFault}
use Rattle.cluster_world.specs.declared.fault.WorldFault.TheVariants.{NoMemory}

pub no-memory : {U : Type 0} (w w' : WorldModel) (e : Event) (r : Result U WorldFault) → r ≡ Err NoMemory → Can w e → w' ≡ w → MachineAnswers w e r w'
no-memory {U} w w' e r is can same = subst (λ (x : Result U WorldFault). MachineAnswers w e x w') (sym is) (can, same)

-- a step of a move that was not made
pub not-moved : {U : Type 0} (w : WorldModel) (e : Event) (may needs : Type 0) (done k : ClusterModel) (fault : MoveFault) (r : Result U WorldFault) → r ≡ Err (of_move fault)
    → ((v : WorldModel) → WorldDoes w e v → may) → (may → WorldDoes w e (with_nodes w done)) → Moves {U = U} may needs done (Err fault) w.cluster k → MachineAnswers w e r (with_nodes w k)
not-moved {U} w e may needs done k fault r is only all moves = subst (λ (x : Result U WorldFault). MachineAnswers w e x (with_nodes w k)) (sym is) (go fault moves)
  where
    go : (f : MoveFault) → Moves {U = U} may needs done (Err f) w.cluster k → MachineAnswers {U = U} w e (Err (of_move f)) (with_nodes w k)
    go move.NoMemory m = ((with_nodes w done, all m.0), ap (with_nodes w) m.1)
    go move.NotNow m = ((λ v d. m.0 (only v d)), ap (with_nodes w) m.1)
