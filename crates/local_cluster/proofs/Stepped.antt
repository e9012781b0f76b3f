-- A step of a move, as the nodes made it and as the state is after it.
use Rattle.std.proofs.Common.{Ok, Err, refl, sym, ap, subst}
use Rattle.std.specs.Prelude.{Result}
use Rattle.node_model.specs.Nodes.{ClusterModel}
use Rattle.node_model.specs.declared.standing.MoveFault.{MoveFault}
use Rattle.node_model.specs.declared.standing.MoveFault.TheVariants.{NoMemory, NotNow}
use Rattle.local_cluster.specs.declared.step.MoveStep.{MoveStep}
use Rattle.local_cluster.specs.declared.step.MoveStep.TheVariants.{Import, Migrate, MoveKey, MoveRest, Own, Release, Forget, Stay}
use Rattle.node_model.specs.Moves.{forget_done, import_done, migrate_done, move_key_done, own_done, release_done, stay_done}
use Rattle.local_cluster.specs.Local.{LocalStateModel, AsksAllow, Makes, MayMake, Moves, Steps}
use Rattle.local_cluster.specs.Kept.{IsKept}
use Rattle.local_cluster.proofs.Moving.{move-kept}

abbrev with-nodes : LocalStateModel → ClusterModel → LocalStateModel
with-nodes s k = record s { nodes = k }

pub made-kept : {U : Type 0} (s : LocalStateModel) (step : MoveStep) (r : Result U MoveFault) (k : ClusterModel) → IsKept s → AsksAllow s.asks step → Makes s.nodes step r k → IsKept (record s { nodes = k })
made-kept s step (Ok u) k kept allow made = move-kept s step k kept (allow, made)
made-kept s step (Err NotNow) k kept allow made = subst (λ (x : ClusterModel). IsKept (with-nodes s x)) (sym made.1) kept
made-kept s step (Err NoMemory) k kept allow made = subst (λ (x : ClusterModel). IsKept (with-nodes s x)) (sym made.1) kept

-- a step that may be made leads somewhere
leads : (k : ClusterModel) (step : MoveStep) → MayMake k step → (j : ClusterModel) × Moves k step j
leads k (Import slot target) may = (import_done k slot target, (may, refl))
leads k (Migrate slot) may = (migrate_done k slot, (may, refl))
leads k (MoveKey slot key) may = (move_key_done k slot key, (may, refl))
leads k (MoveRest slot) may = (move_key_done k slot may.0, (may.0, may.1, may.2, refl))
leads k (Own slot) may = (own_done k slot, (may, refl))
leads k (Release slot) may = (release_done k slot, (may, refl))
leads k (Forget slot) may = (forget_done k slot, (may, refl))
leads k (Stay slot) may = (stay_done k slot, (may, refl))

pub made-steps : {U : Type 0} (s : LocalStateModel) (step : MoveStep) (r : Result U MoveFault) (k : ClusterModel) → AsksAllow s.asks step → Makes s.nodes step r k → Steps s step r (record s { nodes = k })
made-steps s step (Ok u) k allow made = (k, (allow, made), refl)
made-steps s step (Err NotNow) k allow made = (λ j m. made.0 j m.1, ap (with-nodes s) made.1)
made-steps s step (Err NoMemory) k allow made =
    let led = leads s.nodes step made.0 in ((led.0, (allow, led.1)), ap (with-nodes s) made.1)
