use Rattle.std.proofs.Common.{◌≡◌, Err, rules, refl}
use Rattle.node_model.specs.Moves.{MayMoveKey, NeedsSome, move_key_done}
use Rattle.world_laws.specs.State.{WorldModel}
use Rattle.world_laws.specs.declared.event.Event.TheVariants as event
use Rattle.cluster_world.specs.Fault.{of_move}
use Rattle.cluster_world.specs.Machine.{state_of}
use Rattle.cluster_world.proofs.Allowing.{not-moved}
use Rattle.cluster_world.proofs.machine.Machine.move_key.Goals as goal

pub returns-in_err-move_key : goal.returns-in_err-move_key
returns-in_err-move_key c =
    let w : WorldModel = state_of c.args.self.now in
    let is : c.from_residual.result ≡ Err (of_move c.in_err-move_key.field-0.0) = search rules in
    not-moved w (event.MoveKey c.args.slot c.args.key.now) (MayMoveKey w.cluster c.args.slot c.args.key.now) NeedsSome (move_key_done w.cluster c.args.slot c.args.key.now) c.move_key.new.self c.in_err-move_key.field-0.0 c.from_residual.result is (λ v d. d.0) (λ m. (m, refl)) c.in_err-move_key.ensures
