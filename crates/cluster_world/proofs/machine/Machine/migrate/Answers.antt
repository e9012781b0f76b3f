use Rattle.std.proofs.Common.{◌≡◌, Err, rules, refl}
use Rattle.node_model.specs.Moves.{MayMigrate, NeedsNone, migrate_done}
use Rattle.world_laws.specs.State.{WorldModel}
use Rattle.world_laws.specs.declared.event.Event.TheVariants as event
use Rattle.cluster_world.specs.Fault.{of_move}
use Rattle.cluster_world.specs.Machine.{state_of}
use Rattle.cluster_world.proofs.Allowing.{not-moved}
use Rattle.cluster_world.proofs.machine.Machine.migrate.Goals as goal

pub returns-in_err-migrate_slot : goal.returns-in_err-migrate_slot
returns-in_err-migrate_slot c =
    let w : WorldModel = state_of c.args.self.now in
    let is : c.from_residual.result ≡ Err (of_move c.in_err-migrate_slot.field-0.0) = search rules in
    not-moved w (event.Migrate c.args.slot) (MayMigrate w.cluster c.args.slot) NeedsNone (migrate_done w.cluster c.args.slot) c.migrate_slot.new.self c.in_err-migrate_slot.field-0.0 c.from_residual.result is (λ v d. d.0) (λ m. (m, refl)) c.in_err-migrate_slot.ensures
