use Rattle.std.proofs.Common.{◌≡◌, Err, rules, true, false, refl, ap}
use Rattle.node_model.specs.Moves.{MayImport, NeedsNone, import_done}
use Rattle.world_laws.specs.State.{WorldModel}
use Rattle.world_laws.specs.declared.event.Event.TheVariants as event
use Rattle.cluster_world.specs.Fault.{of_move}
use Rattle.cluster_world.proofs.Allowing.{not-moved}
use Rattle.world_laws.specs.World.{with_nodes}
use Rattle.cluster_world.specs.Machine.{state_of}
use Rattle.cluster_world.proofs.Sums.{none-rests, rests-none}
use Rattle.cluster_world.proofs.machine.Machine.import.Goals as goal

pub returns-then-not-none_asks : goal.returns-then-not-none_asks
returns-then-not-none_asks c = (
  (λ v d. let no : false ≡ true = c.if-not-none_asks.ensures.1 (λ k x lt e. none-rests (state_of c.args.self.now) c.args.target _ (d.0 k x lt e)) in absurd (cc)),
  refl,
)

pub returns-in_err-import_slot : goal.returns-in_err-import_slot
returns-in_err-import_slot c =
    let w : WorldModel = state_of c.args.self.now in
    let is : c.from_residual.result ≡ Err (of_move c.in_err-import_slot.field-0.0) = search rules in
    not-moved w (event.Import c.args.slot c.args.target) (MayImport w.cluster c.args.slot c.args.target) NeedsNone (import_done w.cluster c.args.slot c.args.target) c.import_slot.new.self c.in_err-import_slot.field-0.0 c.from_residual.result is
    (λ v d. d.1) (λ m. ((λ k x lt e. rests-none w c.args.target _ (c.if-not-none_asks.ensures.0 refl k x lt e)), m, refl)) c.in_err-import_slot.ensures

pub returns : goal.returns
returns c = (
  λ k x lt e. rests-none (state_of c.args.self.now) c.args.target _ (c.if-not-none_asks.ensures.0 refl k x lt e),
  c.in_ok-import_slot.ensures.0,
  ap (with_nodes (state_of c.args.self.now)) c.in_ok-import_slot.ensures.1,
)
