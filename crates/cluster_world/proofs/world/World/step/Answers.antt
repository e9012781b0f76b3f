use Rattle.std.proofs.Common.{◌≡◌, ℕ, ◌+◌, ◌-◌, ◌<◌, length, refl, sym, ap, ◌∙◌, subst}
use Rattle.world_laws.specs.Headline.{IsReached}
use Rattle.world_laws.specs.State.{WorldModel}
use Rattle.world_laws.specs.World.{WorldStep, last_moment}
use Rattle.cluster_world.specs.Machine.{state_of}
use Rattle.cluster_world.specs.Steps.{RefusedFor}
use Rattle.cluster_world.proofs.Stepping.{fits-so, undone, one-later, refused-for}
use Rattle.cluster_world.proofs.world.World.step.Goals as goal

pub happen-requires-clause-links : goal.happen-requires-clause-links
happen-requires-clause-links c = c.links_lead_to_nodes.ensures (state_of c.self.inside.machine) c.self.invariant.reached

pub happen-requires-clause-slots : goal.happen-requires-clause-slots
happen-requires-clause-slots c = λ link l tickets rest at first. c.runs_have_one_slot.ensures (state_of c.self.inside.machine) link l tickets rest c.self.invariant.reached at first

pub happen-requires-clause-serves : goal.happen-requires-clause-serves
happen-requires-clause-serves c = λ link verdict l first rest at is fits. (
    let w : WorldModel = state_of c.self.inside.machine in
    let lt : w.moment < last_moment = c.if-not-has_time.ensures.0 refl in
    let a = c.nothing_is_stuck.ensures.serve w link verdict l first rest c.self.invariant.reached lt at is (fits-so (record w { moment = w.moment + 1 }) w verdict first refl fits) in
    (a.0, a.1.1))

pub invariant_of-self : goal.invariant_of-self
invariant_of-self c =
    let w : WorldModel = state_of c.self.inside.machine in
    let w' : WorldModel = state_of c.happen.new.self in
    let lt : w.moment < last_moment = c.if-not-has_time.ensures.0 refl in
    let step : WorldStep w c.args.event.now w' = (lt, c.in-Ok.ensures) in
    let sizes : (w'.workers ≡ w.workers) × (length w'.cluster.stores ≡ length w.cluster.stores) = c.sizes_stay.ensures w w' c.args.event.now step in
    record {
      reached = c.reached_worlds.ensures.goes_on w w' c.args.event.now c.self.invariant.reached step;
      workers = subst (λ (n : ℕ). 0 < n) (sym sizes.0) c.self.invariant.workers;
      nodes = c.self.invariant.nodes ∙ sym sizes.1;
    }

pub invariant_of-self-in-Err : goal.invariant_of-self-in-Err
invariant_of-self-in-Err c =
    let w : WorldModel = state_of c.self.inside.machine in
    let same : record (state_of c.happen.new.self) { moment = c.happen.new.self.moment - 1 } ≡ w = undone Unit w (state_of c.happen.new.self) c.args.event.now c.in-Err.fault c.in-Err.ensures in
    record {
      reached = subst IsReached (sym same) c.self.invariant.reached;
      workers = subst (λ (n : ℕ). 0 < n) (sym (ap (λ (v : WorldModel). v.workers) same)) c.self.invariant.workers;
      nodes = c.self.invariant.nodes ∙ sym (ap (λ (v : WorldModel). length v.cluster.stores) same);
    }

pub returns-in-Err : goal.returns-in-Err
returns-in-Err c =
    let w : WorldModel = state_of c.self.inside.machine in
    let lt : w.moment < last_moment = c.if-not-has_time.ensures.0 refl in (
      subst (λ (v : WorldModel). RefusedFor v c.args.event.now c.in-Err.fault) c.self.view_is (refused-for Unit w (state_of c.happen.new.self) c.args.event.now c.in-Err.fault lt c.in-Err.ensures),
      undone Unit w (state_of c.happen.new.self) c.args.event.now c.in-Err.fault c.in-Err.ensures ∙ c.self.view_is,
    )

pub overflow_sub-self : goal.overflow_sub-self
overflow_sub-self c = one-later Unit (state_of c.self.inside.machine) (state_of c.happen.new.self) c.args.event.now c.in-Err.fault c.in-Err.ensures

pub returns-in-Ok : goal.returns-in-Ok
returns-in-Ok c =
    let lt : c.self.inside.machine.moment < last_moment = c.if-not-has_time.ensures.0 refl in
    subst (λ (w : WorldModel). WorldStep w c.args.event.now (state_of c.happen.new.self)) c.self.view_is (lt, c.in-Ok.ensures)
