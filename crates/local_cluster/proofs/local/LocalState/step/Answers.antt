use Rattle.std.proofs.Common.{refl, subst}
use Rattle.local_cluster.specs.Local.{LocalStateModel, AsksAllow}
use Rattle.local_cluster.proofs.Stepped.{made-kept, made-steps}
use Rattle.local_cluster.proofs.local.LocalState.step.Goals as goal

pub invariant_of-self : goal.invariant_of-self
invariant_of-self g c =
    let before : LocalStateModel = record { nodes = c.self.inside.cluster; history = g.H.History.entries c.self.inside.history; asks = c.self.inside.asks.items } in
    made-kept before c.args.step.now c.make_step.result c.make_step.new.cluster c.self.invariant
    (subst (λ asks. AsksAllow asks c.args.step.now) c.deref.ensures.value (c.if-not-asks_allow.ensures.0 refl)) c.make_step.ensures

pub returns : goal.returns
returns g c =
    let before : LocalStateModel = record { nodes = c.self.inside.cluster; history = g.H.History.entries c.self.inside.history; asks = c.self.inside.asks.items } in
    rw (← c.self.view_is) (made-steps before c.args.step.now c.make_step.result c.make_step.new.cluster
    (subst (λ asks. AsksAllow asks c.args.step.now) c.deref.ensures.value (c.if-not-asks_allow.ensures.0 refl)) c.make_step.ensures)
