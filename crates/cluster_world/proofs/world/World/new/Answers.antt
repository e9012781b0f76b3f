use Rattle.std.proofs.Common.{◌≡◌, true, false, ℕ, ◌<◌, List, [], length, Ok, refl, sym, ap, ◌∙◌, subst, arith}
use Rattle.std.specs.FinMap.{empty}
use Rattle.slot_map.specs.Map.{node_after}
use Rattle.slot_map.specs.declared.ops.MapOp.{MapOp}
use Rattle.node_model.specs.Nodes.{Opens}
use Rattle.world_laws.specs.Headline.{IsReached}
use Rattle.world_laws.specs.State.{WorldModel}
use Rattle.world_laws.proofs.Sound.{new-sound}
use Rattle.cluster_world.specs.Machine.{run_limit}
use Rattle.cluster_world.proofs.Taking.{opens-new, opens-same, starts-fault}
use Rattle.cluster_world.proofs.world.World.new.Goals as goal

pub returns-then-not-has_owners : goal.returns-then-not-has_owners
returns-then-not-has_owners c = λ ops shows good. (let e : false ≡ true = (c.if-not-has_owners.ensures.owned ops shows).1 good in absurd (cc))

pub returns-in_default : goal.returns-in_default
returns-in_default c = λ ops shows. (c.if-not-has_owners.ensures.owned ops shows).0 refl

pub invariant_of-result : goal.invariant_of-result
invariant_of-result c =
    let changes : List MapOp = c.in-Ok.ensures.0 in
    let opens : Opens c.args.nodes (node_after changes) (Ok c.in-Ok-new.cluster) = c.in-Ok-new.ensures changes (c.in-Ok.ensures.1).shown in
    record {
      reached = subst IsReached (sym c.new-in-Ok-new.ensures) (c.args.workers, run_limit, empty, c.in-Ok-new.cluster, [], new-sound c.in-Ok-new.cluster (opens-new c.args.nodes (node_after changes) c.in-Ok-new.cluster opens), refl);
      workers = subst (λ (n : ℕ). 0 < n) (sym (ap (λ (w : WorldModel). w.workers) c.new-in-Ok-new.ensures)) (omega (arith, c.requires.0));
      nodes = sym (opens.1).all_nodes ∙ sym (ap (λ (w : WorldModel). length w.cluster.stores) c.new-in-Ok-new.ensures);
    }

pub returns-in-Ok-new : goal.returns-in-Ok-new
returns-in-Ok-new c = λ ops shows.
    let changes : List MapOp = c.in-Ok.ensures.0 in (
      c.in-Ok-new.cluster,
      opens-same c.args.nodes (node_after changes) (node_after ops) ((c.in-Ok.ensures.1).same ops shows) c.in-Ok-new.cluster (c.in-Ok-new.ensures changes (c.in-Ok.ensures.1).shown),
      c.new-in-Ok-new.ensures,
    )

pub returns : goal.returns
returns c = λ ops shows.
    let changes : List MapOp = c.in-Ok.ensures.0 in
    starts-fault c.args.nodes c.args.workers (node_after changes) (node_after ops) ((c.in-Ok.ensures.1).same ops shows) c.in-Err.fault (c.in-Err.ensures changes (c.in-Ok.ensures.1).shown)
