use Rattle.std.proofs.Common.{ap, ◌∙◌}
use Rattle.slot_map.specs.Map.{node_after}
use Rattle.cluster_world.proofs.Taking.{taken-none, taken-some}
use Rattle.cluster_world.proofs.owners.take_over.Goals as goal

pub returns-in_default-node_of : goal.returns-in_default-node_of
returns-in_default-node_of c =
    taken-none c.args.map.now c.args.owners.now c.args.number (λ ops shows. c.in_default-node_of.ensures ops shows ∙ ap (node_after ops) c.in-Some.ensures.value)

pub returns : goal.returns
returns c =
    taken-some c.args.map.now c.args.owners.now c.args.number c.apply.new.self c.in-Some.slot c.in-Some-node_of.node c.in-Some.ensures.value
    (λ ops shows. c.in-Some-node_of.ensures ops shows ∙ ap (node_after ops) c.in-Some.ensures.value) c.apply.ensures
