use Rattle.std.proofs.Common.{◌≡◌, [], rules, sym, subst}
use Rattle.cluster_world.specs.Commands.{Find}
use Rattle.cluster_world.proofs.Found.{find-start}
use Rattle.cluster_world.proofs.commands.Commands.new.Goals as goal

pub invariant_of-result : goal.invariant_of-result
invariant_of-result c =
    let none : c.new.result.items ≡ [] = search rules in
    subst (λ cs. Find cs c.new-2.result) (sym none) (find-start c.new-2.result c.new-2.ensures)
