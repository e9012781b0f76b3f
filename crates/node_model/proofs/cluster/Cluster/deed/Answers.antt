use Rattle.std.proofs.Common.{List, ap, ◌∙◌}
use Rattle.key_split.specs.PartModel.{PartModel}
use Rattle.node_model.specs.Runs.{deed_for}
use Rattle.node_model.proofs.Alone.{alone}
use Rattle.node_model.proofs.cluster.Cluster.deed.Goals as goal

pub returns : goal.returns
returns c =
    c.deed_for.ensures ∙ ap (λ (cs : List PartModel). deed_for c.args.self.now c.args.node c.args.asking cs c.args.verdict) c.from_ref.ensures.value
    ∙ alone c.args.self.now c.args.node c.args.asking c.args.part.now c.args.verdict
