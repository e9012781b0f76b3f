use Rattle.std.proofs.Common.{◌≡◌, List, ap, ◌∙◌}
use Rattle.world_laws.specs.declared.state.Arrival.{Arrival}
use Rattle.cluster_world.specs.Tables.{client_in}
use Rattle.cluster_world.specs.declared.rows.Row.{Row}
use Rattle.cluster_world.specs.Commands.{count_for}
use Rattle.cluster_world.proofs.Found.{counts}
use Rattle.cluster_world.proofs.commands.Commands.count_of.Goals as goal

pub returns : goal.returns
returns c =
    let row : c.row_of.result ≡ client_in c.self.inside.tables c.args.client = c.row_of.ensures in
    ap (λ (r : Row). r.count) row ∙ counts c.self.inside.arrivals.items c.self.inside.tables c.self.invariant c.args.client ∙ ap (λ (cs : List Arrival). count_for cs c.args.client) c.self.view_is
