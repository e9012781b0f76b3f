use Rattle.std.proofs.Common.{◌≡◌, List, ℕ, ap, ◌∙◌, subst}
use Rattle.world_laws.specs.declared.state.Arrival.{Arrival}
use Rattle.cluster_world.specs.declared.rows.Row.{Row}
use Rattle.cluster_world.specs.Tables.{client_in}
use Rattle.cluster_world.specs.Commands.{unanswered_for, StandsSo}
use Rattle.cluster_world.proofs.Found.{oldest, stands-so}
use Rattle.cluster_world.proofs.commands.Commands.first_unanswered.Goals as goal

pub returns : goal.returns
returns c =
    let xs : List Arrival = c.self.inside.arrivals.items in
    let row : c.row_of-row.result ≡ client_in c.self.inside.tables c.args.client = c.row_of-row.ensures in
    let stands : StandsSo xs c.args.client (client_in c.self.inside.tables c.args.client).over c.place_at.result =
    subst (λ (n : ℕ). StandsSo xs c.args.client n c.place_at.result) (ap (λ (r : Row). r.over) row) (stands-so xs c.self.inside.tables c.self.invariant c.args.client c.row_of-row.result.over c.place_at.result c.place_at.ensures) in
    oldest xs c.self.inside.tables c.self.invariant c.args.client c.place_at.result stands ∙ ap (λ (cs : List Arrival). unanswered_for cs c.args.client) c.self.view_is
