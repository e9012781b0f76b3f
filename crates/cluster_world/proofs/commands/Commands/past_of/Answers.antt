use Rattle.std.proofs.Common.{◌≡◌, [], List, ap, subst, sym, ◌∙◌}
use Rattle.world_laws.specs.State.{slot_for}
use Rattle.world_laws.specs.declared.state.Arrival.{Arrival}
use Rattle.cluster_world.specs.declared.rows.Row.{Row}
use Rattle.cluster_world.specs.declared.tables.TurnKey.{TurnKey}
use Rattle.cluster_world.specs.Tables.{turn_in}
use Rattle.cluster_world.specs.Posting.{way_for, ArePast}
use Rattle.cluster_world.proofs.Found.{past-so}
use Rattle.cluster_world.proofs.commands.Commands.past_of.Goals as goal

pub returns : goal.returns
returns c =
    let first : Arrival = c.args.arrival.now in
    let row : c.row_of.result ≡ turn_in c.self.inside.tables first.command.ticket.client (slot_for first.command.part) =
    c.row_of.ensures ∙ ap (λ (k : TurnKey). turn_in c.self.inside.tables k.client k.slot) c.of.ensures in
    subst (λ (cs : List Arrival). ArePast (way_for first) [] c.row_of.result.over cs) c.self.view_is
    (subst (λ (r : Row). ArePast (way_for first) [] r.over c.self.inside.arrivals.items) (sym row) (past-so c.self.inside.arrivals.items c.self.inside.tables c.self.invariant first))
