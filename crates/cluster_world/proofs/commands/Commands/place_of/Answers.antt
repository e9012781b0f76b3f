use Rattle.std.proofs.Common.{◌≡◌, length, List, Some, None, true, false, rules, arith, sym, ap, ◌∙◌}
use Rattle.std.specs.Prelude.{slice_get}
use Rattle.std.specs.Vec.{vec_len}
use Rattle.std.proofs.lemmas.Option.{slice_get_within}
use Rattle.key_split.specs.Same.{same_ticket}
use Rattle.world_laws.specs.declared.state.Arrival.{Arrival}
use Rattle.cluster_world.specs.Commands.{place_for, StandsAt, StandsSo}
use Rattle.cluster_world.proofs.Lookups.{at-place}
use Rattle.cluster_world.proofs.Found.{stands-so, place-none, place-here, place-other}
use Rattle.cluster_world.proofs.commands.Commands.place_of.Goals as goal

pub returns-in_err-place : goal.returns-in_err-place
returns-in_err-place c =
    let xs : List Arrival = c.self.inside.arrivals.items in
    let none : StandsSo xs c.args.ticket.client c.args.ticket.part None = stands-so xs c.self.inside.tables c.self.invariant c.args.ticket.client c.args.ticket.part None c.in_err-place.ensures in
    let is : c.from_residual.result ≡ None = search rules in
    is ∙ sym (place-none xs c.self.inside.tables c.self.invariant c.args.ticket none) ∙ ap (λ (cs : List Arrival). place_for cs c.args.ticket) c.self.view_is

pub index-requires : goal.index-requires
index-requires c =
    let xs : List Arrival = c.self.inside.arrivals.items in
    let stands : StandsAt xs c.args.ticket.client c.args.ticket.part c.in_ok-place.place = stands-so xs c.self.inside.tables c.self.invariant c.args.ticket.client c.args.ticket.part (Some c.in_ok-place.place) c.in_ok-place.ensures in
    let len : vec_len c.self.inside.arrivals ≡ length xs = search rules in
    omega (arith, len, slice_get_within xs c.in_ok-place.place stands.0 stands.1)

pub returns-then-eq : goal.returns-then-eq
returns-then-eq c =
    let xs : List Arrival = c.self.inside.arrivals.items in
    let stands : StandsAt xs c.args.ticket.client c.args.ticket.part c.in_ok-place.place = stands-so xs c.self.inside.tables c.self.invariant c.args.ticket.client c.args.ticket.part (Some c.in_ok-place.place) c.in_ok-place.ensures in
    let at : slice_get xs c.in_ok-place.place ≡ Some c.index.result.now = at-place xs c.in_ok-place.place c.index.result.now (slice_get_within xs c.in_ok-place.place stands.0 stands.1) c.index.ensures in
    let same : same_ticket c.args.ticket c.index.result.now.command.ticket ≡ true = ap (same_ticket c.args.ticket) (sym c.ticket.ensures) ∙ sym c.eq.ensures.value ∙ c.if-eq.true in
    sym (place-here xs c.self.inside.tables c.self.invariant c.args.ticket c.in_ok-place.place c.index.result.now at same) ∙ ap (λ (cs : List Arrival). place_for cs c.args.ticket) c.self.view_is

pub returns-else-eq : goal.returns-else-eq
returns-else-eq c =
    let xs : List Arrival = c.self.inside.arrivals.items in
    let stands : StandsAt xs c.args.ticket.client c.args.ticket.part c.in_ok-place.place = stands-so xs c.self.inside.tables c.self.invariant c.args.ticket.client c.args.ticket.part (Some c.in_ok-place.place) c.in_ok-place.ensures in
    let at : slice_get xs c.in_ok-place.place ≡ Some c.index.result.now = at-place xs c.in_ok-place.place c.index.result.now (slice_get_within xs c.in_ok-place.place stands.0 stands.1) c.index.ensures in
    let apart : same_ticket c.args.ticket c.index.result.now.command.ticket ≡ false = ap (same_ticket c.args.ticket) (sym c.ticket.ensures) ∙ sym c.eq.ensures.value ∙ c.if-eq.false in
    sym (place-other xs c.self.inside.tables c.self.invariant c.args.ticket c.in_ok-place.place c.index.result.now stands at apart) ∙ ap (λ (cs : List Arrival). place_for cs c.args.ticket) c.self.view_is
