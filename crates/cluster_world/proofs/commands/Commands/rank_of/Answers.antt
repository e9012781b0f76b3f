use Rattle.std.proofs.Common.{◌≡◌, ◌<◌, ◌^◌, length, List, Some, rules, arith, ap, ◌∙◌}
use Rattle.std.specs.Prelude.{slice_get}
use Rattle.std.specs.Vec.{vec_len}
use Rattle.world_laws.specs.declared.state.Arrival.{Arrival}
use Rattle.cluster_world.specs.Commands.{turn_rank}
use Rattle.cluster_world.proofs.Lookups.{at-place}
use Rattle.cluster_world.proofs.Found.{small-rank}
use Rattle.cluster_world.proofs.commands.Commands.rank_of.Goals as goal

pub index-requires : goal.index-requires
index-requires c =
    let len : vec_len c.self.inside.tables.ranks ≡ length c.self.inside.tables.ranks.items = search rules in
    omega (arith, len, c.requires, ap length c.self.view_is, c.self.invariant.lengths)

pub returns-clause-rank : goal.returns-clause-rank
returns-clause-rank c = λ d there. (
    let xs : List Arrival = c.self.inside.arrivals.items in
    let lt : c.args.place < length xs = omega (arith, c.requires, ap length c.self.view_is) in
    let at : slice_get xs c.args.place ≡ Some d = ap (λ (cs : List Arrival). slice_get cs c.args.place) c.self.view_is ∙ there in
    let ranked : slice_get c.self.inside.tables.ranks.items c.args.place ≡ Some (turn_rank xs c.args.place d) = c.self.invariant.ranked c.args.place d at in
    let read : slice_get c.self.inside.tables.ranks.items c.args.place ≡ Some c.index.result.now = at-place c.self.inside.tables.ranks.items c.args.place c.index.result.now (omega (arith, lt, c.self.invariant.lengths)) c.index.ensures in
    let is : c.index.result.now ≡ turn_rank xs c.args.place d = cc in
    is ∙ ap (λ (cs : List Arrival). turn_rank cs c.args.place d) c.self.view_is)

pub returns-clause-fits : goal.returns-clause-fits
returns-clause-fits c =
    let xs : List Arrival = c.self.inside.arrivals.items in
    let lt : c.args.place < length xs = omega (arith, c.requires, ap length c.self.view_is) in
    let small : length xs < 2 ^ 63 = search rules in
    small-rank xs c.self.inside.tables c.self.invariant c.args.place c.index.result.now lt small (at-place c.self.inside.tables.ranks.items c.args.place c.index.result.now (omega (arith, lt, c.self.invariant.lengths)) c.index.ensures)
