use Rattle.std.proofs.Common.{◌≡◌, ◌<◌, length, rules, arith, ap, subst, List}
use Rattle.std.specs.Prelude.{slice_get, Some}
use Rattle.std.specs.Vec.{vec_len}
use Rattle.world_laws.specs.declared.state.Arrival.{Arrival}
use Rattle.cluster_world.proofs.Lookups.{at-place}
use Rattle.cluster_world.proofs.commands.Commands.at.Goals as goal

pub index-requires : goal.index-requires
index-requires c =
    let len : vec_len c.self.inside.arrivals ≡ length c.self.inside.arrivals.items = search rules in
    omega (arith, len, c.requires, ap length c.self.view_is)

pub returns : goal.returns
returns c =
    let lt : c.args.place < length c.self.inside.arrivals.items = omega (arith, c.requires, ap length c.self.view_is) in
    subst (λ (cs : List Arrival). slice_get cs c.args.place ≡ Some c.index.result.now) c.self.view_is (at-place c.self.inside.arrivals.items c.args.place c.index.result.now lt c.index.ensures)
