use Rattle.std.proofs.Common.{◌≡◌, length, List, Some, rules, arith, sym, subst}
use Rattle.std.specs.Prelude.{slice_get}
use Rattle.std.specs.Vec.{vec_len}
use Rattle.std.proofs.lemmas.Option.{slice_get_within}
use Rattle.world_laws.specs.declared.state.Arrival.{Arrival}
use Rattle.command_future.specs.CommandModel.{MayPostTo}
use Rattle.world_laws.specs.State.{awaiting}
use Rattle.cluster_world.specs.Commands.{MayPostAt}
use Rattle.cluster_world.proofs.Lookups.{at-place, same-item}
use Rattle.cluster_world.proofs.Found.{becomes, find-posted}
use Rattle.cluster_world.proofs.commands.Commands.posted.Goals as goal

pub index_mut-requires : goal.index_mut-requires
index_mut-requires c =
    let xs : List Arrival = c.self.inside.arrivals.items in
    let may : MayPostAt xs c.args.place c.args.node = subst (λ (cs : List Arrival). MayPostAt cs c.args.place c.args.node) (sym c.self.view_is) c.requires in
    let len : vec_len c.self.inside.arrivals ≡ length xs = search rules in
    omega (arith, len, slice_get_within xs c.args.place may.0 may.1)

pub posted-requires : goal.posted-requires
posted-requires c =
    let xs : List Arrival = c.self.inside.arrivals.items in
    let may : MayPostAt xs c.args.place c.args.node = subst (λ (cs : List Arrival). MayPostAt cs c.args.place c.args.node) (sym c.self.view_is) c.requires in
    let at : slice_get xs c.args.place ≡ Some c.index_mut.result.now = at-place xs c.args.place c.index_mut.result.now (slice_get_within xs c.args.place may.0 may.1) c.index_mut.ensures.value in
    subst (λ (x : Arrival). MayPostTo x.command.stage c.args.node) (same-item xs c.args.place may.0 c.index_mut.result.now may.1 at) may.2

pub invariant_of-self : goal.invariant_of-self
invariant_of-self c =
    let xs : List Arrival = c.self.inside.arrivals.items in
    let now : Arrival = c.index_mut.result.now in
    let may : MayPostAt xs c.args.place c.args.node = subst (λ (cs : List Arrival). MayPostAt cs c.args.place c.args.node) (sym c.self.view_is) c.requires in
    let at : slice_get xs c.args.place ≡ Some now = at-place xs c.args.place now (slice_get_within xs c.args.place may.0 may.1) c.index_mut.ensures.value in
    let same : may.0 ≡ now = same-item xs c.args.place may.0 now may.1 at in
    let y : Arrival = record { command = c.posted.new.self; arrived = now.arrived; answered = now.answered } in
    let is : y ≡ awaiting now = λ i. record { command = c.posted.ensures.progress i; arrived = now.arrived; answered = now.answered } in
    find-posted xs c.self.inside.tables c.self.invariant c.args.place now at y c.args.node is (subst (λ (x : Arrival). MayPostTo x.command.stage c.args.node) same may.2)

pub returns : goal.returns
returns c =
    let xs : List Arrival = c.self.inside.arrivals.items in
    let now : Arrival = c.index_mut.result.now in
    let may : MayPostAt xs c.args.place c.args.node = subst (λ (cs : List Arrival). MayPostAt cs c.args.place c.args.node) (sym c.self.view_is) c.requires in
    let at : slice_get xs c.args.place ≡ Some now = at-place xs c.args.place now (slice_get_within xs c.args.place may.0 may.1) c.index_mut.ensures.value in
    let y : Arrival = record { command = c.posted.new.self; arrived = now.arrived; answered = now.answered } in
    let is : y ≡ awaiting now = λ i. record { command = c.posted.ensures.progress i; arrived = now.arrived; answered = now.answered } in
    becomes xs c.args.self.now c.args.place now y awaiting c.self.view_is at is
