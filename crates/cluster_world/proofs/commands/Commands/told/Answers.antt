use Rattle.std.proofs.Common.{◌≡◌, ◌<◌, length, List, Some, rules, arith, sym, ap, ◌∙◌, subst}
use Rattle.std.specs.Prelude.{slice_get}
use Rattle.std.specs.Vec.{vec_len}
use Rattle.std.proofs.lemmas.Option.{slice_get_within}
use Rattle.world_laws.specs.declared.state.Arrival.{Arrival}
use Rattle.command_future.specs.declared.stage.Stage.TheVariants.{Awaits}
use Rattle.world_laws.specs.State.{after_told}
use Rattle.cluster_world.specs.declared.tables.TurnKey.{TurnKey}
use Rattle.cluster_world.specs.Tables.{turn_in, turn_key_of, NotedTold}
use Rattle.cluster_world.specs.Commands.{turn_rank, AwaitsAt}
use Rattle.cluster_world.proofs.Lookups.{at-place, same-item}
use Rattle.cluster_world.proofs.Found.{becomes, find-told, told-within}
use Rattle.cluster_world.proofs.commands.Commands.told.Goals as goal

pub index_mut-requires : goal.index_mut-requires
index_mut-requires c =
    let xs : List Arrival = c.self.inside.arrivals.items in
    let its : AwaitsAt xs c.args.place = subst (λ (cs : List Arrival). AwaitsAt cs c.args.place) (sym c.self.view_is) c.requires in
    let len : vec_len c.self.inside.arrivals ≡ length xs = search rules in
    omega (arith, len, slice_get_within xs c.args.place its.0 its.1)

pub told-requires : goal.told-requires
told-requires c =
    let xs : List Arrival = c.self.inside.arrivals.items in
    let its : AwaitsAt xs c.args.place = subst (λ (cs : List Arrival). AwaitsAt cs c.args.place) (sym c.self.view_is) c.requires in
    let at : slice_get xs c.args.place ≡ Some c.index_mut.result.now = at-place xs c.args.place c.index_mut.result.now (slice_get_within xs c.args.place its.0 its.1) c.index_mut.ensures.value in
    ap (λ (x : Arrival). x.command.stage) (sym (same-item xs c.args.place its.0 c.index_mut.result.now its.1 at)) ∙ its.2

pub passes-passes-requires : goal.passes-passes-requires
passes-passes-requires c =
    let xs : List Arrival = c.self.inside.arrivals.items in
    let its : AwaitsAt xs c.args.place = subst (λ (cs : List Arrival). AwaitsAt cs c.args.place) (sym c.self.view_is) c.requires in
    omega (arith, slice_get_within xs c.args.place its.0 its.1, c.self.invariant.lengths)

pub note_told-requires : goal.note_told-requires
note_told-requires c = λ yes. (
    let xs : List Arrival = c.self.inside.arrivals.items in
    let now : Arrival = c.index_mut.result.now in
    let its : AwaitsAt xs c.args.place = subst (λ (cs : List Arrival). AwaitsAt cs c.args.place) (sym c.self.view_is) c.requires in
    let at : slice_get xs c.args.place ≡ Some now = at-place xs c.args.place now (slice_get_within xs c.args.place its.0 its.1) c.index_mut.ensures.value in
    let next : turn_rank xs c.args.place now ≡ (turn_in c.self.inside.tables c.of-turn.result.client c.of-turn.result.slot).over = ((c.passes-passes.ensures (turn_rank xs c.args.place now) (c.self.invariant.ranked c.args.place now at)).0 yes).1 in
    subst (λ (k : TurnKey). (turn_in c.self.inside.tables k.client k.slot).over < (turn_in c.self.inside.tables k.client k.slot).count) (sym c.of-turn.ensures)
    (told-within xs c.self.inside.tables c.self.invariant c.args.place now at (next ∙ ap (λ (k : TurnKey). (turn_in c.self.inside.tables k.client k.slot).over) c.of-turn.ensures)))

pub invariant_of-self : goal.invariant_of-self
invariant_of-self c =
    let xs : List Arrival = c.self.inside.arrivals.items in
    let now : Arrival = c.index_mut.result.now in
    let its : AwaitsAt xs c.args.place = subst (λ (cs : List Arrival). AwaitsAt cs c.args.place) (sym c.self.view_is) c.requires in
    let at : slice_get xs c.args.place ≡ Some now = at-place xs c.args.place now (slice_get_within xs c.args.place its.0 its.1) c.index_mut.ensures.value in
    let stage : now.command.stage ≡ Awaits = ap (λ (x : Arrival). x.command.stage) (sym (same-item xs c.args.place its.0 now its.1 at)) ∙ its.2 in
    let y : Arrival = record { command = c.told.new.self; arrived = now.arrived; answered = now.answered } in
    let is : y ≡ after_told now c.args.told = λ i. record { command = c.told.ensures.progress i; arrived = now.arrived; answered = now.answered } in
    let noted : NotedTold (turn_key_of now.command) c.passes-passes.result c.self.inside.tables c.note_told.new.self =
    subst (λ (k : TurnKey). NotedTold k c.passes-passes.result c.self.inside.tables c.note_told.new.self) c.of-turn.ensures c.note_told.ensures in
    find-told xs c.self.inside.tables c.self.invariant c.args.place now at c.note_told.new.self y c.args.told c.passes-passes.result is stage
    (λ yes.
    (let both = (c.passes-passes.ensures (turn_rank xs c.args.place now) (c.self.invariant.ranked c.args.place now at)).0 yes in
    (c.told.ensures.step.0 (c.is_done-ended.ensures.0 both.0), both.1 ∙ ap (λ (k : TurnKey). (turn_in c.self.inside.tables k.client k.slot).over) c.of-turn.ensures))) noted

pub returns : goal.returns
returns c =
    let xs : List Arrival = c.self.inside.arrivals.items in
    let now : Arrival = c.index_mut.result.now in
    let its : AwaitsAt xs c.args.place = subst (λ (cs : List Arrival). AwaitsAt cs c.args.place) (sym c.self.view_is) c.requires in
    let at : slice_get xs c.args.place ≡ Some now = at-place xs c.args.place now (slice_get_within xs c.args.place its.0 its.1) c.index_mut.ensures.value in
    let y : Arrival = record { command = c.told.new.self; arrived = now.arrived; answered = now.answered } in
    let is : y ≡ after_told now c.args.told = λ i. record { command = c.told.ensures.progress i; arrived = now.arrived; answered = now.answered } in
    becomes xs c.args.self.now c.args.place now y (λ x. after_told x c.args.told) c.self.view_is at is
