use Rattle.std.proofs.Common.{◌≡◌, length, List, Some, rules, refl, arith, ap, ◌∙◌}
use Rattle.std.specs.Prelude.{slice_get}
use Rattle.std.specs.Vec.{vec_len}
use Rattle.world_laws.specs.declared.state.Arrival.{Arrival}
use Rattle.cluster_world.specs.Commands.{unanswered_for, once_answered}
use Rattle.cluster_world.proofs.Lookups.{at-place}
use Rattle.cluster_world.proofs.Found.{becomes, find-answered, answered-within, unanswered-here}
use Rattle.cluster_world.proofs.commands.Commands.answered.Goals as goal

pub index_mut-requires : goal.index_mut-requires
index_mut-requires c =
    let xs : List Arrival = c.self.inside.arrivals.items in
    let first : unanswered_for xs c.args.client ≡ Some c.args.place = ap (λ (cs : List Arrival). unanswered_for cs c.args.client) c.self.view_is ∙ c.requires in
    let len : vec_len c.self.inside.arrivals ≡ length xs = search rules in
    omega (arith, len, unanswered-here xs c.args.client c.args.place first)

pub note_answered-requires : goal.note_answered-requires
note_answered-requires c =
    let xs : List Arrival = c.self.inside.arrivals.items in
    let now : Arrival = c.index_mut.result.now in
    let first : unanswered_for xs c.args.client ≡ Some c.args.place = ap (λ (cs : List Arrival). unanswered_for cs c.args.client) c.self.view_is ∙ c.requires in
    let at : slice_get xs c.args.place ≡ Some now = at-place xs c.args.place now (unanswered-here xs c.args.client c.args.place first) c.index_mut.ensures.value in
    answered-within xs c.self.inside.tables c.self.invariant c.args.place now at c.args.client first

pub invariant_of-self : goal.invariant_of-self
invariant_of-self c =
    let xs : List Arrival = c.self.inside.arrivals.items in
    let now : Arrival = c.index_mut.result.now in
    let first : unanswered_for xs c.args.client ≡ Some c.args.place = ap (λ (cs : List Arrival). unanswered_for cs c.args.client) c.self.view_is ∙ c.requires in
    let at : slice_get xs c.args.place ≡ Some now = at-place xs c.args.place now (unanswered-here xs c.args.client c.args.place first) c.index_mut.ensures.value in
    find-answered xs c.self.inside.tables c.self.invariant c.args.place now at c.note_answered.new.self (once_answered now) c.args.client refl first c.note_answered.ensures

pub returns : goal.returns
returns c =
    let xs : List Arrival = c.self.inside.arrivals.items in
    let now : Arrival = c.index_mut.result.now in
    let first : unanswered_for xs c.args.client ≡ Some c.args.place = ap (λ (cs : List Arrival). unanswered_for cs c.args.client) c.self.view_is ∙ c.requires in
    let at : slice_get xs c.args.place ≡ Some now = at-place xs c.args.place now (unanswered-here xs c.args.client c.args.place first) c.index_mut.ensures.value in
    becomes xs c.args.self.now c.args.place now (once_answered now) once_answered c.self.view_is at refl
