use Rattle.std.proofs.Common.{◌≡◌, ◌⊎◌, ◌≤◌, ℕ, length, List, Option, None, true, false, rules, refl, sym, ap, subst, arith}
use Rattle.std.specs.Prelude.{take, All}
use Rattle.key_split.specs.Same.{same_ticket}
use Rattle.world_laws.specs.State.{HasEnded}
use Rattle.world_laws.specs.World.{IsAmong, MayGo, SameTurn}
use Rattle.world_laws.specs.declared.state.Arrival.{Arrival}
use Rattle.cluster_world.specs.Posting.{way_for, Follows}
use Rattle.cluster_world.proofs.Going.{take-length, follows-low, follows-next, follows-so, not-going, not-its-turn, not-there}
use Rattle.cluster_world.proofs.Lookups.{place-within}
use Rattle.cluster_world.proofs.posting.follows.Goals as goal

pub returns-then-is_among : goal.returns-then-is_among
returns-then-is_among c = λ m. m.0 (c.if-is_among.ensures.0 refl)

pub returns-in_err-place : goal.returns-in_err-place
returns-in_err-place c =
    let is : c.from_residual.result ≡ None = search rules in
    subst (λ (r : Option ℕ). Follows (way_for c.args.first.now) c.args.node c.args.before.now c.args.ticket c.args.commands.now r) (sym is)
    (not-there (way_for c.args.first.now) c.args.node c.args.before.now c.args.ticket c.args.commands.now (sym c.in_err-place.ensures))

pub at-arrival-requires : goal.at-arrival-requires
at-arrival-requires c = (place-within (λ (x : Arrival). same_ticket c.args.ticket x.command.ticket) c.args.commands.now c.in_ok-place.place (sym c.in_ok-place.ensures)).1

pub rank_of-rank-requires : goal.rank_of-rank-requires
rank_of-rank-requires c = (place-within (λ (x : Arrival). same_ticket c.args.ticket x.command.ticket) c.args.commands.now c.in_ok-place.place (sym c.in_ok-place.ensures)).1

pub returns-then-not-may_go : goal.returns-then-not-may_go
returns-then-not-may_go c =
    not-going (way_for c.args.first.now) c.args.node c.args.before.now c.args.ticket c.args.commands.now c.in_ok-place.place c.at-arrival.result.now (sym c.in_ok-place.ensures, c.at-arrival.ensures)
    (λ go. let no : false ≡ true = c.if-not-may_go.ensures.1 go in cc)

pub slice_bounds-all_past-end : goal.slice_bounds-all_past-end
slice_bounds-all_past-end c =
    take-length c.as_slice.result.now c.in_ok-place.place
    (omega (arith, ap length c.as_slice.ensures, (place-within (λ (x : Arrival). same_ticket c.args.ticket x.command.ticket) c.args.commands.now c.in_ok-place.place (sym c.in_ok-place.ensures)).1))

pub returns-then-not-all_past : goal.returns-then-not-all_past
returns-then-not-all_past c =
    let earlier : take c.in_ok-place.place c.as_slice.result.now ≡ take c.in_ok-place.place c.args.commands.now = ap (take c.in_ok-place.place) c.as_slice.ensures in
    not-its-turn (way_for c.args.first.now) c.args.node c.args.before.now c.args.ticket c.args.commands.now c.in_ok-place.place c.at-arrival.result.now (sym c.in_ok-place.ensures, c.at-arrival.ensures)
    (λ turn. let no : false ≡ true = c.if-not-all_past.ensures.1 (subst (λ (cs : List Arrival). All (λ d. SameTurn c.at-arrival.result.now d → HasEnded d ⊎ IsAmong c.args.before.now d.command.ticket) cs) (sym earlier) turn) in cc)

pub returns-then-rank-past : goal.returns-then-rank-past
returns-then-rank-past c =
    let a : Arrival = c.at-arrival.result.now in
    let never : IsAmong c.args.before.now c.args.ticket → ⊥ = λ a. (let no : false ≡ true = c.if-is_among.ensures.1 a in cc) in
    let go : MayGo (way_for c.args.first.now) c.args.node a = c.if-not-may_go.ensures.0 refl in
    let earlier : take c.in_ok-place.place c.as_slice.result.now ≡ take c.in_ok-place.place c.args.commands.now = ap (take c.in_ok-place.place) c.as_slice.ensures in
    follows-so (way_for c.args.first.now) c.args.node c.args.before.now c.args.ticket c.args.commands.now c.in_ok-place.place a (sym c.in_ok-place.ensures, c.at-arrival.ensures) never go c.args.past c.requires
    (subst (λ (cs : List Arrival). All (λ d. SameTurn a d → HasEnded d ⊎ IsAmong c.args.before.now d.command.ticket) cs) earlier (c.if-not-all_past.ensures.0 refl))

pub returns-then-rank-past-2 : goal.returns-then-rank-past-2
returns-then-rank-past-2 c =
    let a : Arrival = c.at-arrival.result.now in
    let never : IsAmong c.args.before.now c.args.ticket → ⊥ = λ a. (let no : false ≡ true = c.if-is_among.ensures.1 a in cc) in
    let go : MayGo (way_for c.args.first.now) c.args.node a = c.if-not-may_go.ensures.0 refl in
    let next : c.rank_of-rank.result ≡ c.args.past = search rules in
    follows-next (way_for c.args.first.now) c.args.node c.args.before.now c.args.ticket c.args.commands.now c.in_ok-place.place a (sym c.in_ok-place.ensures, c.at-arrival.ensures) never go c.args.past c.requires
    c.rank_of-rank.result (c.rank_of-rank.ensures.rank a c.at-arrival.ensures) next

pub returns-else-rank-past-2 : goal.returns-else-rank-past-2
returns-else-rank-past-2 c =
    let a : Arrival = c.at-arrival.result.now in
    let never : IsAmong c.args.before.now c.args.ticket → ⊥ = λ a. (let no : false ≡ true = c.if-is_among.ensures.1 a in cc) in
    let go : MayGo (way_for c.args.first.now) c.args.node a = c.if-not-may_go.ensures.0 refl in
    let low : c.rank_of-rank.result ≤ c.args.past = search rules in
    follows-low (way_for c.args.first.now) c.args.node c.args.before.now c.args.ticket c.args.commands.now c.in_ok-place.place a (sym c.in_ok-place.ensures, c.at-arrival.ensures) never go c.args.past c.requires
    c.rank_of-rank.result (c.rank_of-rank.ensures.rank a c.at-arrival.ensures) low
