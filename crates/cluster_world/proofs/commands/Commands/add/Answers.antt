use Rattle.std.proofs.Common.{◌≡◌, ◌<◌, ◌^◌, ◌++◌, ◌∷◌, [], ℕ, length, List, rules, arith, sym, ap, ◌∙◌, subst, false}
use Rattle.std.specs.Vec.{vec_len}
use Rattle.command_future.specs.CommandModel.{fresh}
use Rattle.world_laws.specs.declared.state.Arrival.{Arrival}
use Rattle.cluster_world.specs.declared.tables.TurnKey.{TurnKey}
use Rattle.cluster_world.specs.Tables.{turn_key_of, Noted}
use Rattle.cluster_world.specs.Commands.{count_for, Find}
use Rattle.cluster_world.proofs.Found.{find-same, find-noted, client-fits, turn-fits}
use Rattle.cluster_world.proofs.commands.Commands.add.Goals as goal

pub invariant_of-self : goal.invariant_of-self
invariant_of-self c = subst (λ cs. Find cs c.self.inside.tables) (sym c.in_err-reserve.ensures.items) c.self.invariant

pub invariant_of-self-in_err-make_room : goal.invariant_of-self-in_err-make_room
invariant_of-self-in_err-make_room c =
    subst (λ cs. Find cs c.make_room.new.self) (sym c.in_ok-reserve.ensures.items) (find-same c.self.inside.arrivals.items c.self.inside.tables c.self.invariant c.make_room.new.self c.in_err-make_room.ensures.same)

pub note-requires-clause-client : goal.note-requires-clause-client
note-requires-clause-client c =
    let xs : List Arrival = c.self.inside.arrivals.items in
    let room : Find xs c.make_room.new.self = find-same xs c.self.inside.tables c.self.invariant c.make_room.new.self c.in_ok-make_room.ensures.same in
    let small : length xs < 2 ^ 63 = search rules in
    omega (arith, client-fits xs c.make_room.new.self room c.args.ticket.client, small)

pub note-requires-clause-turn : goal.note-requires-clause-turn
note-requires-clause-turn c =
    let xs : List Arrival = c.self.inside.arrivals.items in
    let room : Find xs c.make_room.new.self = find-same xs c.self.inside.tables c.self.invariant c.make_room.new.self c.in_ok-make_room.ensures.same in
    let small : length xs < 2 ^ 63 = search rules in
    omega (arith, turn-fits xs c.make_room.new.self room c.of-turn.result.client c.of-turn.result.slot, small)

pub invariant_of-self-2 : goal.invariant_of-self-2
invariant_of-self-2 c =
    let xs : List Arrival = c.self.inside.arrivals.items in
    let room : Find xs c.make_room.new.self = find-same xs c.self.inside.tables c.self.invariant c.make_room.new.self c.in_ok-make_room.ensures.same in
    let number : c.args.ticket.part ≡ count_for xs c.args.ticket.client = c.requires ∙ ap (λ (cs : List Arrival). count_for cs c.args.ticket.client) (sym c.self.view_is) in
    let long : vec_len c.reserve.new.self ≡ length c.reserve.new.self.items = search rules in
    let place : c.len.result ≡ length xs = c.len.ensures ∙ long ∙ ap length c.in_ok-reserve.ensures.items in
    let key : c.of-turn.result ≡ turn_key_of (fresh c.args.ticket c.args.part) = c.of-turn.ensures ∙ ap turn_key_of c.new-command.ensures.progress in
    let noted : Noted c.args.ticket (turn_key_of (fresh c.args.ticket c.args.part)) (length xs) c.make_room.new.self c.note.new.self =
    subst (λ (q : TurnKey × ℕ). Noted c.args.ticket q.0 q.1 c.make_room.new.self c.note.new.self) (λ i. (key i, place i)) c.note.ensures in
    let items : xs ++ record { command = fresh c.args.ticket c.args.part; arrived = c.args.moment; answered = false } ∷ [] ≡ c.push_reserved.new.self.items =
    (λ i. sym c.in_ok-reserve.ensures.items i ++ record { command = sym c.new-command.ensures.progress i; arrived = c.args.moment; answered = false } ∷ []) ∙ sym c.push_reserved.ensures.items in
    subst (λ cs. Find cs c.note.new.self) items (find-noted xs c.make_room.new.self room c.note.new.self c.args.ticket c.args.part c.args.moment number noted)
