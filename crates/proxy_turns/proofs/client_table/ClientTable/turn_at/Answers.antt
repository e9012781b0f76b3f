use Rattle.std.proofs.Common.{◌∙◌, Ok, ap, sym, inr}
use Rattle.std.proofs.lemmas.Result.{err_from_is_err_and}
use Rattle.std.specs.Option.{option_copied_mut}
use Rattle.indexmap.proofs.CallerLemmas.{index_map_len-with_value_at}
use Rattle.proxy_turns.proofs.Rounds.{turned_at}
use Rattle.proxy_turns.proofs.Sleeping.{asleep_but, asleep_if}
use Rattle.proxy_turns.proofs.Tables.{wrote_at}
use Rattle.proxy_turns.proofs.client_table.ClientTable.turn_at.Goals as goal

pub returns-in_err-turned-clause-serves : goal.returns-in_err-turned-clause-serves
returns-in_err-turned-clause-serves g c =
    let is = (err_from_is_err_and c.from_residual.result c.from_residual.ensures.1).1 in
    let there = sym c.get_index_mut.ensures.value ∙ ap option_copied_mut c.in-Some.is in
    let put = wrote_at c.self.inside.by_number c.args.place c.in-Some.client.now c.turn.new.self there c.get_index_mut.ensures.unique in
    rw is (rw (← c.self.view_is) (inr (put.0, c.in-Some.client.now, c.turn.new.self, put.1, c.in_err-turned.ensures.turns, put.2, put.3)))

pub returns-in_err-turned-clause-len : goal.returns-in_err-turned-clause-len
returns-in_err-turned-clause-len g c = rw (← c.self.view_is) (index_map_len-with_value_at c.self.inside.by_number c.args.place c.turn.new.self)

pub invariant_of-self-in_err-turned : goal.invariant_of-self-in_err-turned
invariant_of-self-in_err-turned g c = asleep_but g.C.ClientPort.gives_none _ _ c.self.inside.by_number.entries c.args.place c.turn.new.self c.self.invariant c.wake.ensures.others c.wake.ensures.woken

pub returns-clause-serves : goal.returns-clause-serves
returns-clause-serves g c =
    let there = sym c.get_index_mut.ensures.value ∙ ap option_copied_mut c.in-Some.is in
    let put = wrote_at c.self.inside.by_number c.args.place c.in-Some.client.now c.turn.new.self there c.get_index_mut.ensures.unique in
    rw (← c.self.view_is) (inr (put.0, c.in-Some.client.now, c.turn.new.self, put.1, c.in_ok-turned.ensures.turns, put.2, put.3))

pub returns-clause-turned : goal.returns-clause-turned
returns-clause-turned g c =
    let there = sym c.get_index_mut.ensures.value ∙ ap option_copied_mut c.in-Some.is in
    let put = wrote_at c.self.inside.by_number c.args.place c.in-Some.client.now c.turn.new.self there c.get_index_mut.ensures.unique in
    rw (← c.self.view_is)
    (turned_at g.C.ClientPort.gives_none g.C.ClientPort.takes_none g.C.ClientPort.moves c.self.inside.by_number.entries c.args.place put.0 c.in-Some.client.now c.turn.new.self
    c.args.uplink.now.outlet c.turn.new.uplink.outlet c.args.uplink.now.view c.turn.new.uplink.view (Ok c.in_ok-turned.turned) put.3 put.2 c.in_ok-turned.ensures.turns c.in_ok-turned.ensures.rests)

pub returns-clause-len : goal.returns-clause-len
returns-clause-len g c = rw (← c.self.view_is) (index_map_len-with_value_at c.self.inside.by_number c.args.place c.turn.new.self)

pub invariant_of-self-2 : goal.invariant_of-self-2
invariant_of-self-2 g c =
    let there = sym c.get_index_mut.ensures.value ∙ ap option_copied_mut c.in-Some.is in
    let put = wrote_at c.self.inside.by_number c.args.place c.in-Some.client.now c.turn.new.self there c.get_index_mut.ensures.unique in
    asleep_if g.C.ClientPort.gives_none c.wake.new.self.marks.items c.note.new.self.marks.items c.self.inside.by_number.entries c.args.place put.0 c.in-Some.client.now c.turn.new.self c.in_ok-turned.turned.asleep
    (asleep_but g.C.ClientPort.gives_none _ _ c.self.inside.by_number.entries c.args.place c.turn.new.self c.self.invariant c.wake.ensures.others c.wake.ensures.woken)
    c.note.ensures.others c.note.ensures.awake put.3 c.in_ok-turned.ensures.sleeps
