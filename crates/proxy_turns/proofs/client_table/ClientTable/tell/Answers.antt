use Rattle.std.proofs.Common.{◌∙◌, Some, ap, subst, sym}
use Rattle.std.specs.Option.{option_copied_mut}
use Rattle.indexmap.proofs.CallerLemmas.{index_map_len-with_value_at}
use Rattle.proxy_turns.specs.ClientTable.{ClientTableModel, HasPlace}
use Rattle.proxy_turns.proofs.Lifting.{tells_at}
use Rattle.proxy_turns.proofs.Sleeping.{asleep_but, changed}
use Rattle.proxy_turns.proofs.client_table.ClientTable.tell.Goals as goal

pub returns-clause-tells : goal.returns-clause-tells
returns-clause-tells g c =
    let entries = c.self.inside.by_number.entries in
    let stands = subst (λ (t : ClientTableModel _). HasPlace t.entries c.args.ticket.client (Some c.in-Some.place)) (sym c.self.view_is) c.in-Some.ensures in
    let there = sym c.get_index_mut.ensures.value ∙ ap option_copied_mut c.in-Some-get_index_mut.is in
    let put = changed c.self.inside.by_number c.in-Some.place c.args.ticket.client c.in-Some-get_index_mut.client.now c.hear.new.self there c.get_index_mut.ensures.unique stands in
    rw (← c.self.view_is) (tells_at entries _ c.args.ticket c.args.told c.in-Some-get_index_mut.client.now c.hear.new.self c.hear.result put.0 put.1 c.hear.ensures.heard c.hear.ensures.kept)

pub returns-clause-len : goal.returns-clause-len
returns-clause-len g c = rw (← c.self.view_is) (index_map_len-with_value_at c.self.inside.by_number c.in-Some.place c.hear.new.self)

pub invariant_of-self-2 : goal.invariant_of-self-2
invariant_of-self-2 g c = asleep_but g.C.ClientPort.gives_none _ _ c.self.inside.by_number.entries c.in-Some.place c.hear.new.self c.self.invariant c.wake.ensures.others c.wake.ensures.woken
