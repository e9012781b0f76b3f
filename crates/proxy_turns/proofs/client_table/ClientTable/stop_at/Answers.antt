use Rattle.std.proofs.Common.{◌∙◌, ap, sym, inr}
use Rattle.std.specs.Option.{option_copied_mut}
use Rattle.indexmap.specs.IndexMap.{set_value_at}
use Rattle.proxy_turns.proofs.Sleeping.{asleep_but}
use Rattle.proxy_turns.proofs.client_table.ClientTable.stop_at.Goals as goal

pub returns : goal.returns
returns g c =
    let there = sym c.get_index_mut.ensures.value ∙ ap option_copied_mut c.in-Some.is in
    rw (← c.self.view_is) (inr (c.in-Some.client.now, there, ap (set_value_at c.self.inside.by_number.entries c.args.place) c.stop_reading.ensures))

pub invariant_of-self-2 : goal.invariant_of-self-2
invariant_of-self-2 g c = asleep_but g.C.ClientPort.gives_none _ _ c.self.inside.by_number.entries c.args.place c.stop_reading.new.self c.self.invariant c.wake.ensures.others c.wake.ensures.woken
