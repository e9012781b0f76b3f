use Rattle.std.proofs.Common.{subst, sym}
use Rattle.proxy_turns.specs.Sleepers.{AreAsleep}
use Rattle.proxy_turns.proofs.client_table.ClientTable.make_room.Goals as goal

pub invariant_of-self : goal.invariant_of-self
invariant_of-self g c = subst (AreAsleep g.C.ClientPort.gives_none c.self.inside.sleepers.marks.items) (sym c.in_err-reserve.ensures.entries) c.self.invariant

pub invariant_of-self-2 : goal.invariant_of-self-2
invariant_of-self-2 g c = λ place marked. subst (AreAsleep g.C.ClientPort.gives_none c.self.inside.sleepers.marks.items) (sym c.in_ok-reserve.ensures.entries) c.self.invariant place (c.make_room.ensures place marked)
