use Rattle.std.proofs.Common.{subst, Ok}
use Rattle.local_cluster.specs.Local.{LocalStateModel, ServesLocally}
use Rattle.local_cluster.proofs.Noted.{absent-kept, full-kept, left-kept, left-noted, refused-kept, still-there}
use Rattle.local_cluster.proofs.local.LocalState.serve.Goals as goal

pub invariant_of-self : goal.invariant_of-self
invariant_of-self g c =
    let before : LocalStateModel = record { nodes = c.self.inside.cluster; history = g.H.History.entries c.self.inside.history; asks = c.self.inside.asks.items } in
    absent-kept before c.args.batch.now c.serve.new.self _ c.self.invariant c.in_err-serve.ensures

pub invariant_of-self-in_err-make_room : goal.invariant_of-self-in_err-make_room
invariant_of-self-in_err-make_room g c =
    let before : LocalStateModel = record { nodes = c.self.inside.cluster; history = g.H.History.entries c.self.inside.history; asks = c.self.inside.asks.items } in
    full-kept before c.args.batch.now c.serve.new.self _ c.make_room.new.items.items c.self.invariant c.in_ok-serve.ensures c.in_err-make_room.ensures.items

pub invariant_of-self-in_err-part : goal.invariant_of-self-in_err-part
invariant_of-self-in_err-part g c =
    let before : LocalStateModel = record { nodes = c.self.inside.cluster; history = g.H.History.entries c.self.inside.history; asks = c.self.inside.asks.items } in
    full-kept before c.args.batch.now c.serve.new.self _ c.make_room.new.items.items c.self.invariant c.in_ok-serve.ensures c.in_ok-make_room.ensures.items

pub serve-requires-2 : goal.serve-requires-2
serve-requires-2 g c =
    let before : LocalStateModel = record { nodes = c.self.inside.cluster; history = g.H.History.entries c.self.inside.history; asks = c.self.inside.asks.items } in
    still-there before c.args.batch.now c.serve.new.self _ c.in_ok-serve.ensures

pub invariant_of-self-in_err-told : goal.invariant_of-self-in_err-told
invariant_of-self-in_err-told g c =
    let before : LocalStateModel = record { nodes = c.self.inside.cluster; history = g.H.History.entries c.self.inside.history; asks = c.self.inside.asks.items } in
    refused-kept before c.args.batch.now c.serve.new.self _ c.make_room.new.items.items c.counts_as_asking-asking.result _ c.serve-2.new.cluster (g.H.History.entries c.serve-2.new.self)
    c.self.invariant c.in_ok-serve.ensures c.in_ok-make_room.ensures.items c.in_err-told.ensures

pub invariant_of-self-2 : goal.invariant_of-self-2
invariant_of-self-2 g c =
    let before : LocalStateModel = record { nodes = c.self.inside.cluster; history = g.H.History.entries c.self.inside.history; asks = c.self.inside.asks.items } in
    left-kept before c.args.batch.now c.in_ok-told.told c.counts_as_asking-asking.result c.serve.new.self c.serve-2.new.cluster (g.H.History.entries c.serve-2.new.self) c.make_room.new.items.items c.deref.result.now c.note.new.asks.items
    c.in_ok-serve.field-0 c.self.invariant c.slot-slot.ensures.of_all c.in_ok-serve.ensures c.in_ok-make_room.ensures.items c.deref.ensures.value c.counts_as_asking-asking.ensures c.in_ok-told.ensures c.note.ensures

pub returns : goal.returns
returns g c =
    let before : LocalStateModel = record { nodes = c.self.inside.cluster; history = g.H.History.entries c.self.inside.history; asks = c.self.inside.asks.items } in
    subst (λ (s : LocalStateModel). ServesLocally s c.args.batch.now (Ok c.in_ok-told.told) (record { nodes = c.serve-2.new.cluster; history = g.H.History.entries c.serve-2.new.self; asks = c.note.new.asks.items })) c.self.view_is
    (left-noted before c.args.batch.now c.in_ok-told.told c.counts_as_asking-asking.result c.serve.new.self c.serve-2.new.cluster (g.H.History.entries c.serve-2.new.self) c.make_room.new.items.items c.deref.result.now c.note.new.asks.items
    c.in_ok-serve.field-0 c.in_ok-serve.ensures c.in_ok-make_room.ensures.items c.deref.ensures.value c.counts_as_asking-asking.ensures c.in_ok-told.ensures c.note.ensures)
