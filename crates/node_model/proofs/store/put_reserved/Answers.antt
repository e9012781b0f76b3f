use Rattle.std.proofs.Common.{Some, nat_eq}
use Rattle.std.specs.Cmp.Lexicographic.{pointwise}
use Rattle.std.specs.HashMap.{Updates}
use Rattle.node_model.proofs.Entries.{from_entries-insert, on-ok}
use Rattle.node_model.proofs.store.put_reserved.Goals as goal

pub returns-clause-entries : goal.returns-clause-entries
returns-clause-entries c =
    let new = on-ok (Updates (pointwise nat_eq) c.args.held.now c.insert-put.new.self c.args.key (Some c.args.value)) c.insert-put.result c.unwrap.result c.unwrap.ensures c.insert-put.ensures.updates in
    from_entries-insert c.args.key c.args.value c.args.held.now.entries c.insert-put.new.self.entries new.0
