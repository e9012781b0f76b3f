use Rattle.std.proofs.Common.{rules, ◌≡◌}
use Rattle.node_dial.proofs.Slots.{set_there}
use Rattle.node_dial.proofs.node_set.NodeSet.remove.Goals as goal

pub returns-clause-removed : goal.returns-clause-removed
returns-clause-removed c =
    let same : c.from.result ≡ c.args.node = search rules in
    rw same (set_there _ c.args.self.now.held c.args.node (search rules))
