use Rattle.std.proofs.Common.{subst, Ok}
use Rattle.local_cluster.specs.Local.{LocalStateModel}
use Rattle.local_cluster.specs.LocalRuns.{ServesRunLocally}
use Rattle.local_cluster.specs.contracts.histories.GhostHistoryHistory.TheImpl as history
use Rattle.local_cluster.proofs.RunServed.{run-counted, run-keeps, run-left}
use Rattle.local_cluster.proofs.local.LocalState+GhostHistory.serve_run.Goals as goal

pub invariant_of-self-2 : goal.invariant_of-self-2
invariant_of-self-2 c =
    let before : LocalStateModel = record { nodes = c.self.inside.cluster; history = (history.ghosts).entries c.self.inside.history; asks = c.self.inside.asks.items } in
    run-keeps before c.args.ticket c.args.node c.args.parts.now c.in_ok-tolds.tolds c.as_slice.result.now c.serve_run.new.self ((history.ghosts).entries c.note_run.new.self)
    c.self.invariant c.requires c.in_ok-tolds.ensures c.note_run.ensures c.as_slice.ensures.value

pub returns-clause-served : goal.returns-clause-served
returns-clause-served c =
    let before : LocalStateModel = record { nodes = c.self.inside.cluster; history = (history.ghosts).entries c.self.inside.history; asks = c.self.inside.asks.items } in
    let after : LocalStateModel = record { nodes = c.serve_run.new.self; history = (history.ghosts).entries c.note_run.new.self; asks = c.self.inside.asks.items } in
    subst (λ (s : LocalStateModel). ServesRunLocally s c.args.ticket c.args.node c.args.parts.now (Ok c.in_ok-tolds.tolds) after) c.self.view_is
    (run-left before c.args.ticket c.args.node c.args.parts.now c.in_ok-tolds.tolds c.as_slice.result.now c.serve_run.new.self ((history.ghosts).entries c.note_run.new.self)
    c.in_ok-tolds.ensures c.note_run.ensures c.as_slice.ensures.value)

pub returns-clause-count : goal.returns-clause-count
returns-clause-count c = run-counted c.self.inside.cluster c.serve_run.new.self c.args.node c.args.parts.now c.in_ok-tolds.tolds c.in_ok-tolds.ensures
