use Rattle.std.proofs.Common.{◌≡◌, Err, rules, subst, sym}
use Rattle.node_dial.specs.NextTable.{Adds, with_nodes}
use Rattle.node_dial.proofs.TableLemmas.{front_full, front_next}
use Rattle.node_dial.proofs.next_table.add_all.Goals as goal

pub returns-in_err-add_at : goal.returns-in_err-add_at
returns-in_err-add_at c =
    let why = c.in_err-add_at.field-0.0 in
    let is : c.from_residual.result ≡ Err why = search rules in
    subst (λ given. Adds (with_nodes c.args.table.now c.args.nodes.now) given c.add_at.new.table) (sym is)
    (front_full c.args.table.now c.loop-number.table c.add_at.new.table c.args.nodes.now c.loop-number.number why c.loop-number-test.true c.loop-number.invariant c.in_err-add_at.ensures)

pub loop-number-preserved : goal.loop-number-preserved
loop-number-preserved c =
    front_next c.args.table.now c.loop-number.table c.add_at.new.table c.args.nodes.now c.loop-number.number c.loop-number.invariant c.in_ok-add_at.ensures
