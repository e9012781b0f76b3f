use Rattle.std.proofs.Common.{◌≡◌, rules}
use Rattle.resp_wire.specs.Text.{is_one_line}
use Rattle.slot_map.specs.Table.{Endpoint}
use Rattle.std.specs.Prelude.{true}
use Rattle.node_dial.proofs.TableLemmas.{next_made}
use Rattle.node_dial.proofs.next_table.next_table.Goals as goal

pub returns : goal.returns
returns c =
    let at : Endpoint = record { host = c.args.host.now; port = c.args.port } in
    let line : is_one_line c.args.host.now ≡ true = search rules in
    next_made c.args.seeds.now c.new-table.result at c.args.answer.now c.in_ok-asked.asked c.intern.new.self c.in_ok-ops_of.field-0 c.ops_of.new.table c.add_all.new.table
    line c.new-table.ensures c.in_ok-asked.ensures.interns c.in_ok-ops_of.ensures.reads c.in_ok-add_all.ensures
