use Rattle.std.proofs.Common.{rules, subst, sym, ◌≡◌, Err, map}
use Rattle.resp_wire.specs.Seen.{data_of}
use Rattle.slot_map.specs.Slots.{read_entries}
use Rattle.slot_map.specs.Passes.{Checks}
use Rattle.slot_map.proofs.Checking.{checked_on, refused_on, host_still, Grows-trans}
use Rattle.slot_map.proofs.slots.check.Goals as goal

pub returns-in_err-try_entry : goal.returns-in_err-try_entry
returns-in_err-try_entry c =
    let own = c.in_err-try_entry.field-0.0 in
    let is : c.from_residual.result ≡ Err own = search rules in
    let so_far = c.loop-rest.invariant in
    let host = host_still c.args.asked _ c.at.result.0.now _ _ c.requires c.at.ensures.value so_far.grown in
    subst (Checks (read_entries c.args.asked (map data_of c.args.entries.now) c.args.table.now)) (sym is)
    (refused_on c.args.asked c.loop-rest.rest.now c.entry-item.result c.at.result.0.now _ own c.loop-rest.draft c.try_entry.new.draft c.in-len1-up.len_at_least c.entry-item.is host so_far.fault c.in_err-try_entry.ensures.tries)

pub loop-rest-preserved : goal.loop-rest-preserved
loop-rest-preserved c =
    let so_far = c.loop-rest.invariant in
    let host = host_still c.args.asked _ c.at.result.0.now _ _ c.requires c.at.ensures.value so_far.grown in
    record {
      fault = checked_on c.args.asked c.loop-rest.rest.now c.entry-item.result c.at.result.0.now _ c.loop-rest.draft c.try_entry.new.draft c.in-len1-up.len_at_least c.entry-item.is host so_far.fault c.in_ok-try_entry.ensures.tries;
      grown = Grows-trans _ _ _ so_far.grown c.try_entry.ensures.grows;
    }
