use Rattle.cluster_world.specs.Report.{entry_line}
use Rattle.cluster_world.proofs.Texts.{text-more}
use Rattle.cluster_world.proofs.report.push_entries.Goals as goal

pub loop-entry-preserved : goal.loop-entry-preserved
loop-entry-preserved c =
    text-more entry_line c.args.entries.now c.loop-entry.entry-index c.entry-item.result _ _ _ c.loop-entry-test.true c.entry-item.is c.loop-entry.invariant c.in_ok-push_entry.ensures.ok
