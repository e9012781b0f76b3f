use Rattle.std.proofs.Common.{◌≡◌, ◌++◌, take, map}
use Rattle.std.specs.List.{flat_map}
use Rattle.admin_page.specs.Text.{sample_text}
use Rattle.admin_page.specs.Page.{thread_sample}
use Rattle.admin_page.proofs.families.push_workers.Given as goal

abbrev pub invariant-loop-worker : goal.invariant-loop-worker
invariant-loop-worker l = l.text.items ≡ l.fn.text.items ++ flat_map (sample_text l.name) (map (thread_sample l.figure) (take l.worker-index l.workers))
