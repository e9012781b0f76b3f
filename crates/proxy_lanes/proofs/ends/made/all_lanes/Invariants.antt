use Rattle.std.proofs.Common.{◌≡◌, length}
use Rattle.proxy_lanes.specs.Carrier.{AreLanes}
use Rattle.proxy_lanes.proofs.ends.made.all_lanes.Given as goal

abbrev pub invariant-loop-worker : goal.invariant-loop-worker
invariant-loop-worker g l = record {
  ends : length l.ends.items ≡ l.worker;
  count : length l.lanes.items ≡ l.worker;
  lanes : AreLanes l.fn.workers l.ends.items l.lanes.items;
}
