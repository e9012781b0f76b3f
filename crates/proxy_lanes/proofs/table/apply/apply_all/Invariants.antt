use Rattle.std.proofs.Common.{List, ◌++◌, take}
use Rattle.slot_map.specs.declared.ops.MapOp.{MapOp}
use Rattle.slot_map.specs.Map.{MapShows}
use Rattle.proxy_lanes.proofs.table.apply.apply_all.Given as goal

abbrev pub invariant-loop-op : goal.invariant-loop-op
invariant-loop-op l = (before : List MapOp) → MapShows l.initial.map before → MapShows l.map (before ++ take l.op-index l.ops)
