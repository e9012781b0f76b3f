use Rattle.std.proofs.Common.{◌≡◌, ◌++◌, take}
use Rattle.proxy_lanes.proofs.history.Front.add_all.Given as goal

abbrev pub invariant-loop-operation : goal.invariant-loop-operation
invariant-loop-operation g l = l.self ≡ l.initial.self ++ take l.operation-index l.operations
