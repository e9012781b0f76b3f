use Rattle.proxy_lanes.specs.declared.ring.Outlet.{Outlet}
use Rattle.proxy_lanes.specs.View.{ViewModel}
use Rattle.key_split.specs.Runs.{RunModel}
use Rattle.std.proofs.Common.{true}
use Rattle.proxy_turns.specs.ClientTurn.{ClientGoesBy, is_read}
use Rattle.proxy_turns.proofs.client_parts.ClientParts.read_all.Given as goal

abbrev pub invariant-loop-count : goal.invariant-loop-count
invariant-loop-count g l = (outlet : Outlet RunModel) (view : ViewModel)
    → ClientGoesBy g.C.ClientPort.moves is_read (record { client = l.fn.self; outlet = outlet; view = view }) true (record { client = l.self; outlet = outlet; view = view })
