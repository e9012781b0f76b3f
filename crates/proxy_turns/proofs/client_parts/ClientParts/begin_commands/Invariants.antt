use Rattle.std.proofs.Common.{◌≡◌, true}
use Rattle.key_split.specs.Runs.{RunModel}
use Rattle.proxy_lanes.specs.declared.ring.Outlet.{Outlet}
use Rattle.proxy_lanes.specs.View.{ViewModel}
use Rattle.proxy_turns.specs.ClientTurn.{ClientGoesBy, is_begin}
use Rattle.proxy_turns.proofs.client_parts.ClientParts.begin_commands.Given as goal

abbrev pub invariant-loop : goal.invariant-loop
invariant-loop g l = record {
  gone : l.self.gone ≡ l.fn.self.gone;
  goes : (outlet : Outlet RunModel) (view : ViewModel) → ClientGoesBy g.C.ClientPort.moves is_begin (record { client = l.fn.self; outlet = outlet; view = view }) true
      (record { client = l.self; outlet = outlet; view = view });
}
