use Rattle.std.proofs.Common.{◌≡◌, ◌<◌, ℕ, false}
use Rattle.std.specs.Prelude.{slice_get}
use Rattle.std.specs.Option.{ForSome}
use Rattle.proxy_turns.specs.CarrierModel.{carrier_model, CarrierGoesBy, serves_backend}
use Rattle.proxy_turns.specs.Backend.{GaveNone}
use Rattle.proxy_turns.specs.Resting.{BackendRests}
use Rattle.proxy_turns.proofs.carrier.Carrier+H+Publisher+J+R+D+P.serve_backends.Given as goal

abbrev pub invariant-loop-at : goal.invariant-loop-at
invariant-loop-at g l = let now = carrier_model g.D.Dial.failures l.self in record {
  goes : CarrierGoesBy g.P.NodePort.calls g.D.Dial.opens g.P.RunPort.longest serves_backend (carrier_model g.D.Dial.failures l.initial.self) l.moved now;
  rests : l.moved ≡ false → (k : ℕ) → k < l.at → ForSome (slice_get now.backends k) (BackendRests (GaveNone g.P.NodePort.calls) now.nodes now.lanes);
}
