use Rattle.std.proofs.Common.{◌≡◌, ◌<◌, ℕ, false}
use Rattle.std.specs.Prelude.{slice_get}
use Rattle.std.specs.Option.{ForSome}
use Rattle.proxy_turns.specs.CarrierModel.{carrier_model, CarrierGoesBy, serves_lane}
use Rattle.proxy_turns.specs.Resting.{RunRests}
use Rattle.proxy_turns.proofs.carrier.Carrier+H+Publisher+J+R+D+P.serve_lanes.Given as goal

abbrev pub invariant-loop-worker : goal.invariant-loop-worker
invariant-loop-worker g l = let now = carrier_model g.D.Dial.failures l.self in record {
  goes : CarrierGoesBy g.P.NodePort.calls g.D.Dial.opens g.P.RunPort.longest serves_lane (carrier_model g.D.Dial.failures l.initial.self) l.moved now;
  rests : l.moved ≡ false → (k : ℕ) → k < l.worker → ForSome (slice_get now.pending_runs k) (λ pending. RunRests now.lanes now.backends k pending.refused pending.run);
}
