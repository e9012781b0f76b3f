use Rattle.std.proofs.Common.{◌≤◌, ℕ, false, length, refl, subst}
use Rattle.std.proofs.lemmas.Result.{err_from_is_err_and}
use Rattle.proxy_turns.specs.CarrierModel.{adds_worker, carrier_model, connects_seed, serves_backend, serves_lane}
use Rattle.proxy_turns.proofs.Carrying.{err_wider, goes_then, goes_wider, places_added, turns_err_wider}
use Rattle.proxy_turns.proofs.EventKinds.{every, in_turn}
use Rattle.proxy_turns.proofs.Places.{three_false}
use Rattle.proxy_turns.proofs.Quiet.{quiet_by}
use Rattle.proxy_turns.proofs.Receiving.{keeps_received}
use Rattle.proxy_turns.proofs.Resting.{carrier_at_rest}
use Rattle.proxy_turns.proofs.carrier.Carrier+H+Publisher+J+R+D+P.take_turn.Goals as goal

pub returns-in_err-add_places : goal.returns-in_err-add_places
returns-in_err-add_places g c = err_wider g.P.NodePort.calls g.D.Dial.opens g.P.RunPort.longest every _ adds_worker (in_turn adds_worker) _ _ _ _ (false, places_added g.P.NodePort.calls g.D.Dial.opens g.P.RunPort.longest adds_worker refl (carrier_model g.D.Dial.failures c.args.self.now) c.add_places.new.pending_runs.items c.in_err-add_places.ensures.added) (err_from_is_err_and c.from_residual.result c.from_residual.ensures.1).1

pub returns-in_err-connected : goal.returns-in_err-connected
returns-in_err-connected g c = turns_err_wider g.P.NodePort.calls g.D.Dial.opens g.P.RunPort.longest every _ connects_seed (in_turn connects_seed) _ _ _ _ _ _ (places_added g.P.NodePort.calls g.D.Dial.opens g.P.RunPort.longest every refl (carrier_model g.D.Dial.failures c.args.self.now) c.add_places.new.pending_runs.items c.in_ok-add_places.ensures.added) c.in_err-connected.ensures (err_from_is_err_and c.from_residual-in_err-connected.result c.from_residual-in_err-connected.ensures.1).1

pub returns-in_err-fetched : goal.returns-in_err-fetched
returns-in_err-fetched g c = turns_err_wider g.P.NodePort.calls g.D.Dial.opens g.P.RunPort.longest every _ serves_backend (in_turn serves_backend) _ _ _ _ _ _ (goes_then g.P.NodePort.calls g.D.Dial.opens g.P.RunPort.longest every _ _ _ _ _ (places_added g.P.NodePort.calls g.D.Dial.opens g.P.RunPort.longest every refl (carrier_model g.D.Dial.failures c.args.self.now) c.add_places.new.pending_runs.items c.in_ok-add_places.ensures.added) (goes_wider g.P.NodePort.calls g.D.Dial.opens g.P.RunPort.longest every connects_seed (in_turn connects_seed) _ _ _ c.in_ok-connected.ensures.0)) c.in_err-fetched.ensures (err_from_is_err_and c.from_residual-in_err-fetched.result c.from_residual-in_err-fetched.ensures.1).1

pub returns-in_err-carried : goal.returns-in_err-carried
returns-in_err-carried g c = turns_err_wider g.P.NodePort.calls g.D.Dial.opens g.P.RunPort.longest every _ serves_lane (in_turn serves_lane) _ _ _ _ _ _ (goes_then g.P.NodePort.calls g.D.Dial.opens g.P.RunPort.longest every _ _ _ _ _ (goes_then g.P.NodePort.calls g.D.Dial.opens g.P.RunPort.longest every _ _ _ _ _ (places_added g.P.NodePort.calls g.D.Dial.opens g.P.RunPort.longest every refl (carrier_model g.D.Dial.failures c.args.self.now) c.add_places.new.pending_runs.items c.in_ok-add_places.ensures.added) (goes_wider g.P.NodePort.calls g.D.Dial.opens g.P.RunPort.longest every connects_seed (in_turn connects_seed) _ _ _ c.in_ok-connected.ensures.0)) (goes_wider g.P.NodePort.calls g.D.Dial.opens g.P.RunPort.longest every serves_backend (in_turn serves_backend) _ _ _ c.in_ok-fetched.ensures.0)) c.in_err-carried.ensures (err_from_is_err_and c.from_residual-in_err-carried.result c.from_residual-in_err-carried.ensures.1).1

pub returns : goal.returns
returns g c = (
  goes_then g.P.NodePort.calls g.D.Dial.opens g.P.RunPort.longest every _ _ _ _ _ (goes_then g.P.NodePort.calls g.D.Dial.opens g.P.RunPort.longest every _ _ _ _ _ (goes_then g.P.NodePort.calls g.D.Dial.opens g.P.RunPort.longest every _ _ _ _ _ (places_added g.P.NodePort.calls g.D.Dial.opens g.P.RunPort.longest every refl (carrier_model g.D.Dial.failures c.args.self.now) c.add_places.new.pending_runs.items c.in_ok-add_places.ensures.added) (goes_wider g.P.NodePort.calls g.D.Dial.opens g.P.RunPort.longest every connects_seed (in_turn connects_seed) _ _ _ c.in_ok-connected.ensures.0)) (goes_wider g.P.NodePort.calls g.D.Dial.opens g.P.RunPort.longest every serves_backend (in_turn serves_backend) _ _ _ c.in_ok-fetched.ensures.0)) (goes_wider g.P.NodePort.calls g.D.Dial.opens g.P.RunPort.longest every serves_lane (in_turn serves_lane) _ _ _ c.in_ok-carried.ensures.0),
  λ still. let none = three_false _ _ _ still in
      carrier_at_rest _ _ _ _ _
      (quiet_by g.P.NodePort.calls g.D.Dial.opens g.P.RunPort.longest connects_seed refl _ _ _ none.0 c.in_ok-connected.ensures.0)
      (quiet_by g.P.NodePort.calls g.D.Dial.opens g.P.RunPort.longest serves_backend refl _ _ _ none.1 c.in_ok-fetched.ensures.0)
      (quiet_by g.P.NodePort.calls g.D.Dial.opens g.P.RunPort.longest serves_lane refl _ _ _ none.2 c.in_ok-carried.ensures.0)
      (keeps_received g.P.NodePort.calls g.D.Dial.opens g.P.RunPort.longest serves_lane _ _ _ none.2 c.in_ok-carried.ensures.0)
      (subst (λ (n : ℕ). n ≤ length c.add_places.new.pending_runs.items) c.workers.ensures c.in_ok-add_places.ensures.enough) (c.in_ok-connected.ensures.1 none.0) (c.in_ok-fetched.ensures.1 none.1) (c.in_ok-carried.ensures.1 none.2),
)
