use Rattle.std.proofs.Common.{◌≡◌, ◌∙◌, subst}
use Rattle.proxy_lanes.specs.Carrier.{lanes_of}
use Rattle.proxy_lanes.specs.Ends.{ChangesAt, HandsOver}
use Rattle.proxy_turns.specs.CarrierModel.{carrier_model, ends_of, with_ends}
use Rattle.proxy_turns.specs.Worker.{worker_model}
use Rattle.proxy_engine.proofs.Beginning.{handed-in-order}
use Rattle.proxy_engine.proofs.engine.Engine.hand.Goals as goal

pub returns-clause-hands : goal.returns-clause-hands
returns-clause-hands g c =
    let old = c.args.self.now.carrier in
    let ends = c.hand.new.self in
    let value : c.ends.result.now ≡ ends_of old = c.ends.ensures.value in (
      subst (λ e. ChangesAt (lanes_of e) 0 (lanes_of ends) (λ lane lane'. HandsOver lane lane' c.args.client c.hand.result)) value c.hand.ensures.lane,
      λ i. record { worker = worker_model c.args.self.now.worker; carrier = record (carrier_model g.D.Dial.failures (with_ends old ends)) { published = (c.hand.ensures.map ∙ (λ j. (value j).map)) i } },
    )

pub returns-clause-in_order : goal.returns-clause-in_order
returns-clause-in_order g c = λ order. handed-in-order _ _ c.args.client c.hand.result (returns-clause-hands g c) order
