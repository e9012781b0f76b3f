-- A client that is handed to a play is a step of a system.
use Rattle.std.proofs.Common.{◌≡◌, ◌∙◌, ℕ, List, [], ◌∷◌, refl, sym, ap, subst}
use Rattle.std.specs.Prelude.{All, Result}
use Rattle.std.proofs.lemmas.List.Elements.{All-head, All-tail}
use Rattle.proxy_lanes.specs.Ends.{ChangesAt, HandsOver}
use Rattle.proxy_lanes.specs.declared.ends.lane_ends.LaneEnds.{LaneEnds}
use Rattle.proxy_turns.specs.declared.newcomer.Newcomer.{Newcomer}
use Rattle.proxy_turns.specs.CarrierModel.{CarrierModel}
use Rattle.proxy_engine.specs.EngineModel as engine
use Rattle.proxy_engine.specs.EngineModel.{EngineModel}
use Rattle.proxy_engine.proofs.Beginning.{handed-in-order}
use Rattle.turn_laws.specs.Wire.{Wire}
use Rattle.turn_laws.specs.System.{System}
use Rattle.turn_laws.specs.Steps.{Handed, Hands}
use Rattle.turn_laws.specs.Sharing.{SharedEvent}
use Rattle.turn_laws.specs.AnyPort.{AreWired, over_wires}
use Rattle.turn_play.specs.Port.{PortModel, IsEnd}
use Rattle.turn_play.specs.Turns.{ShowsCarrier, ShowsEngine}
use Rattle.turn_play.specs.Beside.{AreGivenBeside, MayNowBeside, PlaysRefineBeside, StepBeside}
use Rattle.turn_play.specs.Playing.{PlayModel}
use Rattle.turn_play.specs.Handing.{HandsClient, HandedIsSound}
use Rattle.turn_play.proofs.Knowing.{handed-unseen}
use Rattle.turn_play.proofs.Playing.{Any, PlaysWhere, PlaysWhereBeside, one-is}
use Rattle.turn_play.proofs.Beside.{beside, reach}

-- the number of this client was handed over
abbrev pub IsHanded : ℕ → SharedEvent → Type 0
IsHanded number event = event ≡ SharedEvent.Ours (Handed 0 number)

module _ {C J : Type 0} where
  -- the carrier has these lanes, over the same wires
  shows-lanes : (old new : CarrierModel (Newcomer C J) PortModel) (s : System C J) → new ≡ record old { lanes = new.lanes } → (shows : ShowsCarrier IsEnd old s)
      → ShowsCarrier IsEnd new (record s { carrier = record s.carrier { lanes = new.lanes } })
  shows-lanes old new s only shows = (
    shows.0,
    subst (λ bs. AreWired IsEnd bs shows.0) (sym (ap (λ (c : CarrierModel (Newcomer C J) PortModel). c.backends) only)) shows.1,
    (λ i. record (shows.2 i) { lanes = new.lanes }) ∙ (λ i. over_wires (sym only i) shows.0),
  )

  pub handed-over : (old : PlayModel C J) (new : EngineModel C J PortModel) (client : Newcomer C J) (handed : Result (Unit {0}) (Newcomer C J)) → engine.HandsClient old.engine client handed new
      → PlaysWhere Any (λ e. e ≡ Handed 0 client.number) old (record old { engine = new })
  handed-over old new client handed x s shows =
      let less = shows.engine.less in
      let h = handed-unseen less old.engine new client handed shows.engine.knows x in
      let after : EngineModel C J PortModel = h.0 in
      let next : System C J = record s { carrier = record s.carrier { lanes = after.carrier.lanes } } in
      let lanes : s.carrier.lanes ≡ less.carrier.lanes = ap (λ (c : CarrierModel (Newcomer C J) Wire). c.lanes) shows.engine.carrier.2 in
      let changes : ChangesAt s.carrier.lanes 0 after.carrier.lanes (λ lane lane'. HandsOver lane lane' client handed) =
      subst (λ (ls : List (LaneEnds (Newcomer C J))). ChangesAt ls 0 after.carrier.lanes (λ lane lane'. HandsOver lane lane' client handed)) (sym lanes) h.1.0 in
      let hands : Hands s 0 client.number next = (client, handed, refl, changes, refl) in
      let worker : after.worker ≡ less.worker = ap (λ (e : EngineModel C J PortModel). e.worker) h.1.1 in
      let carrier : after.carrier ≡ record less.carrier { lanes = after.carrier.lanes } = ap (λ (e : EngineModel C J PortModel). e.carrier) h.1.1 in
      let shown : ShowsEngine IsEnd new next = record {
        less = after;
        knows = h.2;
        in_order = handed-in-order less after client handed h.1 shows.engine.in_order;
        first = (λ i. (worker i).worker) ∙ shows.engine.first;
        workers = shows.engine.workers ∙ (λ i. sym worker i ∷ []);
        carrier = shows-lanes less.carrier after.carrier s carrier shows.engine.carrier;
      } in (
        next,
        (record { event = Handed 0 client.number; next = next } ∷ [], (hands, refl), (λ given. ((λ lists. tt), tt)), one-is (λ e. e ≡ Handed 0 client.number) (record { event = Handed 0 client.number; next = next }) refl),
        record { engine = shown; cluster = shows.cluster; nodes = shows.nodes },
      )

  -- nothing is asked of such steps
  pub handed-given : (number : ℕ) (steps : List (StepBeside C J)) (s : System C J) → All (λ (step : StepBeside C J). IsHanded number step.event) steps → AreGivenBeside s steps
  handed-given number [] s all = tt
  handed-given number (step ∷ steps) s all = (
    subst (λ event. MayNowBeside s event step.next) (sym (All-head (λ (x : StepBeside C J). IsHanded number x.event) step steps all)) tt,
    handed-given number steps step.next (All-tail (λ (x : StepBeside C J). IsHanded number x.event) step steps all),
  )

  pub handed-beside : (old new : PlayModel C J) (client : Newcomer C J) (handed : Result (Unit {0}) (Newcomer C J)) → HandsClient old client handed new → PlaysWhereBeside Any (IsHanded client.number) old new
  handed-beside old new client handed x =
      beside Any (λ e. e ≡ Handed 0 client.number) (IsHanded client.number) (λ event is. ap SharedEvent.Ours is) old new
      (subst (PlaysWhere Any (λ e. e ≡ Handed 0 client.number) old) (sym x.1) (handed-over old new.engine client handed x.0))

module _ (C J : Type 0) where
  pub handed-is-sound : PlaysRefineBeside C J → HandedIsSound C J
  handed-is-sound refine old new client handed x s shows =
      let one = handed-beside old new client handed x s shows in (
        one.0,
        one.1.0,
        one.1.1,
        one.2,
        λ start before reached. reach refine start before s one.1.0 one.0 reached one.1.1 (handed-given client.number one.1.0 s one.1.3),
      )
