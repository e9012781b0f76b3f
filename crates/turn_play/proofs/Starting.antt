-- A play of a new engine begins at a start.
use Rattle.std.proofs.Common.{◌≡◌, ℕ, List, [], ◌∷◌, ◌++◌, Some, None, refl, sym, ap, ◌∙◌, subst, Ok, Err, length}
use Rattle.std.specs.Prelude.{IfOk, Option, Result, IsSome, IsSomeAnd, map, drop, slice_get}
use Rattle.slot_map.specs.Table.{Endpoint}
use Rattle.node_model.specs.Nodes.{ClusterModel}
use Rattle.node_model.specs.Store.{StoreModel}
use Rattle.key_split.specs.declared.travel.Ticket.{Ticket}
use Rattle.key_split.specs.declared.travel.Told.{Told}
use Rattle.proxy_lanes.specs.declared.ring.Outlet.{Outlet}
use Rattle.proxy_lanes.specs.declared.ring.Inlet.{Inlet}
use Rattle.proxy_lanes.specs.declared.ring.Numbered.{Numbered}
use Rattle.proxy_lanes.specs.declared.ends.lane_ends.LaneEnds.{LaneEnds}
use Rattle.proxy_lanes.specs.declared.ends.WorkerEnds.{WorkerEnds}
use Rattle.proxy_lanes.specs.Carrier.{AreLanesOf}
use Rattle.proxy_lanes.specs.Lane.{IsNewLane}
use Rattle.proxy_turns.specs.declared.newcomer.Newcomer.{Newcomer}
use Rattle.proxy_turns.specs.WorkerModel.{WorkerModel}
use Rattle.proxy_turns.specs.Worker.{new_worker}
use Rattle.proxy_turns.specs.CarrierModel.{new_carrier}
use Rattle.proxy_engine.specs.EngineModel.{EngineModel, IsNewEngine}
use Rattle.proxy_engine.proofs.Beginning.{new-in-order}
use Rattle.turn_laws.specs.System.{between, IsInStep, seat_of}
use Rattle.turn_laws.specs.Underway.{down_in, DownInStep}
use Rattle.turn_laws.specs.Refines.{IsStart}
use Rattle.turn_play.specs.Port.{PortModel}
use Rattle.turn_play.specs.Starting.{IsBeginning, IsNewPlay, PlaysStart, ShowsStart, start_of}
use Rattle.turn_play.specs.Playing.{PlayModel}
use Rattle.turn_play.proofs.Knowing.{knows-itself}
use Rattle.turn_play.proofs.Turning.{the-only}

module _ {T : Type 0} where
  nothing-between : (outlet : Outlet T) (inlet : Inlet T) → IsNewLane outlet inlet → between outlet inlet ≡ []
  nothing-between outlet inlet new = λ i. map (λ (x : Numbered T). x.item) (drop (length (new.2 i)) (new.1 i))

  in-step : (outlet : Outlet T) (inlet : Inlet T) → IsNewLane outlet inlet → IsInStep outlet inlet
  in-step outlet inlet new = ([], ap (λ xs. xs ++ []) new.2 ∙ sym new.1)

nothing-down : (down : Option (Outlet (Ticket × Told))) (inlet : Inlet (Ticket × Told)) → IsSomeAnd down (λ outlet. IsNewLane outlet inlet) → down_in down inlet ≡ []
nothing-down None inlet new = absurd new
nothing-down (Some outlet) inlet new = nothing-between outlet inlet new

is-some : (down : Option (Outlet (Ticket × Told))) (inlet : Inlet (Ticket × Told)) → IsSomeAnd down (λ outlet. IsNewLane outlet inlet) → IsSome down
is-some None inlet new = absurd new
is-some (Some outlet) inlet new = refl

-- a worker over new ends, and the lane over the other ends
module _ {C J : Type 0} (left : Option ℕ) (seeds : List Endpoint) (ends : WorkerEnds (Newcomer C J) J) (lane : LaneEnds (Newcomer C J)) (new : AreLanesOf 1 0 ends lane) where
  abbrev worker : WorkerModel C J
  worker = new_worker ends left

  abbrev engine : EngineModel C J PortModel
  engine = record { worker = worker; carrier = new_carrier (lane ∷ []) seeds [] 0 }

  abbrev play : ClusterModel → List Endpoint → PlayModel C J
  play cluster nodes = record { engine = engine; cluster = cluster; nodes = nodes; told = [] }

  -- what holds of these two holds of what stands at a place of the lists
  at-place : (Fits : WorkerModel C J → LaneEnds (Newcomer C J) → Type 0) → Fits worker lane → (k : ℕ) (model : WorkerModel C J) (other : LaneEnds (Newcomer C J)) → slice_get (worker ∷ []) k ≡ Some model → slice_get (lane ∷ []) k ≡ Some other → Fits model other
  at-place Fits fits k model other at there =
      let w = the-only worker model k at in
      let l = the-only lane other k there in
      subst (λ m. Fits m other) w.1 (subst (λ o. Fits worker o) l.1 fits)

  is-start : (initial : StoreModel) (cluster : ClusterModel) (nodes : List Endpoint) → IsBeginning initial seeds cluster nodes → IsStart (start_of initial (play cluster nodes))
  is-start initial cluster nodes begins = record {
    idle = λ k model at.
        let w = the-only worker model k at in
        (ap seat_of (sym w.1) ∙ (λ i. ((new.0 ∙ sym w.0) i, new.1 i)), ap (λ (m : WorkerModel C J). m.clients) (sym w.1));
    ups = at-place (λ model other. (between model.outlet other.up ≡ []) × (down_in other.down model.inlet ≡ [])) (nothing-between ends.outlet lane.up new.2, nothing-down lane.down ends.inlet new.3);
    sides = refl;
    up_steps = at-place (λ model other. IsInStep model.outlet other.up) (in-step ends.outlet lane.up new.2);
    down_steps = at-place (λ model other. DownInStep other model) (λ outlet is. in-step outlet ends.inlet (subst (λ d. IsSomeAnd d (λ (o : Outlet (Ticket × Told)). IsNewLane o ends.inlet)) is new.3));
    unfinished = λ k other at. subst (λ (l : LaneEnds (Newcomer C J)). IsSome l.down) (the-only lane other k at).1 (is-some lane.down ends.inlet new.3);
    pending_runs = refl;
    backends = refl;
    each = begins.listed.each;
    apart = begins.listed.apart;
    room = begins.listed.room;
    table = begins.listed.front;
    seed = begins.listed.seed;
    published = refl;
    closed = refl;
    log = refl;
    sound = begins.sound;
  }

  starts : (initial : StoreModel) (cluster : ClusterModel) (nodes : List Endpoint) → IsBeginning initial seeds cluster nodes → ShowsStart initial (play cluster nodes)
  starts initial cluster nodes begins = (
    record {
      engine = record {
        less = engine;
        knows = knows-itself engine;
        in_order = new-in-order left seeds 0 engine (ends, lane, new, refl);
        first = new.0;
        workers = refl;
        carrier = ([], tt, refl);
      };
      cluster = refl;
      nodes = refl;
    },
    is-start initial cluster nodes begins,
    record { named = begins.listed.named; stands = begins.stands },
  )

module _ (C J : Type 0) where
  pub plays-start : PlaysStart C J
  plays-start initial left seeds cluster nodes other begins is =
      let new : IsNewEngine left seeds 0 other.engine = is.0 in
      subst (ShowsStart initial) (sym (is.1 ∙ (λ i. record { engine = new.3 i; cluster = cluster; nodes = nodes; told = [] }))) (starts left seeds new.0 new.1 new.2 initial cluster nodes begins)

-- a new play shows a start
pub started : {A E C J : Type 0} (initial : StoreModel) (result : Result A E) (model : A → PlayModel C J) (left : Option ℕ) (seeds : List Endpoint) (cluster : ClusterModel) (nodes : List Endpoint)
    → ((play : PlayModel C J) → IsNewPlay left seeds cluster nodes play → ShowsStart initial play) → IfOk result (λ play. IsNewPlay left seeds cluster nodes (model play)) → IfOk result (λ play. ShowsStart initial (model play))
started initial (Ok play) model left seeds cluster nodes shows is = shows (model play) is
started initial (Err fault) model left seeds cluster nodes shows is = is
