-- A step is as well one of a system whose log holds something before, and whose nodes held something else at the start.
use Rattle.std.proofs.Common.{ℕ, List, [], ◌∷◌, ◌++◌, sym, ap, ◌∙◌, append_assoc}
use Rattle.std.specs.Prelude.{Some, slice_set}
use Rattle.std.specs.List.{FoldsTo}
use Rattle.node_model.specs.Nodes.{ClusterModel}
use Rattle.node_model.specs.Store.{StoreModel}
use Rattle.proxy_turns.specs.declared.newcomer.Newcomer.{Newcomer}
use Rattle.proxy_turns.specs.CarrierModel.{CarrierModel}
use Rattle.world_laws.specs.declared.event.Event.{Event}
use Rattle.world_laws.specs.declared.event.Event.TheVariants as core
use Rattle.turn_laws.specs.Wire.{Wire}
use Rattle.turn_laws.specs.System.{System, Mark}
use Rattle.turn_laws.specs.Asking.{NoneAsksIn}
use Rattle.turn_laws.specs.Steps.{MovesOn, SystemEvent, AtWorker, AtCarrier, Handed, AtNode, AtBroken, Thrown, Moved, SystemStep, log_of}

module _ {C J : Type 0} (initial : StoreModel) (before : List Mark) where
  abbrev pub framed : System C J → System C J
  framed s = record s { initial = initial; log = before ++ s.log }

  none-asks : (s : System C J) (slot target : ℕ) → NoneAsksIn s slot target → NoneAsksIn (framed s) slot target
  none-asks s slot target x = record { wants = x.wants; told = x.told; said = x.said; lies = x.lies; sent = x.sent; broken = x.broken }

  framed-move : (event : Event) (s : System C J) (k : ClusterModel) → MovesOn s event k → MovesOn (framed s) event k
  framed-move (core.Import slot target) s k x = (none-asks s slot target x.0, x.1, x.2)
  framed-move (core.Migrate slot) s k x = x
  framed-move (core.MoveKey slot key) s k x = x
  framed-move (core.Own slot) s k x = x
  framed-move (core.Release slot) s k x = x
  framed-move (core.Forget slot) s k x = x
  framed-move (core.Stay slot) s k x = x
  framed-move (core.Arrive client part) s k x = absurd x
  framed-move (core.Post ticket node) s k x = absurd x
  framed-move (core.Carry lane link) s k x = absurd x
  framed-move (core.Refuse lane) s k x = absurd x
  framed-move (core.Serve link verdict) s k x = absurd x
  framed-move (core.Fetch link) s k x = absurd x
  framed-move (core.Take lane) s k x = absurd x
  framed-move (core.Drop link) s k x = absurd x
  framed-move (core.Discard link) s k x = absurd x
  framed-move (core.Answer client) s k x = absurd x

  pub framed-step : (event : SystemEvent) (s s' : System C J) → SystemStep s event s' → SystemStep (framed s) event (framed s')
  framed-step (AtWorker k event) s s' x = record {
    old = x.old;
    new = x.new;
    lane = x.lane;
    marks = x.marks;
    at = x.at;
    beside = x.beside;
    does = x.does;
    seen = x.seen;
    leaves = ap framed x.leaves ∙ (λ i. record s { workers = slice_set s.workers k x.new; initial = initial; log = sym (append_assoc before s.log x.marks) i });
    in_step = x.in_step;
    shown = x.shown;
  }
  framed-step (AtCarrier event) s s' x = record {
    longest = x.longest;
    does = x.does;
    breaks = x.breaks;
    leaves = ap framed x.leaves;
    in_step = x.in_step;
    table = x.table;
  }
  framed-step (Handed k number) s s' x = (x.0, x.1, x.2, x.3, ap framed x.4)
  framed-step (AtNode k verdict) s s' x =
      let next : CarrierModel (Newcomer C J) Wire = record s.carrier { backends = slice_set s.carrier.backends k (record x.0 { link = Some (record x.1 { port = x.2 }) }) } in
      (x.0, x.1, x.2, x.3, x.4, x.5, x.6, x.7, x.8, x.9, ap framed x.10 ∙ (λ i. record s { cluster = s'.cluster; carrier = next; initial = initial; log = sym (append_assoc before s.log (log_of x.4)) i }))
  framed-step (AtBroken j verdict) s s' x =
      (x.0, x.1, x.2, x.3, x.4, x.5, x.6, ap framed x.7 ∙ (λ i. record s { cluster = s'.cluster; closed = slice_set s.closed j x.1; initial = initial; log = sym (append_assoc before s.log (log_of x.3)) i }))
  framed-step (Thrown j) s s' x = (x.0, x.1, ap framed x.2)
  framed-step (Moved event) s s' x = (framed-move event s s'.cluster x.0, ap framed x.1)

  pub framed-steps : (events : List SystemEvent) (s s' : System C J) → FoldsTo SystemStep s events s' → FoldsTo SystemStep (framed s) events (framed s')
  framed-steps [] s s' f = ap framed f
  framed-steps (event ∷ events) s s' f = (framed f.0, framed-step event s f.0 f.1, framed-steps events f.0 s' f.2)
