-- A worker's events keep its number and its ends of the lanes, and what it sees of the slot map only grows.
use Rattle.std.proofs.Common.{◌≡◌, ℕ, List, [], ◌∷◌, Bool, Option, Some, None, Result, Ok, Err, refl, sym, ap, ◌∙◌, subst}
use Rattle.std.specs.List.{FoldsTo}
use mathlib.Core.List.{IsPrefix}
use Rattle.resp_wire.specs.declared.fault.NoMemory.{NoMemory}
use Rattle.slot_map.specs.declared.ops.MapOp.{MapOp}
use Rattle.command_future.specs.declared.stage.Stage.{Stage}
use Rattle.command_future.specs.declared.stage.Stage.TheVariants.{Wants, WantsAsking, Awaits, Over}
use Rattle.proxy_lanes.specs.declared.map_view.NotEntered.{NotEntered}
use Rattle.proxy_lanes.specs.View.{ViewModel, refused_once}
use Rattle.proxy_turns.specs.Port.{Moves}
use Rattle.proxy_turns.specs.Commands.{GoesTo, Looks}
use Rattle.proxy_turns.specs.ClientTurn.{ClientContext, ClientDoes, ClientEvent, Pulled, Fed, Read, HandedOut, Followed, Looked, CameBack, Posted, Drained, Pushed, Tried, Parted, Dropped}
use Rattle.proxy_turns.specs.WorkerModel.{Learns, WorkerModel, WorkerEvent, Did, Finished, Took, FoundNone, Came, TurnedAway, FoundNobody, Left, WorkerDoes, WorkerGoes, WorkerTurns}
use Rattle.proxy_engine.proofs.Ends.{SameOutlet, SameInlet, outlet-itself, inlet-itself, outlet-after, inlet-after, posts-there, takes-there, front-itself, front-after, same-front}

-- a view that is this one, which knows the same
same-known : (old new view : ViewModel) → new ≡ view → view.known ≡ old.known → IsPrefix old.known new.known
same-known old new view is same = same-front old.known new.known (ap (λ (v : ViewModel). v.known) is ∙ same)

looks-more : (old : ViewModel) (slot : ℕ) (answer : Result (Option ℕ) NotEntered) (new : ViewModel) → Looks old slot answer new → IsPrefix old.known new.known
looks-more old slot (Ok node) new l = l.0
looks-more old slot (Err refused) new l = same-known old new (refused_once old) l refl

goes-more : (stage : Stage) (slot : ℕ) (old : ViewModel) (node : ℕ) (new : ViewModel) → GoesTo stage slot old node new → IsPrefix old.known new.known
goes-more (Wants (Some named)) slot old node new g = same-known old new old g.1 refl
goes-more (Wants None) slot old node new g = looks-more old slot g.0 new g.1
goes-more (WantsAsking named) slot old node new g = same-known old new old g.1 refl
goes-more Awaits slot old node new g = absurd g
goes-more (Over end) slot old node new g = absurd g

learns-more : (old : ViewModel) (front : Option (List MapOp)) (new : ViewModel) → Learns old front new → IsPrefix old.known new.known
learns-more old None new l = same-known old new old l refl
learns-more old (Some front) new l = l.0

abbrev pub KeepsEnds : {C J : Type 0} → WorkerModel C J → WorkerModel C J → Type 0
KeepsEnds old new = (new.worker ≡ old.worker) × SameOutlet old.outlet new.outlet × SameInlet old.inlet new.inlet × SameInlet old.newcomers new.newcomers × IsPrefix old.view.known new.view.known

pub ends-themselves : {C J : Type 0} (worker : WorkerModel C J) → KeepsEnds worker worker
ends-themselves worker = (refl, outlet-itself worker.outlet, inlet-itself worker.inlet, inlet-itself worker.newcomers, front-itself worker.view.known)

pub ends-after : {C J : Type 0} (a b c : WorkerModel C J) → KeepsEnds a b → KeepsEnds b c → KeepsEnds a c
ends-after a b c p q = (
  q.0 ∙ p.0,
  outlet-after a.outlet b.outlet c.outlet p.1 q.1,
  inlet-after a.inlet b.inlet c.inlet p.2 q.2,
  inlet-after a.newcomers b.newcomers c.newcomers p.3 q.3,
  front-after a.view.known b.view.known c.view.known p.4 q.4,
)

abbrev ClientKeeps : {C : Type 0} → ClientContext C → ClientContext C → Type 0
ClientKeeps old new = SameOutlet old.outlet new.outlet × IsPrefix old.view.known new.view.known

at-client : {C : Type 0} (old new mid : ClientContext C) → new ≡ mid → ClientKeeps old mid → ClientKeeps old new
at-client {C} old new mid e k = subst (λ (c : ClientContext C). ClientKeeps old c) (sym e) k

client-itself : {C : Type 0} (context : ClientContext C) → ClientKeeps context context
client-itself context = (outlet-itself context.outlet, front-itself context.view.known)

module _ {C : Type 0} (moves : Moves C) where
  client-event : (event : ClientEvent) (old new : ClientContext C) → ClientDoes moves old event new → ClientKeeps old new
  client-event (Pulled bytes) old new d = at-client old new _ d.1 (client-itself old)
  client-event (Fed result) old new d = at-client old new _ d.1 (client-itself old)
  client-event (Read result) old new d = at-client old new _ d.1 (client-itself old)
  client-event (HandedOut ticket part) old new d = at-client old new _ d.3 (client-itself old)
  client-event (Followed ticket part) old new d = at-client old new _ d.2 (client-itself old)
  client-event (Looked slot) old new d = at-client old new _ d.1 (outlet-itself old.outlet, looks-more old.view slot d.0.0 new.view d.0.1)
  client-event (CameBack run) old new d = at-client old new _ d.1 (posts-there old.outlet new.outlet run (Err run) d.0, front-itself old.view.known)
  client-event (Posted run) old new d = (posts-there old.outlet new.outlet run (Ok tt) d.11, goes-more d.0.stage _ old.view run.first.node new.view d.7)
  client-event (Drained n) old new d = at-client old new _ d.2 (client-itself old)
  client-event (Pushed bytes) old new d = at-client old new _ d.2 (client-itself old)
  client-event Tried old new d = at-client old new _ d.1 (client-itself old)
  client-event Parted old new d = at-client old new _ d.3 (client-itself old)
  client-event (Dropped tickets) old new d = at-client old new _ d.3 (client-itself old)

module _ {C J : Type 0} (moves : Moves C) where
  from : (old new mid : WorkerModel C J) → new ≡ mid → KeepsEnds old mid → KeepsEnds old new
  from old new mid e k = subst (λ (w : WorkerModel C J). KeepsEnds old w) (sym e) k

  pub worker-event : (event : WorkerEvent) (old new : WorkerModel C J) → WorkerDoes moves old event new → KeepsEnds old new
  worker-event (Did number event) old new d =
      let kept = client-event moves event _ _ d.3 in
      from old new _ d.4 (refl, kept.0, inlet-itself old.inlet, inlet-itself old.newcomers, kept.1)
  worker-event (Finished number ticket end) old new d = from old new _ d.4 (ends-themselves old)
  worker-event (Took ticket told) old new d =
      from old new _ d.2 (refl, outlet-itself old.outlet, takes-there old.inlet new.inlet (Some (ticket, told)) d.0, inlet-itself old.newcomers, front-itself old.view.known)
  worker-event FoundNone old new d = from old new _ d.1 (refl, outlet-itself old.outlet, takes-there old.inlet new.inlet None d.0, inlet-itself old.newcomers, front-itself old.view.known)
  worker-event (Came number) old new d =
      from old new _ d.6 (refl, outlet-itself old.outlet, inlet-itself old.inlet, takes-there old.newcomers new.newcomers (Some d.0) d.1, learns-more old.view d.0.front new.view d.5)
  worker-event (TurnedAway number) old new d =
      from old new _ d.8 (refl, outlet-itself old.outlet, inlet-itself old.inlet, takes-there old.newcomers new.newcomers (Some d.0) d.2, learns-more old.view d.0.front new.view d.6)
  worker-event FoundNobody old new d =
      from old new _ d.1 (refl, outlet-itself old.outlet, inlet-itself old.inlet, takes-there old.newcomers new.newcomers None d.0, front-itself old.view.known)
  worker-event (Left number) old new d = from old new _ d.4 (ends-themselves old)

  pub worker-events : (events : List WorkerEvent) (old new : WorkerModel C J) → FoldsTo (WorkerDoes moves) old events new → KeepsEnds old new
  worker-events [] old new f = subst (λ (w : WorkerModel C J). KeepsEnds old w) f (ends-themselves old)
  worker-events (event ∷ events) old new f = ends-after old f.0 new (worker-event event old f.0 f.1) (worker-events events f.0 new f.2)

  pub worker-goes : (old new : WorkerModel C J) (moved : Bool) → WorkerGoes moves old moved new → KeepsEnds old new
  worker-goes old new moved g = worker-events g.0 old new g.1

  pub worker-turns : (old new : WorkerModel C J) (result : Result Bool NoMemory) → WorkerTurns moves old result new → KeepsEnds old new
  worker-turns old new (Ok moved) t = worker-goes old new moved t
  worker-turns old new (Err refused) t = worker-goes old new t.0 t.1
