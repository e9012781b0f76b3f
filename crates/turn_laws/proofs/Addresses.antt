-- A run that an address led to another node is a step of the machine beside others.
use Rattle.std.proofs.Common.{◌≡◌, List, ◌++◌, sym, ap, ◌∙◌, subst}
use Rattle.world_laws.specs.State.{WorldModel}
use Rattle.world_laws.specs.World.{IsNode}
use Rattle.shared_laws.specs.Shared.{SharedDoes, Step}
use Rattle.turn_laws.specs.Wire.{Execution}
use Rattle.turn_laws.specs.System.{System}
use Rattle.turn_laws.specs.Shadow.{IsShadow}
use Rattle.turn_laws.specs.Naming.{NamesNodes}
use Rattle.turn_laws.specs.Steps.{log_of}
use Rattle.turn_laws.specs.Addresses.{LeadsTo, LedEvent, LedStep}
use Rattle.turn_laws.specs.Walks.{IsSharedWalked, ticked}
use Rattle.turn_laws.specs.Writing.{StandsAtItsNodes}
use Rattle.turn_laws.proofs.Served.{serves-run-at}
use Rattle.turn_laws.proofs.ServedLate.{serves-run-late}
use Rattle.turn_laws.proofs.NamesStay.{late-served, node-served, run-size}
use Rattle.turn_laws.proofs.SlotsStand.{run-stands}

module _ {C J : Type 0} where
  -- the machine's step
  abbrev pub IsLed : System C J → WorldModel → Type 0
  IsLed s' w = (step : Step) × (w' : WorldModel) × SharedDoes (ticked w) step w' × IsShadow s' w'

  pub led-step : (event : LedEvent) (s s' : System C J) (w : WorldModel) → IsShadow s w → IsSharedWalked w → LedStep s event s' → IsLed s' w
  led-step (LedEvent.OfConnection k node verdict) s s' w h walked on =
      let r = serves-run-at s s' w h walked k (LeadsTo s node verdict) on node verdict on.8.2 in
      (Step.Led r.0 node verdict, r.2, (r.1, r.3, subst (λ c. IsNode c node) (sym h.cluster) on.8.0, r.5 ∙ on.8.1, r.6), r.7)
  led-step (LedEvent.OfBroken j node verdict) s s' w h walked on =
      let r = serves-run-late s s' w h walked j (LeadsTo s node verdict) on node verdict on.5.2 in
      (Step.Led r.0 node verdict, r.2, (r.1, r.3, subst (λ c. IsNode c node) (sym h.cluster) on.5.0, r.5 ∙ on.5.1, r.6), r.7)

  -- what it leaves as it is
  pub record LedFrame (s s' : System C J) : Type 0 where
    pub workers : s'.workers ≡ s.workers
    pub nodes : s'.nodes ≡ s.nodes
    pub done : List Execution
    pub log : s'.log ≡ s.log ++ log_of done

  pub led-frame : (event : LedEvent) (s s' : System C J) → LedStep s event s' → LedFrame s s'
  led-frame (LedEvent.OfConnection k node verdict) s s' on =
      record { workers = ap (λ (x : System C J). x.workers) on.10; nodes = ap (λ (x : System C J). x.nodes) on.10; done = on.4; log = ap (λ (x : System C J). x.log) on.10 }
  led-frame (LedEvent.OfBroken j node verdict) s s' on =
      record { workers = ap (λ (x : System C J). x.workers) on.7; nodes = ap (λ (x : System C J). x.nodes) on.7; done = on.3; log = ap (λ (x : System C J). x.log) on.7 }

  -- nodes are named as they were, and slots stand as they did
  pub led-names : (event : LedEvent) (s s' : System C J) → NamesNodes s → LedStep s event s' → NamesNodes s'
  led-names (LedEvent.OfConnection k node verdict) s s' names on = node-served (LeadsTo s node verdict) k s s' names on (run-size s.nodes s.cluster s'.cluster node (on.1).port on.2 verdict on.3 on.4 on.8.2)
  led-names (LedEvent.OfBroken j node verdict) s s' names on = late-served (LeadsTo s node verdict) j s s' names on (run-size s.nodes s.cluster s'.cluster node on.0 on.1 verdict on.2 on.3 on.5.2)

  pub led-slots : (event : LedEvent) (s s' : System C J) → LedStep s event s' → StandsAtItsNodes s.cluster → StandsAtItsNodes s'.cluster
  led-slots (LedEvent.OfConnection k node verdict) s s' on h = run-stands s.nodes s.cluster node (on.1).port verdict s'.cluster on.2 on.3 on.4 on.8.2 h
  led-slots (LedEvent.OfBroken j node verdict) s s' on h = run-stands s.nodes s.cluster node on.0 verdict s'.cluster on.1 on.2 on.3 on.5.2 h
