-- From the start, over every list of steps.
use Rattle.std.proofs.Common.{List, [], ◌∷◌, subst}
use Rattle.std.specs.List.{FoldsTo}
use Rattle.world_laws.specs.State.{WorldModel}
use Rattle.turn_laws.specs.Walks.{IsWalked}
use Rattle.turn_laws.specs.System.{System}
use Rattle.turn_laws.specs.Shadow.{IsShadow}
use Rattle.turn_laws.specs.Naming.{NamesNodes}
use Rattle.turn_laws.specs.Steps.{SystemEvent, AtWorker, AtCarrier, Handed, AtNode, AtBroken, Thrown, Moved, SystemStep}
use Rattle.turn_laws.specs.Refines.{SimulatesNaming, Refines}
use Rattle.turn_laws.proofs.Walks.{alone-on, alone-walked, every_walk}
use Rattle.turn_laws.proofs.Simulates.{anyhow, carrier-step, worker-step}
use Rattle.turn_laws.proofs.NamesStay.{names-stay}
use Rattle.turn_laws.proofs.AtNodes.{moved}
use Rattle.turn_laws.proofs.Throwing.{thrown}
use Rattle.turn_laws.proofs.Handing.{handed}
use Rattle.turn_laws.proofs.Starts.{start-shadow}
use Rattle.turn_laws.proofs.Served.{served}
use Rattle.turn_laws.proofs.ServedLate.{served-late}
use Rattle.key_split.specs.Laws.{PlansArePlain}

module _ (C J : Type 0) (plain : PlansArePlain) where
  pub simulates : (step : SystemEvent) → SimulatesNaming C J step
  simulates (AtWorker k event) = worker-step C J plain k event
  simulates (AtCarrier event) = anyhow C J (AtCarrier event) (carrier-step C J event)
  simulates (Handed k number) = anyhow C J (Handed k number) (handed C J k number)
  simulates (AtNode k verdict) = anyhow C J (AtNode k verdict) (served C J k verdict)
  simulates (AtBroken j verdict) = anyhow C J (AtBroken j verdict) (served-late C J j verdict)
  simulates (Thrown j) = anyhow C J (Thrown j) (thrown C J j)
  simulates (Moved event) = anyhow C J (Moved event) (moved C J event)

  all : (steps : List SystemEvent) (s s' : System C J) (w : WorldModel) → IsShadow s w → NamesNodes s → IsWalked w → FoldsTo SystemStep s steps s' → (w' : WorldModel) × IsWalked w' × IsShadow s' w'
  all [] s s' w h names r f = (w, r, subst (λ x. IsShadow x w) f h)
  all (step ∷ steps) s s' w h names r f =
      let one = simulates step s f.0 w h names (alone-walked w r) f.1 in
      all steps f.0 s' one.1 one.3 (names-stay C J step s f.0 w h names f.1) (alone-on w one.1 one.0 r one.2) f.2

  pub refines : Refines C J
  refines s s' steps h f =
      let b = start-shadow C J s h in
      let r = all steps s s' b.0 b.2 b.3 b.1 f in
      (r.0, r.1, r.2, every_walk r.0 r.1)
