-- When nothing is left to do for a worker but to wait.
-- That a pause ends when its time has come is said of the worker's state (Waiting.antt), since no model has the time.
use Rattle.std.specs.Prelude.{◌≡◌, ◌⊎◌, ◌<◌, ℕ, Some, None, IsSomeAnd}
use Rattle.std.specs.FinMap.{get}
use Rattle.key_split.specs.Runs.{RunModel}
use Rattle.command_future.specs.declared.stage.Stage.TheVariants.{Awaits}
use Rattle.command_future.specs.CommandModel.{CommandModel, WantsPost}
use Rattle.session_order.specs.SessionModel.{SessionModel}
use Rattle.session_order.specs.Steps.{IsOut}
use Rattle.proxy_lanes.specs.declared.ring.Inlet.{Inlet}
use Rattle.proxy_lanes.specs.declared.ring.Outlet.{Outlet}
use Rattle.proxy_lanes.specs.Lane.{Takes}
use Rattle.proxy_turns.specs.Arrivals.{AreToCome}
use Rattle.proxy_turns.specs.ClientModel.{ClientModel, IsDone}
use Rattle.proxy_turns.specs.ClientRest.{HasNoPlace, IsClientAtRest}
use Rattle.proxy_turns.specs.Pause.{pause_at}
use Rattle.proxy_turns.specs.WorkerModel.{WorkerModel}

-- the last look into the lane found nothing
abbrev pub FoundNothing : {T : Type 0} → Inlet T → Type 0
FoundNothing {T} inlet = (before : Inlet T) × Takes before inlet None

-- no new client waits that is to come
abbrev pub HasNoNewcomer : {C J : Type 0} → WorkerModel C J → Type 0
HasNoNewcomer model = AreToCome model.left → FoundNothing model.newcomers

-- nothing that came down the lane waits to be told
abbrev pub HasNothingToTell : {C J : Type 0} → WorkerModel C J → Type 0
HasNothingToTell model = FoundNothing model.inlet

-- each client that the worker has is at rest, and none is done
abbrev pub AreClientsAtRest : {C J : Type 0} → (C → Type 0) → (C → Type 0) → WorkerModel C J → Type 0
AreClientsAtRest {C} gives_none takes_none model =
    (number : ℕ) (client : ClientModel C) → get model.clients number ≡ Some client → (IsDone client → ⊥) × IsClientAtRest gives_none takes_none client model.outlet

-- it was refused, and pauses before its next post
abbrev pub IsPaused : CommandModel → Type 0
IsPaused command = IsSomeAnd (pause_at command.stage command.followed) (λ pause. 0 < pause)

-- It awaits its answer, or wants its next post: once its turn has come it pauses before that post, or the lane takes nothing more.
abbrev pub IsPostedAtRest : SessionModel → CommandModel → Outlet RunModel → Type 0
IsPostedAtRest session command outlet =
    (command.stage ≡ Awaits) ⊎ (WantsPost command.stage × (IsOut session command.ticket → IsPaused command ⊎ HasNoPlace outlet))

-- each command that was posted is at rest, of each client that the worker has
abbrev pub ArePostedAtRest : {C J : Type 0} → WorkerModel C J → Type 0
ArePostedAtRest {C} model =
    (number : ℕ) (client : ClientModel C) → get model.clients number ≡ Some client
    → (part : ℕ) (command : CommandModel) → get client.commands.posted part ≡ Some command → IsPostedAtRest client.session command model.outlet

-- what a turn of a worker leaves that moved nothing
pub record IsWorkerAtRest {C J : Type 0} (gives_none takes_none : C → Type 0) (worker : WorkerModel C J) : Type 0 where
  pub newcomers : HasNoNewcomer worker
  pub told : HasNothingToTell worker
  pub clients : AreClientsAtRest gives_none takes_none worker
  pub posted : ArePostedAtRest worker
