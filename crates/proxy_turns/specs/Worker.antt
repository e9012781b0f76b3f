-- A worker, and what one poll of it does.
-- A worker is ready where all its clients were served, its gate stopped it, or memory ran out. That it ever is ready is
-- not said.
use Rattle.std.specs.Prelude.{◌≡◌, [], ℕ, Bool, true, false, Option, Some, None, List, ⊤}
use Rattle.std.specs.FinMap.{empty}
use Rattle.std.specs.BinaryHeap.{heap_items}
use Rattle.std.specs.declared.cmp.Reverse.{Reverse}
use Rattle.futures.specs.declared.task.Poll.{Poll}
use Rattle.futures.specs.declared.task.Poll.TheVariants.{Ready, Pending}
use Rattle.proxy_lanes.specs.declared.ends.WorkerEnds.{WorkerEnds}
use Rattle.proxy_turns.specs.declared.newcomer.Newcomer.{Newcomer}
use Rattle.proxy_lanes.specs.declared.history.Naming as naming
use Rattle.proxy_turns.specs.declared.port.ClientPort as port
use Rattle.proxy_turns.specs.declared.worker.Worker.{Worker}
use Rattle.proxy_turns.specs.declared.worker_end.WorkerEnd.{WorkerEnd}
use Rattle.proxy_turns.specs.declared.worker_end.WorkerOutcome.{WorkerOutcome}
use Rattle.proxy_turns.specs.declared.worker_end.WorkerOutcome.TheVariants as cause
use Rattle.proxy_turns.specs.declared.worker_end.WorkerOutcome.TheVariants.{Served, Stopped}
use Rattle.proxy_turns.specs.Port.{Moves}
use Rattle.proxy_turns.specs.WorkerModel.{WorkerModel, WorkerGoes, GivesBack, AreAllServed}
use Rattle.proxy_turns.specs.declared.due_commands.PausedCommand.{PausedCommand}
use Rattle.proxy_turns.specs.Waiting.{AreAllLater, IsFirstDue}
use Rattle.proxy_turns.specs.WorkerRest.{IsWorkerAtRest}
use Rattle.proxy_turns.specs.WorkerState.{state_model}

abbrev pub worker_model : {C J G : Type 0} {P : port.Ghosts C} {N : naming.Ghosts J} → Worker C J G P N → WorkerModel C J
worker_model worker = state_model worker.state

-- the commands that wait, each with the time when it is due
abbrev pub paused_in : {C J G : Type 0} {P : port.Ghosts C} {N : naming.Ghosts J} → Worker C J G P N → List (Reverse PausedCommand)
paused_in worker = heap_items worker.state.due.paused

-- it has not come to its end
abbrev pub IsRunning : {C J G : Type 0} {P : port.Ghosts C} {N : naming.Ghosts J} → Worker C J G P N → Type 0
IsRunning worker = worker.over ≡ false

-- over these ends, with no client yet
abbrev pub new_worker : {C J : Type 0} → WorkerEnds (Newcomer C J) J → Option ℕ → WorkerModel C J
new_worker ends left = record {
  worker = ends.worker;
  workers = ends.workers;
  clients = empty;
  newest = None;
  newcomers = ends.newcomers;
  left = left;
  outlet = ends.outlet;
  view = ends.view;
  inlet = ends.inlet;
  answered = 0;
  ports = [];
}

module _ {C J : Type 0} where
  -- the worker's end has its number and every port that it still held
  abbrev pub HandsBack : WorkerModel C J → WorkerEnd C → Type 0
  HandsBack model end = (end.worker ≡ model.worker) × ((numbers : List ℕ) × GivesBack model.clients model.ports numbers end.ports.items)

  module _ (moves : Moves C) where
    -- whatever it does until then, it gives this back at its end
    abbrev pub Gives : WorkerModel C J → WorkerEnd C → Type 0
    Gives model end = (moved : Bool) × (last : WorkerModel C J) × WorkerGoes moves model moved last × HandsBack last end

    -- Where a worker goes on after a turn that moved nothing, each of the commands that wait did so at a time that its gate told, and the
    -- gate was told when the first of them is due.
    abbrev pub TellsDue : (Option ℕ → Type 0) → (Option ℕ → Type 0) → WorkerModel C J → Option WorkerOutcome → WorkerModel C J → List (Reverse PausedCommand) → Type 0
    TellsDue tells waits old (Some outcome) new paused = ⊤
    TellsDue tells waits old None new paused =
        (moved : Bool) × WorkerGoes moves old moved new × (moved ≡ false → AreAllLater tells paused × ((due : Option ℕ) × IsFirstDue paused due × waits due))

    -- a client's last pull gave nothing, and its last push took nothing; what a gate answered to a worker of this number of whose parts so
    -- many had ended, and that it was told of a turn that moved nothing
    module _ (gives_none takes_none : C → Type 0) (says : ℕ → ℕ → Bool → Type 0) (rests : Type 0) where
      -- the gate let the worker go on
      abbrev pub Passes : WorkerModel C J → Type 0
      Passes model = says model.worker model.answered true

      -- the gate was asked once more, whatever it answered
      abbrev pub IsAsked : WorkerModel C J → Type 0
      IsAsked model = (answer : Bool) × says model.worker model.answered answer

      -- One pass of the gate, and one turn where it let the worker go on. What ends the worker, where something does:
      -- the gate, a turn that found no memory, or that all clients were served; after its last turn the gate is asked once more.
      -- One that ends nothing and moved nothing has left nothing to do, and the gate was told so.
      abbrev pub StepOutcome : WorkerModel C J → Option WorkerOutcome → WorkerModel C J → Type 0
      StepOutcome old (Some Stopped) new = says old.worker old.answered false × (new ≡ old)
      StepOutcome old (Some cause.NoMemory) new = Passes old × ((moved : Bool) × WorkerGoes moves old moved new) × IsAsked new
      StepOutcome old (Some Served) new = Passes old × ((moved : Bool) × WorkerGoes moves old moved new) × AreAllServed new × IsAsked new
      StepOutcome old None new = Passes old × ((moved : Bool) × WorkerGoes moves old moved new × (moved ≡ false → rests × IsWorkerAtRest gives_none takes_none new)) × (AreAllServed new → ⊥)

      -- a pending poll did one step that did not end the worker; a ready one did the last, and gives all ports back
      abbrev pub PollOutcome : WorkerModel C J → Poll (WorkerEnd C) → WorkerModel C J → Type 0
      PollOutcome old (Ready end) new = (last : WorkerModel C J) × StepOutcome old (Some end.outcome) last × HandsBack last end
      PollOutcome old Pending new = StepOutcome old None new
