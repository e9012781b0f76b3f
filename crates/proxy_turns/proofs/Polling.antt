-- What one poll of a worker did, and what it gives back at its end.
use Rattle.std.proofs.Common.{◌||◌, ℕ, Bool, false, Some, None}
use Rattle.proxy_turns.specs.declared.worker_end.WorkerEnd.{WorkerEnd}
use Rattle.proxy_turns.specs.declared.worker_end.WorkerOutcome.{WorkerOutcome}
use Rattle.proxy_turns.specs.declared.worker_end.WorkerOutcome.TheVariants as cause
use Rattle.proxy_turns.specs.declared.worker_end.WorkerOutcome.TheVariants.{Served, Stopped}
use Rattle.proxy_turns.specs.Port.{Moves}
use Rattle.proxy_turns.specs.WorkerModel.{WorkerModel, WorkerGoes}
use Rattle.proxy_turns.specs.Worker.{Gives, HandsBack, StepOutcome}
use Rattle.proxy_turns.proofs.EventKinds.{every_one}
use Rattle.proxy_turns.proofs.Lifting.{all_then, goes_of, of_every, stays_all}

module _ {C J : Type 0} (moves : Moves C) where
  -- whatever comes later
  pub gives_before : (old mid : WorkerModel C J) (moved : Bool) (end : WorkerEnd C) → WorkerGoes moves old moved mid → Gives moves mid end → Gives moves old end
  gives_before old mid moved end goes (later, last, then, back) = (moved || later, last, goes_of moves every_one old (moved || later) last (all_then moves every_one old moved mid later last (of_every moves old moved mid goes) (of_every moves mid later last then)), back)

  module _ (gives_none takes_none : C → Type 0) (says : ℕ → ℕ → Bool → Type 0) (rests : Type 0) where
    pub gives_at_end : (old last : WorkerModel C J) (outcome : WorkerOutcome) (end : WorkerEnd C) → StepOutcome moves gives_none takes_none says rests old (Some outcome) last
        → HandsBack last end → Gives moves old end
    gives_at_end old last Stopped end (said, same) back = (false, last, goes_of moves every_one old false last (stays_all moves every_one old last same), back)
    gives_at_end old last cause.NoMemory end (passed, (moved, goes), asked) back = (moved, last, goes, back)
    gives_at_end old last Served end (passed, (moved, goes), served, asked) back = (moved, last, goes, back)

    pub gives_later : (old new : WorkerModel C J) (end : WorkerEnd C) → StepOutcome moves gives_none takes_none says rests old None new → Gives moves new end → Gives moves old end
    gives_later old new end (passed, (moved, goes, rested), goes_on) given = gives_before old new moved end goes given
