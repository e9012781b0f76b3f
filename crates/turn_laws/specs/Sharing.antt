-- The system beside others: between its steps other clients of the cluster act, as other proxies, scripts, and keys that expire; and
-- addresses lead to any node. A step of theirs is as in the machine (Shared.antt of shared_laws): a node executes a run of theirs, and the
-- log gains its mark.
use Rattle.std.specs.Prelude.{◌≡◌, ℕ, Bool, List, ◌++◌, length, map}
use Rattle.std.specs.List.{FoldsTo}
use Rattle.world_laws.specs.State.{WorldModel}
use Rattle.shared_laws.specs.Shared.{OthersExecute}
use Rattle.shared_laws.specs.SharedHeadline.{SharedHeadline}
use Rattle.turn_laws.specs.Wire.{Execution}
use Rattle.turn_laws.specs.System.{System}
use Rattle.turn_laws.specs.Shadow.{IsShadow, entry_at}
use Rattle.turn_laws.specs.Steps.{SystemEvent, SystemStep, log_of}
use Rattle.turn_laws.specs.Addresses.{LedEvent, LedStep}
use Rattle.turn_laws.specs.Walks.{IsSharedWalked}
use Rattle.turn_laws.specs.Refines.{IsStart}

pub data SharedEvent : Type 0 where
  Ours : SystemEvent → SharedEvent
  Led : LedEvent → SharedEvent
  Theirs : (node : ℕ) (asking : Bool) (done : List Execution) → SharedEvent

module _ {C J : Type 0} where
  -- the node executes their run, whatever the moment; the log shows it, and nothing else changes
  abbrev pub OthersDo : System C J → ℕ → Bool → List Execution → System C J → Type 0
  OthersDo s node asking done s' =
      ((moment : ℕ) → OthersExecute (length s.workers) moment s.cluster node asking (map (entry_at moment) done) s'.cluster)
      × (s' ≡ record s { cluster = s'.cluster; log = s.log ++ log_of done })

  abbrev pub SharedSystemStep : System C J → SharedEvent → System C J → Type 0
  SharedSystemStep s (SharedEvent.Ours event) s' = SystemStep s event s'
  SharedSystemStep s (SharedEvent.Led event) s' = LedStep s event s'
  SharedSystemStep s (SharedEvent.Theirs node asking done) s' = OthersDo s node asking done s'

module _ (C J : Type 0) where
  -- whatever the system and others do from its start, the machine beside others may do, and the headline holds of its commands
  abbrev pub SharedRefines : Type 0
  SharedRefines = (s s' : System C J) (events : List SharedEvent) → IsStart s → FoldsTo SharedSystemStep s events s'
      → (w : WorldModel) × IsSharedWalked w × IsShadow s' w × SharedHeadline w
