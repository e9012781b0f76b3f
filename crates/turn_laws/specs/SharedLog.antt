-- The headline of the log (LogHeadline.antt), where others act: of the proxy's own commands, in one legal history of everybody's.
-- Each client has one of our workers. A ticket is ours where it names the one of its client.
-- Where all that was executed is ours, it is the headline of a log in which nobody else acts.
use Rattle.std.specs.Prelude.{ℕ, List, length}
use Rattle.std.specs.List.{FoldsTo}
use Rattle.node_model.specs.Store.{StoreModel}
use Rattle.world_laws.specs.Headline.{IsSound}
use Rattle.shared_laws.specs.Shared.{IsOwn}
use Rattle.turn_laws.specs.Wire.{Execution}
use Rattle.turn_laws.specs.System.{System, Mark}
use Rattle.turn_laws.specs.Refines.{IsStart}
use Rattle.turn_laws.specs.Sharing.{SharedEvent, SharedSystemStep}
use Rattle.turn_laws.specs.LogHeadline.{IsExecutedAt, IsHeld, LogHeadline, LogHeadlineOf, history, left_by}

abbrev pub SharedLogHeadline : StoreModel → ℕ → List Mark → Type 0
SharedLogHeadline initial workers log = LogHeadlineOf initial (IsOwn workers) log

-- where all that was executed is ours it says what the headline of a log says where nobody else acts
abbrev pub LogHeadlineFollows : Type 0
LogHeadlineFollows = (initial : StoreModel) (workers : ℕ) (log : List Mark) → ((i : ℕ) (e : Execution) → IsExecutedAt log i e → IsOwn workers e.ticket)
    → SharedLogHeadline initial workers log → LogHeadline initial log

module _ (C J : Type 0) where
  -- whatever a system and others do from its start, the headline holds of its log,
  abbrev pub HeadlineOfSharedLogs : Type 0
  HeadlineOfSharedLogs = (s s' : System C J) (events : List SharedEvent) → IsStart s → FoldsTo SharedSystemStep s events s'
      → SharedLogHeadline s'.initial (length s'.workers) s'.log

  -- and its nodes hold the store that the log leaves
  abbrev pub SharedLogsAreHeld : Type 0
  SharedLogsAreHeld = (s s' : System C J) (events : List SharedEvent) → IsStart s → FoldsTo SharedSystemStep s events s' → IsHeld s'.initial s'.log s'.cluster

  -- What they leave is sound, and holds the store that the log leaves: another proxy can begin there.
  abbrev pub SharedEndsAreSound : Type 0
  SharedEndsAreSound = (s s' : System C J) (events : List SharedEvent) → IsStart s → FoldsTo SharedSystemStep s events s'
      → IsSound (left_by s'.initial (history s'.log)) s'.cluster
