-- What is true of what a session holds.
-- Private: the invariant of `Session`.
use Rattle.std.specs.Prelude.{◌≡◌, ◌≤◌, List, None, length}
use Rattle.key_split.specs.declared.travel.Ended.{Ended}
use Rattle.session_order.specs.declared.replies.PendingReply.{PendingReply}
use Rattle.session_order.specs.declared.closing.Closing.{Closing}
use Rattle.session_order.specs.declared.closing.Closing.TheVariants.{Open}
use Rattle.session_order.specs.RequestReaderModel.{RequestReaderModel}
use Rattle.session_order.specs.Turn.{QueueModel}
use Rattle.session_order.specs.Due.{AreCounted}

pub record IsSoundSession (incoming : RequestReaderModel) (requests : List PendingReply) (queue : QueueModel) (ends : List Ended) (closing : Closing) : Type 0 where
  pub due : AreCounted requests queue.stages ends
  pub few : length requests ≤ 1024
  -- an open session has met no fault
  pub faultless : closing ≡ Open → incoming.input.fault ≡ None
