-- What a session holds.
-- The model of `Session`. The tables by which parts are found do not show.
use Rattle.std.specs.Prelude.{List, ℕ}
use Rattle.key_split.specs.declared.travel.Ended.{Ended}
use Rattle.session_order.specs.declared.queue.PartStage.{PartStage}
use Rattle.session_order.specs.declared.replies.PendingReply.{PendingReply}
use Rattle.session_order.specs.declared.closing.Closing.{Closing}
use Rattle.session_order.specs.RequestReaderModel.{RequestReaderModel}

-- The bytes that were not read; the requests that were read and whose replies were not drained, in order; how far each of
-- their parts is, and the end of each part that is done, at its place; the number of the first of these parts; and
-- whether the session is open
pub record SessionModel : Type 0 where
  pub worker : ℕ
  pub client : ℕ
  pub incoming : RequestReaderModel
  pub requests : List PendingReply
  pub stages : List PartStage
  pub ends : List Ended
  pub first : ℕ
  pub closing : Closing
