-- What a drain reads.
-- Private: the model of `Due`.
use Rattle.std.specs.Prelude.{◌≡◌, ◌++◌, List, ℕ, length}
use Rattle.resp_wire.specs.declared.value.Value.{Value}
use Rattle.key_split.specs.declared.travel.Ended.{Ended}
use Rattle.session_order.specs.declared.queue.PartStage.{PartStage}
use Rattle.session_order.specs.declared.replies.PendingReply.{PendingReply}
use Rattle.session_order.specs.declared.replies.WrittenReplies.{WrittenReplies}
use Rattle.session_order.specs.Replies.{parts_of, AreJoinable, AreWritten, bytes_behind}

-- The requests whose replies were not drained, how far each of their parts is, and the ends of these, each at its part's place
pub record DueModel : Type 0 where
  pub requests : List PendingReply
  pub stages : List PartStage
  pub ends : List Ended

abbrev pub due_of : List PendingReply → List PartStage → List Ended → DueModel
due_of requests stages ends = record { requests = requests; stages = stages; ends = ends }

-- the parts are those of the requests, each with a place for its end
pub record AreCounted (requests : List PendingReply) (stages : List PartStage) (ends : List Ended) : Type 0 where
  pub counted : parts_of requests ≡ length stages
  pub places : length ends ≡ length stages
  pub joinable : AreJoinable requests

-- what was written, with the tail behind it, are the replies to the first requests
abbrev pub WritesFirst : ℕ → DueModel → List Value → List ℕ → WrittenReplies → List ℕ → Type 0
WritesFirst most due last old written new =
    (bytes : List ℕ) × (new ++ bytes_behind written.tail ≡ old ++ bytes) × AreWritten most due.requests due.stages due.ends last written.requests bytes
