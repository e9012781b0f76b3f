-- What the calls of a session keep of the parts that are out.
-- A part that is out stays so, in its order and behind the same parts, until its own end is told or the session is gone with it.
use Rattle.std.specs.Prelude.{◌≢◌, List, ℕ, Bool, Option, Result, IfSome}
use Rattle.resp_wire.specs.declared.fault.NoMemory.{NoMemory}
use Rattle.key_split.specs.PartModel.{PartModel}
use Rattle.key_split.specs.declared.travel.Ticket.{Ticket}
use Rattle.key_split.specs.declared.travel.Ended.{Ended}
use Rattle.session_order.specs.declared.fault.SessionFault.{SessionFault}
use Rattle.session_order.specs.SessionModel.{SessionModel}
use Rattle.session_order.specs.Replies.{DrainOutcome}
use Rattle.session_order.specs.Steps.{FeedOutcome, ReadOutcome, ReadyOutcome, FollowerOutcome, EndOutcome, IsHandedOut, IsOut, IsOutInOrder, KeepsOut, KeepsOrder}
use Rattle.session_order.specs.Behind.{IsOutBehind, KeepsParts}
use Rattle.session_order.specs.HangingUp.{HangsUp}
use Rattle.session_order.specs.Stopping.{without_reading}

-- What is out stays so, in its order, behind the same parts.
pub record Keeps (old new : SessionModel) : Type 0 where
  pub out : KeepsOut old new
  pub order : KeepsOrder old new
  pub parts : KeepsParts old new

-- The one with the ticket is out no more, and all others stay so.
pub record KeepsOthers (old : SessionModel) (ticket : Ticket) (new : SessionModel) : Type 0 where
  pub over : IsOut new ticket → ⊥
  pub out : (other : Ticket) → other ≢ ticket → IsOut old other → IsOut new other
  pub order : (other : Ticket) → other ≢ ticket → IsOutInOrder old other → IsOutInOrder new other
  pub behind : (slot : ℕ) (before : List ℕ) (other : Ticket) → other ≢ ticket → IsOutBehind old slot before other → IsOutBehind new slot before other

-- What each call that changes a session keeps, whatever it answers. What `ready` hands out was not out and is; what `follower` hands out
-- was not handed out and is out in order.
pub record CallsKeep : Type 0 where
  pub feed : (old : SessionModel) (piece : List ℕ) (result : Result ℕ SessionFault) (new : SessionModel) → FeedOutcome old piece result new → Keeps old new
  pub read : (old : SessionModel) (result : Result Bool SessionFault) (new : SessionModel) → ReadOutcome old result new → Keeps old new
  pub ready : (old : SessionModel) (given : Option (Ticket × PartModel)) (new : SessionModel) → ReadyOutcome old given new
      → Keeps old new × IfSome given (λ some. IsOut new some.0 × (IsOut old some.0 → ⊥))
  pub follower : (old : SessionModel) (ticket : Ticket) (given : Option (Ticket × PartModel)) (new : SessionModel) → FollowerOutcome old ticket given new
      → Keeps old new × IfSome given (λ some. IsOutInOrder new some.0 × (IsHandedOut old some.0 → ⊥))
  pub ended : (old : SessionModel) (ticket : Ticket) (end : Ended) (new : SessionModel) → IsHandedOut old ticket → EndOutcome old ticket end new → KeepsOthers old ticket new
  pub drain : (most : ℕ) (old : SessionModel) (before : List ℕ) (result : Result ℕ NoMemory) (new : SessionModel) (after : List ℕ)
      → DrainOutcome most old before result new after → Keeps old new
  pub hang_up : (old new : SessionModel) → HangsUp old new → Keeps old new
  pub stop : (held : SessionModel) → Keeps held (without_reading held)
