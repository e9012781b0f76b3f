-- What is left of the parts once those that were not handed out are let go.
-- Only private functions cite it.
use Rattle.std.specs.Prelude.{◌≡◌, ◌≤◌, ◌↔◌, List, [], ◌∷◌, ℕ, zero, suc, replicate, Bool, true, false, Some, None, length, slice_get, slice_set}
use Rattle.std.specs.List.{list_all}
use Rattle.session_order.specs.declared.queue.Tables.{Tables}
use Rattle.session_order.specs.declared.queue.PartStage.{PartStage}
use Rattle.session_order.specs.declared.queue.PartStage.TheVariants.{Waiting, Out, Done}
use Rattle.session_order.specs.Turn.{QueueModel, IsWaiting, is_done}
use Rattle.session_order.specs.Tables.{LinksIn}
use Rattle.resp_wire.specs.LimitsModel.{full}
use Rattle.key_split.specs.declared.travel.Ended.TheVariants.{Lost}
use Rattle.key_split.specs.declared.planned.Joining.TheVariants.{AllOk}
use Rattle.session_order.specs.declared.replies.PendingReply.{PendingReply}
use Rattle.session_order.specs.declared.replies.PendingReply.TheVariants.{Parts}
use Rattle.session_order.specs.declared.closing.Closing.TheVariants.{Quit}
use Rattle.session_order.specs.SessionModel.{SessionModel}

pub record LetsGo (old new : QueueModel) : Type 0 where
  pub first : new.first ≡ old.first
  -- what is out stays so, and nothing else is
  pub out : (i slot : ℕ) → slice_get new.stages i ≡ Some (Out slot) ↔ slice_get old.stages i ≡ Some (Out slot)
  pub none_waits : (i : ℕ) → IsWaiting (slice_get new.stages i) → ⊥
  -- behind the last that is out there is none
  pub last_out : list_all is_done new.stages ≡ true → new.stages ≡ []
  pub few : length new.stages ≤ length old.stages

-- what a part is once those that were not handed out are let go
abbrev pub left_of : PartStage → PartStage
left_of (Waiting part) = Done
left_of (Out slot) = Out slot
left_of Done = Done

abbrev pub is_out : PartStage → Bool
is_out (Waiting part) = false
is_out (Out slot) = true
is_out Done = false

-- what letting go of the part at i does
pub record ForgetsAt (old : Tables) (i : ℕ) (was_out : Bool) (new : Tables) : Type 0 where
  pub first : new.first ≡ old.first
  pub turns : new.turns ≡ old.turns
  pub stages : (stage : PartStage) → slice_get old.stages.items i ≡ Some stage → new.stages.items ≡ slice_set old.stages.items i (left_of stage)
  pub answers : (stage : PartStage) → slice_get old.stages.items i ≡ Some stage → was_out ≡ is_out stage
  pub linked : LinksIn new

-- the parts of a session
abbrev pub queue_of : SessionModel → QueueModel
queue_of held = record { first = held.first; stages = held.stages }

-- one request for this number of parts
abbrev pub one_for : ℕ → List PendingReply
one_for zero = []
one_for (suc n) = Parts AllOk (suc n) ∷ []

-- of a session only its parts that are out stay, as those of one request
pub record LetsGoOf (old new : SessionModel) : Type 0 where
  pub parts : LetsGo (queue_of old) (queue_of new)
  pub rest : new ≡ record old {
    incoming = record { input = record { bounds = full; unread = []; fault = None }; ahead = None };
    requests = one_for (length new.stages);
    stages = new.stages;
    ends = replicate (length new.stages) Lost;
    first = new.first;
    closing = Quit;
  }
