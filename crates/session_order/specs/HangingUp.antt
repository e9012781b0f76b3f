-- What is left of a session whose client is gone.
-- The command of a part that is out may be executed whatever becomes of the client, and the parts behind it would wait for it. So its
-- place stays, and nothing else does.
use Rattle.std.specs.Prelude.{◌≡◌, ◌≤◌, ◌↔◌, [], ℕ, Some, None, length, replicate, slice_get}
use Rattle.key_split.specs.declared.travel.Ticket.{Ticket}
use Rattle.key_split.specs.declared.travel.Ended.TheVariants.{Lost}
use Rattle.session_order.specs.declared.closing.Closing.TheVariants.{Quit}
use Rattle.session_order.specs.Turn.{IsWaiting}
use Rattle.session_order.specs.declared.queue.PartStage.TheVariants.{Out}
use Rattle.session_order.specs.SessionModel.{SessionModel}
use Rattle.session_order.specs.Replies.{output, parts_of}
use Rattle.session_order.specs.Steps.{IsHandedOut}

pub record HangsUp (old new : SessionModel) : Type 0 where
  -- it is the session of the same client
  pub owner : (new.worker ≡ old.worker) × (new.client ≡ old.client)
  -- nothing that came is left to read, and nothing more is read
  pub unread : (new.incoming.input.unread ≡ []) × (new.incoming.ahead ≡ None) × (new.closing ≡ Quit)
  -- no part waits to be handed out
  pub none_waits : (i : ℕ) → IsWaiting (slice_get new.stages i) → ⊥
  -- no reply is kept, and no end of a part: one request stands for all places that stay
  pub none_owed : (output new ≡ []) × (length new.requests ≤ 1) × (new.ends ≡ replicate (length new.stages) Lost)
  pub all_owed : parts_of new.requests ≡ length new.stages
  -- what was handed out and has not ended is awaited as before, and nothing else is
  pub awaited : (ticket : Ticket) → IsHandedOut new ticket ↔ IsHandedOut old ticket
  -- each for the slot for which it was
  pub first : new.first ≡ old.first
  pub places : (i slot : ℕ) → (slice_get new.stages i ≡ Some (Out slot)) ↔ (slice_get old.stages i ≡ Some (Out slot))
