-- A session that reads no more.
-- It ends as after QUIT: what was read is answered, and then it is finished.
use Rattle.std.specs.Prelude.{◌≡◌, ◌≢◌, ℕ, List, Bool, Option, Result, Ok, true}
use Rattle.resp_wire.specs.declared.fault.NoMemory.{NoMemory}
use Rattle.key_split.specs.PartModel.{PartModel}
use Rattle.key_split.specs.declared.travel.Ticket.{Ticket}
use Rattle.key_split.specs.declared.travel.Ended.{Ended}
use Rattle.session_order.specs.declared.closing.Closing.{Closing}
use Rattle.session_order.specs.declared.closing.Closing.TheVariants.{Open, Quit, Faulted}
use Rattle.session_order.specs.declared.fault.SessionFault.{SessionFault}
use Rattle.session_order.specs.SessionModel.{SessionModel}
use Rattle.session_order.specs.Replies.{DrainOutcome, output}
use Rattle.session_order.specs.Steps.{FeedOutcome, ReadOutcome, ReadyOutcome, FollowerOutcome, EndOutcome}
use Rattle.session_order.specs.HangingUp.{HangsUp}

-- one that is open ends as after QUIT
abbrev pub closed : Closing → Closing
closed Open = Quit
closed Quit = Quit
closed (Faulted why owed) = Faulted why owed

-- all that was read stays, with what is owed for it
abbrev pub without_reading : SessionModel → SessionModel
without_reading held = record held { closing = closed held.closing }

-- it reads no more
abbrev pub ReadsNoMore : SessionModel → Type 0
ReadsNoMore held = held.closing ≢ Open

-- A session that was told to read no more owes what it owed. Whatever is called from then on, it reads no more: no call of `read` gives
-- a request, or changes anything.
pub record StaysClosed : Type 0 where
  pub stop : (held : SessionModel) → ReadsNoMore (without_reading held) × (output (without_reading held) ≡ output held)
  pub read : (old : SessionModel) (result : Result Bool SessionFault) (new : SessionModel) → ReadOutcome old result new → ReadsNoMore old → (result ≢ Ok true) × (new ≡ old)
  pub feed : (old : SessionModel) (piece : List ℕ) (result : Result ℕ SessionFault) (new : SessionModel) → FeedOutcome old piece result new → ReadsNoMore old → ReadsNoMore new
  pub ready : (old : SessionModel) (given : Option (Ticket × PartModel)) (new : SessionModel) → ReadyOutcome old given new → ReadsNoMore old → ReadsNoMore new
  pub follower : (old : SessionModel) (ticket : Ticket) (given : Option (Ticket × PartModel)) (new : SessionModel) → FollowerOutcome old ticket given new → ReadsNoMore old → ReadsNoMore new
  pub ended : (old : SessionModel) (ticket : Ticket) (end : Ended) (new : SessionModel) → EndOutcome old ticket end new → ReadsNoMore old → ReadsNoMore new
  pub drain : (most : ℕ) (old : SessionModel) (before : List ℕ) (result : Result ℕ NoMemory) (new : SessionModel) (after : List ℕ)
      → DrainOutcome most old before result new after → ReadsNoMore old → ReadsNoMore new
  pub hang_up : (old new : SessionModel) → HangsUp old new → ReadsNoMore new
