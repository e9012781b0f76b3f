-- Parts of one slot that are out, one behind another.
-- They are named by their numbers.
use Rattle.std.specs.Prelude.{◌≡◌, ◌⊎◌, ◌<◌, ◌≤◌, ◌+◌, ◌-◌, ℕ, List, [], ◌∷◌, true, Option, Some, None, All, length, slice_get}
use Rattle.key_split.specs.PartModel.{PartModel}
use Rattle.key_split.specs.declared.travel.Ticket.{Ticket}
use Rattle.session_order.specs.declared.queue.PartStage.{PartStage}
use Rattle.session_order.specs.declared.queue.PartStage.TheVariants.{Out}
use Rattle.session_order.specs.Turn.{IsFollower, blocks}
use Rattle.session_order.specs.SessionModel.{SessionModel}

-- the part of this number is out, for this slot
abbrev pub IsOutFor : SessionModel → ℕ → ℕ → Type 0
IsOutFor held slot number = (held.first ≤ number) × (slice_get held.stages (number - held.first) ≡ Some (Out slot))

-- the part of this number is for this slot and has not ended
abbrev pub IsOpenFor : SessionModel → ℕ → ℕ → Type 0
IsOpenFor held slot number =
    (held.first ≤ number) × (stage : PartStage) × (slice_get held.stages (number - held.first) ≡ Some stage) × (blocks slot stage ≡ true)

-- the ticket is of this session
abbrev pub IsOfSession : SessionModel → Ticket → Type 0
IsOfSession held ticket = (ticket.worker ≡ held.worker) × (ticket.client ≡ held.client)

abbrev pub IsAmong : List ℕ → ℕ → Type 0
IsAmong [] number = ⊥
IsAmong (n ∷ ns) number = (number ≡ n) ⊎ IsAmong ns number

-- It is out for this slot behind these parts: they are earlier, and all other earlier ones for the slot have ended.
pub record IsOutBehind (held : SessionModel) (slot : ℕ) (before : List ℕ) (ticket : Ticket) : Type 0 where
  pub owner : IsOfSession held ticket
  pub out : IsOutFor held slot ticket.part
  pub earlier : All (λ number. number < ticket.part) before
  pub others : (number : ℕ) → IsOpenFor held slot number → number < ticket.part → IsAmong before number

-- What is out stays so, and of the parts that were there none opens that had ended.
pub record KeepsParts (old new : SessionModel) : Type 0 where
  pub owner : (new.worker ≡ old.worker) × (new.client ≡ old.client)
  pub out : (slot number : ℕ) → IsOutFor old slot number → IsOutFor new slot number
  pub none_opens : (slot number : ℕ) → number < old.first + length old.stages → IsOpenFor new slot number → IsOpenFor old slot number

-- where the part stands that may go out behind the one with the ticket, if there is one
abbrev pub FollowerPlace : SessionModel → Ticket → Option ℕ → Type 0
FollowerPlace held ticket None = (j : ℕ) (part : PartModel) → IsFollower held.stages (ticket.part - held.first) j part → ⊥
FollowerPlace held ticket (Some j) = (part : PartModel) × IsFollower held.stages (ticket.part - held.first) j part

-- The part that is out next behind the one with the ticket, for its slot, if there is one: those between them have ended.
abbrev pub NextInTurn : SessionModel → Ticket → Option Ticket → Type 0
NextInTurn held ticket None = (slot number : ℕ) → IsOutFor held slot ticket.part → IsOutFor held slot number → ticket.part < number → ⊥
NextInTurn held ticket (Some next) =
    (slot : ℕ) × IsOutFor held slot ticket.part × IsOutFor held slot next.part × (ticket.part < next.part) × IsOfSession held next
    × ((number : ℕ) → IsOpenFor held slot number → ticket.part < number → number < next.part → ⊥)
