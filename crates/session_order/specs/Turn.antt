-- How far the parts of a client's requests are, in the order of their numbers, and whose turn it is.
-- One Redis server executes a connection's commands in their order. Over a cluster this is kept for each slot: parts
-- for different slots run side by side, and parts for one slot that wait may go out together, one behind the other. A session
-- numbers at most 2^48 parts.
use Rattle.std.specs.Prelude.{◌≡◌, ◌<◌, ◌≤◌, ◌+◌, ◌-◌, ◌^◌, List, ℕ, suc, Bool, true, false, Option, Some, None, nat_eq, take, drop, length, slice_get, slice_set}
use Rattle.std.specs.List.{list_any}
use Rattle.slot_hash.specs.Slot.{slot_of}
use Rattle.key_split.specs.PartModel.{PartModel}
use Rattle.session_order.specs.declared.queue.PartStage.{PartStage}
use Rattle.session_order.specs.declared.queue.PartStage.TheVariants.{Waiting, Out, Done}

abbrev pub is_done : PartStage → Bool
is_done (Waiting part) = false
is_done (Out slot) = false
is_done Done = true

abbrev pub IsWaiting : Option PartStage → Type 0
IsWaiting (Some (Waiting part)) = Unit {0}
IsWaiting (Some (Out slot)) = ⊥
IsWaiting (Some Done) = ⊥
IsWaiting None = ⊥

-- it is for this slot and has not ended, so that a later part for the slot has to wait
abbrev pub blocks : ℕ → PartStage → Bool
blocks slot (Waiting part) = nat_eq (slot_of part.key) slot
blocks slot (Out own) = nat_eq own slot
blocks slot Done = false

-- it is for this slot and was not handed out, so that a later part for the slot may not be handed out before it
abbrev pub waits_for : ℕ → PartStage → Bool
waits_for slot (Waiting part) = nat_eq (slot_of part.key) slot
waits_for slot (Out own) = false
waits_for slot Done = false

-- A part that was not handed out may be posted only when all earlier parts for its slot have ended.
abbrev pub MayPost : List PartStage → ℕ → Type 0
MayPost stages i = (part : PartModel) × (slice_get stages i ≡ Some (Waiting part)) × (list_any (blocks (slot_of part.key)) (take i stages) ≡ false)

-- parts, numbered on from the first
pub record QueueModel : Type 0 where
  pub first : ℕ
  pub stages : List PartStage

abbrev pub IsNumbered : ℕ → List PartStage → Type 0
IsNumbered first stages = first + length stages ≤ 2 ^ 48

-- the part of this number was handed out and has not ended
abbrev pub IsOutAt : QueueModel → ℕ → Type 0
IsOutAt queued number = (slot : ℕ) × (queued.first ≤ number) × (slice_get queued.stages (number - queued.first) ≡ Some (Out slot))

-- the earliest part whose turn it is
abbrev pub IsNext : List PartStage → ℕ → PartModel → Type 0
IsNext stages i part = MayPost stages i × ((j : ℕ) → j < i → MayPost stages j → ⊥) × (slice_get stages i ≡ Some (Waiting part))

-- the place of the earliest part whose turn it is, where there is one
abbrev pub NextPlace : List PartStage → Option ℕ → Type 0
NextPlace stages None = (i : ℕ) → MayPost stages i → ⊥
NextPlace stages (Some i) = MayPost stages i × ((j : ℕ) → j < i → MayPost stages j → ⊥)

-- the part at i was handed out
abbrev pub handed_out : List PartStage → ℕ → PartModel → List PartStage
handed_out stages i part = slice_set stages i (Out (slot_of part.key))

-- the earliest part whose turn it is is handed out
abbrev pub HandOutcome : QueueModel → Option (ℕ × PartModel) → QueueModel → Type 0
HandOutcome old None new = ((i : ℕ) → MayPost old.stages i → ⊥) × (new ≡ old)
HandOutcome old (Some given) new =
    (i : ℕ) × IsNext old.stages i given.1 × (given.0 ≡ old.first + i) × (new ≡ record old { stages = handed_out old.stages i given.1 })

-- The part at j may go out behind the one at i.
pub record IsFollower (stages : List PartStage) (i j : ℕ) (part : PartModel) : Type 0 where
  pub waits : slice_get stages j ≡ Some (Waiting part)
  -- the one at i is out, for the same slot
  pub out : slice_get stages i ≡ Some (Out (slot_of part.key))
  -- all parts for the slot between them have ended
  pub behind : i < j
  pub next : list_any (blocks (slot_of part.key)) (take (j - suc i) (drop (suc i) stages)) ≡ false
  -- all earlier parts for the slot have ended or are out
  pub in_order : list_any (waits_for (slot_of part.key)) (take j stages) ≡ false

-- the part behind the one of this number is handed out
abbrev pub FollowOutcome : QueueModel → ℕ → Option (ℕ × PartModel) → QueueModel → Type 0
FollowOutcome old number None new = ((j : ℕ) (part : PartModel) → IsFollower old.stages (number - old.first) j part → ⊥) × (new ≡ old)
FollowOutcome old number (Some given) new =
    (j : ℕ) × IsFollower old.stages (number - old.first) j given.1 × (given.0 ≡ old.first + j) × (new ≡ record old { stages = handed_out old.stages j given.1 })
