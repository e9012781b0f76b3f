-- What comes next for a slot, by the numbers of the parts.
-- Only private functions cite it.
use Rattle.std.specs.Prelude.{◌≡◌, ◌<◌, ◌≤◌, ◌+◌, ◌-◌, ℕ, suc, List, false, Option, Some, None, take, drop, slice_get}
use Rattle.std.specs.List.{list_any}
use Rattle.key_split.specs.PartModel.{PartModel}
use Rattle.session_order.specs.declared.queue.PartStage.{PartStage}
use Rattle.session_order.specs.declared.queue.PartStage.TheVariants.{Out}
use Rattle.session_order.specs.Turn.{QueueModel, IsFollower, blocks}
use Rattle.session_order.specs.Tables.{open_parts, first_of}

-- the number of the part that may go out behind the one of this number, if there is one
abbrev pub FollowerAt : QueueModel → ℕ → Option ℕ → Type 0
FollowerAt queued number None = (j : ℕ) (part : PartModel) → IsFollower queued.stages (number - queued.first) j part → ⊥
FollowerAt queued number (Some next) =
    (part : PartModel) × (queued.first ≤ next) × IsFollower queued.stages (number - queued.first) (next - queued.first) part

-- the part of this number is out, and all earlier parts for its slot have ended
abbrev pub HasTurnAt : QueueModel → ℕ → Type 0
HasTurnAt queued number =
    (slot : ℕ) × (queued.first ≤ number) × (slice_get queued.stages (number - queued.first) ≡ Some (Out slot))
    × (list_any (blocks slot) (take (number - queued.first) queued.stages) ≡ false)

-- The part at j is out next behind the one at i: all parts for their slot between them have ended.
pub record IsOutNext (stages : List PartStage) (i j : ℕ) : Type 0 where
  pub slot : ℕ
  pub first : slice_get stages i ≡ Some (Out slot)
  pub out : slice_get stages j ≡ Some (Out slot)
  pub behind : i < j
  pub next : list_any (blocks slot) (take (j - suc i) (drop (suc i) stages)) ≡ false

-- the number of the part that is out next behind the one of this number, if there is one
abbrev pub NextOutAt : QueueModel → ℕ → Option ℕ → Type 0
NextOutAt queued number None =
    (slot j : ℕ) → slice_get queued.stages (number - queued.first) ≡ Some (Out slot) → slice_get queued.stages j ≡ Some (Out slot) → number - queued.first < j → ⊥
NextOutAt queued number (Some next) = (queued.first ≤ next) × IsOutNext queued.stages (number - queued.first) (next - queued.first)

-- the number of the first part for this slot behind the one at i that has not ended
abbrev pub next_open : ℕ → ℕ → ℕ → List PartStage → Option ℕ
next_open slot first i stages = first_of (open_parts slot (suc (first + i)) (drop (suc i) stages))

-- the number of the first part that has not ended behind the one of this number, which is out, for its slot
abbrev pub IsNextOpen : QueueModel → ℕ → Option ℕ → Type 0
IsNextOpen queued number next =
    (slot : ℕ) → slice_get queued.stages (number - queued.first) ≡ Some (Out slot)
    → next ≡ next_open slot queued.first (number - queued.first) queued.stages
