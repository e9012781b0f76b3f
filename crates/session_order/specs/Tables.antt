-- The tables by which a part whose turn it is is found: what they say of the parts.
-- Only private functions cite it: the next part to post is found without a search.
use Rattle.std.specs.Prelude.{◌≡◌, ◌<◌, ◌≤◌, ◌+◌, ◌-◌, List, [], ◌∷◌, ℕ, suc, Bool, true, false, Option, Some, None, if◌then◌else◌, length, slice_get, slice_set, nat_eq, take}
use Rattle.std.specs.List.{list_any}
use Rattle.std.specs.declared.cmp.Reverse.{Reverse}
use Rattle.std.specs.declared.cmp.Ordering.{Ordering}
use Rattle.std.specs.Ordering.{nat_cmp}
use Rattle.std.specs.VecDeque.{deque_len, deque_capacity}
use Rattle.std.specs.BinaryHeap.{heap_items, heap_capacity, IsHeap}
use Rattle.std.specs.HashMap.{get, spare}
use Rattle.session_order.specs.declared.queue.Tables.{Tables}
use Rattle.session_order.specs.declared.queue.PartStage.{PartStage}
use Rattle.session_order.specs.declared.queue.PartStage.TheVariants.{Waiting, Out, Done}
use Rattle.session_order.specs.Turn.{blocks, waits_for, MayPost, QueueModel}

abbrev pub in_front : Bool → ℕ → List ℕ → List ℕ
in_front b n rest = if b then n ∷ rest else rest

-- the numbers of the parts for a slot that have not ended, where the first part has this number
abbrev pub open_parts : ℕ → ℕ → List PartStage → List ℕ
open_parts slot number [] = []
open_parts slot number (stage ∷ stages) = in_front (blocks slot stage) number (open_parts slot (suc number) stages)

abbrev pub first_of : List ℕ → Option ℕ
first_of [] = None
first_of (n ∷ rest) = Some n

-- the last, or what stands before them where there is none
abbrev pub last_behind : Option ℕ → List ℕ → Option ℕ
last_behind before [] = before
last_behind before (n ∷ rest) = last_behind (Some n) rest

abbrev pub last_of : List ℕ → Option ℕ
last_of ns = last_behind None ns

-- each part has at its place the number of the next
abbrev pub Chained : ℕ → List (Option ℕ) → List ℕ → Type 0
Chained first later [] = Unit {0}
Chained first later (n ∷ rest) = (first ≤ n) × (slice_get later (n - first) ≡ Some (first_of rest)) × Chained first later rest

-- each part has at its place the number of the one before
abbrev pub Preceded : ℕ → List (Option ℕ) → Option ℕ → List ℕ → Type 0
Preceded first earlier before [] = Unit {0}
Preceded first earlier before (n ∷ rest) = (first ≤ n) × (slice_get earlier (n - first) ≡ Some before) × Preceded first earlier (Some n) rest

-- The parts of each slot that have not ended are linked both ways: `later` has the next part of each one's slot, `earlier` the one
-- before, and `last` the last of each slot.
pub record AreLinked (first : ℕ) (stages : List PartStage) (later earlier : List (Option ℕ)) (last : ℕ → Option ℕ) : Type 0 where
  pub later_places : length later ≡ length stages
  pub earlier_places : length earlier ≡ length stages
  pub chained : (slot : ℕ) → Chained first later (open_parts slot first stages)
  pub preceded : (slot : ℕ) → Preceded first earlier None (open_parts slot first stages)
  pub lasts : (slot : ℕ) → last slot ≡ last_of (open_parts slot first stages)

-- the part of this number may be posted
abbrev pub HasTurn : ℕ → List PartStage → ℕ → Type 0
HasTurn first stages number = (i : ℕ) × (number ≡ first + i) × MayPost stages i

-- how often a number is put on
abbrev pub taken_up : Option ℕ → ℕ → ℕ
taken_up None number = 0
taken_up (Some n) number = if nat_eq number n then 1 else 0

-- The tables are those of the parts. `turns` says how often a number stands among those whose turn it is.
pub record IsTabled (first : ℕ) (stages : List PartStage) (later earlier : List (Option ℕ)) (last : ℕ → Option ℕ) (turns : ℕ → ℕ) : Type 0 where
  pub linked : AreLinked first stages later earlier last
  -- before a part that is out none of its slot waits
  pub in_order : (i slot : ℕ) → slice_get stages i ≡ Some (Out slot) → list_any (waits_for slot) (take i stages) ≡ false
  pub once : (number : ℕ) → turns number ≤ 1
  pub sound : (number : ℕ) → 0 < turns number → HasTurn first stages number
  pub complete : (i : ℕ) → MayPost stages i → 0 < turns (first + i)

-- how often a number stands in the heap
abbrev pub tally : List (Reverse ℕ) → ℕ → ℕ
tally [] number = 0
tally (turn ∷ turns) number = (if nat_eq number turn.0 then 1 else 0) + tally turns number

abbrev pub is_waiting : PartStage → Bool
is_waiting (Waiting part) = true
is_waiting (Out slot) = false
is_waiting Done = false

-- how many parts wait
abbrev pub waiting : List PartStage → ℕ
waiting [] = 0
waiting (stage ∷ stages) = (if is_waiting stage then 1 else 0) + waiting stages

abbrev pub earliest_first : Reverse ℕ → Reverse ℕ → Ordering
earliest_first a b = nat_cmp b.0 a.0

abbrev pub parts_in : Tables → QueueModel
parts_in t = record { first = t.first; stages = t.stages.items }

abbrev pub LinksIn : Tables → Type 0
LinksIn t = AreLinked t.first t.stages.items t.later.items t.earlier.items (get nat_eq t.last)

-- The tables are those of the parts. The heap has room for all parts that wait.
pub record AreSound (t : Tables) : Type 0 where
  pub tabled : IsTabled t.first t.stages.items t.later.items t.earlier.items (get nat_eq t.last) (tally (heap_items t.turns))
  pub ordered : IsHeap earliest_first (heap_items t.turns)
  pub room : waiting t.stages.items ≤ heap_capacity t.turns

-- the part of this number, if there is one, has this at its place
abbrev pub with_link : List (Option ℕ) → ℕ → Option ℕ → Option ℕ → List (Option ℕ)
with_link table first None link = table
with_link table first (Some number) link = slice_set table (number - first) link

-- the part at i is for this slot and has not ended
abbrev pub IsOpenAt : Tables → ℕ → ℕ → Type 0
IsOpenAt t i slot = (stage : PartStage) × (slice_get t.stages.items i ≡ Some stage) × (blocks slot stage ≡ true)

-- The part at i leaves those of its slot. Where it was the first of them the next one is the first.
pub record Unlinks (old : Tables) (i slot : ℕ) (next : Option ℕ) (new : Tables) : Type 0 where
  pub first : new.first ≡ old.first
  pub stages : new.stages ≡ old.stages
  pub turns : new.turns ≡ old.turns
  pub linked : AreLinked old.first (slice_set old.stages.items i Done) new.later.items new.earlier.items (get nat_eq new.last)
  pub follows : next ≡ (if list_any (blocks slot) (take i old.stages.items) then None else first_of (open_parts slot old.first (slice_set old.stages.items i Done)))

-- the same parts, numbered as before
abbrev pub SameParts : Tables → Tables → Type 0
SameParts old new = (new.first ≡ old.first) × (new.stages.items ≡ old.stages.items)

-- `count` parts can be added without more memory
pub record HasRoom (t : Tables) (count : ℕ) : Type 0 where
  pub stages : deque_len t.stages + count ≤ deque_capacity t.stages
  pub later : deque_len t.later + count ≤ deque_capacity t.later
  pub earlier : deque_len t.earlier + count ≤ deque_capacity t.earlier
  pub last : count ≤ spare t.last
  pub turns : waiting t.stages.items + count ≤ heap_capacity t.turns
