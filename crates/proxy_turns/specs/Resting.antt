-- When nothing is left for the carrier to do but to wait.
use Rattle.std.specs.Prelude.{◌≡◌, ◌⊎◌, ◌≤◌, ◌<◌, ◌-◌, ◌^◌, ℕ, List, [], ◌∷◌, true, false, Option, Some, None, IsSome, IfSome, length, slice_get}
use Rattle.std.specs.Option.{ForSome}
use Rattle.key_split.specs.Runs.{RunModel}
use Rattle.key_split.specs.declared.travel.Ticket.{Ticket}
use Rattle.key_split.specs.declared.travel.Told.{Told}
use Rattle.slot_map.specs.Table.{Endpoint}
use Rattle.node_link.specs.LinkModel.{LinkModel}
use Rattle.proxy_lanes.specs.declared.ends.lane_ends.LaneEnds.{LaneEnds}
use Rattle.proxy_lanes.specs.declared.ring.Outlet.{Outlet}
use Rattle.proxy_lanes.specs.Lane.{posted, free_places, held}
use Rattle.proxy_turns.specs.declared.backend.Backend.{Backend}
use Rattle.proxy_turns.specs.declared.pending_run.PendingRun.{PendingRun}
use Rattle.proxy_turns.specs.Backend.{HasReceived, has_failed, is_open}
use Rattle.proxy_turns.specs.PendingRun.{IsPending, target_of}

-- a lane to a worker takes nothing more now: it is finished, or it is full, or no number is left
abbrev pub IsBlocked : Option (Outlet (Ticket × Told)) → Type 0
IsBlocked None = Unit {0}
IsBlocked (Some outlet) = (1024 ≤ length (posted outlet)) × ((free_places outlet ≡ 0) ⊎ (length (posted outlet) ≡ 2 ^ 64 - 1))

module _ {H : Type 0} where
  -- the lane to this worker takes nothing more now
  abbrev pub IsBlockedAt : List (LaneEnds H) → ℕ → Type 0
  IsBlockedAt lanes worker = (lane : LaneEnds H) × (slice_get lanes worker ≡ Some lane) × IsBlocked lane.down

  -- the lane from this worker has no run
  abbrev pub HasNoRun : List (LaneEnds H) → ℕ → Type 0
  HasNoRun lanes worker = worker < 2 ^ 16 → ForSome (slice_get lanes worker) (λ lane. held lane.up ≡ [])

  -- What a call that moved nothing leaves.

  -- nothing can be given to a worker
  abbrev pub HasNoneToGive : {P : Type 0} → List (LaneEnds H) → Backend P → Type 0
  HasNoneToGive lanes backend = IfSome backend.pending_told (λ pending_told. IsSome pending_told.change ⊎ IsBlockedAt lanes pending_told.ticket.worker)

  -- none of these tickets can be told anything
  abbrev pub CanTellNone : List (LaneEnds H) → List Ticket → Type 0
  CanTellNone lanes [] = Unit {0}
  CanTellNone lanes (ticket ∷ later) = IsBlockedAt lanes ticket.worker

  -- no worker can be told that its run is unsent
  abbrev pub HasNoneToTell : List (LaneEnds H) → PendingRun → Type 0
  HasNoneToTell lanes pending_run = CanTellNone lanes pending_run.refused

  -- no run can be taken
  abbrev pub HasNoneToCarry : List (LaneEnds H) → ℕ → PendingRun → Type 0
  HasNoneToCarry lanes worker pending_run = IsPending pending_run ⊎ HasNoRun lanes worker

module _ {P : Type 0} where
  -- a pending run has no open link
  abbrev pub HasNoOpenLink : List (Backend P) → PendingRun → Type 0
  HasNoOpenLink backends pending_run = ForSome (target_of pending_run.refused pending_run.run) (λ node. ForSome (slice_get backends node) (λ backend. is_open backend.link ≡ false))

  -- this node has a backend with a link
  abbrev pub HasLink : List (Backend P) → ℕ → Type 0
  HasLink backends node = (backend : Backend P) × (slice_get backends node ≡ Some backend) × IsSome backend.link

  -- this node's link has failed
  abbrev pub HasFailedLink : List (Backend P) → ℕ → Type 0
  HasFailedLink backends node = (backend : Backend P) × (slice_get backends node ≡ Some backend) × (has_failed backend.link ≡ true)

-- A node's backend rests: of the slot map nothing is left to do, what a ticket is told waits for a place in a full lane, a link
-- that has failed waits for that too, and an open link gave nothing when it was last asked.
pub record BackendRests {H P : Type 0} (gave_none : LinkModel P → Type 0) (nodes : List Endpoint) (lanes : List (LaneEnds H)) (backend : Backend P) : Type 0 where
  pub asked : backend.to_ask ≡ false
  pub read : backend.answer ≡ None
  pub renewed : backend.changes ≡ None
  pub told : IfSome backend.pending_told (λ pending_told. (pending_told.change ≡ None) × IsBlockedAt lanes pending_told.ticket.worker)
  pub link : has_failed backend.link ≡ true → IsSome backend.pending_told
  pub received : HasReceived gave_none nodes backend

-- A worker's run rests: its next ticket waits for a place in a full lane, or its node's link has failed, or none is pending and
-- the lane has none.
abbrev pub RunRests : {H P : Type 0} → List (LaneEnds H) → List (Backend P) → ℕ → List Ticket → Option RunModel → Type 0
RunRests lanes backends worker (ticket ∷ later) run = IsBlockedAt lanes ticket.worker
RunRests lanes backends worker [] (Some run) = HasFailedLink backends run.first.node
RunRests lanes backends worker [] None = HasNoRun lanes worker
