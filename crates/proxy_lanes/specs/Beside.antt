-- What can be said of lanes where both ends of each are at hand: what was taken and what is left are all that was posted.
-- A look posts and takes nothing. It changes only what each end knows of the other: more items that wait, more places that are free.
use Rattle.std.specs.Prelude.{◌≡◌, ◌<◌, ℕ, ◌++◌, Option, Some, None, IfSome, length}
use Rattle.std.specs.Option.{ForSome}
use mathlib.Core.List.{IsPrefix}
use Rattle.rtrb.specs.Ring.{ConsumerLooked, ProducerLooked}
use Rattle.key_split.specs.Runs.{RunModel}
use Rattle.key_split.specs.declared.travel.Ticket.{Ticket}
use Rattle.key_split.specs.declared.travel.Told.{Told}
use Rattle.proxy_lanes.specs.declared.ring.Outlet.{Outlet}
use Rattle.proxy_lanes.specs.declared.ring.Inlet.{Inlet}
use Rattle.proxy_lanes.specs.declared.ends.lane_ends.LaneEnds.{LaneEnds}
use Rattle.proxy_lanes.specs.declared.ends.lane_ends.LeftInLanes.{LeftInLanes}
use Rattle.proxy_lanes.specs.Lane.{IsLane, free_places, held, posted, taken}

module _ {T : Type 0} where
  -- what was taken was posted, in that order
  abbrev pub IsInStep : Outlet T → Inlet T → Type 0
  IsInStep outlet inlet = IsPrefix (taken inlet) (posted outlet)

  -- all that was posted was taken
  abbrev pub IsDrained : Outlet T → Inlet T → Type 0
  IsDrained outlet inlet = taken inlet ≡ posted outlet

  -- the two ends look at each other, and so many items are left
  abbrev pub LooksBeside : Outlet T → Inlet T → Outlet T → Inlet T → ℕ → Type 0
  LooksBeside outlet inlet outlet' inlet' left =
      ProducerLooked outlet.producer outlet'.producer × ConsumerLooked inlet.consumer inlet'.consumer
      × (taken inlet' ++ held inlet' ≡ posted outlet') × (left ≡ length (held inlet'))

-- the lane down, while it is open
abbrev pub DownLooks : Option (Outlet (Ticket × Told)) → Inlet (Ticket × Told) → Option (Outlet (Ticket × Told)) → Inlet (Ticket × Told) → ℕ → Type 0
DownLooks None inlet new inlet' left = (new ≡ None) × (inlet' ≡ inlet) × (left ≡ 0)
DownLooks (Some old) inlet new inlet' left = (next : Outlet (Ticket × Told)) × (new ≡ Some next) × LooksBeside old inlet next inlet' left

module _ {H : Type 0} where
  -- a worker's ends and the carrier's of its three lanes: the two ends of each, of the one down while it is open
  abbrev pub AreBeside : Outlet RunModel → Inlet (Ticket × Told) → Inlet H → LaneEnds H → Type 0
  AreBeside outlet inlet newcomers lane = IsLane outlet lane.up × ForSome lane.down (λ down. IsLane down inlet) × IsLane lane.door newcomers

  -- they look at each other
  abbrev pub LanesLook : Outlet RunModel → Inlet (Ticket × Told) → Inlet H → LaneEnds H → LeftInLanes → Outlet RunModel → Inlet (Ticket × Told) → Inlet H → LaneEnds H → Type 0
  LanesLook outlet inlet newcomers lane left outlet' inlet' newcomers' lane' =
      LooksBeside outlet lane.up outlet' lane'.up left.up
      × DownLooks lane.down inlet lane'.down inlet' left.down
      × LooksBeside lane.door newcomers lane'.door newcomers' left.door

  -- a place is known to be free in the lane up, and in the lane down
  abbrev pub HavePlaces : Outlet RunModel → LaneEnds H → Type 0
  HavePlaces outlet lane = (0 < free_places outlet) × IfSome lane.down (λ down. 0 < free_places down)
