-- The ends of all lanes: those of each worker, and the carrier's.
-- A call of the carrier changes the lanes of one worker and of no other.
use Rattle.std.specs.Prelude.{◌≡◌, ℕ, List, Option, Some, None, Result, Err, IfSome, slice_get, slice_set}
use Rattle.key_split.specs.Runs.{RunModel}
use Rattle.key_split.specs.declared.travel.Ticket.{Ticket}
use Rattle.key_split.specs.declared.travel.Told.{Told}
use Rattle.proxy_lanes.specs.declared.ring.Note.{Note}
use Rattle.proxy_lanes.specs.declared.ring.Outlet.{Outlet}
use Rattle.proxy_lanes.specs.declared.ends.lane_ends.LaneEnds.{LaneEnds}
use Rattle.proxy_lanes.specs.Lane.{FinishesAs, Posts, Settles, Takes}

-- this item of the list changed so, and no other
abbrev pub ChangesAt : {A : Type 0} → List A → ℕ → List A → (A → A → Type 0) → Type 0
ChangesAt {A} old k new R = (x : A) × (y : A) × (slice_get old k ≡ Some x) × (new ≡ slice_set old k y) × R x y

-- what a worker is told of a ticket is given, while the lane is open; then it comes back
abbrev pub Gives : Option (Outlet (Ticket × Told)) → Option (Outlet (Ticket × Told)) → Ticket × Told → Result Unit (Ticket × Told) → Type 0
Gives (Some old) new pair given = (next : Outlet (Ticket × Told)) × (new ≡ Some next) × Posts old next pair given
Gives None new pair given = (new ≡ None) × (given ≡ Err pair)

-- the lane is finished; there is no note the second time
abbrev pub Finishes : Option (Outlet (Ticket × Told)) → Option (Outlet (Ticket × Told)) → Option (Note (Ticket × Told)) → Type 0
Finishes (Some old) new note = (new ≡ None) × IfSome note (FinishesAs old)
Finishes None new note = (new ≡ None) × (note ≡ None)

module _ {H : Type 0} where
  -- a run is taken from the worker's lane
  abbrev pub TakesUp : LaneEnds H → LaneEnds H → Option RunModel → Type 0
  TakesUp old new taken = (new ≡ record old { up = new.up }) × Takes old.up new.up taken

  abbrev pub SettlesUp : LaneEnds H → LaneEnds H → Note RunModel → ℕ → Type 0
  SettlesUp old new note left = (new ≡ record old { up = new.up }) × Settles old.up new.up note left

  -- the worker is told something
  abbrev pub GivesDown : LaneEnds H → LaneEnds H → Ticket × Told → Result Unit (Ticket × Told) → Type 0
  GivesDown old new pair given = (new ≡ record old { down = new.down }) × Gives old.down new.down pair given

  -- the worker is told nothing more
  abbrev pub FinishesDown : LaneEnds H → LaneEnds H → Option (Note (Ticket × Told)) → Type 0
  FinishesDown old new note = (new ≡ record old { down = new.down }) × Finishes old.down new.down note

  -- a new client is handed to the worker
  abbrev pub HandsOver : LaneEnds H → LaneEnds H → H → Result Unit H → Type 0
  HandsOver old new client handed = (new ≡ record old { door = new.door }) × Posts old.door new.door client handed
