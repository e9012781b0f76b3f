-- When nothing is left to do for a client but to wait.
-- Of its posted commands nothing is said here.
use Rattle.std.specs.Prelude.{◌≡◌, ◌≢◌, ◌⊎◌, ◌≤◌, ◌^◌, ◌-◌, ℕ, [], Bool, true, false, Result, Ok, Err, length, take, ⊤}
use Rattle.std.specs.FinMap.{empty}
use Rattle.resp_wire.specs.declared.fault.NoMemory.{NoMemory}
use Rattle.key_split.specs.Runs.{RunModel}
use Rattle.session_order.specs.SessionModel.{SessionModel}
use Rattle.session_order.specs.Turn.{MayPost}
use Rattle.session_order.specs.RequestReaderModel.{IsDry}
use Rattle.session_order.specs.Replies.{output, parts_of}
use Rattle.session_order.specs.Steps.{IsNotFaulted, MayRead}
use Rattle.proxy_lanes.specs.declared.ring.Outlet.{Outlet}
use Rattle.proxy_lanes.specs.Lane.{posted, free_places}
use Rattle.proxy_turns.specs.declared.turned.Turned.{Turned}
use Rattle.proxy_turns.specs.ClientModel.{ClientModel, IsDone}

-- what a call leaves where it moved nothing
abbrev pub IfStill : Result Bool NoMemory → Type 0 → Type 0
IfStill (Ok true) P = ⊤
IfStill (Ok false) P = P
IfStill (Err refused) P = ⊤

-- the lane takes nothing more now: it is full, or no number is left
abbrev pub HasNoPlace : Outlet RunModel → Type 0
HasNoPlace outlet = (1024 ≤ length (posted outlet)) × ((free_places outlet ≡ 0) ⊎ (length (posted outlet) ≡ 2 ^ 64 - 1))

-- the session takes no bytes: too many requests are unanswered, or a fault closed it
abbrev pub TakesNoMore : SessionModel → Type 0
TakesNoMore session = (length session.requests ≡ 1024) ⊎ (IsNotFaulted session.closing → ⊥)

-- A part may be held back where others are unanswered: neither one of the oldest request, nor one of the first four.
abbrev pub MayBeHeld : SessionModel → ℕ → Type 0
MayBeHeld session i = (parts_of (take 1 session.requests) ≤ i) × (4 ≤ i)

module _ {C : Type 0} where
  -- it has all its bytes, and no command of it is left
  abbrev pub IsAnswered : ClientModel C → Type 0
  IsAnswered client = (client.unpushed ≡ []) × (client.commands ≡ record { fresh = []; posted = empty })

  -- Who is there, is owed nothing and left nothing that was pulled gave nothing when it was last asked.
  abbrev pub HasNoneToPull : (C → Type 0) → ClientModel C → Type 0
  HasNoneToPull gives_none client = client.gone ≡ false → client.unfed ≡ [] → IsAnswered client → gives_none client.port

  -- what was pulled is fed, as far as the session takes it
  abbrev pub HasNoneToFeed : ClientModel C → Type 0
  HasNoneToFeed client = (client.unfed ≡ []) ⊎ TakesNoMore client.session

  -- no whole request is left to read
  abbrev pub HasNoneToRead : ClientModel C → Type 0
  HasNoneToRead client = MayRead client.session → IsDry client.session.incoming

  -- the turn of no part has come that may not be held back, or commands wait for their first post
  abbrev pub HasNoneToBegin : ClientModel C → Type 0
  HasNoneToBegin client = client.gone ≡ false → client.commands.fresh ≡ [] → (i : ℕ) → MayPost client.session.stages i → MayBeHeld client.session i

  -- commands wait for their first post only at a lane that takes nothing more, and only of a client that is there
  abbrev pub HasNoneToPost : ClientModel C → Outlet RunModel → Type 0
  HasNoneToPost client outlet = client.commands.fresh ≢ [] → (client.gone ≡ false) × HasNoPlace outlet

  -- no reply is ready for who is there and has all its bytes
  abbrev pub HasNoneToDrain : ClientModel C → Type 0
  HasNoneToDrain client = client.gone ≡ false → client.unpushed ≡ [] → output client.session ≡ []

  -- who is there has all its bytes, or took none when they were last offered
  abbrev pub HasNoneToPush : (C → Type 0) → ClientModel C → Type 0
  HasNoneToPush takes_none client = client.gone ≡ false → (client.unpushed ≡ []) ⊎ takes_none client.port

  -- what a turn of the client leaves that moved nothing
  pub record IsClientAtRest (gives_none takes_none : C → Type 0) (client : ClientModel C) (outlet : Outlet RunModel) : Type 0 where
    pub pulled : HasNoneToPull gives_none client
    pub fed : HasNoneToFeed client
    pub read : HasNoneToRead client
    pub begun : HasNoneToBegin client
    pub posted : HasNoneToPost client outlet
    pub drained : HasNoneToDrain client
    pub pushed : HasNoneToPush takes_none client

-- what a client's turn leaves where it moved nothing
abbrev pub IfTurnedStill : Result Turned NoMemory → Type 0 → Type 0
IfTurnedStill (Ok turned) P = turned.moved ≡ false → P
IfTurnedStill (Err refused) P = ⊤

-- ---- one call

module _ {C : Type 0} where
  -- only the port changed; one that was asked gave nothing
  pub record PullsNone (gives_none : C → Type 0) (held_back : Bool) (old new : ClientModel C) : Type 0 where
    pub kept : new ≡ record old { port = new.port }
    pub unasked : held_back ≡ true → new ≡ old
    pub asked : held_back ≡ false → old.gone ≡ false → old.unfed ≡ [] → gives_none new.port

  pub record FeedsNone (old new : ClientModel C) : Type 0 where
    pub kept : new ≡ old
    pub fed : HasNoneToFeed new

  -- only the session changed: a fault may have closed it
  pub record ReadsNone (old new : ClientModel C) : Type 0 where
    pub kept : new ≡ record old { session = new.session }
    pub read : HasNoneToRead new
    pub fed : HasNoneToFeed old → HasNoneToFeed new

  pub record BeginsNone (old new : ClientModel C) : Type 0 where
    pub kept : new ≡ old
    pub begun : HasNoneToBegin new

  pub record PostsNone (old new : ClientModel C) (outlet : Outlet RunModel) : Type 0 where
    pub kept : new ≡ old
    pub posted : HasNoneToPost new outlet

  pub record SendsNone (old new : ClientModel C) (outlet : Outlet RunModel) : Type 0 where
    pub kept : new ≡ old
    pub begun : HasNoneToBegin new
    pub posted : HasNoneToPost new outlet

  pub record DrainsNone (old new : ClientModel C) : Type 0 where
    pub kept : new ≡ old
    pub drained : HasNoneToDrain new

  -- only the port changed; one to which nothing was owed was offered nothing
  pub record PushesNone (takes_none : C → Type 0) (old new : ClientModel C) : Type 0 where
    pub kept : new ≡ record old { port = new.port }
    pub unasked : old.unpushed ≡ [] → new ≡ old
    pub pushed : HasNoneToPush takes_none new

  pub record WritesNone (takes_none : C → Type 0) (old new : ClientModel C) : Type 0 where
    pub kept : new ≡ record old { port = new.port }
    pub unasked : old.unpushed ≡ [] → new ≡ old
    pub drained : HasNoneToDrain new
    pub pushed : HasNoneToPush takes_none new

  pub record WorksNone (takes_none : C → Type 0) (old new : ClientModel C) (outlet : Outlet RunModel) : Type 0 where
    pub gone : new.gone ≡ old.gone
    pub unfed : new.unfed ≡ old.unfed
    pub unpushed : new.unpushed ≡ old.unpushed
    pub unasked : old.unpushed ≡ [] → new.port ≡ old.port
    pub fed : HasNoneToFeed new
    pub read : HasNoneToRead new
    pub begun : HasNoneToBegin new
    pub posted : HasNoneToPost new outlet
    pub drained : HasNoneToDrain new
    pub pushed : HasNoneToPush takes_none new

  -- The client has nothing to do until bytes are pulled or a command ends.
  pub record IsIdle (client : ClientModel C) : Type 0 where
    pub unpushed : client.unpushed ≡ []
    pub fresh : client.commands.fresh ≡ []
    pub fed : HasNoneToFeed client
    pub read : HasNoneToRead client
    pub begun : HasNoneToBegin client
    pub drained : HasNoneToDrain client

  -- Only its port can give the client something to do, which gave nothing when it was last asked.
  pub record IsAsleep (gives_none : C → Type 0) (client : ClientModel C) : Type 0 where
    pub idle : IsIdle client
    pub pulled : HasNoneToPull gives_none client
    pub undone : IsDone client → ⊥
