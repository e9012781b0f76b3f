-- What happens to one client in a worker's turn, at the lane into which the worker posts, and at its view of the slot
-- map.
-- A turn is a list of events, and moved exactly where one of them is a move. Nothing says that a turn makes any.
use Rattle.std.specs.Prelude.{◌*◌, ◌||◌, ◌≡◌, ◌≢◌, ◌≤◌, ◌↔◌, ◌++◌, ◌∷◌, [], ℕ, List, Bool, true, false, IsTrue, Option, Some, Result, Ok, Err, length, drop, map, nat_lt}
use Rattle.std.specs.List.{FoldsTo, list_all, list_any}
use Rattle.std.specs.FinMap.{get, remove}
use Rattle.slot_hash.specs.Slot.{slot_of}
use Rattle.resp_wire.specs.declared.fault.NoMemory.{NoMemory}
use Rattle.key_split.specs.PartModel.{PartModel}
use Rattle.key_split.specs.Runs.{RunModel, IsTogether, count_in}
use Rattle.key_split.specs.declared.travel.Ticket.{Ticket}
use Rattle.key_split.specs.declared.travel.Ended.{Ended}
use Rattle.command_future.specs.CommandModel.{CommandModel}
use Rattle.session_order.specs.declared.fault.SessionFault.{SessionFault}
use Rattle.session_order.specs.HangingUp.{HangsUp}
use Rattle.session_order.specs.Replies.{DrainOutcome}
use Rattle.session_order.specs.Steps.{IsHandedOut, IsOut, FeedOutcome, ReadOutcome, ReadyOutcome, FollowerOutcome, EndOutcome}
use Rattle.session_order.specs.Behind.{NextInTurn}
use Rattle.proxy_lanes.specs.declared.map_view.NotEntered.{NotEntered}
use Rattle.proxy_lanes.specs.declared.ring.Outlet.{Outlet}
use Rattle.proxy_lanes.specs.Lane.{Posts}
use Rattle.proxy_lanes.specs.View.{ViewModel}
use Rattle.proxy_turns.specs.declared.uplink.Uplink.{Uplink}
use Rattle.proxy_turns.specs.Port.{Moves}
use Rattle.proxy_turns.specs.Commands.{CommandsModel, TakesRun, most_together, run_of, with_fresh, with_run, HasEndAt, HasEnd, Looks, GoesTo}
use Rattle.proxy_turns.specs.declared.turned.Turned.{Turned}
use Rattle.proxy_turns.specs.declared.turned.Finish.{Finish}
use Rattle.proxy_turns.specs.declared.turned.Finish.TheVariants as finish
use Rattle.proxy_turns.specs.declared.turned.Settled.{Settled}
use Rattle.proxy_turns.specs.declared.turned.Settled.TheVariants as settled
use Rattle.proxy_turns.specs.ClientModel.{ClientModel, GoBehind, IsDone}

pub record ClientContext (C : Type 0) : Type 0 where
  pub client : ClientModel C
  pub outlet : Outlet RunModel
  pub view : ViewModel

-- a client at its worker's lane and view
abbrev pub at : {C J : Type 0} → ClientModel C → Uplink J → ClientContext C
at client uplink = record { client = client; outlet = uplink.outlet; view = uplink.view }

pub data ClientEvent : Type 0 where
  Pulled : List ℕ → ClientEvent
  Fed : Result ℕ SessionFault → ClientEvent
  Read : Result Bool SessionFault → ClientEvent
  HandedOut : Ticket → PartModel → ClientEvent
  Followed : Ticket → PartModel → ClientEvent
  Looked : ℕ → ClientEvent
  CameBack : RunModel → ClientEvent
  Posted : RunModel → ClientEvent
  Drained : ℕ → ClientEvent
  Pushed : List ℕ → ClientEvent
  Tried : ClientEvent
  Parted : ClientEvent
  Dropped : List Ticket → ClientEvent

-- Bytes of the replies that a turn drains, the last of them to its end.
abbrev pub most_drained : ℕ
most_drained = 64 * 1024

-- Whether it moved something: a look at the map does not, nor a run that came back, nor a call that found nothing.
abbrev pub is_client_move : ClientEvent → Bool
is_client_move (Pulled bytes) = nat_lt 0 (length bytes)
is_client_move (Fed (Ok n)) = nat_lt 0 n
is_client_move (Fed (Err fault)) = false
is_client_move (Read (Ok read)) = read
is_client_move (Read (Err fault)) = false
is_client_move (HandedOut ticket part) = true
is_client_move (Followed ticket part) = true
is_client_move (Looked slot) = false
is_client_move (CameBack run) = false
is_client_move (Posted run) = true
is_client_move (Drained n) = nat_lt 0 n
is_client_move (Pushed bytes) = nat_lt 0 (length bytes)
is_client_move Tried = false
is_client_move Parted = true
is_client_move (Dropped tickets) = true

-- Which events one part of a turn may make.

-- bytes are pulled, or the client is gone
abbrev pub is_pull : ClientEvent → Bool
is_pull (Pulled bytes) = true
is_pull Tried = true
is_pull Parted = true
is_pull event = false

-- bytes are fed to the session
abbrev pub is_feed : ClientEvent → Bool
is_feed (Fed result) = true
is_feed event = false

-- the session reads
abbrev pub is_read : ClientEvent → Bool
is_read (Read result) = true
is_read event = false

-- commands begin
abbrev pub is_begin : ClientEvent → Bool
is_begin (HandedOut ticket part) = true
is_begin (Followed ticket part) = true
is_begin event = false

-- the commands of a client that is gone are dropped
abbrev pub is_drop : ClientEvent → Bool
is_drop (Dropped tickets) = true
is_drop event = false

-- commands are posted, or only tried
abbrev pub is_post : ClientEvent → Bool
is_post (Looked slot) = true
is_post (CameBack run) = true
is_post (Posted run) = true
is_post event = false

-- the session is drained
abbrev pub is_drain : ClientEvent → Bool
is_drain (Drained n) = true
is_drain event = false

-- bytes are pushed, or the client is gone
abbrev pub is_push : ClientEvent → Bool
is_push (Pushed bytes) = true
is_push Tried = true
is_push Parted = true
is_push event = false

-- commands begin and are posted, or are dropped
abbrev pub is_send : ClientEvent → Bool
is_send event = is_begin event || (is_drop event || is_post event)

-- the session is drained, and bytes are pushed
abbrev pub is_write : ClientEvent → Bool
is_write event = is_drain event || is_push event

-- all that is done for a client but to pull
abbrev pub is_work : ClientEvent → Bool
is_work event = is_feed event || (is_read event || (is_send event || is_write event))

-- the bytes that are left after a call of `feed`
abbrev pub left_of : List ℕ → Result ℕ SessionFault → List ℕ
left_of unfed (Ok n) = drop n unfed
left_of unfed (Err fault) = unfed

module _ {C : Type 0} where
  abbrev pub with_client : ClientContext C → ClientModel C → ClientContext C
  with_client context client = record context { client = client }

  module _ (moves : Moves C) where
    abbrev pub ClientDoes : ClientContext C → ClientEvent → ClientContext C → Type 0
    -- bytes come from the client
    ClientDoes old (Pulled bytes) new =
        moves.between old.client.port bytes [] [] new.client.port
        × (new ≡ with_client old (record old.client { port = new.client.port; unfed = old.client.unfed ++ bytes }))
    -- they are fed to its session
    ClientDoes old (Fed result) new =
        FeedOutcome old.client.session old.client.unfed result new.client.session
        × (new ≡ with_client old (record old.client { session = new.client.session; unfed = left_of old.client.unfed result }))
    -- the session reads a request, or none
    ClientDoes old (Read result) new =
        ReadOutcome old.client.session result new.client.session
        × (new ≡ with_client old (record old.client { session = new.client.session }))
    -- the session of a client that is there hands out a part, whose command begins
    ClientDoes old (HandedOut ticket part) new =
        (old.client.gone ≡ false) × (old.client.commands.fresh ≡ [])
        × ReadyOutcome old.client.session (Some (ticket, part)) new.client.session
        × (new ≡ with_client old (record old.client { session = new.client.session; commands = with_fresh old.client.commands ticket part }))
    -- it hands out the next part for the slot, whose command goes behind the last of those that were not posted yet
    ClientDoes old (Followed ticket part) new =
        (old.client.gone ≡ false)
        × ((before : List CommandModel) × (last : CommandModel) × (old.client.commands.fresh ≡ before ++ last ∷ [])
        × FollowerOutcome old.client.session last.ticket (Some (ticket, part)) new.client.session)
        × (new ≡ with_client old (record old.client { session = new.client.session; commands = with_fresh old.client.commands ticket part }))
    -- a look at the map
    ClientDoes old (Looked slot) new =
        ((answer : Result (Option ℕ) NotEntered) × Looks old.view slot answer new.view) × (new ≡ record old { view = new.view })
    -- the lane takes no run
    ClientDoes old (CameBack run) new = Posts old.outlet new.outlet run (Err run) × (new ≡ record old { outlet = new.outlet })
    -- Commands that want to be posted go as the first of them wants, in the turn of its part, each behind those before it. For a client that
    -- is gone this is one that was posted before.
    ClientDoes old (Posted run) new =
        (first : CommandModel) × (later : List CommandModel) × (rest : CommandsModel)
        × TakesRun old.client.commands first later rest
        × (old.client.gone ≡ true → get old.client.commands.posted first.ticket.part ≡ Some first)
        × IsOut old.client.session first.ticket
        × GoBehind old.client.session (slot_of first.part.key) (first.ticket.part ∷ []) later
        × GoesTo first.stage (slot_of first.part.key) old.view run.first.node new.view
        × (run ≡ run_of first later run.first.node)
        × IsTogether run × (count_in run ≤ most_together)
        × Posts old.outlet new.outlet run (Ok tt)
        × (new ≡ record { client = record old.client { commands = with_run rest first later }; outlet = new.outlet; view = new.view })
    -- the session of a client that is there drains replies that are next in order, until they have `most_drained` bytes
    ClientDoes old (Drained n) new =
        (old.client.gone ≡ false)
        × DrainOutcome most_drained old.client.session old.client.unpushed (Ok n) new.client.session new.client.unpushed
        × (new ≡ with_client old (record old.client { session = new.client.session; unpushed = new.client.unpushed }))
    -- bytes go to the client
    ClientDoes old (Pushed bytes) new =
        moves.between old.client.port [] bytes [] new.client.port
        × (old.client.unpushed ≡ bytes ++ new.client.unpushed)
        × (new ≡ with_client old (record old.client { port = new.client.port; unpushed = new.client.unpushed }))
    -- a call of the port moves nothing
    ClientDoes old Tried new = moves.between old.client.port [] [] [] new.client.port × (new ≡ with_client old (record old.client { port = new.client.port }))
    -- the client is gone, as its port answered: of what was pulled and not fed, of what its session held beside the places of the parts that are out, and of what
    -- was drained and not pushed, nothing is kept
    ClientDoes old Parted new =
        (old.client.gone ≡ false)
        × moves.gone old.client.port
        × HangsUp old.client.session new.client.session
        × (new ≡ with_client old (record old.client { session = new.client.session; gone = true; unfed = []; unpushed = [] }))
    -- the commands of a client that is gone are dropped before their first post
    ClientDoes old (Dropped tickets) new =
        (old.client.gone ≡ true) × (old.client.commands.fresh ≢ []) × (tickets ≡ map (λ c. c.ticket) old.client.commands.fresh)
        × (new ≡ with_client old (record old.client { commands = record old.client.commands { fresh = [] } }))

    -- some events took one to the other, and this says whether one of them moved something
    abbrev pub ClientGoes : ClientContext C → Bool → ClientContext C → Type 0
    ClientGoes old moved new = (events : List ClientEvent) × FoldsTo ClientDoes old events new × (moved ≡ list_any is_client_move events)

    -- what a call that may find no memory did: all of it, or what was done before
    abbrev pub ClientTurns : ClientContext C → Result Bool NoMemory → ClientContext C → Type 0
    ClientTurns old (Ok moved) new = ClientGoes old moved new
    ClientTurns old (Err refused) new = (moved : Bool) × ClientGoes old moved new

    -- the same for a client's turn, which also says whether nothing is left to do for the client
    abbrev pub TurnOutcome : ClientContext C → Result Turned NoMemory → ClientContext C → Type 0
    TurnOutcome old (Ok turned) new = ClientGoes old turned.moved new × (IsTrue turned.done ↔ IsDone new.client)
    TurnOutcome old (Err refused) new = (moved : Bool) × ClientGoes old moved new

    -- the same by events of one kind alone
    abbrev pub ClientGoesBy : (ClientEvent → Bool) → ClientContext C → Bool → ClientContext C → Type 0
    ClientGoesBy may old moved new =
        (events : List ClientEvent) × FoldsTo ClientDoes old events new × (moved ≡ list_any is_client_move events) × (list_all may events ≡ true)

    abbrev pub ClientTurnsBy : (ClientEvent → Bool) → ClientContext C → Result Bool NoMemory → ClientContext C → Type 0
    ClientTurnsBy may old (Ok moved) new = ClientGoesBy may old moved new
    ClientTurnsBy may old (Err refused) new = (moved : Bool) × ClientGoesBy may old moved new

    abbrev pub ClientTurnsAloneBy : (ClientEvent → Bool) → ClientModel C → Result Bool NoMemory → ClientModel C → Type 0
    ClientTurnsAloneBy may old result new = (outlet : Outlet RunModel) (view : ViewModel)
        → ClientTurnsBy may (record { client = old; outlet = outlet; view = view }) result (record { client = new; outlet = outlet; view = view })

    -- bytes are pulled
    abbrev pub PullsBytes : ClientModel C → Result Bool NoMemory → ClientModel C → Type 0
    PullsBytes = ClientTurnsAloneBy is_pull

    -- the session is fed
    abbrev pub FeedsSession : ClientModel C → Result Bool NoMemory → ClientModel C → Type 0
    FeedsSession = ClientTurnsAloneBy is_feed

    -- requests are read
    abbrev pub ReadsRequests : ClientModel C → Result Bool NoMemory → ClientModel C → Type 0
    ReadsRequests = ClientTurnsAloneBy is_read

    -- commands begin
    abbrev pub BeginsCommands : ClientModel C → Result Bool NoMemory → ClientModel C → Type 0
    BeginsCommands = ClientTurnsAloneBy is_begin

    -- the commands of a client that is gone are dropped
    abbrev pub DropsCommands : ClientModel C → Result Bool NoMemory → ClientModel C → Type 0
    DropsCommands = ClientTurnsAloneBy is_drop

    -- the session is drained
    abbrev pub DrainsReplies : ClientModel C → Result Bool NoMemory → ClientModel C → Type 0
    DrainsReplies = ClientTurnsAloneBy is_drain

    -- bytes are pushed
    abbrev pub PushesBytes : ClientModel C → Result Bool NoMemory → ClientModel C → Type 0
    PushesBytes = ClientTurnsAloneBy is_push

    -- the session is drained, and bytes are pushed
    abbrev pub WritesReplies : ClientModel C → Result Bool NoMemory → ClientModel C → Type 0
    WritesReplies = ClientTurnsAloneBy is_write

    -- commands are posted, or only tried
    abbrev pub PostsCommands : ClientContext C → Result Bool NoMemory → ClientContext C → Type 0
    PostsCommands = ClientTurnsBy is_post

    -- commands begin and are posted
    abbrev pub SendsCommands : ClientContext C → Result Bool NoMemory → ClientContext C → Type 0
    SendsCommands = ClientTurnsBy is_send

    -- all is done for the client but to pull
    abbrev pub DoesWork : ClientContext C → Result Bool NoMemory → ClientContext C → Type 0
    DoesWork = ClientTurnsBy is_work

    -- A command has ended: in one step the port notes the end, the session learns it, and the command leaves.
    abbrev pub Finishes : ClientModel C → Ticket → Ended → ClientModel C → Type 0
    Finishes old ticket end new =
        HasEnd old.commands ticket.part ticket end
        × moves.between old.port [] [] ((ticket, end) ∷ []) new.port
        × EndOutcome old.session ticket end new.session
        × (new ≡ record old { port = new.port; session = new.session; commands = record old.commands { posted = remove old.commands.posted ticket.part } })

    -- The command for the part of this number, where it has ended, with the next one that is out for its slot. Where the port finds no
    -- memory for the end nothing happens.
    abbrev pub FinishOutcome : ClientModel C → ℕ → Result Finish NoMemory → ClientModel C → Type 0
    FinishOutcome old number (Ok (finish.Ended next)) new =
        (ticket : Ticket) × (end : Ended) × (ticket.part ≡ number) × IsHandedOut old.session ticket × Finishes old ticket end new
        × NextInTurn old.session ticket next
    FinishOutcome old number (Ok finish.Open) new = (HasEndAt old.commands number → ⊥) × (new ≡ old)
    FinishOutcome old number (Err refused) new = moves.between old.port [] [] [] new.port × (new ≡ record old { port = new.port })

    -- a posted command is posted again, or not
    abbrev pub SettleOutcome : ClientContext C → Result Settled NoMemory → ClientContext C → Type 0
    SettleOutcome old (Ok settled.Posted) new = ClientGoes old true new
    SettleOutcome old (Ok settled.Held) new = ClientGoes old false new
    SettleOutcome old (Ok settled.Nothing) new = ClientGoes old false new
    SettleOutcome old (Err refused) new = (moved : Bool) × ClientGoes old moved new

-- whether it moved something
abbrev pub is_settled : Settled → Bool
is_settled settled.Posted = true
is_settled settled.Held = false
is_settled settled.Nothing = false
