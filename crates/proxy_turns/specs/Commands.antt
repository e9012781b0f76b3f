-- The commands of one client, and how they are posted.
-- Redis Cluster specification, "MOVED Redirection" and "ASK redirection": a command goes to the named node, else to the
-- map's. A slot that the map lacks goes to node 0, the seed, which executes it or
-- answers MOVED.
use Rattle.std.specs.Prelude.{◌≡◌, ◌≢◌, ◌⊎◌, ◌++◌, ◌∷◌, ℕ, List, [], Bool, true, false, Option, Some, None, Result, Ok, Err, All, map, ⊤}
use Rattle.std.specs.Ordering.{nat_cmp}
use Rattle.std.specs.FinMap.{FinMap, get, insert, from_entries}
use mathlib.Core.List.{IsPrefix}
use Rattle.slot_hash.specs.Slot.{slot_of}
use Rattle.slot_map.specs.Map.{node_after}
use Rattle.resp_wire.specs.declared.fault.NoMemory.{NoMemory}
use Rattle.key_split.specs.PartModel.{PartModel}
use Rattle.key_split.specs.Runs.{RunModel}
use Rattle.key_split.specs.declared.travel.Ticket.{Ticket}
use Rattle.key_split.specs.declared.travel.Told.{Told}
use Rattle.key_split.specs.declared.travel.Ended.{Ended}
use Rattle.command_future.specs.declared.stage.Stage.{Stage}
use Rattle.command_future.specs.declared.stage.Stage.TheVariants.{Wants, WantsAsking, Awaits, Over}
use Rattle.command_future.specs.CommandModel.{CommandModel, fresh as new_command, IsFresh, WantsPost, batch_of, progress_told}
use Rattle.session_order.specs.SessionModel.{SessionModel}
use Rattle.session_order.specs.Steps.{FollowerOutcome, IsHandedOut, ReadyOutcome}
use Rattle.proxy_lanes.specs.declared.map_view.NotEntered.{NotEntered}
use Rattle.proxy_lanes.specs.declared.ring.Outlet.{Outlet}
use Rattle.proxy_lanes.specs.Lane.{Posts}
use Rattle.proxy_lanes.specs.View.{ViewModel, refused_once}

-- The commands of the parts that were handed out and have not ended: those that were not posted yet, in the order of their parts, which
-- go out together, and those that were, by the numbers of their parts.
pub record CommandsModel : Type 0 where
  pub fresh : List CommandModel
  pub posted : FinMap nat_cmp CommandModel

-- the commands that a table of entries stands for
abbrev pub in_table : List (ℕ × CommandModel) → FinMap nat_cmp CommandModel
in_table entries = from_entries entries

-- the same, beside the commands that were not posted yet
abbrev pub commanded : List CommandModel → List (ℕ × CommandModel) → CommandsModel
commanded fresh entries = record { fresh = fresh; posted = from_entries entries }

-- the command of a part that was handed out goes behind those that were not posted yet
abbrev pub with_fresh : CommandsModel → Ticket → PartModel → CommandsModel
with_fresh old ticket part = record old { fresh = old.fresh ++ new_command ticket part ∷ [] }

-- commands that go out together at most
abbrev pub most_together : ℕ
most_together = 64

-- these commands, on their way to this node together
abbrev pub run_of : CommandModel → List CommandModel → ℕ → RunModel
run_of first later node = record { first = batch_of first node; later = map (λ c. batch_of c node) later }

-- it was posted
abbrev pub awaiting : CommandModel → CommandModel
awaiting c = record c { stage = Awaits }

-- it goes out with the first: it is of the same client, for the same slot, and was never refused
pub record GoesWith (first c : CommandModel) : Type 0 where
  pub fresh : IsFresh c
  pub worker : c.ticket.worker ≡ first.ticket.worker
  pub client : c.ticket.client ≡ first.ticket.client
  pub slot : slot_of c.part.key ≡ slot_of first.part.key

abbrev pub AreOneRun : List CommandModel → Type 0
AreOneRun [] = ⊤
AreOneRun (first ∷ later) = IsFresh first × All (GoesWith first) later

-- a command begins, of the part that the session hands out
abbrev pub BeginOutcome : CommandsModel → SessionModel → Result Bool NoMemory → CommandsModel → SessionModel → Type 0
BeginOutcome old session (Ok true) new session' =
    (ticket : Ticket) × (part : PartModel) × ReadyOutcome session (Some (ticket, part)) session' × (new ≡ with_fresh old ticket part)
BeginOutcome old session (Ok false) new session' = ReadyOutcome session None session' × (new ≡ old)
BeginOutcome old session (Err refused) new session' = (new ≡ old) × (session' ≡ session)

-- the same behind the last of those that were not posted yet
abbrev pub FollowOutcome : CommandsModel → SessionModel → Result Bool NoMemory → CommandsModel → SessionModel → Type 0
FollowOutcome old session (Ok true) new session' =
    (ticket : Ticket) × (part : PartModel)
    × ((before : List CommandModel) × (last : CommandModel) × (old.fresh ≡ before ++ last ∷ []) × FollowerOutcome session last.ticket (Some (ticket, part)) session')
    × (new ≡ with_fresh old ticket part)
FollowOutcome old session (Ok false) new session' = (new ≡ old) × (session' ≡ session)
FollowOutcome old session (Err refused) new session' = (new ≡ old) × (session' ≡ session)

-- the last of these commands, if there is one, is of a part that is out
abbrev pub LastIsOut : SessionModel → List CommandModel → Type 0
LastIsOut session fresh = (before : List CommandModel) (last : CommandModel) → fresh ≡ before ++ last ∷ [] → IsHandedOut session last.ticket

-- The commands that go out are all that were not posted yet, which leave their place, or a posted one alone.
abbrev pub TakesRun : CommandsModel → CommandModel → List CommandModel → CommandsModel → Type 0
TakesRun old first later rest =
    ((old.fresh ≡ first ∷ later) × All IsFresh (first ∷ later) × (rest ≡ record old { fresh = [] }))
    ⊎ ((get old.posted first.ticket.part ≡ Some first) × (later ≡ []) × (rest ≡ old))

-- with these, which were posted
abbrev pub with_posted : FinMap nat_cmp CommandModel → List CommandModel → FinMap nat_cmp CommandModel
with_posted posted [] = posted
with_posted posted (c ∷ cs) = with_posted (insert posted c.ticket.part (awaiting c)) cs

abbrev pub with_run : CommandsModel → CommandModel → List CommandModel → CommandsModel
with_run rest first later = record rest { posted = with_posted rest.posted (first ∷ later) }

-- with this command for the part of this number
abbrev pub with_command : CommandsModel → ℕ → CommandModel → CommandsModel
with_command old number c = record old { posted = insert old.posted number c }

-- the command of this ticket awaits what it is told
abbrev pub IsAwaited : CommandsModel → Ticket → CommandModel → Type 0
IsAwaited commands ticket c = (get commands.posted ticket.part ≡ Some c) × (c.ticket ≡ ticket) × (c.stage ≡ Awaits)

abbrev pub AwaitsIn : CommandsModel → Ticket → Type 0
AwaitsIn commands ticket = (c : CommandModel) × IsAwaited commands ticket c

-- the command for the part of this number was posted, and wants to be posted again
abbrev pub WantsPostAt : CommandsModel → ℕ → Type 0
WantsPostAt commands number = (c : CommandModel) × (get commands.posted number ≡ Some c) × WantsPost c.stage

-- so does that of this ticket
abbrev pub TicketWantsPost : CommandsModel → ℕ → Ticket → Type 0
TicketWantsPost commands number ticket = (c : CommandModel) × (get commands.posted number ≡ Some c) × WantsPost c.stage × (c.ticket ≡ ticket)

-- the command of this ticket has ended so
abbrev pub HasEnd : CommandsModel → ℕ → Ticket → Ended → Type 0
HasEnd commands number ticket end = (c : CommandModel) × (get commands.posted number ≡ Some c) × (c.ticket ≡ ticket) × (c.stage ≡ Over end)

abbrev pub HasEndAt : CommandsModel → ℕ → Type 0
HasEndAt commands number = (ticket : Ticket) × (end : Ended) × HasEnd commands number ticket end

-- the commands that were not posted yet are dropped, where there are any
abbrev pub Drops : CommandsModel → Bool → CommandsModel → Type 0
Drops old true new = (old.fresh ≢ []) × (new ≡ record old { fresh = [] })
Drops old false new = (old.fresh ≡ []) × (new ≡ old)

-- A look at the map, for the node of a slot: the view begins with what it knew, and its answer is that of what it knows now; or the
-- map was not entered, which the view counts.
abbrev pub Looks : ViewModel → ℕ → Result (Option ℕ) NotEntered → ViewModel → Type 0
Looks old slot (Ok node) new = IsPrefix old.known new.known × (node ≡ node_after new.known slot)
Looks old slot (Err refused) new = new ≡ refused_once old

-- the node that a look at the map gives, or the seed, node 0
abbrev pub node_looked_up : Result (Option ℕ) NotEntered → ℕ
node_looked_up (Ok (Some node)) = node
node_looked_up (Ok None) = 0
node_looked_up (Err refused) = 0

-- A command at this stage, for this slot, is posted at this node: the named one, or that of the map.
abbrev pub GoesTo : Stage → ℕ → ViewModel → ℕ → ViewModel → Type 0
GoesTo (Wants (Some named)) slot view node view' = (node ≡ named) × (view' ≡ view)
GoesTo (Wants None) slot view node view' = (answer : Result (Option ℕ) NotEntered) × Looks view slot answer view' × (node ≡ node_looked_up answer)
GoesTo (WantsAsking named) slot view node view' = (node ≡ named) × (view' ≡ view)
GoesTo Awaits slot view node view' = ⊥
GoesTo (Over end) slot view node view' = ⊥

-- a run was posted, or it came back
abbrev pub PostsRun : Outlet RunModel → RunModel → Bool → Outlet RunModel → Type 0
PostsRun old run true new = Posts old new run (Ok tt)
PostsRun old run false new = Posts old new run (Err run)

-- nothing was posted: the map may have been looked at, and a run may have come back
abbrev pub Tries : ℕ → Outlet RunModel → ViewModel → Outlet RunModel → ViewModel → Type 0
Tries slot outlet view outlet' view' =
    ((view' ≡ view) ⊎ ((answer : Result (Option ℕ) NotEntered) × Looks view slot answer view'))
    × ((outlet' ≡ outlet) ⊎ ((run : RunModel) × Posts outlet outlet' run (Err run)))

-- An attempt to post one command alone: it is posted as it wants, or nothing is posted.
abbrev pub PostOutcome : CommandModel → Outlet RunModel → ViewModel → Bool → CommandModel → Outlet RunModel → ViewModel → Type 0
PostOutcome old outlet view true new outlet' view' =
    (run : RunModel) × GoesTo old.stage (slot_of old.part.key) view run.first.node view' × (run ≡ run_of old [] run.first.node)
    × Posts outlet outlet' run (Ok tt) × (new ≡ awaiting old)
PostOutcome old outlet view false new outlet' view' = (new ≡ old) × Tries (slot_of old.part.key) outlet view outlet' view'

-- The same for all that were not posted yet: they go where the first of them goes.
abbrev pub PostsFresh : CommandsModel → Outlet RunModel → ViewModel → Bool → CommandsModel → Outlet RunModel → ViewModel → Type 0
PostsFresh old outlet view true new outlet' view' =
    (first : CommandModel) × (later : List CommandModel) × (run : RunModel) × (old.fresh ≡ first ∷ later)
    × GoesTo first.stage (slot_of first.part.key) view run.first.node view' × (run ≡ run_of first later run.first.node)
    × Posts outlet outlet' run (Ok tt) × (new ≡ with_run (record old { fresh = [] }) first later)
PostsFresh old outlet view false new outlet' view' = (new ≡ old) × (slot : ℕ) × Tries slot outlet view outlet' view'

abbrev pub PostsFreshResult : CommandsModel → Outlet RunModel → ViewModel → Result Bool NoMemory → CommandsModel → Outlet RunModel → ViewModel → Type 0
PostsFreshResult old outlet view (Ok moved) new outlet' view' = PostsFresh old outlet view moved new outlet' view'
PostsFreshResult old outlet view (Err refused) new outlet' view' = PostsFresh old outlet view false new outlet' view'

-- The same for a posted command, by the number of its part.
abbrev pub PostsAt : CommandsModel → ℕ → Outlet RunModel → ViewModel → Bool → CommandsModel → Outlet RunModel → ViewModel → Type 0
PostsAt old number outlet view true new outlet' view' =
    (c : CommandModel) × (c' : CommandModel) × (get old.posted number ≡ Some c) × PostOutcome c outlet view true c' outlet' view'
    × (new ≡ with_command old number c')
PostsAt old number outlet view false new outlet' view' = (new ≡ old) × (slot : ℕ) × Tries slot outlet view outlet' view'

abbrev pub PostsAtResult : CommandsModel → ℕ → Outlet RunModel → ViewModel → Result Bool NoMemory → CommandsModel → Outlet RunModel → ViewModel → Type 0
PostsAtResult old number outlet view (Ok moved) new outlet' view' = PostsAt old number outlet view moved new outlet' view'
PostsAtResult old number outlet view (Err refused) new outlet' view' = PostsAt old number outlet view false new outlet' view'

-- a command that awaits it is told what came for its ticket; nothing changes where none does
abbrev pub Hears : CommandsModel → Ticket → Told → Bool → CommandsModel → Type 0
Hears old ticket told true new = (c : CommandModel) × IsAwaited old ticket c × (new ≡ with_command old ticket.part (progress_told c told))
Hears old ticket told false new = (AwaitsIn old ticket → ⊥) × (new ≡ old)

-- one command is told what came for this ticket, where it is of that ticket and awaits it
abbrev pub HearsOne : CommandModel → Ticket → Told → Bool → CommandModel → Type 0
HearsOne old ticket told true new = (old.ticket ≡ ticket) × (old.stage ≡ Awaits) × (new ≡ progress_told old told)
HearsOne old ticket told false new = ((old.ticket ≡ ticket) × (old.stage ≡ Awaits) → ⊥) × (new ≡ old)
