-- Lists of steps that a system can make from a start, so that the law speaks of something: its premises hold together in them.
-- One worker serves, there are two nodes, and one key. The table begins with the first node alone, and learns the second from a redirect.
-- In the first list a slot moves, in the second a command is lost: each kind of step stands in one of them, and each event of a worker, of
-- the carrier and of a backend, but for a run that a full lane gives back.
-- That one stands in the third, from a start whose lane had carried 1,024 runs. In the fourth two commands go together, and in the fifth
-- a line is unclear.
-- Memory runs out there only where nothing had come, and lanes are looked at only where nothing waits for them.
use Rattle.std.specs.Prelude.{◌≡◌, ℕ, List, [], ◌∷◌, ◌++◌, Bool, true, false, Ok, codes, length}
use Rattle.std.specs.List.{FoldsTo}
use Rattle.resp_wire.specs.declared.value.Value.{Value}
use Rattle.resp_wire.specs.declared.value.Value.TheVariants.{Simple, Bulk}
use Rattle.key_split.specs.PartModel.{PartModel}
use Rattle.key_split.specs.declared.part.Op.TheVariants as op
use Rattle.key_split.specs.declared.part.Mode.TheVariants.{Always}
use Rattle.key_split.specs.Runs.{RunModel}
use Rattle.key_split.specs.declared.travel.Batch.{Batch}
use Rattle.key_split.specs.declared.travel.Ticket.{Ticket}
use Rattle.key_split.specs.declared.travel.Told.TheVariants.{Ask, Reply, Unsent}
use Rattle.key_split.specs.declared.travel.Told.TheVariants as told
use Rattle.key_split.specs.declared.travel.Ended.TheVariants as ended
use Rattle.node_model.specs.declared.role.Verdict.TheVariants.{Plain, TryAgain}
use Rattle.proxy_turns.specs.declared.backend_step.BackendStep.TheVariants as backend
use Rattle.proxy_turns.specs.ClientTurn.{Pulled, Fed, Read, HandedOut, Followed, Looked, CameBack, Posted, Drained, Pushed, Tried, Parted, Dropped}
use Rattle.proxy_turns.specs.WorkerModel.{Did, Finished, Took, FoundNone, Came, TurnedAway, FoundNobody, Left}
use Rattle.proxy_turns.specs.CarrierModel.{AtBackend}
use Rattle.proxy_turns.specs.CarrierModel as carrier
use Rattle.world_laws.specs.declared.event.Event.TheVariants.{Import, Migrate, MoveKey, Own, Release, Forget, Stay}
use Rattle.turn_laws.specs.Wire.{Execution}
use Rattle.turn_laws.specs.System.{System, Mark, Arrived, Executed, Answered}
use Rattle.turn_laws.specs.Steps.{SystemEvent, AtWorker, AtCarrier, Handed, AtNode, AtBroken, Thrown, Moved, SystemStep}
use Rattle.turn_laws.specs.Refines.{IsStart}

-- ---- what one client asks, and what it is told

-- a key of slot 1
abbrev pub key : List ℕ
key = codes "Qi"

abbrev pub slot : ℕ
slot = 1

-- `SET Qi 5`, and then `GET Qi`
abbrev pub set : PartModel
set = record { op = op.Set Always; key = key; arg = codes "5"; rest = [] }

abbrev pub get : PartModel
get = record { op = op.Get; key = key; arg = []; rest = [] }

abbrev pub asked : List ℕ
asked = codes "*3\r\n$3\r\nSET\r\n$2\r\nQi\r\n$1\r\n5\r\n*2\r\n$3\r\nGET\r\n$2\r\nQi\r\n"

abbrev pub ticket : ℕ → Ticket
ticket part = record { worker = 0; client = 0; part = part }

abbrev pub ok : Value
ok = Simple (codes "OK")

abbrev pub five : Value
five = Bulk (codes "5")

-- the command of this part, on its way to a node
abbrev pub on_its_way : ℕ → ℕ → Bool → PartModel → Batch
on_its_way part node asking what = record { ticket = ticket part; node = node; asking = asking; part = what }

-- it goes alone
abbrev pub plain : ℕ → ℕ → PartModel → RunModel
plain part node what = record { first = on_its_way part node false what; later = [] }

abbrev pub behind_asking : ℕ → ℕ → PartModel → RunModel
behind_asking part node what = record { first = on_its_way part node true what; later = [] }

-- the command of this part was executed, with this reply
abbrev pub did : ℕ → PartModel → Value → Execution
did part what value = record { ticket = ticket part; part = what; value = value }

-- ---- a slot moves

-- the carrier reaches the first node, and learns from it that no slot has a node
abbrev pub opening : List SystemEvent
opening =
    AtWorker 0 FoundNobody
    ∷ AtWorker 0 FoundNone
    ∷ AtCarrier carrier.WorkerAdded
    ∷ AtCarrier carrier.BackendAdded
    ∷ AtCarrier carrier.BackendAdded
    ∷ AtCarrier carrier.Opened
    ∷ AtCarrier carrier.SeedReached
    ∷ AtCarrier (AtBackend backend.Asked)
    ∷ AtNode 0 Plain
    ∷ AtCarrier (AtBackend backend.Answered)
    ∷ AtCarrier (AtBackend backend.Read)
    ∷ AtCarrier (AtBackend backend.Renewed)
    ∷ AtCarrier (AtBackend backend.Idle)
    ∷ AtCarrier carrier.Looked
    ∷ []

-- a move is called back, and another begins
abbrev pub moving : List SystemEvent
moving = Moved (Import slot 1) ∷ Moved (Migrate slot) ∷ Moved (Forget slot) ∷ Moved (Stay slot) ∷ Moved (Import slot 1) ∷ []

-- a client is handed over and comes, and two requests of it are read
abbrev pub asking : List SystemEvent
asking =
    Handed 0 0
    ∷ AtWorker 0 (Came 0)
    ∷ AtWorker 0 (Did 0 Tried)
    ∷ AtWorker 0 (Did 0 (Pulled asked))
    ∷ AtWorker 0 (Did 0 (Fed (Ok (length asked))))
    ∷ AtWorker 0 (Did 0 (Read (Ok true)))
    ∷ AtWorker 0 (Did 0 (Read (Ok true)))
    ∷ []

-- the first goes to the first node, which still owns the slot and executes it
abbrev pub setting : List SystemEvent
setting =
    AtWorker 0 (Did 0 (HandedOut (ticket 0) set))
    ∷ AtWorker 0 (Did 0 (Looked slot))
    ∷ AtWorker 0 (Did 0 (Posted (plain 0 0 set)))
    ∷ AtCarrier carrier.Took
    ∷ AtCarrier carrier.Sent
    ∷ AtNode 0 Plain
    ∷ AtCarrier (AtBackend backend.Fetched)
    ∷ AtCarrier carrier.Gave
    ∷ AtWorker 0 (Took (ticket 0) (Reply ok))
    ∷ AtWorker 0 (Finished 0 (ticket 0) (ended.Answered ok))
    ∷ AtWorker 0 (Did 0 (Drained 5))
    ∷ AtWorker 0 (Did 0 (Pushed (codes "+OK\r\n")))
    ∷ []

-- the key moves
abbrev pub getting_key : List SystemEvent
getting_key = Moved (Migrate slot) ∷ Moved (MoveKey slot key) ∷ []

-- the first node refuses the second with ASK
abbrev pub refused : List SystemEvent
refused =
    AtWorker 0 (Did 0 (HandedOut (ticket 1) get))
    ∷ AtWorker 0 (Did 0 (Posted (plain 1 0 get)))
    ∷ AtCarrier carrier.Took
    ∷ AtCarrier carrier.Sent
    ∷ AtNode 0 Plain
    ∷ AtCarrier (AtBackend backend.Fetched)
    ∷ AtCarrier carrier.Gave
    ∷ AtWorker 0 (Took (ticket 1) (Ask slot 1))
    ∷ []

-- it goes to the second node behind ASKING, which is served
abbrev pub redirected : List SystemEvent
redirected =
    AtWorker 0 (Did 0 (Posted (behind_asking 1 1 get)))
    ∷ AtCarrier carrier.Took
    ∷ AtCarrier carrier.Opened
    ∷ AtCarrier carrier.Sent
    ∷ AtNode 1 Plain
    ∷ []

-- the second node executes it
abbrev pub followed : List SystemEvent
followed =
    AtNode 1 Plain
    ∷ AtCarrier (AtBackend backend.Waited)
    ∷ AtCarrier (AtBackend backend.Fetched)
    ∷ AtCarrier carrier.Gave
    ∷ []

-- the client is answered, and the second node owns the slot
abbrev pub settling : List SystemEvent
settling =
    AtWorker 0 (Took (ticket 1) (Reply five))
    ∷ AtWorker 0 (Finished 0 (ticket 1) (ended.Answered five))
    ∷ AtWorker 0 (Did 0 (Drained 7))
    ∷ AtWorker 0 (Did 0 (Pushed (codes "$1\r\n5\r\n")))
    ∷ Moved (Own slot)
    ∷ Moved (Release slot)
    ∷ []

-- all of it until ASKING was served
abbrev pub up_to_asking : List SystemEvent
up_to_asking = opening ++ (moving ++ (asking ++ (setting ++ (getting_key ++ (refused ++ redirected)))))

abbrev pub moves : List SystemEvent
moves = up_to_asking ++ (followed ++ settling)

-- what is seen of it all
abbrev pub story : List Mark
story =
    Arrived (ticket 0) set
    ∷ Arrived (ticket 1) get
    ∷ Executed (did 0 set ok ∷ [])
    ∷ Answered (ticket 0) (ended.Answered ok)
    ∷ Executed (did 1 get five ∷ [])
    ∷ Answered (ticket 1) (ended.Answered five)
    ∷ []

-- ---- a connection is lost

-- no node is reached: not the seed at the start, and none after a loss
abbrev pub unreached : List SystemEvent
unreached =
    AtCarrier carrier.Missed
    ∷ AtCarrier carrier.WorkerAdded
    ∷ AtCarrier carrier.BackendAdded
    ∷ AtCarrier carrier.BackendAdded
    ∷ AtCarrier carrier.NotFound
    ∷ AtCarrier carrier.Starved
    ∷ []

-- a dial fails, and the command is to be posted again
abbrev pub unsent : List SystemEvent
unsent =
    AtWorker 0 (Did 0 (HandedOut (ticket 0) set))
    ∷ AtWorker 0 (Did 0 (Posted (plain 0 0 set)))
    ∷ AtCarrier carrier.Took
    ∷ AtCarrier carrier.Refused
    ∷ AtCarrier carrier.GaveUnsent
    ∷ AtWorker 0 (Took (ticket 0) Unsent)
    ∷ []

-- the first node says that the second owns the slot
abbrev pub sent_on : List SystemEvent
sent_on =
    AtWorker 0 (Did 0 (Posted (plain 0 0 set)))
    ∷ AtCarrier carrier.Took
    ∷ AtCarrier carrier.Opened
    ∷ AtCarrier carrier.Sent
    ∷ AtNode 0 Plain
    ∷ AtCarrier (AtBackend backend.Fetched)
    ∷ AtCarrier (AtBackend backend.Published)
    ∷ AtCarrier carrier.Gave
    ∷ AtWorker 0 (Took (ticket 0) (told.Moved slot 1))
    ∷ []

-- the connection to the second node breaks, which executes the command all the same; what else it holds is thrown away
abbrev pub broken : List SystemEvent
broken =
    AtWorker 0 (Did 0 (Posted (plain 0 1 set)))
    ∷ AtCarrier carrier.Took
    ∷ AtCarrier carrier.Opened
    ∷ AtCarrier carrier.Sent
    ∷ AtCarrier (AtBackend backend.Broke)
    ∷ AtCarrier (AtBackend backend.GaveUp)
    ∷ AtCarrier carrier.Gave
    ∷ AtCarrier (AtBackend backend.Closed)
    ∷ AtBroken 0 Plain
    ∷ Thrown 0
    ∷ []

-- the client is told that the outcome is unknown
abbrev pub lost : List SystemEvent
lost =
    AtWorker 0 (Took (ticket 0) told.Lost)
    ∷ AtWorker 0 (Finished 0 (ticket 0) ended.Lost)
    ∷ AtWorker 0 (Did 0 (Drained 46))
    ∷ AtWorker 0 (Did 0 (Pushed (codes "-ERR proxy: connection lost, outcome unknown\r\n")))
    ∷ []

-- a node is asked for the slot map, and answers what can't be read; another is sought, and its connection breaks too
abbrev pub sought : List SystemEvent
sought =
    AtCarrier (AtBackend backend.Asked)
    ∷ AtNode 0 Plain
    ∷ AtCarrier (AtBackend backend.Answered)
    ∷ AtCarrier (AtBackend backend.Unread)
    ∷ AtCarrier carrier.Sought
    ∷ AtCarrier (AtBackend backend.Broke)
    ∷ AtCarrier (AtBackend backend.Spared)
    ∷ AtCarrier (AtBackend backend.Closed)
    ∷ AtCarrier carrier.Reached
    ∷ []

-- the client is gone before its second command is posted; another is handed over, comes, is gone and leaves, and one of the same number is
-- turned away; the map shows what MOVED said
abbrev pub parting : List SystemEvent
parting =
    AtWorker 0 (Did 0 (HandedOut (ticket 1) get))
    ∷ AtWorker 0 (Did 0 Parted)
    ∷ AtWorker 0 (Did 0 (Dropped (ticket 1 ∷ [])))
    ∷ Handed 0 1
    ∷ AtWorker 0 (Came 1)
    ∷ Handed 0 1
    ∷ AtWorker 0 (TurnedAway 1)
    ∷ AtWorker 0 (Did 1 Parted)
    ∷ AtWorker 0 (Left 1)
    ∷ AtWorker 0 (Did 0 (Looked slot))
    ∷ []

abbrev pub breaks : List SystemEvent
breaks = unreached ++ (asking ++ (unsent ++ (sent_on ++ (broken ++ (lost ++ (sought ++ parting))))))

-- a command that is lost may have been executed
abbrev pub story_of_loss : List Mark
story_of_loss =
    Arrived (ticket 0) set
    ∷ Arrived (ticket 1) get
    ∷ Executed (did 0 set ok ∷ [])
    ∷ Answered (ticket 0) ended.Lost
    ∷ []

-- ---- a lane is full

-- a run comes back from a lane through which 1,024 went
abbrev pub full : List SystemEvent
full = AtWorker 0 (Came 0) ∷ AtWorker 0 (Did 0 (CameBack (plain 0 0 set))) ∷ []

-- ---- commands go together

-- both commands go out together: the second follows the first
abbrev pub both : RunModel
both = record { first = on_its_way 0 0 false set; later = on_its_way 1 0 false get ∷ [] }

abbrev pub going_together : List SystemEvent
going_together =
    AtWorker 0 (Did 0 (HandedOut (ticket 0) set))
    ∷ AtWorker 0 (Did 0 (Followed (ticket 1) get))
    ∷ AtWorker 0 (Did 0 (Posted both))
    ∷ AtCarrier carrier.Took
    ∷ AtCarrier carrier.Sent
    ∷ []

-- the node executes both at once, and each is told its reply
abbrev pub answered_together : List SystemEvent
answered_together =
    AtNode 0 Plain
    ∷ AtCarrier (AtBackend backend.Fetched)
    ∷ AtCarrier carrier.Gave
    ∷ AtCarrier (AtBackend backend.Fetched)
    ∷ AtCarrier carrier.Gave
    ∷ AtWorker 0 (Took (ticket 0) (Reply ok))
    ∷ AtWorker 0 (Took (ticket 1) (Reply five))
    ∷ AtWorker 0 (Finished 0 (ticket 0) (ended.Answered ok))
    ∷ AtWorker 0 (Finished 0 (ticket 1) (ended.Answered five))
    ∷ []

abbrev pub pairs : List SystemEvent
pairs = opening ++ (asking ++ (going_together ++ answered_together))

abbrev pub story_of_pair : List Mark
story_of_pair =
    Arrived (ticket 0) set
    ∷ Arrived (ticket 1) get
    ∷ Executed (did 0 set ok ∷ did 1 get five ∷ [])
    ∷ []

-- ---- a line is unclear

-- the first node sends the command on, but names no port: it is to be posted again
abbrev pub misread : List SystemEvent
misread =
    AtWorker 0 (Did 0 (Posted (plain 0 0 set)))
    ∷ AtCarrier carrier.Took
    ∷ AtCarrier carrier.Opened
    ∷ AtCarrier carrier.Sent
    ∷ AtNode 0 TryAgain
    ∷ AtCarrier (AtBackend backend.Fetched)
    ∷ AtCarrier carrier.Gave
    ∷ AtWorker 0 (Took (ticket 0) told.Unclear)
    ∷ []

abbrev pub misreads : List SystemEvent
misreads = unreached ++ (asking ++ (unsent ++ misread))

-- nothing was executed
abbrev pub story_of_unclear : List Mark
story_of_unclear = Arrived (ticket 0) set ∷ Arrived (ticket 1) get ∷ []

-- from some start these steps can be made, one after another, and this is seen of them
pub record Happens (C J : Type 0) (events : List SystemEvent) (marks : List Mark) : Type 0 where
  pub start : System C J
  pub left : System C J
  pub begins : IsStart start
  pub goes : FoldsTo SystemStep start events left
  pub log : left.log ≡ marks

-- a slot moves while a client uses its key, whatever the client's port is
abbrev pub MovesUnderUse : Type 0 → Type 0 → Type 0
MovesUnderUse C J = C → Happens C J moves story

-- a connection breaks, and with it a command is lost that a node executes
abbrev pub LosesCommands : Type 0 → Type 0 → Type 0
LosesCommands C J = C → Happens C J breaks story_of_loss

-- a run is given back, where the lane had carried others before the start
abbrev pub GivesBack : Type 0 → Type 0 → Type 0
GivesBack C J = C → Happens C J full []

-- two commands of a client go together, and the second reads what the first wrote
abbrev pub PairsCommands : Type 0 → Type 0 → Type 0
PairsCommands C J = C → Happens C J pairs story_of_pair

-- a node refuses a command by a line that is unclear to the proxy
abbrev pub MisreadsLines : Type 0 → Type 0 → Type 0
MisreadsLines C J = C → Happens C J misreads story_of_unclear
