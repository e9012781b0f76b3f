-- One client of a worker.
-- A client that is gone keeps its posted commands until they end, since their nodes may execute them. Commands that
-- were never posted are dropped.
use Rattle.std.specs.Prelude.{◌≡◌, ◌⊎◌, ◌++◌, ◌∷◌, ◌≤◌, ℕ, List, [], Bool, true, false, Some, None, Result, Ok, Err, All, length, ⊤}
use Rattle.std.specs.FinMap.{empty, get}
use Rattle.slot_hash.specs.Slot.{slot_of}
use Rattle.resp_wire.specs.LimitsModel.{LimitsModel}
use Rattle.resp_wire.specs.declared.fault.NoMemory.{NoMemory}
use Rattle.node_link.specs.declared.stream.Flow.{Flow}
use Rattle.node_link.specs.declared.stream.Flow.TheVariants.{Bytes, Nothing, Gone}
use Rattle.command_future.specs.CommandModel.{CommandModel, IsFresh}
use Rattle.session_order.specs.SessionModel.{SessionModel}
use Rattle.session_order.specs.declared.fault.SessionFault.{SessionFault}
use Rattle.session_order.specs.declared.fault.SessionFault.TheVariants as fault
use Rattle.session_order.specs.Life.{fresh}
use Rattle.session_order.specs.Behind.{IsOutBehind}
use Rattle.session_order.specs.Steps.{IsOutInOrder, IsFinished}
use Rattle.proxy_turns.specs.Commands.{CommandsModel, most_together}
use Rattle.proxy_turns.specs.Port.{Moves}

-- Its port, its session and its commands; the bytes that were pulled and not fed to the session, and those that it drained
-- and that were not pushed; and whether the client is gone.
pub record ClientModel (C : Type 0) : Type 0 where
  pub port : C
  pub session : SessionModel
  pub commands : CommandsModel
  pub unfed : List ℕ
  pub unpushed : List ℕ
  pub gone : Bool

-- These commands, for parts of one slot, are out behind these parts, and each behind those before it.
abbrev pub GoBehind : SessionModel → ℕ → List ℕ → List CommandModel → Type 0
GoBehind session slot before [] = ⊤
GoBehind session slot before (c ∷ cs) =
    (slot_of c.part.key ≡ slot) × IsOutBehind session slot before c.ticket × GoBehind session slot (before ++ c.ticket.part ∷ []) cs

-- Each command is of a part that is out in order, and no two are of one part. Those that were not posted yet are for one slot, whose
-- turn is theirs, and were never refused.
pub record IsSoundClient (session : SessionModel) (commands : CommandsModel) : Type 0 where
  pub posted : (number : ℕ) (c : CommandModel) → get commands.posted number ≡ Some c → (c.ticket.part ≡ number) × IsOutInOrder session c.ticket
  pub fresh : All IsFresh commands.fresh
  pub few : length commands.fresh ≤ most_together
  pub order : All (λ c. IsOutInOrder session c.ticket) commands.fresh
  pub turn : (slot : ℕ) × GoBehind session slot [] commands.fresh
  pub apart : All (λ c. get commands.posted c.ticket.part ≡ None) commands.fresh

-- a client with which nothing has happened
abbrev pub new_client : {C : Type 0} → ℕ → ℕ → LimitsModel → C → ClientModel C
new_client worker number bounds port = record {
  port = port;
  session = fresh worker number bounds;
  commands = record { fresh = []; posted = empty };
  unfed = [];
  unpushed = [];
  gone = false;
}

-- its session is finished, and all its bytes were pushed
abbrev pub IsClientServed : {C : Type 0} → ClientModel C → Type 0
IsClientServed client = IsFinished client.session × (client.unpushed ≡ [])

-- it is gone, and no command is left
abbrev pub IsLeft : {C : Type 0} → ClientModel C → Type 0
IsLeft client = (client.gone ≡ true) × (client.commands ≡ record { fresh = []; posted = empty })

-- nothing is left to do for it
abbrev pub IsDone : {C : Type 0} → ClientModel C → Type 0
IsDone client = IsClientServed client ⊎ IsLeft client

-- bytes are pulled where none were waiting to be fed
abbrev pub Takings : {C : Type 0} → Moves C → C → Result Flow NoMemory → C → List ℕ → Type 0
Takings moves old (Ok (Bytes n)) new unfed = moves.between old unfed [] [] new × (n ≡ length unfed)
Takings moves old (Ok Nothing) new unfed = moves.between old [] [] [] new × (unfed ≡ [])
Takings moves old (Ok Gone) new unfed = moves.between old [] [] [] new × (unfed ≡ []) × moves.gone new
Takings moves old (Err refused) new unfed = ((new ≡ old) ⊎ moves.between old [] [] [] new) × (unfed ≡ [])

-- whether a call of `read` read a request
abbrev pub read_answer : Result Bool SessionFault → Result Bool NoMemory
read_answer (Ok read) = Ok read
read_answer (Err fault.NoMemory) = Err (record {})
read_answer (Err (fault.Wire why)) = Ok false
read_answer (Err fault.NotRequest) = Ok false
