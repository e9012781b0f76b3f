-- A plain connection to a node: bytes come, requests are read off them, and replies are to be sent.
-- RESP2 specification, "Sending commands to a Redis server".
-- A protocol error is answered, and closes. Bytes behind it are not read.
use Rattle.std.specs.Prelude.{◌≡◌, ◌≢◌, ◌⊎◌, ◌≤◌, ℕ, Bool, true, false, List, [], ◌++◌, Option, Some, None, Result, Ok, Err, codes, drop, length, take, if◌then◌else◌}
use Rattle.resp_wire.specs.LimitsModel.{full}
use Rattle.resp_wire.specs.Canonical.{canonical}
use Rattle.resp_wire.specs.FirstValue.{ReaderTakes}
use Rattle.resp_wire.specs.ReaderModel.{ReaderModel}
use Rattle.resp_wire.specs.Seen.{data_of}
use Rattle.resp_wire.specs.declared.value.Value.{Value}
use Rattle.resp_wire.specs.declared.value.Value.TheVariants.{Error}
use Rattle.resp_wire.specs.declared.fault.NoMemory.{NoMemory}
use Rattle.resp_wire.specs.declared.fault.WireFault.{WireFault}
use Rattle.resp_wire.specs.declared.fault.WireFault.TheVariants as wire
use Rattle.slot_map.specs.Table.{Endpoint}
use Rattle.node_link.specs.declared.stream.Flow.{Flow}
use Rattle.node_link.specs.declared.stream.Flow.TheVariants as flow
use Rattle.session_order.specs.Requests.{RequestKindModel, Words, Skipped, Refused, asked_of}
use Rattle.local_cluster.specs.Local.{LocalStateModel}
use Rattle.node_server.specs.NodeAnswers.{Answers, KeepsData}
use Rattle.node_server.specs.declared.answer.Answer.{Answer}
use Rattle.node_server.specs.declared.answer.Answer.TheVariants.{Says, Closes}
use Rattle.node_server.specs.declared.block.Block.{Block}
use Rattle.node_server.specs.declared.block.Block.TheVariants.{Closed}
use Rattle.node_server.specs.declared.caller.Caller.{Caller}
use Rattle.node_server.specs.declared.next_value.NextValue.{NextValue}
use Rattle.node_server.specs.declared.next_value.NextValue.TheVariants as next

pub record ConnectionModel : Type 0 where
  pub caller : Caller
  pub block : Block  -- what came since MULTI
  pub input : ReaderModel  -- the bytes that came and were not read
  pub unsent : List ℕ  -- the bytes to be sent
  pub reads_on : Bool  -- further requests are read

-- nothing came
abbrev pub connected : ℕ → ℕ → ConnectionModel
connected node client = record {
  caller = record { node = node; client = client; requests = 0; asking = false };
  block = Closed;
  input = record { bounds = full; unread = []; fault = None };
  unsent = [];
  reads_on = true;
}

-- Reading.

-- the first bytes are no value
abbrev pub IsGarbled : ReaderModel → ReaderModel → Type 0
IsGarbled old new = (why : WireFault) × (why ≢ wire.NoMemory) × ReaderTakes old (Err why) new

-- what stands first is taken: a value, none that is whole, or bytes that are no value
abbrev pub TakesFront : ReaderModel → Result NextValue NoMemory → ReaderModel → Type 0
TakesFront old (Ok (next.Whole value)) new = ReaderTakes old (Ok (Some value)) new
TakesFront old (Ok next.Partial) new = ReaderTakes old (Ok None) new × (new ≡ old)
TakesFront old (Ok next.Garbled) new = IsGarbled old new
TakesFront old (Err refused) new = new ≡ old

-- Answering.

abbrev pub protocol_error : Value
protocol_error = Error (codes "ERR protocol error")

-- a reply goes behind what is to be sent; after one that closes nothing more is read
abbrev pub replied : ConnectionModel → Answer → ConnectionModel
replied c (Says value) = record c { unsent = c.unsent ++ canonical (data_of value) }
replied c (Closes value) = record c { unsent = c.unsent ++ canonical (data_of value); reads_on = false }

-- a request is answered, an empty array is skipped, and any other value is an error that closes
abbrev pub AnswersAsked : List Endpoint → ConnectionModel → LocalStateModel → RequestKindModel → ConnectionModel → LocalStateModel → Type 0
AnswersAsked table c s (Words words) c' s' =
    (answer : Answer) × (caller : Caller) × (block : Block) × Answers table c.caller c.block s words (Ok answer) caller block s'
    × (c' ≡ replied (record c { caller = caller; block = block }) answer)
AnswersAsked table c s Skipped c' s' = (c' ≡ c) × (s' ≡ s)
AnswersAsked table c s Refused c' s' = (c' ≡ replied c (Closes protocol_error)) × (s' ≡ s)

-- a value is read and answered, or bytes that are no value are
abbrev pub AnswersFront : List Endpoint → ConnectionModel → LocalStateModel → ConnectionModel → LocalStateModel → Type 0
AnswersFront table c s c' s' =
    ((value : Value) × (input : ReaderModel) × ReaderTakes c.input (Ok (Some value)) input × AnswersAsked table (record c { input = input }) s (asked_of (data_of value)) c' s')
    ⊎ ((input : ReaderModel) × IsGarbled c.input input × (c' ≡ replied (record c { input = input }) (Closes protocol_error)) × (s' ≡ s))

-- nothing is read any more, or no value is whole
abbrev pub HasNoneNext : ConnectionModel → Type 0
HasNoneNext c = (c.reads_on ≡ false) ⊎ ReaderTakes c.input (Ok None) c.input

-- where memory ran out nothing more is to be sent, and nothing was executed but a request whose reply found none
abbrev pub Unanswered : List Endpoint → ConnectionModel → LocalStateModel → ConnectionModel → LocalStateModel → Type 0
Unanswered table c s c' s' =
    (c'.unsent ≡ c.unsent)
    × (KeepsData s s' ⊎ ((words : List (List ℕ)) × (answer : Answer) × (caller : Caller) × (block : Block) × Answers table c.caller c.block s words (Ok answer) caller block s'))

-- the next request is answered, if there is one
abbrev pub AnswersNext : List Endpoint → ConnectionModel → LocalStateModel → Result Bool NoMemory → ConnectionModel → LocalStateModel → Type 0
AnswersNext table c s (Ok true) c' s' = (c.reads_on ≡ true) × AnswersFront table c s c' s'
AnswersNext table c s (Ok false) c' s' = HasNoneNext c × (c' ≡ c) × (s' ≡ s)
AnswersNext table c s (Err refused) c' s' = Unanswered table c s c' s'

-- Moving bytes.

-- bytes go behind those that were not read, until a fault was found or nothing more is read
abbrev pub fed_with : Option WireFault → ReaderModel → List ℕ → ReaderModel
fed_with None input piece = record input { unread = input.unread ++ piece }
fed_with (Some why) input piece = input

abbrev pub fed : ConnectionModel → List ℕ → ConnectionModel
fed c piece = if c.reads_on then record c { input = fed_with c.input.fault c.input piece } else c

abbrev pub ReceiveOutcome : {S : Type 0} → (S → List ℕ → List ℕ → S → Type 0) → S → ConnectionModel → Result Flow NoMemory → S → ConnectionModel → Type 0
ReceiveOutcome moved old c (Ok (flow.Bytes n)) new c' = (piece : List ℕ) × (length piece ≡ n) × moved old [] piece new × (c' ≡ fed c piece)
ReceiveOutcome moved old c (Ok flow.Nothing) new c' = moved old [] [] new × (c' ≡ c)
ReceiveOutcome moved old c (Ok flow.Gone) new c' = moved old [] [] new × (c' ≡ c)
ReceiveOutcome moved old c (Err refused) new c' = c' ≡ c

-- the bytes at the front were sent
abbrev pub SendOutcome : {S : Type 0} → (S → List ℕ → List ℕ → S → Type 0) → S → ConnectionModel → Flow → S → ConnectionModel → Type 0
SendOutcome moved old c (flow.Bytes n) new c' = (n ≤ length c.unsent) × moved old (take n c.unsent) [] new × (c' ≡ record c { unsent = drop n c.unsent })
SendOutcome moved old c flow.Nothing new c' = moved old [] [] new × (c' ≡ c)
SendOutcome moved old c flow.Gone new c' = moved old [] [] new × (c' ≡ c)
