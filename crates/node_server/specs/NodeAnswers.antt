-- What a node of a served cluster answers to a request of a plain connection: Redis Cluster specification ("MOVED
-- Redirection", "ASK redirection"), Redis command reference (ASKING, CLUSTER SLOTS, MULTI, EXEC, DISCARD).
-- A request that would need several parts is refused (`one key only`). An ASK counts here only as it does behind the
-- lock (local_cluster, Local.antt), so ASKING alone never makes an importing node execute; for the commands between
-- MULTI and EXEC it does not count at all.
use Rattle.std.specs.Prelude.{◌≡◌, ◌⊎◌, ◌&&◌, ◌+◌, ◌^◌, ◌-◌, ℕ, min, Bool, true, false, List, [], ◌∷◌, Option, Some, None, Result, Ok, Err, Vec, MatchBool, MatchOption, codes, if◌then◌else◌, is_some, slice_get}
use Rattle.std.specs.declared.alloc.Global.{Global}
use Rattle.resp_wire.specs.Data.{Data}
use Rattle.resp_wire.specs.Seen.{data_of}
use Rattle.resp_wire.specs.declared.value.Value.{Value}
use Rattle.resp_wire.specs.declared.value.Value.TheVariants.{Simple, Error, Array}
use Rattle.resp_wire.specs.declared.fault.NoMemory.{NoMemory}
use Rattle.slot_map.specs.Table.{Endpoint}
use Rattle.key_split.specs.PartModel.{PartModel}
use Rattle.key_split.specs.Names.{same_letters}
use Rattle.key_split.specs.Plan.{Words, plan_of}
use Rattle.key_split.specs.Texts.{refusal_of}
use Rattle.key_split.specs.Told.{IsWritten}
use Rattle.key_split.specs.declared.planned.Planned.{Planned}
use Rattle.key_split.specs.declared.planned.Planned.TheVariants.{Local, Parts, Close}
use Rattle.key_split.specs.declared.planned.PlanFault.{PlanFault}
use Rattle.key_split.specs.declared.travel.Batch.{Batch}
use Rattle.key_split.specs.declared.travel.Ticket.{Ticket}
use Rattle.key_split.specs.declared.travel.Told.{Told}
use Rattle.key_split.specs.declared.travel.Told.TheVariants.{Reply, Moved, Ask, TryAgain, ClusterDown, Unclear, Lost, Unsent}
use Rattle.node_model.specs.Listing.{slots_data}
use Rattle.node_model.specs.Nodes.{ClusterModel}
use Rattle.node_model.specs.Runs.{HaveOneSlot}
use Rattle.node_model.specs.Serving.{refused_at}
use Rattle.node_model.specs.declared.role.ServeFault.{ServeFault}
use Rattle.node_model.specs.declared.role.ServeFault.TheVariants as fault
use Rattle.local_cluster.specs.Local.{LocalStateModel, ServesLocally}
use Rattle.local_cluster.specs.LocalRuns.{ServesRunLocally}
use Rattle.node_server.specs.Blocks.{aborts, has_room, is_open, parts_in, with_part}
use Rattle.node_server.specs.declared.answer.Answer.{Answer}
use Rattle.node_server.specs.declared.answer.Answer.TheVariants.{Says, Closes}
use Rattle.node_server.specs.declared.block.Block.{Block}
use Rattle.node_server.specs.declared.block.Block.TheVariants.{Closed, Queued, Aborted}
use Rattle.node_server.specs.declared.call.Call.{Call}
use Rattle.node_server.specs.declared.call.Call.TheVariants.{Asking, Slots, Multi, Exec, Discard, Command}
use Rattle.node_server.specs.declared.caller.Caller.{Caller}

-- What is asked.

-- ASKING, MULTI, EXEC, DISCARD, CLUSTER SLOTS, or a command; letters count without regard to case
abbrev pub call_of_word : List ℕ → Call
call_of_word word =
    if same_letters word (codes "ASKING") then Asking
    else (if same_letters word (codes "MULTI") then Multi
    else (if same_letters word (codes "EXEC") then Exec
    else (if same_letters word (codes "DISCARD") then Discard else Command)))

unfoldable pub call_of : Words → Call
call_of [] = Command
call_of (word ∷ []) = call_of_word word
call_of (word ∷ argument ∷ []) = if same_letters word (codes "CLUSTER") && same_letters argument (codes "SLOTS") then Slots else Command
call_of (word ∷ argument ∷ other ∷ more) = Command

-- what a command's words ask for
unfoldable pub planned : Words → Result Planned PlanFault
planned words = plan_of words

-- Who asks.

-- a request's ticket: the node stands for the worker, the connection for the client, and the request's number for the part's
abbrev pub ticket_of : Caller → Ticket
ticket_of c = record { worker = c.node; client = c.client; part = c.requests }

-- a part as this node is asked for it; it asks where ASKING came right before
abbrev pub batch_of : Caller → PartModel → Batch
batch_of c part = record { ticket = ticket_of c; node = c.node; asking = c.asking; part = part }

-- after a request: the next one has the next number, up to the last of 64 bits
abbrev pub after_request : Caller → Bool → Caller
after_request c asking = record c { requests = min (c.requests + 1) (2 ^ 64 - 1); asking = asking }

-- ASKING is for the next request alone
abbrev pub is_asking : Call → Bool
is_asking Asking = true
is_asking Slots = false
is_asking Multi = false
is_asking Exec = false
is_asking Discard = false
is_asking Command = false

-- What is said.

abbrev pub ok : Value
ok = Simple (codes "OK")

abbrev pub one_key_only : Value
one_key_only = Error (codes "ERR node: one key only")

abbrev pub cluster_down : Value
cluster_down = Error (codes "CLUSTERDOWN Hash slot not served")

-- a node writes it, and the node that it names is in the table
abbrev pub can_write : List Endpoint → Told → Bool
can_write table (Reply v) = true
can_write table (Moved slot node) = is_some (slice_get table node)
can_write table (Ask slot node) = is_some (slice_get table node)
can_write table TryAgain = true
can_write table ClusterDown = true
can_write table Unclear = false
can_write table Lost = false
can_write table Unsent = false

-- what a node says of what it did with a command; the slot is not served where that can't be written
abbrev pub IsSaid : List Endpoint → Told → Value → Type 0
IsSaid table told value = MatchBool (can_write table told) (IsWritten told table value) (value ≡ cluster_down)

-- likewise where the cluster has no such node
abbrev pub IsSaidOf : List Endpoint → Result Told ServeFault → Value → Type 0
IsSaidOf table (Ok told) value = IsSaid table told value
IsSaidOf table (Err fault.NoSuchNode) value = value ≡ cluster_down
IsSaidOf table (Err fault.NotThisVerdict) value = value ≡ cluster_down
IsSaidOf table (Err fault.NoMemory) value = ⊥

-- a command of one part is served at this node, and what that told is said
pub record Executes (table : List Endpoint) (c : Caller) (s : LocalStateModel) (part : PartModel) (value : Value) (s' : LocalStateModel) : Type 0 where
  pub served : Result Told ServeFault
  pub serves : ServesLocally s (batch_of c part) served s'
  pub said : IsSaidOf table served value

-- one of several parts is not executed
abbrev pub AnswersParts : List Endpoint → Caller → LocalStateModel → List PartModel → Answer → LocalStateModel → Type 0
AnswersParts table c s [] answer s' = (answer ≡ Says one_key_only) × (s' ≡ s)
AnswersParts table c s (part ∷ []) (Says value) s' = Executes table c s part value s'
AnswersParts table c s (part ∷ []) (Closes value) s' = ⊥
AnswersParts table c s (part ∷ other ∷ more) answer s' = (answer ≡ Says one_key_only) × (s' ≡ s)

-- refused words get their text, and what needs no node is answered as by any server
abbrev pub AnswersPlan : List Endpoint → Caller → LocalStateModel → Result Planned PlanFault → Answer → LocalStateModel → Type 0
AnswersPlan table c s (Err why) answer s' = (answer ≡ Says (refusal_of why)) × (s' ≡ s)
AnswersPlan table c s (Ok (Local reply)) answer s' = (answer ≡ Says reply) × (s' ≡ s)
AnswersPlan table c s (Ok Close) answer s' = (answer ≡ Closes ok) × (s' ≡ s)
AnswersPlan table c s (Ok (Parts how parts)) answer s' = AnswersParts table c s parts answer s'

-- CLUSTER SLOTS lists the slots by the table
abbrev pub ListsSlots : List Endpoint → LocalStateModel → Answer → Type 0
ListsSlots table s (Says value) = data_of value ≡ slots_data s.nodes table
ListsSlots table s (Closes value) = ⊥

-- Between MULTI and EXEC.

abbrev pub queued : Value
queued = Simple (codes "QUEUED")

-- the last two are this project's: what no run of commands can hold, and more than may wait
abbrev pub nested : Value
nested = Error (codes "ERR MULTI calls can not be nested")

abbrev pub exec_aborted : Value
exec_aborted = Error (codes "EXECABORT Transaction discarded because of previous errors.")

abbrev pub cross_slot : Value
cross_slot = Error (codes "CROSSSLOT Keys in request don't hash to the same slot")

abbrev pub keys_only : Value
keys_only = Error (codes "ERR node: only commands on keys between MULTI and EXEC")

abbrev pub too_many : Value
too_many = Error (codes "ERR node: too many commands between MULTI and EXEC")

-- a command waits for EXEC, where there is room
abbrev pub Waits : Block → PartModel → Value → Block → Type 0
Waits b part value b' = MatchBool (has_room b) ((value ≡ queued) × (b' ≡ with_part b part)) ((value ≡ too_many) × (b' ≡ Aborted))

-- where the node would refuse it now, that is said in its place, and EXEC will abort
abbrev pub QueuesPart : List Endpoint → ℕ → Block → ClusterModel → PartModel → Value → Block → Type 0
QueuesPart table node b k part value b' =
    MatchOption (refused_at k node false part) (Waits b part value b') (λ told. IsSaid table told value × (b' ≡ Aborted))

abbrev pub QueuesParts : List Endpoint → ℕ → Block → ClusterModel → List PartModel → Answer → Block → Type 0
QueuesParts table node b k [] answer b' = (answer ≡ Says one_key_only) × (b' ≡ Aborted)
QueuesParts table node b k (part ∷ []) (Says value) b' = QueuesPart table node b k part value b'
QueuesParts table node b k (part ∷ []) (Closes value) b' = ⊥
QueuesParts table node b k (part ∷ other ∷ more) answer b' = (answer ≡ Says one_key_only) × (b' ≡ Aborted)

-- whatever is refused makes EXEC abort; QUIT closes at once
abbrev pub Queues : List Endpoint → ℕ → Block → ClusterModel → Result Planned PlanFault → Answer → Block → Type 0
Queues table node b k (Err why) answer b' = (answer ≡ Says (refusal_of why)) × (b' ≡ Aborted)
Queues table node b k (Ok (Local reply)) answer b' = (answer ≡ Says keys_only) × (b' ≡ Aborted)
Queues table node b k (Ok Close) answer b' = (answer ≡ Closes ok) × (b' ≡ b)
Queues table node b k (Ok (Parts how parts)) answer b' = QueuesParts table node b k parts answer b'

-- the first that is no reply
abbrev pub refused_in : List Told → Option Told
refused_in [] = None
refused_in (Reply v ∷ tolds) = refused_in tolds
refused_in (Moved slot node ∷ tolds) = Some (Moved slot node)
refused_in (Ask slot node ∷ tolds) = Some (Ask slot node)
refused_in (TryAgain ∷ tolds) = Some TryAgain
refused_in (ClusterDown ∷ tolds) = Some ClusterDown
refused_in (Unclear ∷ tolds) = Some Unclear
refused_in (Lost ∷ tolds) = Some Lost
refused_in (Unsent ∷ tolds) = Some Unsent

-- the replies, in order
abbrev pub replies_in : List Told → List Data
replies_in [] = []
replies_in (Reply v ∷ tolds) = data_of v ∷ replies_in tolds
replies_in (Moved slot node ∷ tolds) = replies_in tolds
replies_in (Ask slot node ∷ tolds) = replies_in tolds
replies_in (TryAgain ∷ tolds) = replies_in tolds
replies_in (ClusterDown ∷ tolds) = replies_in tolds
replies_in (Unclear ∷ tolds) = replies_in tolds
replies_in (Lost ∷ tolds) = replies_in tolds
replies_in (Unsent ∷ tolds) = replies_in tolds

-- what EXEC says: each command's reply, in one array; or, where they were refused, that refusal
abbrev pub IsSaidTogether : List Endpoint → List Told → Value → Type 0
IsSaidTogether table tolds value = MatchOption (refused_in tolds) (value ≡ Array (replies_in tolds)) (λ told. IsSaid table told value)

abbrev pub IsSaidOfAll : List Endpoint → Result (Vec Told Global) ServeFault → Value → Type 0
IsSaidOfAll table (Ok tolds) value = IsSaidTogether table tolds.items value
IsSaidOfAll table (Err fault.NoSuchNode) value = value ≡ cluster_down
IsSaidOfAll table (Err fault.NotThisVerdict) value = value ≡ cluster_down
IsSaidOfAll table (Err fault.NoMemory) value = ⊥

-- the commands are served together at this node, as a run of the EXEC's ticket
pub record ExecutesTogether (table : List Endpoint) (c : Caller) (s : LocalStateModel) (parts : List PartModel) (value : Value) (s' : LocalStateModel) : Type 0 where
  pub served : Result (Vec Told Global) ServeFault
  pub serves : ServesRunLocally s (ticket_of c) c.node parts served s'
  pub said : IsSaidOfAll table served value

-- commands of several slots are not executed
abbrev pub ExecutesBlock : List Endpoint → Caller → LocalStateModel → List PartModel → Value → LocalStateModel → Type 0
ExecutesBlock table c s parts value s' =
    (HaveOneSlot parts × ExecutesTogether table c s parts value s') ⊎ ((HaveOneSlot parts → ⊥) × (value ≡ cross_slot) × (s' ≡ s))

-- nor those of a block in which one was refused
abbrev pub AnswersExec : List Endpoint → Caller → Block → LocalStateModel → Answer → LocalStateModel → Type 0
AnswersExec table c b s (Says value) s' = MatchBool (aborts b) ((value ≡ exec_aborted) × (s' ≡ s)) (ExecutesBlock table c s (parts_in b) value s')
AnswersExec table c b s (Closes value) s' = ⊥

-- after EXEC and DISCARD there is no block, whatever they answer
abbrev pub AnswersWithin : List Endpoint → Caller → Block → LocalStateModel → Words → Call → Answer → Block → LocalStateModel → Type 0
AnswersWithin table c b s words Asking answer b' s' = (answer ≡ Says keys_only) × (b' ≡ Aborted) × (s' ≡ s)
AnswersWithin table c b s words Slots answer b' s' = (answer ≡ Says keys_only) × (b' ≡ Aborted) × (s' ≡ s)
AnswersWithin table c b s words Multi answer b' s' = (answer ≡ Says nested) × (b' ≡ b) × (s' ≡ s)
AnswersWithin table c b s words Exec answer b' s' = AnswersExec table c b s answer s' × (b' ≡ Closed)
AnswersWithin table c b s words Discard answer b' s' = (answer ≡ Says ok) × (b' ≡ Closed) × (s' ≡ s)
AnswersWithin table c b s words Command answer b' s' = Queues table c.node b s.nodes (planned words) answer b' × (s' ≡ s)

-- Elsewhere.

abbrev pub exec_without_multi : Value
exec_without_multi = Error (codes "ERR EXEC without MULTI")

abbrev pub discard_without_multi : Value
discard_without_multi = Error (codes "ERR DISCARD without MULTI")

abbrev pub AnswersAlone : List Endpoint → Caller → Block → LocalStateModel → Words → Call → Answer → Block → LocalStateModel → Type 0
AnswersAlone table c b s words Asking answer b' s' = (answer ≡ Says ok) × (b' ≡ b) × (s' ≡ s)
AnswersAlone table c b s words Slots answer b' s' = ListsSlots table s answer × (b' ≡ b) × (s' ≡ s)
AnswersAlone table c b s words Multi answer b' s' = (answer ≡ Says ok) × (b' ≡ Queued []) × (s' ≡ s)
AnswersAlone table c b s words Exec answer b' s' = (answer ≡ Says exec_without_multi) × (b' ≡ b) × (s' ≡ s)
AnswersAlone table c b s words Discard answer b' s' = (answer ≡ Says discard_without_multi) × (b' ≡ b) × (s' ≡ s)
AnswersAlone table c b s words Command answer b' s' = AnswersPlan table c s (planned words) answer s' × (b' ≡ b)

abbrev pub AnswersCall : List Endpoint → Caller → Block → LocalStateModel → Words → Call → Answer → Block → LocalStateModel → Type 0
AnswersCall table c b s words call answer b' s' =
    MatchBool (is_open b) (AnswersWithin table c b s words call answer b' s') (AnswersAlone table c b s words call answer b' s')

-- nothing was executed
abbrev pub KeepsData : LocalStateModel → LocalStateModel → Type 0
KeepsData s s' = (s'.nodes ≡ s.nodes) × (s'.history ≡ s.history)

-- a request is answered; or memory ran out, nothing was executed, and the block is as it was
abbrev pub Answers : List Endpoint → Caller → Block → LocalStateModel → Words → Result Answer NoMemory → Caller → Block → LocalStateModel → Type 0
Answers table c b s words (Ok answer) c' b' s' = AnswersCall table c b s words (call_of words) answer b' s' × (c' ≡ after_request c (is_asking (call_of words)))
Answers table c b s words (Err refused) c' b' s' = KeepsData s s' × (c' ≡ c) × (b' ≡ b)
