-- A connection to a node of the cluster in one process: requests wait in order, and each is answered once.
-- RESP2 specification, "Request-response model"; Redis Cluster specification, "ASK redirection": the flag that ASKING
-- sets is spent by the next request.
use Rattle.std.specs.Prelude.{◌≡◌, ℕ, Bool, true, false, List, [], ◌∷◌, ◌++◌, Option, Some, None, Result, Ok, Err, codes}
use Rattle.resp_wire.specs.declared.value.Value.{Value}
use Rattle.resp_wire.specs.declared.value.Value.TheVariants.{Simple}
use Rattle.key_split.specs.PartModel.{PartModel}
use Rattle.key_split.specs.Requests.{Request, Asking, Command, Slots}
use Rattle.key_split.specs.Told.{IsWritten}
use Rattle.key_split.specs.declared.travel.Batch.{Batch}
use Rattle.key_split.specs.declared.travel.Ticket.{Ticket}
use Rattle.key_split.specs.declared.travel.Told.{Told}
use Rattle.local_cluster.specs.Addresses.{addresses}
use Rattle.local_cluster.specs.Held.{WasListed, WasTold}

pub record LocalPortModel : Type 0 where
  pub node : ℕ
  -- the flag that ASKING sets, and the next request spends
  pub asking : Bool
  -- the requests without an answer, oldest first
  pub waiting : List Request

-- nothing was sent to the node
abbrev pub fresh_with : ℕ → LocalPortModel
fresh_with node = record { node = node; asking = false; waiting = [] }

-- the request that the node serves
abbrev pub asked_of : ℕ → Bool → Ticket → PartModel → Batch
asked_of node asking ticket part = record { ticket = ticket; node = node; asking = asking; part = part }

-- what the node writes: +OK for ASKING, the listing for CLUSTER SLOTS, and for a command what it was told in one hold of the lock
abbrev pub Answers : ℕ → Bool → Request → Value → Type 0
Answers node asking Asking value = value ≡ Simple (codes "OK")
Answers node asking (Command ticket part) value = (told : Told) × WasTold (asked_of node asking ticket part) told × IsWritten told (addresses 64) value
Answers node asking Slots value = WasListed (addresses 64) value

-- the flag after a request was answered
abbrev pub asks_next : Request → Bool
asks_next Asking = true
asks_next (Command ticket part) = false
asks_next Slots = false

-- each request is answered once, in order, and the last one leaves this flag
abbrev pub AnswersAll : ℕ → Bool → List Request → List Value → Bool → Type 0
AnswersAll node asking [] [] left = left ≡ asking
AnswersAll node asking (request ∷ requests) (value ∷ values) left = Answers node asking request value × AnswersAll node (asks_next request) requests values left
AnswersAll node asking [] (value ∷ values) left = ⊥
AnswersAll node asking (request ∷ requests) [] left = ⊥

-- these requests were sent and these values came: the oldest requests were answered, and the others wait
abbrev pub Converses : LocalPortModel → List Request → List Value → LocalPortModel → Type 0
Converses old requests values new =
    (answered : List Request) × (old.waiting ++ requests ≡ answered ++ new.waiting) × AnswersAll old.node old.asking answered values new.asking × (new.node ≡ old.node)

-- What a port keeps besides: what the oldest request was told, until it is written.

abbrev pub WasToldOf : ℕ → Bool → Request → Told → Type 0
WasToldOf node asking Asking told = ⊥
WasToldOf node asking (Command ticket part) told = WasTold (asked_of node asking ticket part) told
WasToldOf node asking Slots told = ⊥

abbrev pub OldestWasTold : ℕ → Bool → List Request → Option Told → Type 0
OldestWasTold node asking requests None = Unit {0}
OldestWasTold node asking [] (Some told) = ⊥
OldestWasTold node asking (request ∷ later) (Some told) = WasToldOf node asking request told

-- What a port's own calls do.

-- the requests wait behind the others, or nothing is changed
abbrev pub KeepOutcome : {U E : Type 0} → LocalPortModel → List Request → Result U E → LocalPortModel → Type 0
KeepOutcome old requests (Ok _) new = new ≡ record old { waiting = old.waiting ++ requests }
KeepOutcome old requests (Err refused) new = new ≡ old

-- the oldest request is answered, where one waits; or nothing is changed
abbrev pub AnswerOutcome : {E : Type 0} → LocalPortModel → Result (Option Value) E → LocalPortModel → Type 0
AnswerOutcome old (Ok (Some value)) new = Converses old [] (value ∷ []) new
AnswerOutcome old (Ok None) new = (old.waiting ≡ []) × (new ≡ old)
AnswerOutcome old (Err refused) new = new ≡ old
