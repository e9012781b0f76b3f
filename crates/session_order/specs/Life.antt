-- A session over its whole life: what was drained, as a function of the requests that were read and the ends that were
-- told.
-- It holds for any list of calls in any order, and names nothing that a session keeps: only what went in and came out.
use Rattle.std.specs.Prelude.{◌≡◌, ◌<◌, List, [], ◌∷◌, ◌++◌, ℕ, Bool, true, false, Option, Some, None, Result, Ok, Err}
use Rattle.std.specs.List.{FoldsTo, flat_map, list_any}
use Rattle.resp_wire.specs.declared.fault.NoMemory.{NoMemory}
use Rattle.resp_wire.specs.LimitsModel.{LimitsModel}
use Rattle.key_split.specs.PartModel.{PartModel}
use Rattle.key_split.specs.declared.travel.Ticket.{Ticket}
use Rattle.key_split.specs.declared.travel.Ended.{Ended}
use Rattle.session_order.specs.Output.{until_quit, output_of}
use Rattle.session_order.specs.declared.closing.Closing.TheVariants.{Open}
use Rattle.session_order.specs.declared.fault.SessionFault.{SessionFault}
use Rattle.session_order.specs.declared.fault.SessionFault.TheVariants as session_fault
use Rattle.session_order.specs.declared.fault.SessionFault.TheVariants.{Wire, NotRequest}
use Rattle.session_order.specs.Requests.{Skipped}
use Rattle.session_order.specs.RequestReaderModel.{RequestReaderModel, TakesValue}
use Rattle.session_order.specs.SessionModel.{SessionModel}
use Rattle.session_order.specs.Replies.{output, DrainOutcome}
use Rattle.session_order.specs.Steps.{MayRead, ReadsWords, with_incoming, FeedOutcome, ReadOutcome, ReadyOutcome, FollowerOutcome, IsHandedOut, EndOutcome}

-- A call with its answer; a call of read with the words of the request that it read, if it read one; a drain with how many
-- bytes it was to drain.
pub data SessionCall : Type 0 where
  Fed : List ℕ → Result ℕ SessionFault → SessionCall
  Read : Result Bool SessionFault → Option (List (List ℕ)) → SessionCall
  Handed : Option (Ticket × PartModel) → SessionCall
  Followed : Ticket → Option (Ticket × PartModel) → SessionCall
  Told : Ticket → Ended → SessionCall
  Drained : ℕ → Result ℕ NoMemory → List ℕ → SessionCall

-- a call of read by the request that it read
abbrev pub Reads : SessionModel → Result Bool SessionFault → Option (List (List ℕ)) → SessionModel → Type 0
Reads old (Ok true) (Some words) new = MayRead old × (rest : RequestReaderModel) × ReadsWords old words (Ok new) rest
Reads old (Ok true) None new = MayRead old × TakesValue old.incoming Skipped new.incoming × (new ≡ with_incoming old new.incoming)
Reads old (Ok false) None new = ReadOutcome old (Ok false) new
Reads old (Ok false) (Some words) new = ⊥
Reads old (Err fault) None new = ReadOutcome old (Err fault) new
Reads old (Err fault) (Some words) new = ⊥

abbrev pub SessionDoes : SessionModel → SessionCall → SessionModel → Type 0
SessionDoes old (Fed piece result) new = FeedOutcome old piece result new
SessionDoes old (Read result words) new = Reads old result words new
SessionDoes old (Handed given) new = ReadyOutcome old given new
SessionDoes old (Followed ticket given) new = FollowerOutcome old ticket given new
SessionDoes old (Told ticket end) new = IsHandedOut old ticket × EndOutcome old ticket end new
SessionDoes old (Drained most result bytes) new = DrainOutcome most old [] result new bytes

-- the requests that the calls read
abbrev pub read_by : SessionCall → List (List (List ℕ))
read_by (Fed piece result) = []
read_by (Read result None) = []
read_by (Read result (Some words)) = words ∷ []
read_by (Handed given) = []
read_by (Followed ticket given) = []
read_by (Told ticket end) = []
read_by (Drained most result bytes) = []

-- the ends that the calls told
abbrev pub told_by : SessionCall → List (Ticket × Ended)
told_by (Fed piece result) = []
told_by (Read result words) = []
told_by (Handed given) = []
told_by (Followed ticket given) = []
told_by (Told ticket end) = (ticket, end) ∷ []
told_by (Drained most result bytes) = []

-- the bytes that the calls drained
abbrev pub drained_by : SessionCall → List ℕ
drained_by (Fed piece result) = []
drained_by (Read result words) = []
drained_by (Handed given) = []
drained_by (Followed ticket given) = []
drained_by (Told ticket end) = []
drained_by (Drained most result bytes) = bytes

-- a call of read that met a fault of the client's
abbrev pub met_fault : SessionCall → Bool
met_fault (Read (Err (Wire fault)) words) = true
met_fault (Read (Err NotRequest) words) = true
met_fault (Read (Err session_fault.NoMemory) words) = false
met_fault (Read (Ok read) words) = false
met_fault (Fed piece result) = false
met_fault (Handed given) = false
met_fault (Followed ticket given) = false
met_fault (Told ticket end) = false
met_fault (Drained most result bytes) = false

abbrev pub output_for : List SessionCall → List ℕ
output_for calls = output_of (flat_map read_by calls) (flat_map told_by calls) (list_any met_fault calls)

-- a session to which nothing was fed
abbrev pub fresh : ℕ → ℕ → LimitsModel → SessionModel
fresh worker client bounds = record {
  worker = worker;
  client = client;
  incoming = record { input = record { bounds = bounds; unread = []; fault = None }; ahead = None };
  requests = [];
  stages = [];
  ends = [];
  first = 0;
  closing = Open;
}

-- Whatever the calls: what was drained, and then what is next to be drained, is the output of the requests read and the
-- ends told. After a drain of fewer bytes than it might drain nothing is left. And each call of read is by a request
-- that it read, or by none. Nothing is read after a request that ends the session.
pub record DrainsOutput : Type 0 where
  pub balance : (worker client : ℕ) (bounds : LimitsModel) (calls : List SessionCall) (held : SessionModel)
      → FoldsTo SessionDoes (fresh worker client bounds) calls held → flat_map drained_by calls ++ output held ≡ output_for calls
  pub all_drained : (worker client : ℕ) (bounds : LimitsModel) (calls : List SessionCall) (most n : ℕ) (bytes : List ℕ) (held : SessionModel) → n < most
      → FoldsTo SessionDoes (fresh worker client bounds) (calls ++ Drained most (Ok n) bytes ∷ []) held
      → flat_map drained_by (calls ++ Drained most (Ok n) bytes ∷ []) ≡ output_for (calls ++ Drained most (Ok n) bytes ∷ [])
  pub reads : (old : SessionModel) (result : Result Bool SessionFault) (new : SessionModel) → ReadOutcome old result new
      → (words : Option (List (List ℕ))) × Reads old result words new
  pub quit_is_last : (worker client : ℕ) (bounds : LimitsModel) (calls : List SessionCall) (held : SessionModel)
      → FoldsTo SessionDoes (fresh worker client bounds) calls held → until_quit (flat_map read_by calls) ≡ flat_map read_by calls
