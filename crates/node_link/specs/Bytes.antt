-- A connection in bytes: the canonical spellings of the requests go out, and the spellings of the values come in.
-- Redis serialization protocol (RESP2) specification, "Sending commands to a Redis server".
-- Commands of any size may be cut at any byte. What a node sends is read within the largest limits of resp_wire.
use Rattle.std.specs.Prelude.{◌≡◌, ◌⊎◌, ◌++◌, ◌∷◌, List, [], ℕ, ◌<◌, ◌≤◌, ◌+◌, ◌-◌, ⊤, OnErr, Bool, true, Option, Some, None, Result, Ok, Err, codes, length, map, take}
use Rattle.std.specs.List.{flat_map}
use Rattle.resp_wire.specs.LimitsModel.{LimitsModel}
use Rattle.resp_wire.specs.Canonical.{canonical}
use Rattle.resp_wire.specs.Data.{bulk, array, items_of}
use Rattle.resp_wire.specs.FirstValue.{front, Whole, Partial, Faulty}
use Rattle.resp_wire.specs.ReaderModel.{ReaderModel}
use Rattle.resp_wire.specs.Seen.{data_of}
use Rattle.resp_wire.specs.declared.value.Value.{Value}
use Rattle.resp_wire.specs.declared.fault.WireFault.{WireFault}
use Rattle.key_split.specs.Requests.{Request, Asking, Command, Slots}
use Rattle.key_split.specs.Words.{words_of}
use Rattle.node_link.specs.declared.port.PortFault.{PortFault}
use Rattle.node_link.specs.declared.port.PortFault.TheVariants.{NoMemory, Failed, BadWire}
use Rattle.node_link.specs.declared.stream.Flow.{Flow}
use Rattle.node_link.specs.declared.stream.Flow.TheVariants as flow
use Rattle.node_link.specs.declared.stream.Gone.{Gone}
use Rattle.node_link.specs.Port.{Rose}

-- the words of a request
abbrev pub words_in : Request → List (List ℕ)
words_in Asking = codes "ASKING" ∷ []
words_in (Command ticket part) = words_of part
words_in Slots = codes "CLUSTER" ∷ codes "SLOTS" ∷ []

-- words are sent as an array of bulk strings
abbrev pub spelled_words : List (List ℕ) → List ℕ
spelled_words words = canonical (array (items_of (map bulk words)))

abbrev pub spelled : List Request → List ℕ
spelled requests = flat_map (λ request. spelled_words (words_in request)) requests

-- the bytes are spellings of these values, in order, and then the rest
abbrev pub Splits : LimitsModel → List ℕ → List Value → List ℕ → Type 0
Splits bounds bytes [] rest = bytes ≡ rest
Splits bounds bytes (value ∷ values) rest =
    (more : List ℕ) × (front bounds bytes ≡ Whole (data_of value) more) × Splits bounds more values rest

-- what a port holds in bytes: the stream, the bytes that it did not write yet, and what it read and gave no value for
pub record PortBytes (S : Type 0) : Type 0 where
  pub stream : S
  pub unsent : List ℕ
  -- how many bytes the stream left of those that it was offered last
  pub refused : ℕ
  -- how many reads came since the last request was sent; one that is not to wait starts with as many as let it be written
  pub quiet_reads : ℕ
  pub input : ReaderModel

module _ {S : Type 0} (moved : S → List ℕ → List ℕ → S → Type 0) where
  -- what was written and what is still to be written are these bytes, behind those that waited; what was read is the spellings of the
  -- values and a rest
  abbrev pub Carries : PortBytes S → List ℕ → List Value → PortBytes S → Type 0
  Carries old bytes values new =
      (written : List ℕ) × (read : List ℕ) × moved old.stream written read new.stream
      × (old.unsent ++ bytes ≡ written ++ new.unsent)
      × Splits old.input.bounds (old.input.unread ++ read) values new.input.unread
      × (new.input.bounds ≡ old.input.bounds)

-- the bytes that came and were given no value begin with a fault
abbrev pub IsGarbled : {S : Type 0} → PortBytes S → Type 0
IsGarbled port = (fault : WireFault) × (front port.input.bounds port.input.unread ≡ Faulty fault)

-- bytes that a write is offered at least, where as many wait
abbrev pub least_offer : ℕ
least_offer = 65536

-- A write may be offered `count` bytes off the front: all that the stream left of what it was offered last; and where it left none,
-- all that wait, or enough of them.
abbrev pub IsOffer : List ℕ → ℕ → ℕ → Type 0
IsOffer unsent refused count =
    (count ≤ length unsent) × (refused ≤ count) × ((0 < refused) ⊎ ((count ≡ length unsent) ⊎ (least_offer ≤ count)))

-- how many of `count` bytes a write leaves that was answered so
abbrev pub left_of : ℕ → Flow → ℕ
left_of count (flow.Bytes taken) = count - taken
left_of count flow.Nothing = count
left_of count flow.Gone = count

-- one write is made; or none, which may be only where no byte was refused and what waits may wait
abbrev pub Offers : {S : Type 0} → (S → List ℕ → Flow → S → Type 0) → Type 0 → S → List ℕ → ℕ → S → ℕ → Type 0
Offers offered may_wait old unsent refused new refused' =
    ((count : ℕ) × IsOffer unsent refused count × (given : Flow) × offered old (take count unsent) given new × (refused' ≡ left_of count given))
    ⊎ ((refused ≡ 0) × (refused' ≡ 0) × (new ≡ old) × may_wait)

-- reads with nothing sent between them, until which bytes that were never offered are held back
abbrev pub flush_after_reads : ℕ
flush_after_reads = 2

-- none waits, or fewer reads came with nothing sent
abbrev pub MayWait : List ℕ → ℕ → Type 0
MayWait unsent quiet_reads = (unsent ≡ []) ⊎ (quiet_reads < flush_after_reads)

-- one read more is counted, but for those past the bound
abbrev pub CountsRead : ℕ → ℕ → Type 0
CountsRead before now = (now ≡ before + 1) ⊎ ((flush_after_reads < before) × (now ≡ before))

-- one read is made, into some room
abbrev pub IsAsked : {S : Type 0} → (S → ℕ → Flow → S → Type 0) → S → S → Type 0
IsAsked asked old new = (room : ℕ) × (0 < room) × (given : Flow) × asked old room given new

module _ {S : Type 0} (offered : S → List ℕ → Flow → S → Type 0) where
  -- what a call that sends asks of its stream: bytes that were refused are offered again before anything else; where nothing was sent
  -- the reads count on
  abbrev pub OffersFirst : PortBytes S → Result (Unit {0}) PortFault → PortBytes S → Type 0
  OffersFirst old result new =
      Offers offered ⊤ old.stream old.unsent old.refused new.stream new.refused × OnErr result (new.quiet_reads ≡ old.quiet_reads)

  -- what a call for a value asks of it: the same, and bytes that waited long enough are offered too; after the write comes one
  -- read, which is counted, or none
  abbrev pub OffersThenReads : (S → ℕ → Flow → S → Type 0) → PortBytes S → PortBytes S → Type 0
  OffersThenReads asked old new =
      (between : S) × Offers offered (MayWait old.unsent old.quiet_reads) old.stream old.unsent old.refused between new.refused
      × (((new.stream ≡ between) × (new.quiet_reads ≡ old.quiet_reads))
      ⊎ (IsAsked asked between new.stream × CountsRead old.quiet_reads new.quiet_reads))

-- the bytes of whole requests that wait, how many of them the stream left of those that it was offered last, and how many reads came
-- since the last request
pub record UnsentModel : Type 0 where
  pub bytes : List ℕ
  pub refused : ℕ
  pub quiet_reads : ℕ

-- the bytes to be written: those of whole requests, and of one that is being spelled
pub record OutboxModel : Type 0 where
  pub unsent : UnsentModel
  pub draft : List ℕ

-- some of the bytes were written
abbrev pub FlushOutcome : {S : Type 0} → (S → ℕ) → (S → List ℕ → List ℕ → S → Type 0) → S → List ℕ → Result (Unit {0}) Gone → S → List ℕ → Type 0
FlushOutcome failures moved old unsent (Ok _) new rest = (written : List ℕ) × moved old written [] new × (unsent ≡ written ++ rest)
FlushOutcome failures moved old unsent (Err _) new rest = Rose (failures old) (failures new) × moved old [] [] new × (rest ≡ unsent)

-- the bytes that were read: those that the reader was fed, and those that it was not; and for how many more there is room
pub record InboxModel : Type 0 where
  pub fed : ReaderModel
  pub unfed : List ℕ
  pub room : ℕ

-- all bytes that no value was made of
abbrev pub input_of : InboxModel → ReaderModel
input_of incoming = record incoming.fed { unread = incoming.fed.unread ++ incoming.unfed }

-- a fault that the reader found is the first of what it was fed, and nothing was read after it
abbrev pub IsFaultFirst : ReaderModel → List ℕ → Type 0
IsFaultFirst input unfed = elim input.fault as (λ x. Type 0) [
  | Some fault ↦ (front input.bounds input.unread ≡ Faulty fault) × (unfed ≡ [])
  | None ↦ Unit {0}
]

-- where this is said, the reader was fed less than a value, and found no fault in it
abbrev pub IsShortWhere : Bool → ReaderModel → Type 0
IsShortWhere said input = said ≡ true → (front input.bounds input.unread ≡ Partial) × (input.fault ≡ None)

-- some bytes were read
abbrev pub FillOutcome : {S : Type 0} → (S → ℕ) → (S → List ℕ → List ℕ → S → Type 0) → S → InboxModel → Result (Unit {0}) Gone → S → InboxModel → Type 0
FillOutcome failures moved old before (Ok _) new after = moved old [] after.unfed new × (after.fed ≡ before.fed)
FillOutcome failures moved old before (Err _) new after = Rose (failures old) (failures new) × moved old [] [] new × (input_of after ≡ input_of before)

abbrev pub ReadChunkOutcome : {S : Type 0} → (S → ℕ) → (S → List ℕ → List ℕ → S → Type 0) → S → Result ℕ Gone → S → List ℕ → Type 0
ReadChunkOutcome failures moved old (Ok count) new chunk = (count ≤ length chunk) × moved old [] (take count chunk) new
ReadChunkOutcome failures moved old (Err _) new chunk = Rose (failures old) (failures new) × moved old [] [] new

-- the first value of what is unread is taken
abbrev pub TakeOutcome : ReaderModel → Result (Option Value) PortFault → ReaderModel → Type 0
TakeOutcome old (Ok (Some value)) new = (front old.bounds old.unread ≡ Whole (data_of value) new.unread) × (new.bounds ≡ old.bounds)
TakeOutcome old (Ok None) new = (new.unread ≡ old.unread) × (new.bounds ≡ old.bounds) × (front new.bounds new.unread ≡ Partial)
TakeOutcome old (Err NoMemory) new = (new.unread ≡ old.unread) × (new.bounds ≡ old.bounds)
TakeOutcome old (Err BadWire) new =
    (new.unread ≡ old.unread) × (new.bounds ≡ old.bounds) × (fault : WireFault) × (front new.bounds new.unread ≡ Faulty fault)
TakeOutcome old (Err Failed) new = ⊥
