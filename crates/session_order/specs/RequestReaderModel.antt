-- The bytes of a client that were not read, and the request that is next of them.
-- Where memory runs out after a request's bytes were read, its words are kept ahead, and the next call begins with
-- them: no request is lost or read twice.
use Rattle.std.specs.Prelude.{◌≡◌, ◌⊎◌, ◌<◌, ℕ, List, Option, Some, None, Result, Ok, Err, length}
use Rattle.resp_wire.specs.ReaderModel.{ReaderModel}
use Rattle.resp_wire.specs.FirstValue.{ReaderTakes, front, Whole, Faulty}
use Rattle.resp_wire.specs.Data.{Data}
use Rattle.resp_wire.specs.Seen.{data_of}
use Rattle.resp_wire.specs.declared.value.Value.{Value}
use Rattle.resp_wire.specs.declared.fault.WireFault.{WireFault}
use Rattle.resp_wire.specs.declared.fault.WireFault.TheVariants as wire
use Rattle.session_order.specs.declared.request_kind.RequestKind.{RequestKind}
use Rattle.session_order.specs.declared.request_kind.RequestKind.TheVariants as wish
use Rattle.session_order.specs.Requests.{RequestKindModel, Words, Skipped, Refused, asked_of}

-- The bytes that were fed and not read; and the words of a request that was taken off them and not read yet, for want of
-- memory.
pub record RequestReaderModel : Type 0 where
  pub input : ReaderModel
  pub ahead : Option (List (List ℕ))

-- the first value of the bytes asks for this
abbrev pub TakesValue : RequestReaderModel → RequestKindModel → RequestReaderModel → Type 0
TakesValue old asked rest =
    (old.ahead ≡ None) × (value : Value) × ReaderTakes old.input (Ok (Some value)) rest.input × (asked_of (data_of value) ≡ asked)
    × (rest ≡ record old { input = rest.input })

-- the words that are next, and what is left without them: those that were taken ahead, or the first value's
abbrev pub NextWords : RequestReaderModel → List (List ℕ) → RequestReaderModel → Type 0
NextWords old words rest = ((old.ahead ≡ Some words) × (rest ≡ record old { ahead = None })) ⊎ TakesValue old (Words words) rest

-- the first value is whole, and there is no memory for it
abbrev pub LacksValue : RequestReaderModel → Type 0
LacksValue incoming = (incoming.ahead ≡ None) × ReaderTakes incoming.input (Err wire.NoMemory) incoming.input

-- a whole request stands first, and has words
abbrev pub HasRequest : RequestReaderModel → Type 0
HasRequest incoming =
    (value : Data) × (after : List ℕ) × (words : List (List ℕ)) × (front incoming.input.bounds incoming.input.unread ≡ Whole value after)
    × (asked_of value ≡ Words words)

-- it is a whole request, and there is no memory for it
abbrev pub LacksMemory : RequestReaderModel → Type 0
LacksMemory incoming = LacksValue incoming × HasRequest incoming

-- nothing was read, though a whole request stands first; its words may have been taken ahead
abbrev pub KeepsWords : RequestReaderModel → RequestReaderModel → Type 0
KeepsWords old new = (LacksMemory old × (new ≡ old)) ⊎ ((words : List (List ℕ)) × (rest : RequestReaderModel) × NextWords old words rest × (new ≡ record rest { ahead = Some words }))

-- no value is whole
abbrev pub IsDry : RequestReaderModel → Type 0
IsDry incoming = (incoming.ahead ≡ None) × ReaderTakes incoming.input (Ok None) incoming.input

-- the first bytes are no value
abbrev pub IsGarbled : RequestReaderModel → WireFault → RequestReaderModel → Type 0
IsGarbled old fault new =
    (old.ahead ≡ None) × (front old.input.bounds old.input.unread ≡ Faulty fault)
    × (new ≡ record old { input = record old.input { fault = Some fault } })

-- what taking the next request does
abbrev pub TakeOutcome : RequestReaderModel → Result (Option RequestKind) WireFault → RequestReaderModel → Type 0
TakeOutcome old (Ok (Some (wish.Words words))) new = NextWords old words new
TakeOutcome old (Ok (Some wish.Skipped)) new = TakesValue old Skipped new
TakeOutcome old (Ok (Some wish.Refused)) new = TakesValue old Refused new
TakeOutcome old (Ok None) new = IsDry old × (new ≡ old)
TakeOutcome old (Err wire.NoMemory) new = KeepsWords old new
TakeOutcome old (Err fault) new = IsGarbled old fault new

-- a request has at least one word
abbrev pub HasWords : Result (Option RequestKind) WireFault → Type 0
HasWords (Ok (Some (wish.Words words))) = 0 < length words
HasWords (Ok (Some wish.Skipped)) = Unit {0}
HasWords (Ok (Some wish.Refused)) = Unit {0}
HasWords (Ok None) = Unit {0}
HasWords (Err fault) = Unit {0}
