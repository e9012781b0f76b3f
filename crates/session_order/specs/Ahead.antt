-- The request that was taken off the bytes and not given yet.
-- Only private functions cite it.
use Rattle.std.specs.Prelude.{◌≡◌, ◌<◌, ℕ, List, Option, Some, None, Result, Ok, Err, length}
use Rattle.resp_wire.specs.Seen.{data_of}
use Rattle.resp_wire.specs.declared.value.Value.{Value}
use Rattle.resp_wire.specs.declared.fault.WireFault.{WireFault}
use Rattle.resp_wire.specs.declared.fault.WireFault.TheVariants as wire
use Rattle.session_order.specs.declared.request_kind.RequestKind.{RequestKind}
use Rattle.session_order.specs.declared.request_kind.RequestKind.TheVariants as wish
use Rattle.session_order.specs.declared.request_reader.Ahead.{Ahead}
use Rattle.session_order.specs.declared.request_reader.Ahead.TheVariants as ahead
use Rattle.session_order.specs.Requests.{RequestKindModel, Words, Skipped, Refused, asked_of}

abbrev pub words_asked : RequestKindModel → Option (List (List ℕ))
words_asked (Words words) = Some words
words_asked Skipped = None
words_asked Refused = None

abbrev pub words_ahead : Ahead → Option (List (List ℕ))
words_ahead ahead.Nothing = None
words_ahead (ahead.Value value) = words_asked (asked_of (data_of value))
words_ahead (ahead.Words words) = Some words

-- it is a request, with at least one word
abbrev pub IsAhead : Ahead → Type 0
IsAhead ahead.Nothing = Unit {0}
IsAhead (ahead.Value value) = (words : List (List ℕ)) × (asked_of (data_of value) ≡ Words words)
IsAhead (ahead.Words words) = 0 < length words

-- what a value is given as, and what is kept ahead
abbrev pub GiveOutcome : Value → Result (Option RequestKind) WireFault → Ahead → Type 0
GiveOutcome value (Ok (Some (wish.Words words))) new = (asked_of (data_of value) ≡ Words words) × (0 < length words) × (new ≡ ahead.Nothing)
GiveOutcome value (Ok (Some wish.Skipped)) new = (asked_of (data_of value) ≡ Skipped) × (new ≡ ahead.Nothing)
GiveOutcome value (Ok (Some wish.Refused)) new = (asked_of (data_of value) ≡ Refused) × (new ≡ ahead.Nothing)
GiveOutcome value (Ok None) new = ⊥
GiveOutcome value (Err wire.NoMemory) new = ((words : List (List ℕ)) × (asked_of (data_of value) ≡ Words words)) × (new ≡ ahead.Value value)
GiveOutcome value (Err fault) new = ⊥
