-- The requests that a client's bytes spell, and the output for them by the ends that it is told. What the output is says session_order's
-- Output.antt.
use Rattle.std.specs.Prelude.{◌≡◌, ◌⊎◌, ◌<◌, ◌^◌, ℕ, List, [], ◌∷◌, ◌++◌, Bool, true, false, map}
use Rattle.std.specs.List.{flat_map, list_any}
use mathlib.Core.List.{IsPrefix}
use Rattle.resp_wire.specs.Data.{Data, items_of}
use Rattle.resp_wire.specs.LimitsModel.{full}
use Rattle.resp_wire.specs.Spelling.{Spells, SpellsAll}
use Rattle.resp_wire.specs.Stream.{HasFault}
use Rattle.resp_wire.specs.declared.fault.WireFault.{WireFault}
use Rattle.key_split.specs.declared.travel.Ticket.{Ticket}
use Rattle.key_split.specs.declared.travel.Ended.{Ended}
use Rattle.session_order.specs.Requests.{RequestKindModel, Words, Skipped, Refused, asked_of}
use Rattle.session_order.specs.PendingReply.{ends_session, owed_for, plan_for}
use Rattle.session_order.specs.Replies.{parts_of}
use Rattle.session_order.specs.Output.{output_of}

-- the request that a value asks for, if it asks for one
abbrev pub request_of : RequestKindModel → List (List (List ℕ))
request_of (Words words) = words ∷ []
request_of Skipped = []
request_of Refused = []

-- the requests among these values
abbrev pub requests_of : List Data → List (List (List ℕ))
requests_of values = flat_map (λ value. request_of (asked_of value)) values

-- a value that is a request, or one that is skipped
abbrev pub is_accepted : RequestKindModel → Bool
is_accepted (Words words) = true
is_accepted Skipped = true
is_accepted Refused = false

abbrev pub AreAccepted : List Data → Type 0
AreAccepted [] = Unit {0}
AreAccepted (value ∷ values) = (is_accepted (asked_of value) ≡ true) × AreAccepted values

-- refused behind these requests: a value that is no request, or one with more parts than can be numbered
abbrev pub IsRefused : List (List (List ℕ)) → RequestKindModel → Type 0
IsRefused read (Words words) = 2 ^ 48 < parts_of (map owed_for (read ++ words ∷ []))
IsRefused read Skipped = ⊥
IsRefused read Refused = Unit {0}

-- what follows these requests begins with a fault of the client's: bytes that begin no value, or the spelling of a value that is refused
abbrev pub BeginsWithFault : List (List (List ℕ)) → List ℕ → Type 0
BeginsWithFault read rest =
    (bytes : List ℕ) × IsPrefix bytes rest × (((fault : WireFault) × HasFault full bytes fault) ⊎ ((value : Data) × Spells full full.depth bytes value × IsRefused read (asked_of value)))

-- a request that ends the session
abbrev pub ends_it : List (List ℕ) → Bool
ends_it words = ends_session (plan_for words)

-- The pipeline of requests that a client's bytes are, as far as it was read: the spellings of some values, and a rest. Where a fault was
-- met, the rest begins with one.
pub record Pipeline (came : List ℕ) : Type 0 where
  pub values : List Data
  pub text : List ℕ
  pub rest : List ℕ
  pub spelled : SpellsAll full full.depth text (items_of values)
  pub are : came ≡ text ++ rest
  pub faulted : Bool
  pub fault : faulted ≡ true → BeginsWithFault (requests_of values) rest

-- the output for a pipeline, by the ends that were told
abbrev pub whole_output : {came : List ℕ} → Pipeline came → List (Ticket × Ended) → List ℕ
whole_output pipeline ends = output_of (requests_of pipeline.values) ends pipeline.faulted

-- it is closed: by a request that ends the session, or by a fault
abbrev pub IsClosed : {came : List ℕ} → Pipeline came → Type 0
IsClosed pipeline = (list_any ends_it (requests_of pipeline.values) ≡ true) ⊎ (pipeline.faulted ≡ true)
