-- What a call of a port does, by its answer.
-- A port that fails at a send may have sent all of the requests or none. The count of failures never falls, so a failure in any
-- one of several calls shows.
use Rattle.std.specs.Prelude.{◌⊎◌, ◌<◌, ◌≤◌, ◌-◌, ◌^◌, List, [], ◌∷◌, ℕ, Option, Some, None, Result, Ok, Err}
use Rattle.resp_wire.specs.declared.value.Value.{Value}
use Rattle.key_split.specs.Requests.{Request}
use Rattle.node_link.specs.declared.port.PortFault.{PortFault}
use Rattle.node_link.specs.declared.port.PortFault.TheVariants.{NoMemory, Failed, BadWire}

-- What a port says of its calls.
pub record PortCalls (P : Type 0) : Type 1 where
  -- how often it has failed, in 64 bits: a failure at their last value leaves the count
  pub failures : P → ℕ
  -- the bytes that came are no value
  pub is_garbled : P → Type 0
  -- from one state of it to another these requests were sent and these values came, each in order
  pub exchange : P → List Request → List Value → P → Type 0
  -- its last call was for a value, and none had come
  pub gives_none : P → Type 0

-- a count that is kept in 64 bits rose; one that stands at their last value counts as risen
abbrev pub Rose : ℕ → ℕ → Type 0
Rose before now = (before < now) ⊎ (2 ^ 64 - 1 ≤ before)

-- of these requests all were sent, or none
abbrev pub SendsAllOrNone : {P : Type 0} → (P → List Request → List Value → P → Type 0) → P → List Request → P → Type 0
SendsAllOrNone exchange old requests new = exchange old requests [] new ⊎ exchange old [] [] new

-- the requests are sent; after NoMemory none is, and a port that fails may have sent them
abbrev pub SendOutcome : {P : Type 0} → PortCalls P → P → List Request → Result (Unit {0}) PortFault → P → Type 0
SendOutcome calls old requests (Ok _) new = calls.exchange old requests [] new
SendOutcome calls old requests (Err NoMemory) new = calls.exchange old [] [] new
SendOutcome calls old requests (Err Failed) new = Rose (calls.failures old) (calls.failures new) × SendsAllOrNone calls.exchange old requests new
SendOutcome calls old requests (Err BadWire) new = calls.is_garbled new × SendsAllOrNone calls.exchange old requests new

-- at most one value comes, and nothing is sent
abbrev pub NextOutcome : {P : Type 0} → PortCalls P → P → Result (Option Value) PortFault → P → Type 0
NextOutcome calls old (Ok (Some value)) new = calls.exchange old [] (value ∷ []) new
NextOutcome calls old (Ok None) new = calls.exchange old [] [] new
NextOutcome calls old (Err NoMemory) new = calls.exchange old [] [] new
NextOutcome calls old (Err Failed) new = Rose (calls.failures old) (calls.failures new) × calls.exchange old [] [] new
NextOutcome calls old (Err BadWire) new = calls.is_garbled new × calls.exchange old [] [] new
