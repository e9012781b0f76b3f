-- What a client's bytes ask for: its requests, one after another.
-- RESP2 specification, "Sending commands to a Redis server"; the plan is key_split's. A request that ends the session
-- is the last one.
use Rattle.std.specs.Prelude.{◌≡◌, ◌+◌, ◌^◌, ℕ, Bool, true, false, List, [], ◌∷◌, length, nat_le, if◌then◌else◌, Result, Ok, Err}
use Rattle.resp_wire.specs.LimitsModel.{full}
use Rattle.resp_wire.specs.FirstValue.{Front, Whole, Partial, Faulty, front}
use Rattle.key_split.specs.PartModel.{PartModel}
use Rattle.key_split.specs.declared.planned.Planned.{Planned}
use Rattle.key_split.specs.declared.planned.Planned.TheVariants as planned
use Rattle.key_split.specs.declared.planned.PlanFault.{PlanFault}
use Rattle.session_order.specs.PendingReply.{plan_for, ends_session}
use Rattle.session_order.specs.Requests.{RequestKindModel, Words, Skipped, Refused, asked_of}

abbrev pub Request : Type 0
Request = List (List ℕ)

-- the parts that a plan has
abbrev pub parts_planned : Result Planned PlanFault → List PartModel
parts_planned (Ok (planned.Parts how parts)) = parts
parts_planned (Ok (planned.Local value)) = []
parts_planned (Ok planned.Close) = []
parts_planned (Err fault) = []

-- the parts that the words of a request ask for
abbrev pub parts_for : Request → List PartModel
parts_for words = parts_planned (plan_for words)

-- What stands first in bytes: no request, with a fault or without; a value that asks for nothing, and the bytes behind it; a
-- request, and the bytes behind it; or a request that ends the session.
pub data First : Type 0 where
  Ends : Bool → First
  Skips : List ℕ → First
  Asks : Request → List ℕ → First
  Quits : Request → First

-- a request of these words. No client has more than 2 ^ 48 parts: one that would pass that is a fault
abbrev pub request_first : ℕ → Request → List ℕ → First
request_first number words rest =
    if ends_session (plan_for words) then Quits words
    else (if nat_le (number + length (parts_for words)) (2 ^ 48) then Asks words rest else Ends true)

abbrev pub first_as : ℕ → RequestKindModel → List ℕ → First
first_as number (Words words) rest = request_first number words rest
first_as number Skipped rest = Skips rest
first_as number Refused rest = Ends true

abbrev pub first_of : ℕ → Front → First
first_of number (Whole value rest) = first_as number (asked_of value) rest
first_of number Partial = Ends false
first_of number (Faulty fault) = Ends true

-- what stands first in the bytes, behind requests of `number` parts
unfoldable pub first_in : ℕ → List ℕ → First
first_in number bytes = first_of number (front full bytes)

-- a client's requests, in order, and whether a fault stands behind them
pub record Requested : Type 0 where
  pub requests : List Request
  pub faulted : Bool

abbrev pub before : Request → Requested → Requested
before words later = record { requests = words ∷ later.requests; faulted = later.faulted }

-- Bytes that stand behind requests of a given number of parts ask for these requests: all up to one that ends the session, or to a
-- fault.
pub data AsksFor : ℕ → List ℕ → Requested → Type 0 where
  ended : (number : ℕ) (bytes : List ℕ) (faulted : Bool) → first_in number bytes ≡ Ends faulted → AsksFor number bytes (record { requests = []; faulted = faulted })
  skipped : (number : ℕ) (bytes rest : List ℕ) (later : Requested) → first_in number bytes ≡ Skips rest → AsksFor number rest later → AsksFor number bytes later
  asked : (number : ℕ) (bytes : List ℕ) (words : Request) (rest : List ℕ) (later : Requested) → first_in number bytes ≡ Asks words rest
      → AsksFor (number + length (parts_for words)) rest later → AsksFor number bytes (before words later)
  quit : (number : ℕ) (bytes : List ℕ) (words : Request) → first_in number bytes ≡ Quits words → AsksFor number bytes (record { requests = words ∷ []; faulted = false })
