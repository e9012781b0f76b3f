-- How many replies a client is owed for its bytes.
-- RESP2 specification, "Sending commands to a Redis server"; Redis command reference, QUIT. A client in memory uses the
-- count to know when it has all its replies (Script.antt).
use Rattle.std.specs.Prelude.{◌≡◌, ◌<◌, ◌≤◌, ◌+◌, ◌^◌, ℕ, suc, zero, List, Option, Some, None, Result, Ok, Err, if◌then◌else◌, nat_le, length}
use Rattle.resp_wire.specs.LimitsModel.{full}
use Rattle.resp_wire.specs.Data.{Data}
use Rattle.resp_wire.specs.FirstValue.{Front, front, Whole, Partial, Faulty}
use Rattle.resp_wire.specs.ReaderModel.{ReaderModel}
use Rattle.resp_wire.specs.declared.fault.NoMemory.{NoMemory}
use Rattle.resp_wire.specs.declared.fault.WireFault.{WireFault}
use Rattle.key_split.specs.declared.planned.Planned.{Planned}
use Rattle.key_split.specs.declared.planned.Planned.TheVariants as planned
use Rattle.key_split.specs.declared.planned.PlanFault.{PlanFault}
use Rattle.session_order.specs.PendingReply.{plan_for}
use Rattle.session_order.specs.Requests.{RequestKindModel, Words, Skipped, Refused, asked_of}
use Rattle.proxy_turns.specs.declared.owing.Effect.{Effect}
use Rattle.proxy_turns.specs.declared.owing.Effect.TheVariants.{Skips, Asks, Ends}

-- A session numbers 2^48 parts; a request that would pass them is a fault.
abbrev pub numbering : ℕ → Effect
numbering numbered = if nat_le numbered (2 ^ 48) then Asks numbered else Ends

-- a request by its plan, where `numbered` parts were numbered before it
abbrev pub effect_by : ℕ → Result Planned PlanFault → Effect
effect_by numbered (Err fault) = Asks numbered
effect_by numbered (Ok (planned.Local value)) = Asks numbered
effect_by numbered (Ok (planned.Parts how parts)) = numbering (numbered + length parts)
effect_by numbered (Ok planned.Close) = Ends

-- what a value of a client does
abbrev pub effect_of : ℕ → RequestKindModel → Effect
effect_of numbered Skipped = Skips
effect_of numbered Refused = Ends
effect_of numbered (Words words) = effect_by numbered (plan_for words)

-- How many replies are owed for a client's bytes, behind these many parts: one to each request up to QUIT, and the error
-- line of the first fault, if that comes before QUIT. Bytes that are less than a value are owed nothing.
pub data Owes : ℕ → List ℕ → ℕ → Type 0 where
  unfinished : (numbered n : ℕ) (bytes : List ℕ) → front full bytes ≡ Partial → n ≡ 0 → Owes numbered bytes n
  garbled : (numbered n : ℕ) (bytes : List ℕ) (fault : WireFault) → front full bytes ≡ Faulty fault → n ≡ 1 → Owes numbered bytes n
  ended : (numbered n : ℕ) (bytes after : List ℕ) (value : Data) → front full bytes ≡ Whole value after
      → effect_of numbered (asked_of value) ≡ Ends → n ≡ 1 → Owes numbered bytes n
  skipped : (numbered n : ℕ) (bytes after : List ℕ) (value : Data) → front full bytes ≡ Whole value after
      → effect_of numbered (asked_of value) ≡ Skips → Owes numbered after n → Owes numbered bytes n
  asked : (numbered later n m : ℕ) (bytes after : List ℕ) (value : Data) → front full bytes ≡ Whole value after
      → effect_of numbered (asked_of value) ≡ Asks later → n ≡ suc m → Owes later after m → Owes numbered bytes n

-- the bytes begin with this number of values, one after another, and then come others
abbrev pub Reads : ℕ → List ℕ → List ℕ → Type 0
Reads zero bytes rest = rest ≡ bytes
Reads (suc n) bytes rest = (value : Data) × (after : List ℕ) × (front full bytes ≡ Whole value after) × Reads n after rest

-- `n` whole replies stand in the bytes
abbrev pub Holds : ℕ → List ℕ → Type 0
Holds n bytes = (rest : List ℕ) × Reads n bytes rest

-- ---- what the code that counts does

-- the session ends with what the bytes begin with
abbrev pub EndsAt : ℕ → Front → Type 0
EndsAt numbered Partial = ⊥
EndsAt numbered (Faulty fault) = Unit {0}
EndsAt numbered (Whole value after) = effect_of numbered (asked_of value) ≡ Ends

-- the value at the front has this effect, and was taken off
abbrev pub Took : ℕ → ReaderModel → Effect → ReaderModel → Type 0
Took numbered old effect new =
    (value : Data) × (front full old.unread ≡ Whole value new.unread) × (effect_of numbered (asked_of value) ≡ effect)
    × (new ≡ record old { unread = new.unread }) × (length new.unread < length old.unread)

abbrev pub NextOutcome : ℕ → ReaderModel → Result (Option Effect) NoMemory → ReaderModel → Type 0
NextOutcome numbered old (Ok None) new = front full old.unread ≡ Partial
NextOutcome numbered old (Ok (Some Ends)) new = EndsAt numbered (front full old.unread)
NextOutcome numbered old (Ok (Some Skips)) new = Took numbered old Skips new
NextOutcome numbered old (Ok (Some (Asks later))) new = Took numbered old (Asks later) new × (later ≤ 2 ^ 48)
NextOutcome numbered old (Err refused) new = Unit {0}

-- what is left where a number of values were read off
abbrev pub RestIs : Option WireFault → List ℕ → List ℕ → Type 0
RestIs None unread rest = rest ≡ unread
RestIs (Some fault) unread rest = front full rest ≡ Faulty fault

-- `count` values of these bytes were read
pub record IsCounted (bytes : List ℕ) (input : ReaderModel) (count : ℕ) : Type 0 where
  pub rest : List ℕ
  pub read : Reads count bytes rest
  pub bounds : input.bounds ≡ full
  pub left : RestIs input.fault input.unread rest
