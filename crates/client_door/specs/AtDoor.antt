-- The door in front of a session, where a password is wanted.
-- A request is answered as soon as its last byte is there, so no byte behind an AUTH that opens the door was taken.
use Rattle.std.specs.Prelude.{◌≡◌, ◌⊎◌, ℕ, List, [], ◌∷◌, ◌++◌, Bool, true, false, if◌then◌else◌, None, Result, Ok, Err}
use Rattle.resp_wire.specs.FirstValue.{Front, Whole, Partial, Faulty, front}
use Rattle.resp_wire.specs.LimitsModel.{LimitsModel}
use Rattle.resp_wire.specs.ReaderModel.{ReaderModel}
use Rattle.resp_wire.specs.declared.fault.NoMemory.{NoMemory}
use Rattle.session_order.specs.Requests.{asked_of}
use Rattle.client_door.specs.declared.answer.Answer.{Answer}
use Rattle.client_door.specs.declared.answer.Answer.TheVariants.{Nothing, NotRequest}
use Rattle.client_door.specs.declared.door.DoorState.{DoorState}
use Rattle.client_door.specs.declared.door.DoorState.TheVariants.{Shut, Open, Over}
use Rattle.client_door.specs.Answers.{answer_to, bytes_of, state_after}

-- the bytes of a request of which not all has come, what was answered and not sent, and whether the client may pass
pub record DoorModel : Type 0 where
  pub unread : List ℕ
  pub unsent : List ℕ
  pub state : DoorState

-- Redis, networking.c: before its client has said the password, a request has at most ten words of 16 KiB.
abbrev pub door_limits : LimitsModel
door_limits = record { bulk = 16384; items = 10; depth = 1; line = 64 }

abbrev pub new_door : DoorModel
new_door = record { unread = []; unsent = []; state = Shut }

-- what bytes are answered that begin so, and what is left of them
abbrev pub answer_by : List ℕ → Front → Answer
answer_by password (Whole value after) = answer_to password (asked_of value)
answer_by password Partial = Nothing
answer_by password (Faulty fault) = NotRequest

abbrev pub left_by : List ℕ → Front → List ℕ
left_by bytes (Whole value after) = after
left_by bytes Partial = bytes
left_by bytes (Faulty fault) = bytes

abbrev pub answered : DoorModel → Answer → List ℕ → DoorModel
answered old answer left = record { unread = left; unsent = old.unsent ++ bytes_of answer; state = state_after answer }

-- a byte more came
abbrev pub door_after : List ℕ → DoorModel → ℕ → DoorModel
door_after password old byte =
    let bytes = old.unread ++ byte ∷ [] in
    answered old (answer_by password (front door_limits bytes)) (left_by bytes (front door_limits bytes))

-- A reader's bytes were read, of which the last one is new. A fault that was found is answered.
abbrev pub Reads : List ℕ → List ℕ → Result Answer NoMemory → ReaderModel → Type 0
Reads password bytes (Ok answer) new =
    (answer ≡ answer_by password (front door_limits bytes)) × (new.unread ≡ left_by bytes (front door_limits bytes)) × ((new.fault ≡ None) ⊎ (answer ≡ NotRequest))
Reads password bytes (Err fault) new = Unit {0}

abbrev pub is_shut : DoorState → Bool
is_shut Shut = true
is_shut Open = false
is_shut Over = false

-- bytes came: they are taken one after the other, as long as it is shut, and the others are left
abbrev pub taken : List ℕ → DoorModel → List ℕ → DoorModel × List ℕ
taken password door [] = (door, [])
taken password door (b ∷ bs) = if is_shut door.state then taken password (door_after password door b) bs else (door, b ∷ bs)
