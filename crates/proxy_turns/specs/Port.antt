-- What one call on a client's port moves, by its answer.
-- As node_link's Stream.antt, for clients. The relation of a socket may hold of anything; Script.antt has a port in
-- memory whose relation says all.
use Rattle.std.specs.Prelude.{◌≡◌, ◌≤◌, ⊤, List, [], ◌∷◌, ℕ, length, take, Result, Ok, Err}
use Rattle.key_split.specs.declared.travel.Ticket.{Ticket}
use Rattle.key_split.specs.declared.travel.Ended.{Ended}
use Rattle.node_link.specs.declared.stream.Flow.{Flow}
use Rattle.node_link.specs.declared.stream.Flow.TheVariants.{Bytes, Nothing, Gone}
use Rattle.resp_wire.specs.declared.fault.NoMemory.{NoMemory}

-- What a port says of its calls.
pub record Moves (C : Type 0) : Type 1 where
  -- from one state of it to another these bytes were pulled, these were pushed, and these ends were noted
  pub between : C → List ℕ → List ℕ → List (Ticket × Ended) → C → Type 0
  -- a call that left it so answered that the client is gone
  pub gone : C → Type 0

-- a call moved no bytes, and may move some later
abbrev pub MovesNone : Result Flow NoMemory → Type 0
MovesNone (Ok (Bytes n)) = n ≡ 0
MovesNone (Ok Nothing) = ⊤
MovesNone (Ok Gone) = ⊥
MovesNone (Err refused) = ⊥

module _ {C : Type 0} (moves : Moves C) where
  -- the bytes at the front of the buffer were pulled, or the client is gone
  abbrev pub PullOutcome : C → List ℕ → Result Flow NoMemory → C → Type 0
  PullOutcome old buffer (Ok (Bytes n)) new = (n ≤ length buffer) × moves.between old (take n buffer) [] [] new
  PullOutcome old buffer (Ok Nothing) new = moves.between old [] [] [] new
  PullOutcome old buffer (Ok Gone) new = moves.between old [] [] [] new × moves.gone new
  PullOutcome old buffer (Err refused) new = moves.between old [] [] [] new

  -- the bytes at the front were pushed, or the client is gone
  abbrev pub PushOutcome : C → List ℕ → Result Flow NoMemory → C → Type 0
  PushOutcome old bytes (Ok (Bytes n)) new = (n ≤ length bytes) × moves.between old [] (take n bytes) [] new
  PushOutcome old bytes (Ok Nothing) new = moves.between old [] [] [] new
  PushOutcome old bytes (Ok Gone) new = moves.between old [] [] [] new × moves.gone new
  PushOutcome old bytes (Err refused) new = moves.between old [] [] [] new

  -- the end was noted
  abbrev pub NoteOutcome : C → Ticket × Ended → Result Unit NoMemory → C → Type 0
  NoteOutcome old noted (Ok _) new = moves.between old [] [] (noted ∷ []) new
  NoteOutcome old noted (Err refused) new = moves.between old [] [] [] new
