-- A client's port over memory.
-- For tests and for `local`. It is gone exactly where it holds every reply owed to its bytes.
use Rattle.std.specs.Prelude.{◌≡◌, ◌≢◌, ◌++◌, ℕ, List, [], Option, Some, None, Result, Ok, Err, length, min}
use Rattle.key_split.specs.declared.travel.Ticket.{Ticket}
use Rattle.key_split.specs.declared.travel.Ended.{Ended}
use Rattle.node_link.specs.declared.stream.Flow.{Flow}
use Rattle.node_link.specs.declared.stream.Flow.TheVariants.{Bytes, Nothing, Gone}
use Rattle.resp_wire.specs.declared.fault.NoMemory.{NoMemory}
use Rattle.proxy_turns.specs.Owing.{Owes, Holds}
use Rattle.proxy_turns.specs.Port.{Moves}

-- Its client's number; its bytes, those that were pulled and those that were not; the bytes that were pushed, and the ends
-- that were noted.
pub record ScriptModel : Type 0 where
  pub client : ℕ
  pub pulled : List ℕ
  pub left : List ℕ
  pub pushed : List ℕ
  pub noted : List (Ticket × Ended)

-- nothing has happened
abbrev pub unplayed : ℕ → List ℕ → ScriptModel
unplayed client bytes = record { client = client; pulled = []; left = bytes; pushed = []; noted = [] }

-- these bytes leave the front of what is left, these are pushed, and these ends are noted
abbrev pub Plays : ScriptModel → List ℕ → List ℕ → List (Ticket × Ended) → ScriptModel → Type 0
Plays old pulled pushed noted new =
    (old.left ≡ pulled ++ new.left)
    × (new ≡ record old { pulled = old.pulled ++ pulled; left = new.left; pushed = old.pushed ++ pushed; noted = old.noted ++ noted })

-- it holds each reply that is owed to its bytes
abbrev pub IsScriptServed : ScriptModel → Type 0
IsScriptServed script = (owed : ℕ) × Owes 0 (script.pulled ++ script.left) owed × Holds owed script.pushed

-- it is gone only there
abbrev pub script_moves : Moves ScriptModel
script_moves = record { between = Plays; gone = IsScriptServed }

-- What a pull answers: gone exactly where each reply that is owed is held; until then as many bytes as are left and fit in,
-- and nothing where none are left.
abbrev pub PullAnswer : ScriptModel → List ℕ → Result Flow NoMemory → Type 0
PullAnswer old buffer (Ok (Bytes n)) = (IsScriptServed old → ⊥) × (old.left ≢ []) × (n ≡ min (length buffer) (length old.left))
PullAnswer old buffer (Ok Nothing) = (IsScriptServed old → ⊥) × (old.left ≡ [])
PullAnswer old buffer (Ok Gone) = IsScriptServed old
PullAnswer old buffer (Err refused) = Unit {0}

-- all bytes are taken
abbrev pub PushAnswer : List ℕ → Result Flow NoMemory → Type 0
PushAnswer bytes (Ok (Bytes n)) = n ≡ length bytes
PushAnswer bytes (Ok Nothing) = ⊥
PushAnswer bytes (Ok Gone) = ⊥
PushAnswer bytes (Err refused) = Unit {0}

-- what is owed to the bytes, if that was counted
abbrev pub IsOwed : Option ℕ → List ℕ → Type 0
IsOwed None bytes = Unit {0}
IsOwed (Some owed) bytes = Owes 0 bytes owed
