-- A run as a block: MULTI, its commands, EXEC, and what the replies tell the commands.
-- Redis documentation, "Transactions"; Redis Cluster specification, "MOVED Redirection", "ASK redirection".
-- MULTI is answered +OK, a command +QUEUED or an error, EXEC an array with a reply for each command: they were executed in order
-- and at once. Or EXEC is answered an error: none was executed. Any other answer is none that a node gives.
use Rattle.std.specs.Prelude.{◌≡◌, ◌<◌, ◌+◌, ◌++◌, ◌&&◌, Result, Ok, Err, reverse, List, [], ◌∷◌, ℕ, Bool, true, false, Option, Some, None, codes, length, map, take, replicate, nat_eq, nat_lt, slice_get, if◌then◌else◌, IsTrue}
use Rattle.std.specs.List.{find, list_all}
use Rattle.std.specs.Option.{ForSome}
use Rattle.std.specs.Str.{bytes_eq}
use Rattle.resp_wire.specs.Seen.{data_of}
use Rattle.resp_wire.specs.declared.fault.NoMemory as resp
use Rattle.resp_wire.specs.declared.value.Value.{Value}
use Rattle.resp_wire.specs.declared.value.Value.TheVariants.{Simple, Error, Integer, Bulk, NullBulk, Array, NullArray}
use Rattle.node_link.specs.declared.block_told.BlockTold.{BlockTold}
use Rattle.node_link.specs.declared.block_told.BlockTold.TheVariants.{Each, Same}
use Rattle.node_link.specs.declared.port.PortFault.{PortFault}
use Rattle.node_link.specs.declared.port.PortFault.TheVariants.{NoMemory, Failed, BadWire}
use Rattle.node_link.specs.Line.{first_word}

-- the line of text, not of an error
abbrev pub is_text : List ℕ → Value → Bool
is_text text (Simple line) = bytes_eq line text
is_text text value = false

-- an error whose first word is this one
abbrev pub is_error_with : List ℕ → Value → Bool
is_error_with word (Error line) = bytes_eq (first_word line) word
is_error_with word value = false

abbrev pub is_moved : Value → Bool
is_moved value = is_error_with (codes "MOVED") value

-- the error of this very line
abbrev pub is_error_of : List ℕ → Value → Bool
is_error_of line (Error other) = bytes_eq other line
is_error_of line value = false

abbrev pub is_error : Value → Bool
is_error (Error line) = true
is_error value = false

-- a command's reply between MULTI and EXEC
abbrev pub is_queued : Value → Bool
is_queued (Error line) = true
is_queued value = is_text (codes "QUEUED") value

-- the reply to EXEC behind `count` commands
abbrev pub ends_block : ℕ → Value → Bool
ends_block count (Error line) = true
ends_block count (Array items) = nat_eq (length items) count
ends_block count value = false

abbrev pub is_end : ℕ → Option Value → Bool
is_end count None = false
is_end count (Some value) = ends_block count value

-- whether these are replies to a block of `count` commands, one at least: MULTI's, those of the commands, and EXEC's
abbrev pub is_answer : ℕ → List Value → Bool
is_answer count [] = false
is_answer count (begun ∷ later) =
    nat_lt 0 count && is_text (codes "OK") begun && list_all is_queued (take count later) && is_end count (slice_get later count)

-- the one ASK that all commands got, and none where they did not
abbrev pub is_ask_to_all : Value → List Value → Bool
is_ask_to_all (Error line) later = bytes_eq (first_word line) (codes "ASK") && list_all (is_error_of line) later
is_ask_to_all value later = false

abbrev pub common_ask : List Value → Option Value
common_ask [] = None
common_ask (first ∷ later) = if is_ask_to_all first later then Some first else None

-- where none was executed: MOVED where EXEC or one of the commands got it; else ASK where every command got it, to one node
abbrev pub redirect_of : List Value → Value → Option Value
redirect_of queued why = elim (find is_moved (why ∷ queued)) as (λ _. Option Value) [
  | Some moved ↦ Some moved
  | None ↦ common_ask queued
]

-- else they go again: one that went wrong gets its own error when it goes alone
abbrev pub told_of_none : List Value → Value → Value
told_of_none queued why = elim (redirect_of queued why) as (λ _. Value) [
  | Some redirect ↦ redirect
  | None ↦ Error (codes "TRYAGAIN")
]

-- the replies that the commands are given, of those between MULTI and EXEC and of EXEC's
abbrev pub IsToldByExec : List Value → Value → List Value → Type 0
IsToldByExec queued (Array items) told = (map data_of told ≡ items) × (length items ≡ length queued)
IsToldByExec queued (Error line) told = told ≡ replicate (length queued) (told_of_none queued (Error line))
IsToldByExec queued (Simple line) told = ⊥
IsToldByExec queued (Integer number) told = ⊥
IsToldByExec queued (Bulk bytes) told = ⊥
IsToldByExec queued NullBulk told = ⊥
IsToldByExec queued NullArray told = ⊥

-- what the replies to a block of `count` commands, each at its place, give the commands
abbrev pub IsToldByBlock : ℕ → List Value → List Value → Type 0
IsToldByBlock count replies told =
    (begun : Value) × (queued : List Value) × (exec : Value) × (replies ≡ begun ∷ (queued ++ exec ∷ [])) × (length queued ≡ count)
    × IsTrue (is_text (codes "OK") begun) × IsTrue (list_all is_queued queued) × IsToldByExec queued exec told

-- behind `count` commands EXEC was answered an error: none of them was executed
abbrev pub IsRefusedBlock : ℕ → List Value → Type 0
IsRefusedBlock count replies = (is_answer count replies ≡ true) × ForSome (slice_get replies (count + 1)) (λ exec. is_error exec ≡ true)

-- the values that commands are told
abbrev pub told_values : BlockTold → List Value
told_values (Each values) = reverse values.items
told_values (Same value count) = replicate count value

-- the first of these values is given, where there is one; they stay where memory is wanting
abbrev pub GivesNext : List Value → Result (Option Value) resp.NoMemory → List Value → Type 0
GivesNext old (Ok (Some value)) new = old ≡ value ∷ new
GivesNext old (Ok None) new = (old ≡ []) × (new ≡ [])
GivesNext old (Err fault) new = new ≡ old

-- taking what the replies to a block tell its commands: they stay where memory is wanting, which it can be only where none was
-- executed, and where they are no replies to such a block
abbrev pub BlockOutcome : ℕ → List Value → Result BlockTold PortFault → List Value → Type 0
BlockOutcome count old (Ok told) new = IsToldByBlock count old (told_values told) × (new ≡ []) × (0 < length (told_values told))
BlockOutcome count old (Err NoMemory) new = (new ≡ old) × IsRefusedBlock count old
BlockOutcome count old (Err BadWire) new = (new ≡ old) × (is_answer count old ≡ false)
BlockOutcome count old (Err Failed) new = ⊥
