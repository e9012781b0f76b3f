-- What the calls that read a script give.
-- `simulate` and `local` share the calls that read an input and its lines.
use Rattle.std.specs.Prelude.{◌≡◌, ◌<◌, ◌≤◌, ℕ, ◌+◌, List, [], ◌∷◌, ◌++◌, Option, None, Some, Result, Ok, Err, Vec, drop, length}
use Rattle.std.specs.declared.alloc.Global.{Global}
use Rattle.slot_map.specs.declared.ops.MapOp.{MapOp}
use Rattle.slot_map.specs.Map.{MapShows}
use Rattle.world_laws.specs.declared.event.Event.{Event}
use Rattle.cluster_world.specs.declared.input.Input.{Input}
use Rattle.cluster_world.specs.declared.input.Input.TheVariants.{Whole, TooLong, Failed}
use Rattle.cluster_world.specs.declared.input.Came.{Came}
use Rattle.cluster_world.specs.declared.input.Came.TheVariants as came
use Rattle.std.specs.Io.KnownBytes.{Consumes, IsAtEnd}
use Rattle.cluster_world.specs.declared.script.LineRead.{LineRead}
use Rattle.cluster_world.specs.declared.script_fault.ScriptFault.{ScriptFault}
use Rattle.cluster_world.specs.declared.script_fault.ScriptFault.TheVariants.{NoMemory, BadLine}
use Rattle.cluster_world.specs.declared.header.Header.{Header}
use Rattle.cluster_world.specs.Script.{ScriptLine, lines_of}
use Rattle.cluster_world.specs.Schedule.{HasHeader, IsBadAt, line_at}
use Rattle.cluster_world.specs.Watched.{IsTooLong, WatchedReaderModel}
use Rattle.cluster_world.specs.declared.watched.LastRead.TheVariants as last

-- the whole input, whose end was seen; or it is too long; or a read failed
abbrev pub IsInput : {R : Type 0} → ℕ → List ℕ → ℕ → WatchedReaderModel R → Input → Type 0
IsInput limit input before now (Whole bytes) = (bytes.items ≡ input) × (length input ≤ limit) × (now.last ≡ last.End)
IsInput limit input before now TooLong = IsTooLong limit input before now
IsInput limit input before now Failed = now.last ≡ last.Failure

-- what was read whole is within the limit
abbrev pub IsShort : Input → Type 0
IsShort (Whole bytes) = length bytes.items ≤ 1048576
IsShort TooLong = Unit {0}
IsShort Failed = Unit {0}

-- one read: some bytes came, or the end, or it failed
abbrev pub TakesPiece : {R : Type 0} → (R → Option (List ℕ)) → WatchedReaderModel R → List ℕ → Came → WatchedReaderModel R → List ℕ → Type 0
TakesPiece remaining before old came.Some now new =
    (piece : List ℕ) × Consumes (remaining before.reader) (remaining now.reader) piece × (new ≡ old ++ piece) × (0 < length piece)
    × (now.reads ≡ before.reads + 1) × (now.last ≡ last.Bytes)
TakesPiece remaining before old came.End now new =
    Consumes (remaining before.reader) (remaining now.reader) [] × IsAtEnd (remaining now.reader) × (new ≡ old) × (now.last ≡ last.End)
TakesPiece remaining before old came.Failure now new = now.last ≡ last.Failure

-- the first line is taken off, or there is none
abbrev pub ReadsLine : List ℕ → Option LineRead → Type 0
ReadsLine input None = lines_of input ≡ []
ReadsLine input (Some read) = (lines_of input ≡ read.words ∷ lines_of read.rest.now) × (length read.rest.now < length input)

-- the events of a number of lines, or the number of the first that says none
abbrev pub ReadsEvents : Result (List Event) ℕ → Result (Vec Event Global) ScriptFault → Type 0
ReadsEvents said (Ok events) = said ≡ Ok events.items
ReadsEvents said (Err (BadLine number)) = said ≡ Err number
ReadsEvents said (Err NoMemory) = Unit {0}

-- the first line says this number, and these follow it
abbrev pub SaysFirst : (ScriptLine → Option ℕ) → List ScriptLine → ℕ → List ScriptLine → Type 0
SaysFirst said lines number rest = (line : ScriptLine) × (lines ≡ line ∷ rest) × (Some number ≡ said line)

-- it says none, and is the bad line of this place; or there is no memory
abbrev pub SaysNone : (ScriptLine → Option ℕ) → ℕ → List ScriptLine → ScriptFault → Type 0
SaysNone said place lines (BadLine number) = (number ≡ place) × (said (line_at lines 0) ≡ None)
SaysNone said place lines NoMemory = Unit {0}

-- the header of the lines, and what stands behind it; or where they are bad
abbrev pub ReadsHeader : List ℕ → Result Header ScriptFault → Type 0
ReadsHeader input (Ok header) =
    (owners : List MapOp) × HasHeader (lines_of input) header.nodes header.workers owners × MapShows header.owners owners
    × (header.count ≡ length owners + 2) × (lines_of header.rest.now ≡ drop (length owners + 2) (lines_of input))
ReadsHeader input (Err (BadLine number)) = IsBadAt (lines_of input) number
ReadsHeader input (Err NoMemory) = Unit {0}
