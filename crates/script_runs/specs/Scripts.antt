-- What the lines of an input say: the clients' requests, and the slots that move.
-- This project's format: `client`, a request's words, `move SLOT NODE`, `recall SLOT NODE`, each a line.
use Rattle.std.specs.Prelude.{◌≡◌, ◌+◌, ◌==◌, ◌++◌, ℕ, Bool, List, [], ◌∷◌, length, map, Option, Some, None, Result, Ok, Err, codes, if◌then◌else◌}
use Rattle.std.specs.Option.{option_map}
use Rattle.std.specs.Str.{bytes_eq}
use Rattle.resp_wire.specs.Canonical.{canonical}
use Rattle.resp_wire.specs.Data.{array, bulk, items_of}
use Rattle.cluster_world.specs.Schedule.{both, node_in, slot_in, word_at}
use Rattle.cluster_world.specs.Script.{Words, ScriptLine}
use Rattle.local_cluster.specs.declared.step.MoveStep.{MoveStep}
use Rattle.local_cluster.specs.declared.step.MoveStep.TheVariants.{Import, Migrate, MoveRest, Own, Release, Forget, Stay}
use Rattle.script_runs.specs.declared.scripts.fault.ReadFault.{ReadFault}
use Rattle.script_runs.specs.declared.scripts.fault.ReadFault.TheVariants.{NoMemory, BadLine}
use Rattle.script_runs.specs.declared.scripts.line.Scripts.{Scripts}
use Rattle.script_runs.specs.declared.scripts.line.Kind.{Kind}
use Rattle.script_runs.specs.declared.scripts.line.Kind.TheVariants.{Client, Move, Recall, Request}

-- what an input asks to be run: the bytes of each client, in order, and the steps of all moves
pub record Task : Type 0 where
  pub clients : List (List ℕ)
  pub moves : List MoveStep

-- what a line with this first word is
abbrev pub kind_of : List ℕ → Kind
kind_of word =
    if bytes_eq word (codes "client") then Client
    else (if bytes_eq word (codes "move") then Move
    else (if bytes_eq word (codes "recall") then Recall else Request))

-- a slot moves to a node, or its move is called back
abbrev pub move_steps : ℕ → ℕ → List MoveStep
move_steps slot node = Import slot node ∷ Migrate slot ∷ MoveRest slot ∷ Own slot ∷ Release slot ∷ []

abbrev pub recall_steps : ℕ → ℕ → List MoveStep
recall_steps slot node = Import slot node ∷ Migrate slot ∷ Forget slot ∷ Stay slot ∷ []

-- the bytes of a request: an array of its words
unfoldable pub spelled : Words → List ℕ
spelled words = canonical (array (items_of (map bulk words)))

-- bytes behind those of the last client, where there is one
abbrev pub add_last : List (List ℕ) → List ℕ → Option (List (List ℕ))
add_last [] bytes = None
add_last (last ∷ []) bytes = Some ((last ++ bytes) ∷ [])
add_last (first ∷ next ∷ more) bytes = option_map (λ later. first ∷ later) (add_last (next ∷ more) bytes)

abbrev pub with_clients : Task → List (List ℕ) → Task
with_clients s clients = record s { clients = clients }

abbrev pub with_moves : Task → List MoveStep → Task
with_moves s steps = record s { moves = s.moves ++ steps }

-- SLOT NODE, behind the first word
abbrev pub places_in : Words → Option (ℕ × ℕ)
places_in words = if length words == 3 then both (λ slot node. (slot, node)) (slot_in (word_at words 1)) (node_in (word_at words 2)) else None

-- with one more line of this kind, where it fits
abbrev pub with_kind : Task → Kind → Words → Option Task
with_kind t Client words = if length words == 1 then Some (with_clients t (t.clients ++ [] ∷ [])) else None
with_kind t Move words = option_map (λ places. with_moves t (move_steps places.0 places.1)) (places_in words)
with_kind t Recall words = option_map (λ places. with_moves t (recall_steps places.0 places.1)) (places_in words)
with_kind t Request words = option_map (with_clients t) (add_last t.clients (spelled words))

-- with one more line, where it fits
unfoldable pub with_words : Task → Words → Option Task
with_words t words = with_kind t (kind_of (word_at words 0)) words

abbrev pub with_line : Task → ScriptLine → Option Task
with_line t None = None
with_line t (Some words) = with_words t words

abbrev pub nothing : Task
nothing = record { clients = []; moves = [] }

-- what the lines say behind these, of which the first has this number; or the number of the first that does not fit
abbrev pub task_from : ℕ → Task → List ScriptLine → Result Task ℕ
task_from number t [] = Ok t
task_from number t (line ∷ lines) = elim (with_line t line) [
  | Some next ↦ task_from (number + 1) next lines
  | None ↦ Err number
]

abbrev pub task_of : Scripts → Task
task_of s = record { clients = s.clients.items; moves = s.moves.items }

-- it is the wanted one where the line fits, and there is none where it does not
abbrev pub where_fits : Bool → Task → Option Task
where_fits fits t = if fits then Some t else None

-- the scripts that the lines say, or the number of the first that does not fit
abbrev pub ReadsTask : Result Task ℕ → Result Scripts ReadFault → Type 0
ReadsTask said (Ok scripts) = said ≡ Ok (task_of scripts)
ReadsTask said (Err (BadLine number)) = said ≡ Err number
ReadsTask said (Err NoMemory) = Unit {0}
