-- The schedule that a script's lines say: a header, and then one event on each line.
-- This project's format. A request stands in it only where its plan has one part. A script that doesn't fit is refused
-- by its lowest bad line, the header's lines among them.
use Rattle.std.specs.Prelude.{◌≡◌, ◌≢◌, ℕ, ◌+◌, ◌%◌, ◌^◌, ◌==◌, nat_le, Bool, ◌&&◌, if◌then◌else◌, List, [], ◌∷◌, length, drop, slice_index_or, Option, None, Some, Result, Ok, Err, codes}
use Rattle.std.specs.List.{find, before_first, after_first, slice_split}
use Rattle.std.specs.Option.{option_map}
use Rattle.std.specs.Str.{bytes_eq}
use Rattle.slot_map.specs.declared.ops.MapOp.{MapOp}
use Rattle.slot_map.specs.declared.ops.MapOp.TheVariants.{SetRange}
use Rattle.slot_map.specs.Map.{node_after}
use Rattle.key_split.specs.PartModel.{PartModel}
use Rattle.key_split.specs.Plan.{plan_of}
use Rattle.key_split.specs.declared.planned.Planned.{Planned}
use Rattle.key_split.specs.declared.planned.Planned.TheVariants.{Local, Parts, Close}
use Rattle.key_split.specs.declared.planned.PlanFault.{PlanFault}
use Rattle.key_split.specs.declared.travel.Ticket.{Ticket}
use Rattle.node_model.specs.Nodes.{HasOwners}
use Rattle.node_model.specs.declared.role.Verdict.{Verdict}
use Rattle.node_model.specs.declared.role.Verdict.TheVariants as verdict
use Rattle.world_laws.specs.declared.event.Event.{Event}
use Rattle.world_laws.specs.declared.event.Event.TheVariants as event
use Rattle.cluster_world.specs.declared.verb.Verb.{Verb}
use Rattle.cluster_world.specs.declared.verb.Verb.TheVariants.{Arrive, Post, Carry, Refuse, Serve, Fetch, Take, Drop, Discard, Import, Migrate, MoveKey, Own, Release, Forget, Stay, Answer}
use Rattle.cluster_world.specs.Script.{Words, ScriptLine, number_below}

-- Numbers of the types that events speak of.

abbrev pub client_in : List ℕ → Option ℕ
client_in word = number_below (2 ^ 32) word

abbrev pub lane_in : List ℕ → Option ℕ
lane_in word = number_below (2 ^ 16) word

abbrev pub link_in : List ℕ → Option ℕ
link_in word = number_below (2 ^ 64) word

abbrev pub node_in : List ℕ → Option ℕ
node_in word = number_below 64 word

abbrev pub slot_in : List ℕ → Option ℕ
slot_in word = number_below 16384 word

-- both things, where both are there
abbrev pub both : {A B C : Type 0} → (A → B → C) → Option A → Option B → Option C
both make None second = None
both make (Some a) None = None
both make (Some a) (Some b) = Some (make a b)

-- CLIENT.PART+PART..: the parts of a run, in order; a client's worker is its number modulo the workers
abbrev pub is_dot : ℕ → Bool
is_dot b = b == 46

abbrev pub is_plus : ℕ → Bool
is_plus b = b == 43

abbrev pub ticket_of : ℕ → ℕ → ℕ → Ticket
ticket_of workers client part = record { worker = client % workers; client = client; part = part }

abbrev pub tickets_of : ℕ → ℕ → Words → Option (List Ticket)
tickets_of workers client [] = Some []
tickets_of workers client (word ∷ words) = both (λ part more. ticket_of workers client part ∷ more) (number_below (2 ^ 64) word) (tickets_of workers client words)

abbrev pub tickets_for : ℕ → Option ℕ → Words → Option (List Ticket)
tickets_for workers None words = None
tickets_for workers (Some client) words = tickets_of workers client words

-- without a dot there is nothing behind it, which is no number
abbrev pub tickets_in : ℕ → List ℕ → Option (List Ticket)
tickets_in workers word = tickets_for workers (client_in (before_first is_dot word)) (slice_split is_plus (after_first is_dot word))

-- Events.

-- the word that begins an event's line
abbrev pub text_of : Verb → List ℕ
text_of Arrive = codes "arrive"
text_of Post = codes "post"
text_of Carry = codes "carry"
text_of Refuse = codes "refuse"
text_of Serve = codes "serve"
text_of Fetch = codes "fetch"
text_of Take = codes "take"
text_of Drop = codes "drop"
text_of Discard = codes "discard"
text_of Import = codes "import"
text_of Migrate = codes "migrate"
text_of MoveKey = codes "movekey"
text_of Own = codes "own"
text_of Release = codes "release"
text_of Forget = codes "forget"
text_of Stay = codes "stay"
text_of Answer = codes "answer"

abbrev pub verbs : List Verb
verbs = Arrive ∷ Post ∷ Carry ∷ Refuse ∷ Serve ∷ Fetch ∷ Take ∷ Drop ∷ Discard ∷ Import ∷ Migrate ∷ MoveKey ∷ Own ∷ Release ∷ Forget ∷ Stay ∷ Answer ∷ []

unfoldable pub verb_of : List ℕ → Option Verb
verb_of word = find (λ verb. bytes_eq word (text_of verb)) verbs

abbrev pub word_at : Words → ℕ → List ℕ
word_at words k = slice_index_or words k []

-- what one word says that stands alone, and two
abbrev pub alone : {A : Type 0} → (List ℕ → Option A) → Words → Option A
alone read args = if length args == 1 then read (word_at args 0) else None

abbrev pub of_one : {A : Type 0} → (A → Event) → (List ℕ → Option A) → Words → Option Event
of_one make read args = option_map make (alone read args)

abbrev pub of_two : {A B : Type 0} → (A → B → Event) → (List ℕ → Option A) → (List ℕ → Option B) → Words → Option Event
of_two make first second args = if length args == 2 then both make (first (word_at args 0)) (second (word_at args 1)) else None

-- the part of a plan that has one alone
abbrev pub only_of : List PartModel → Option PartModel
only_of [] = None
only_of (part ∷ []) = Some part
only_of (part ∷ other ∷ more) = None

abbrev pub only_part : Result Planned PlanFault → Option PartModel
only_part (Err fault) = None
only_part (Ok (Local reply)) = None
only_part (Ok (Parts joining parts)) = only_of parts
only_part (Ok Close) = None

-- CLIENT, and the words of a command whose plan has one part
abbrev pub arrival_in : Words → Option Event
arrival_in args = if nat_le 2 (length args) then both event.Arrive (client_in (word_at args 0)) (only_part (plan_of (drop 1 args))) else None

-- how a node is to answer: by its role, where nothing is said
abbrev pub bare_verdict : List ℕ → Option Verdict
bare_verdict word =
    if bytes_eq word (codes "tryagain") then Some verdict.TryAgain
    else (if bytes_eq word (codes "clusterdown") then Some verdict.ClusterDown else None)

abbrev pub moved_verdict : List ℕ → List ℕ → Option Verdict
moved_verdict word node = if bytes_eq word (codes "moved") then option_map verdict.Moved (node_in node) else None

abbrev pub verdict_in : Words → Option Verdict
verdict_in words =
    if length words == 0 then Some verdict.Plain
    else (if length words == 1 then bare_verdict (word_at words 0)
    else (if length words == 2 then moved_verdict (word_at words 0) (word_at words 1) else None))

abbrev pub serving_in : Words → Option Event
serving_in args = if nat_le 1 (length args) then both event.Serve (link_in (word_at args 0)) (verdict_in (drop 1 args)) else None

-- the event of a verb and the words behind it
abbrev pub event_as : ℕ → Verb → Words → Option Event
event_as workers Arrive args = arrival_in args
event_as workers Post args = of_two event.Post (tickets_in workers) node_in args
event_as workers Carry args = of_two event.Carry lane_in link_in args
event_as workers Refuse args = of_one event.Refuse lane_in args
event_as workers Serve args = serving_in args
event_as workers Fetch args = of_one event.Fetch link_in args
event_as workers Take args = of_one event.Take lane_in args
event_as workers Drop args = of_one event.Drop link_in args
event_as workers Discard args = of_one event.Discard link_in args
event_as workers Import args = of_two event.Import slot_in node_in args
event_as workers Migrate args = of_one event.Migrate slot_in args
event_as workers MoveKey args = of_two event.MoveKey slot_in Some args
event_as workers Own args = of_one event.Own slot_in args
event_as workers Release args = of_one event.Release slot_in args
event_as workers Forget args = of_one event.Forget slot_in args
event_as workers Stay args = of_one event.Stay slot_in args
event_as workers Answer args = of_one event.Answer client_in args

abbrev pub event_with : ℕ → Option Verb → Words → Option Event
event_with workers None args = None
event_with workers (Some verb) args = event_as workers verb args

-- the event that a line says
unfoldable pub event_of : ℕ → ScriptLine → Option Event
event_of workers None = None
event_of workers (Some words) = event_with workers (verb_of (word_at words 0)) (drop 1 words)

-- The header.

-- the words behind a line's name, where it has this name and `count` words behind it
abbrev pub args_of : List ℕ → ℕ → ScriptLine → Option Words
args_of name count None = None
args_of name count (Some words) = if (length words == count + 1) && bytes_eq (word_at words 0) name then Some (drop 1 words) else None

-- `nodes N`
abbrev pub nodes_in : Option Words → Option ℕ
nodes_in None = None
nodes_in (Some args) = number_below (2 ^ 8) (word_at args 0)

unfoldable pub nodes_of : ScriptLine → Option ℕ
nodes_of line = nodes_in (args_of (codes "nodes") 1 line)

-- `workers N`: 1 to 64
abbrev pub from_one : Option ℕ → Option ℕ
from_one None = None
from_one (Some n) = if nat_le 1 n then Some n else None

abbrev pub workers_in : Option Words → Option ℕ
workers_in None = None
workers_in (Some args) = from_one (number_below 65 (word_at args 0))

unfoldable pub workers_of : ScriptLine → Option ℕ
workers_of line = workers_in (args_of (codes "workers") 1 line)

-- `owner LO HI NODE`
abbrev pub owner_with : Option ℕ → Option ℕ → Option ℕ → Option MapOp
owner_with None last owner = None
owner_with (Some first) None owner = None
owner_with (Some first) (Some last) None = None
owner_with (Some first) (Some last) (Some owner) = Some (SetRange first last owner)

abbrev pub owner_in : Option Words → Option MapOp
owner_in None = None
owner_in (Some args) = owner_with (slot_in (word_at args 0)) (slot_in (word_at args 1)) (node_in (word_at args 2))

unfoldable pub owner_of : ScriptLine → Option MapOp
owner_of line = owner_in (args_of (codes "owner") 3 line)

-- The whole.

-- a line by its place, from 0: one that is not there says nothing
abbrev pub line_at : List ScriptLine → ℕ → ScriptLine
line_at lines k = slice_index_or lines k None

-- what the lines say from the front on, up to the first that says no such thing
abbrev pub put_before : {X : Type 0} → Option X → List X → List X
put_before None xs = []
put_before (Some x) xs = x ∷ xs

abbrev pub said_first : {X : Type 0} → (ScriptLine → Option X) → List ScriptLine → List X
said_first say [] = []
said_first say (line ∷ lines) = put_before (say line) (said_first say lines)

-- what each line says, where the first has this number; or the number of the first that says no such thing
abbrev pub said_with : {X : Type 0} → Option X → ℕ → Result (List X) ℕ → Result (List X) ℕ
said_with None number more = Err number
said_with (Some x) number (Err bad) = Err bad
said_with (Some x) number (Ok xs) = Ok (x ∷ xs)

abbrev pub all_said : {X : Type 0} → (ScriptLine → Option X) → ℕ → List ScriptLine → Result (List X) ℕ
all_said say number [] = Ok []
all_said say number (line ∷ lines) = said_with (say line) number (all_said say (number + 1) lines)

-- `nodes N`, `workers N`, and one or more `owner LO HI NODE`
pub record HasHeader (lines : List ScriptLine) (nodes workers : ℕ) (owners : List MapOp) : Type 0 where
  pub first : nodes_of (line_at lines 0) ≡ Some nodes
  pub second : workers_of (line_at lines 1) ≡ Some workers
  pub further : said_first owner_of (drop 2 lines) ≡ owners
  pub some : owners ≢ []

-- the events that the lines behind the header say, or the number of the first line that says none
abbrev pub events_behind : List ScriptLine → ℕ → List MapOp → Result (List Event) ℕ
events_behind lines workers owners = all_said (event_of workers) (length owners + 3) (drop (length owners + 2) lines)

-- the lowest line that is bad, from 1: it does not fit, or it is the one behind owners that no cluster begins with, or the one behind the last line where no
-- owner came
pub data IsBadAt : List ScriptLine → ℕ → Type 0 where
  no_nodes : (lines : List ScriptLine) → nodes_of (line_at lines 0) ≡ None → IsBadAt lines 1
  no_workers : (lines : List ScriptLine) (nodes : ℕ) → nodes_of (line_at lines 0) ≡ Some nodes → workers_of (line_at lines 1) ≡ None → IsBadAt lines 2
  no_owner : (lines : List ScriptLine) (nodes workers : ℕ) → nodes_of (line_at lines 0) ≡ Some nodes → workers_of (line_at lines 1) ≡ Some workers
      → said_first owner_of (drop 2 lines) ≡ [] → IsBadAt lines 3
  bad_owners : (lines : List ScriptLine) (nodes workers : ℕ) (owners : List MapOp) → HasHeader lines nodes workers owners → (HasOwners nodes (node_after owners) → ⊥)
      → IsBadAt lines (length owners + 3)
  no_event : (lines : List ScriptLine) (nodes workers : ℕ) (owners : List MapOp) (number : ℕ) → HasHeader lines nodes workers owners → HasOwners nodes (node_after owners)
      → events_behind lines workers owners ≡ Err number → IsBadAt lines number

-- what a script asks for
pub record Schedule : Type 0 where
  pub nodes : ℕ
  pub workers : ℕ
  pub owners : List MapOp
  pub events : List Event

-- the lines are a script that says so
pub record Says (lines : List ScriptLine) (s : Schedule) : Type 0 where
  pub header : HasHeader lines s.nodes s.workers s.owners
  pub owned : HasOwners s.nodes (node_after s.owners)
  pub events : events_behind lines s.workers s.owners ≡ Ok s.events
