-- Runs of `simulate`, put together.
use Rattle.std.proofs.Common.{◌≡◌, inl, inr, ℕ, ◌+◌, ◌-◌, List, ◌++◌, length, drop, Result, Ok, Err, sym, ap, ◌∙◌, subst, arith}
use Rattle.slot_map.specs.declared.ops.MapOp.{MapOp}
use Rattle.world_laws.specs.State.{WorldModel}
use Rattle.world_laws.specs.declared.event.Event.{Event}
use Rattle.cluster_world.specs.declared.script_fault.ScriptFault.{ScriptFault}
use Rattle.cluster_world.specs.declared.script_fault.ScriptFault.TheVariants as script
use Rattle.cluster_world.specs.declared.header.Header.{Header}
use Rattle.cluster_world.specs.declared.input.Input.{Input}
use Rattle.cluster_world.specs.declared.input.Input.TheVariants.{Whole, TooLong, Failed}
use Rattle.cluster_world.specs.declared.outcome.Outcome.{Outcome}
use Rattle.cluster_world.specs.declared.fault.RunFault.{RunFault}
use Rattle.cluster_world.specs.Steps.{Runs}
use Rattle.cluster_world.specs.Outcomes.{Opens, Reports, WritesInput, WritesScript}
use Rattle.cluster_world.specs.Reading.{IsInput, ReadsEvents, ReadsHeader}
use Rattle.cluster_world.specs.Report.{bad_line, refused_line, state_text}
use Rattle.cluster_world.specs.Schedule.{IsBadAt, Says, Schedule, all_said, event_of, events_behind}
use Rattle.cluster_world.specs.Schedule.IsBadAt.{bad_owners, no_event}
use Rattle.cluster_world.specs.Script.{lines_of}
use Rattle.cluster_world.specs.Simulate.{Writes, WritesFor}
use Rattle.cluster_world.specs.Simulate.Writes.{bad, ran, refused}
use Rattle.cluster_world.specs.Watched.{WatchedReaderModel}

pub bad_writes : (input : List ℕ) (number : ℕ) (text : List ℕ) → IsBadAt (lines_of input) number → text ≡ bad_line number → Writes input 1 text
bad_writes input number text where' is = subst (Writes input 1) (sym is) (bad input number where')

-- what is written for what was read is written for the input
pub written : {R : Type 0} (limit : ℕ) (input : List ℕ) (before : ℕ) (now : WatchedReaderModel R) (read : Input) (outcome : Outcome) → IsInput limit input before now read
    → WritesInput read outcome → WritesFor limit input before now outcome.status outcome.text.items
written limit input before now (Whole bytes) outcome is writes = inl (is.1, is.2, subst (λ i. Writes i outcome.status outcome.text.items) is.0 writes)
written limit input before now TooLong outcome is writes = inr (inl (is, writes.0, writes.1))
written limit input before now Failed outcome is writes = inr (inr (is, writes.0, writes.1))

-- the lines behind the header
abbrev pub said_behind : Header → Result (List Event) ℕ
said_behind header = all_said (event_of header.workers) (header.count + 1) (lines_of header.rest.now)

behind : (input : List ℕ) (header : Header) (owners : List MapOp) → header.count ≡ length owners + 2 → lines_of header.rest.now ≡ drop (length owners + 2) (lines_of input)
    → events_behind (lines_of input) header.workers owners ≡ said_behind header
behind input header owners count rest =
    let number : length owners + 3 ≡ header.count + 1 = omega (arith, count) in
    ap (λ n. all_said (event_of header.workers) n (drop (length owners + 2) (lines_of input))) number
    ∙ ap (λ ls. all_said (event_of header.workers) (header.count + 1) ls) (sym rest)

pub bad_owned : (input : List ℕ) (header : Header) (number : ℕ) → ReadsHeader input (Ok header) → Opens header (Err (script.BadLine number)) → IsBadAt (lines_of input) number
bad_owned input header number read opens =
    let owners = read.0 in
    let at : number ≡ length owners + 3 = let n = opens.0 in let m = read.3 in omega (arith, n, m) in
    subst (IsBadAt (lines_of input)) (sym at) (bad_owners (lines_of input) header.nodes header.workers owners read.1 (opens.1 owners read.2))

pub bad_event : (input : List ℕ) (header : Header) (w : WorldModel) (number : ℕ) → ReadsHeader input (Ok header) → Opens header (Ok w) → said_behind header ≡ Err number
    → IsBadAt (lines_of input) number
bad_event input header w number read opens said =
    let owners = read.0 in
    no_event (lines_of input) header.nodes header.workers owners number read.1 (opens owners read.2).0 (behind input header owners read.3 read.4 ∙ said)

-- what a script asks for
abbrev asked : Header → List MapOp → List Event → Schedule
asked header owners events = record { nodes = header.nodes; workers = header.workers; owners = owners; events = events }

says : (input : List ℕ) (header : Header) (w : WorldModel) (events : List Event) (read : ReadsHeader input (Ok header)) → Opens header (Ok w) → said_behind header ≡ Ok events
    → Says (lines_of input) (asked header (read.0) events)
says input header w events read opens said = record {
  header = read.1;
  owned = (opens (read.0) read.2).0;
  events = behind input header (read.0) read.3 read.4 ∙ said;
}

pub played : {U : Type 0} (input : List ℕ) (header : Header) (first last : WorldModel) (events : List Event) (result : Result U RunFault) (outcome : Outcome)
    → ReadsHeader input (Ok header) → Opens header (Ok first) → said_behind header ≡ Ok events → Runs first events result last → Reports last result outcome
    → Writes input outcome.status outcome.text.items
played input header first last events (Ok u) outcome read opens said run reports =
    let s = asked header (read.0) events in
    let script' = says input header first events read opens said in
    subst (λ status. Writes input status outcome.text.items) (sym reports.0)
    (subst (Writes input 0) (sym reports.1) (ran input s first last script' ((opens (read.0) read.2).1) run))
played input header first last events (Err fault) outcome read opens said run reports =
    let s = asked header (read.0) events in
    let script' = says input header first events read opens said in
    let place = fault.number - 1 in
    let number : place + 1 ≡ fault.number = let some = run.1 in omega (arith, some) in
    let text : state_text last ++ refused_line (place + 1) fault.why ≡ outcome.text.items = ap (λ n. state_text last ++ refused_line n fault.why) number ∙ sym reports.1 in
    subst (λ status. Writes input status outcome.text.items) (sym reports.0)
    (subst (Writes input 1) text (refused input s first last place run.0 fault.why script' ((opens (read.0) read.2).1) run.2 run.3 run.4))

-- a script that has no world, or no events, for a fault
pub not_opened : (input : List ℕ) (header : Header) (fault : ScriptFault) (result : Result Outcome ScriptFault) → ReadsHeader input (Ok header) → Opens header (Err fault)
    → result ≡ Err fault → WritesScript input result
not_opened input header (script.BadLine number) result read opens is = subst (WritesScript input) (sym is) (bad_owned input header number read opens)
not_opened input header script.NoMemory result read opens is = subst (WritesScript input) (sym is) tt

pub not_read : (input : List ℕ) (header : Header) (w : WorldModel) (fault : ScriptFault) (result : Result Outcome ScriptFault) → ReadsHeader input (Ok header) → Opens header (Ok w)
    → ReadsEvents (said_behind header) (Err fault) → result ≡ Err fault → WritesScript input result
not_read input header w (script.BadLine number) result read opens said is = subst (WritesScript input) (sym is) (bad_event input header w number read opens said)
not_read input header w script.NoMemory result read opens said is = subst (WritesScript input) (sym is) tt
