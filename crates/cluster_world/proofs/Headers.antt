-- Headers of scripts, a line after another.
use Rattle.std.proofs.Common.{◌≡◌, ◌≢◌, ℕ, zero, suc, ◌+◌, ◌<◌, ◌≤◌, List, [], ◌∷◌, ◌++◌, length, drop, Option, Some, None, Result, Ok, Err, refl, sym, ap, ◌∙◌, subst, arith, append_assoc}
use Rattle.std.proofs.lemmas.List.{append-nil, length-append}
use Rattle.std.proofs.Math.Seq.{drop-nil}
use Rattle.slot_map.specs.declared.ops.MapOp.{MapOp}
use Rattle.slot_map.specs.Map.{MapShows}
use Rattle.world_laws.specs.declared.event.Event.{Event}
use Rattle.cluster_world.specs.Reading.{ReadsHeader, SaysFirst, SaysNone}
use Rattle.cluster_world.specs.declared.script_fault.ScriptFault.{ScriptFault}
use Rattle.cluster_world.specs.declared.script_fault.ScriptFault.TheVariants.{BadLine, NoMemory}
use Rattle.cluster_world.specs.Script.{ScriptLine, lines_of}
use Rattle.cluster_world.specs.Schedule.{HasHeader, IsBadAt, all_said, event_of, line_at, nodes_of, owner_of, put_before, said_first, said_with, workers_of}
use Rattle.cluster_world.specs.Schedule.IsBadAt.{no_nodes, no_owner, no_workers}

abbrev pub Table : Type 0
Table = List (Option ℕ)

-- One line after another.

drop-more : {X : Type 0} (n : ℕ) (xs : List X) → drop (n + 1) xs ≡ drop 1 (drop n xs)
drop-more zero xs = refl
drop-more (suc n) [] = drop-nil (suc n + 1) ∙ sym (ap (drop 1) (drop-nil (suc n)) ∙ drop-nil 1)
drop-more (suc n) (x ∷ xs) = let same : suc n + 1 ≡ suc (n + 1) = omega arith in ap (λ k. drop k (x ∷ xs)) same ∙ drop-more n xs

next-drop : (lines rest : List ScriptLine) (line : ScriptLine) (more : List ScriptLine) (count : ℕ) → rest ≡ drop count lines → rest ≡ line ∷ more → more ≡ drop (count + 1) lines
next-drop lines rest line more count at is = sym (drop-more count lines ∙ ap (drop 1) (sym at ∙ is))

-- Owners.

-- the operations so far, with those that the rest says, are those of all
pub record Owned (lines rest : List ℕ) (count : ℕ) (old new : Table) : Type 0 where
  pub said : List MapOp
  pub whole : said_first owner_of (lines_of lines) ≡ said ++ said_first owner_of (lines_of rest)
  pub number : count ≡ length said
  pub shown : (ops : List MapOp) → MapShows old ops → MapShows new (ops ++ said)
  pub place : lines_of rest ≡ drop count (lines_of lines)
  pub within : count + length rest ≤ length lines

pub none_yet : (lines : List ℕ) (table : Table) → Owned lines lines 0 table table
none_yet lines table = record {
  said = [];
  whole = refl;
  number = refl;
  shown = λ ops shows. subst (MapShows table) (sym (append-nil ops)) shows;
  place = refl;
  within = omega arith;
}

pub one_owner : (lines rest more : List ℕ) (count : ℕ) (old mid new : Table) (line : ScriptLine) (op : MapOp) → Owned lines rest count old mid
    → (lines_of rest ≡ line ∷ lines_of more) × (length more < length rest) → Some op ≡ owner_of line → ((ops : List MapOp) → MapShows mid ops → MapShows new (ops ++ op ∷ []))
    → Owned lines more (count + 1) old new
one_owner lines rest more count old mid new line op kept read is grown = record {
  said = kept.said ++ op ∷ [];
  whole = kept.whole ∙ ap (λ ls. kept.said ++ said_first owner_of ls) read.0 ∙ ap (λ o. kept.said ++ put_before o (said_first owner_of (lines_of more))) (sym is)
      ∙ sym (append_assoc kept.said (op ∷ []) (said_first owner_of (lines_of more)));
  number = (let size = length-append kept.said (op ∷ []) in let now = kept.number in omega (arith, size, now));
  shown = λ ops shows. subst (MapShows new) (append_assoc ops kept.said (op ∷ [])) (grown (ops ++ kept.said) (kept.shown ops shows));
  place = next-drop (lines_of lines) (lines_of rest) line (lines_of more) count kept.place read.0;
  within = (let fits = kept.within in let shorter = read.1 in omega (arith, fits, shorter));
}

pub record OwnersAre (lines rest : List ℕ) (count : ℕ) (old new : Table) : Type 0 where
  pub map : (ops : List MapOp) → MapShows old ops → MapShows new (ops ++ said_first owner_of (lines_of lines))
  pub number : count ≡ length (said_first owner_of (lines_of lines))
  pub place : lines_of rest ≡ drop count (lines_of lines)
  pub within : count + length rest ≤ length lines

pub no_more_owners : (lines rest : List ℕ) (count : ℕ) (old new : Table) → Owned lines rest count old new → said_first owner_of (lines_of rest) ≡ []
    → OwnersAre lines rest count old new
no_more_owners lines rest count old new kept none =
    let all : said_first owner_of (lines_of lines) ≡ kept.said = kept.whole ∙ ap (λ ops. kept.said ++ ops) none ∙ append-nil kept.said in
    record {
      map = λ ops shows. subst (λ said. MapShows new (ops ++ said)) (sym all) (kept.shown ops shows);
      number = kept.number ∙ ap length (sym all);
      place = kept.place;
      within = kept.within;
    }

pub not_an_owner : (rest more : List ℕ) (line : ScriptLine) → lines_of rest ≡ line ∷ lines_of more → None ≡ owner_of line → said_first owner_of (lines_of rest) ≡ []
not_an_owner rest more line read none =
    ap (said_first owner_of) read ∙ ap (λ o. put_before o (said_first owner_of (lines_of more))) (sym none)

-- Events.

-- the events so far, and then those that the rest says
abbrev pub continued : List Event → Result (List Event) ℕ → Result (List Event) ℕ
continued events (Ok more) = Ok (events ++ more)
continued events (Err bad) = Err bad

continued-none : (said : Result (List Event) ℕ) → said ≡ continued [] said
continued-none (Ok more) = refl
continued-none (Err bad) = refl

pub at_first : (workers first : ℕ) (lines : List ℕ) → all_said (event_of workers) first (lines_of lines) ≡ continued [] (all_said (event_of workers) first (lines_of lines))
at_first workers first lines = continued-none (all_said (event_of workers) first (lines_of lines))

said-one : (events : List Event) (event : Event) (number : ℕ) (more : Result (List Event) ℕ)
    → continued events (said_with (Some event) number more) ≡ continued (events ++ event ∷ []) more
said-one events event number (Ok more) = ap Ok (sym (append_assoc events (event ∷ []) more))
said-one events event number (Err bad) = refl

pub one_event : (workers number : ℕ) (whole : Result (List Event) ℕ) (rest more : List ℕ) (line : ScriptLine) (event : Event) (events grown : List Event)
    → whole ≡ continued events (all_said (event_of workers) number (lines_of rest)) → lines_of rest ≡ line ∷ lines_of more → Some event ≡ event_of workers line
    → grown ≡ events ++ event ∷ [] → whole ≡ continued grown (all_said (event_of workers) (number + 1) (lines_of more))
one_event workers number whole rest more line event events grown kept read is added =
    let further = all_said (event_of workers) (number + 1) (lines_of more) in
    kept ∙ ap (λ ls. continued events (all_said (event_of workers) number ls)) read ∙ ap (λ o. continued events (said_with o number further)) (sym is)
    ∙ said-one events event number further ∙ ap (λ es. continued es further) (sym added)

pub no_event_here : (workers number : ℕ) (whole : Result (List Event) ℕ) (rest more : List ℕ) (line : ScriptLine) (events : List Event)
    → whole ≡ continued events (all_said (event_of workers) number (lines_of rest)) → lines_of rest ≡ line ∷ lines_of more → None ≡ event_of workers line → whole ≡ Err number
no_event_here workers number whole rest more line events kept read is =
    let further = all_said (event_of workers) (number + 1) (lines_of more) in
    kept ∙ ap (λ ls. continued events (all_said (event_of workers) number ls)) read ∙ ap (λ o. continued events (said_with o number further)) (sym is)

pub no_more_events : (workers number : ℕ) (whole : Result (List Event) ℕ) (rest : List ℕ) (events : List Event)
    → whole ≡ continued events (all_said (event_of workers) number (lines_of rest)) → lines_of rest ≡ [] → whole ≡ Ok events
no_more_events workers number whole rest events kept none =
    kept ∙ ap (λ ls. continued events (all_said (event_of workers) number ls)) none ∙ ap Ok (append-nil events)

-- what is no line of words says no event
pub no_words_no_event : (workers : ℕ) (line : ScriptLine) → None ≡ line → None ≡ event_of workers line
unfolding event_of
no_words_no_event workers None none = refl
no_words_no_event workers (Some words) none = absurd (cc)

-- The two lines before the owners.

pub nodes-none : nodes_of None ≡ None
unfolding nodes_of
nodes-none = refl

pub workers-none : workers_of None ≡ None
unfolding workers_of
workers-none = refl

-- a line that is not there, or that says no number

pub first_none : (said : ScriptLine → Option ℕ) (lines : List ScriptLine) → said None ≡ None → lines ≡ [] → said (line_at lines 0) ≡ None
first_none said lines nothing none = ap (λ ls. said (line_at ls 0)) none ∙ nothing

pub first_bad : (said : ScriptLine → Option ℕ) (lines more : List ScriptLine) (line : ScriptLine) → lines ≡ line ∷ more → None ≡ said line → said (line_at lines 0) ≡ None
first_bad said lines more line read none = ap (λ ls. said (line_at ls 0)) read ∙ sym none

-- the lines begin with two that say how many nodes and workers there are
pub record BeginsWith (lines further : List ScriptLine) (nodes workers : ℕ) : Type 0 where
  pub first : nodes_of (line_at lines 0) ≡ Some nodes
  pub second : workers_of (line_at lines 1) ≡ Some workers
  pub behind : drop 2 lines ≡ further

pub two_lines : (lines more further : List ScriptLine) (nodes workers : ℕ) → SaysFirst nodes_of lines nodes more → SaysFirst workers_of more workers further
    → BeginsWith lines further nodes workers
two_lines lines more further nodes workers first second =
    let both = first.1 ∙ ap (λ ls. first.0 ∷ ls) second.1 in
    record { first = ap (λ ls. nodes_of (line_at ls 0)) both ∙ sym first.2; second = ap (λ ls. workers_of (line_at ls 1)) both ∙ sym second.2; behind = ap (drop 2) both }

pub bad_nodes : (input : List ℕ) (fault : ScriptFault) → SaysNone nodes_of 1 (lines_of input) fault → ReadsHeader input (Err fault)
bad_nodes input (BadLine number) none = subst (IsBadAt (lines_of input)) (sym none.0) (no_nodes (lines_of input) none.1)
bad_nodes input NoMemory none = tt

pub bad_workers : (input : List ℕ) (more : List ScriptLine) (nodes : ℕ) (fault : ScriptFault) → SaysFirst nodes_of (lines_of input) nodes more → SaysNone workers_of 2 more fault
    → ReadsHeader input (Err fault)
bad_workers input more nodes (BadLine number) first none =
    subst (IsBadAt (lines_of input)) (sym none.0)
    (no_workers (lines_of input) nodes (ap (λ ls. nodes_of (line_at ls 0)) first.1 ∙ sym first.2) (ap (λ ls. workers_of (line_at ls 1)) first.1 ∙ none.1))
bad_workers input more nodes NoMemory first none = tt

nothing_said : (ops : List MapOp) → 0 ≡ length ops → ops ≡ []
nothing_said [] none = refl
nothing_said (op ∷ ops) none = absurd (omega (arith, none))

something_said : (ops : List MapOp) → length ops ≢ 0 → ops ≢ []
something_said ops some none = some (ap length none)

pub no_third : (lines further : List ScriptLine) (nodes workers count : ℕ) → BeginsWith lines further nodes workers → count ≡ length (said_first owner_of further) → count ≡ 0
    → IsBadAt lines 3
no_third lines further nodes workers count begun size none =
    no_owner lines nodes workers begun.first begun.second (ap (said_first owner_of) begun.behind ∙ nothing_said (said_first owner_of further) (sym none ∙ size))

drop-two : {X : Type 0} (n : ℕ) (xs : List X) → drop (n + 2) xs ≡ drop n (drop 2 xs)
drop-two zero xs = refl
drop-two (suc n) xs =
    let same : suc n + 2 ≡ (n + 2) + 1 = omega arith in
    let one : suc n ≡ n + 1 = omega arith in
    ap (λ k. drop k xs) same ∙ drop-more (n + 2) xs ∙ ap (drop 1) (drop-two n xs) ∙ sym (ap (λ k. drop k (drop 2 xs)) one ∙ drop-more n (drop 2 xs))

-- a whole header
pub whole_header : (lines : List ScriptLine) (rest : List ℕ) (further : List ScriptLine) (nodes workers count : ℕ) (table : Table) → BeginsWith lines further nodes workers
    → MapShows table (said_first owner_of further) → count ≡ length (said_first owner_of further) → lines_of rest ≡ drop count further → count ≢ 0
    → (owners : List MapOp) × HasHeader lines nodes workers owners × MapShows table owners × (count + 2 ≡ length owners + 2) × (lines_of rest ≡ drop (length owners + 2) lines)
whole_header lines rest further nodes workers count table begun shown size behind some =
    let owners = said_first owner_of further in (
      owners,
      record {
        first = begun.first;
        second = begun.second;
        further = ap (said_first owner_of) begun.behind;
        some = something_said owners (λ none. some (size ∙ none));
      },
      shown,
      ap (λ n. n + 2) size,
      behind ∙ ap (λ n. drop n further) size ∙ ap (drop (length owners)) (sym begun.behind) ∙ sym (drop-two (length owners) lines),
    )
