-- A client's script, planned anew: its parts, what it is answered, and whether each of its parts has its end.
-- Only private functions cite it.
use Rattle.std.specs.Prelude.{◌+◌, ◌&&◌, ◌++◌, ℕ, Bool, true, false, List, [], Option, Some, None, is_some, length, map, if◌then◌else◌}
use Rattle.std.specs.List.{flat_map}
use Rattle.key_split.specs.PartModel.{PartModel}
use Rattle.key_split.specs.declared.travel.Ticket.{Ticket}
use Rattle.key_split.specs.declared.travel.Ended.{Ended}
use Rattle.key_split.specs.declared.planned.Joining.{Joining}
use Rattle.session_order.specs.Output.{ends_from, replies_told}
use Rattle.session_order.specs.PendingReply.{owed_for, goodbye}
use Rattle.session_order.specs.Replies.{bytes_of, joined, lines_owed, spelling}
use Rattle.script_runs.specs.declared.client_id.ClientId.{ClientId}
use Rattle.script_runs.specs.declared.replay.Replay.{Replay}
use Rattle.script_runs.specs.declared.wanted.Wanted.{Wanted}
use Rattle.script_runs.specs.declared.wanted.Wanted.TheVariants.{Nothing, Skip, Reply, Parts, Close}
use Rattle.script_runs.specs.Requests.{Requested, parts_for}
use Rattle.script_runs.specs.Run.{numbered}

-- How many parts the client's requests so far have, all parts so far, what it is answered, and whether no part of it
-- lacks its end.
pub record State : Type 0 where
  pub number : ℕ
  pub parts : List (Ticket × PartModel)
  pub output : List ℕ
  pub whole : Bool

abbrev pub state_of : Replay → State
state_of r = record { number = r.number; parts = r.parts.items; output = r.output.items; whole = r.is_whole }

-- nothing is answered behind a part that lacks its end
abbrev pub where_whole : Bool → List ℕ → List ℕ
where_whole whole bytes = if whole then bytes else []

abbrev pub says : State → List ℕ → State
says s bytes = record s { output = s.output ++ where_whole s.whole bytes }

abbrev pub joined_line : Joining → Option (List Ended) → List ℕ
joined_line how None = []
joined_line how (Some ends) = spelling (joined how ends)

-- the parts of a request, with what was told of their ends
abbrev pub takes_parts : ClientId → List (Ticket × Ended) → State → Joining → List PartModel → State
takes_parts client_id told s how parts = let ends = ends_from told s.number (length parts) in record s {
  number = s.number + length parts;
  parts = s.parts ++ numbered client_id s.number parts;
  output = s.output ++ where_whole s.whole (joined_line how ends);
  whole = s.whole && is_some ends;
}

abbrev pub after : ClientId → List (Ticket × Ended) → State → Wanted → State
after client_id told s (Nothing faulted) = says s (bytes_of (lines_owed faulted))
after client_id told s Skip = s
after client_id told s (Reply value) = says s (spelling value)
after client_id told s (Parts how parts) = takes_parts client_id told s how parts
after client_id told s Close = says s (spelling goodbye)

abbrev pub goes_on : Wanted → Bool
goes_on (Nothing faulted) = false
goes_on Skip = true
goes_on (Reply value) = true
goes_on (Parts how parts) = true
goes_on Close = false

-- what comes of it: all parts, what the client is answered, and whether no part lacks its end
pub record Outcome : Type 0 where
  pub parts : List (Ticket × PartModel)
  pub output : List ℕ
  pub whole : Bool

abbrev pub outcome_of : State → Outcome
outcome_of s = record { parts = s.parts; output = s.output; whole = s.whole }

-- what comes of a state before these requests
abbrev pub outcome : ClientId → List (Ticket × Ended) → State → Requested → Outcome
outcome client_id told s asked = record {
  parts = s.parts ++ numbered client_id s.number (flat_map parts_for asked.requests);
  output = s.output ++ where_whole s.whole (bytes_of (replies_told told s.number (map owed_for asked.requests) (lines_owed asked.faulted)));
  whole = s.whole && is_some (ends_from told s.number (length (flat_map parts_for asked.requests)));
}

-- nothing of the client's script was planned
abbrev pub opened : List (Ticket × PartModel) → State
opened parts = record { number = 0; parts = parts; output = []; whole = true }
