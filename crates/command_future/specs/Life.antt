-- The life of a command: what it is told, how it is posted before each of these, and how it ends.
-- Redis Cluster specification, "MOVED Redirection", "ASK redirection" and "Multiple keys operations" (TRYAGAIN).
-- How many refusals are followed is this proxy's choice: sixteen.
-- After a lost connection a command is never posted again, since the node may have executed it. A life is a list of
-- events, each of which was due after those before it; no state stands in it.
use Rattle.std.specs.Prelude.{◌≡◌, ℕ, ◌+◌, ◌≤◌, ◌⊎◌, true, false, List, [], ◌∷◌, ◌++◌, length, Option, Some, None, All, ⊤}
use Rattle.std.specs.Option.{option_map_or}
use Rattle.std.specs.List.{last_or}
use Rattle.key_split.specs.PartModel.{PartModel}
use Rattle.key_split.specs.declared.travel.Batch.{Batch}
use Rattle.key_split.specs.declared.travel.Ticket.{Ticket}
use Rattle.key_split.specs.declared.travel.Told.{Told}
use Rattle.key_split.specs.declared.travel.Told.TheVariants.{Reply, Moved, Ask, TryAgain, ClusterDown, Unclear, Unsent}
use Rattle.key_split.specs.declared.travel.Ended.{Ended}
use Rattle.key_split.specs.declared.travel.Ended.TheVariants.{Answered, GaveUp}
use Rattle.command_future.specs.declared.stage.Want.{Want}
use Rattle.command_future.specs.declared.stage.Want.TheVariants.{Post, Await, Finished}

-- what happens to a command: a batch of it is posted, and it is told something
pub data CommandEvent : Type 0 where
  Posted : Batch → CommandEvent
  Heard : Told → CommandEvent

-- what it was told, in order
abbrev pub told_in : List CommandEvent → List Told
told_in [] = []
told_in (Posted batch ∷ events) = told_in events
told_in (Heard told ∷ events) = told ∷ told_in events

-- the batches that were posted, in order
abbrev pub posted_in : List CommandEvent → List Batch
posted_in [] = []
posted_in (Posted batch ∷ events) = batch ∷ posted_in events
posted_in (Heard told ∷ events) = posted_in events

-- nothing was executed, and the command may be sent again
abbrev pub IsRefusal : Told → Type 0
IsRefusal (Reply value) = ⊥
IsRefusal Told.Lost = ⊥
IsRefusal (Moved slot node) = ⊤
IsRefusal (Ask slot node) = ⊤
IsRefusal TryAgain = ⊤
IsRefusal ClusterDown = ⊤
IsRefusal Unclear = ⊤
IsRefusal Unsent = ⊤

-- to be posted without ASKING, at no named node
abbrev pub afresh : Want
afresh = Post false None

-- where a refusal sends the command: after ASK alone it is posted with ASKING
abbrev pub want_after : Told → Want
want_after (Moved slot node) = Post false (Some node)
want_after (Ask slot node) = Post true (Some node)
want_after (Reply value) = afresh
want_after Told.Lost = afresh
want_after TryAgain = afresh
want_after ClusterDown = afresh
want_after Unclear = afresh
want_after Unsent = afresh

-- where the last of these refusals sends it; at first afresh
abbrev pub sent_by : List Told → Want
sent_by told = option_map_or want_after (last_or None told) afresh

-- at most sixteen refusals, which are followed
abbrev pub IsOpen : List Told → Type 0
IsOpen told = All IsRefusal told × (length told ≤ 16)

-- at most sixteen refusals, followed by this
abbrev pub EndsWith : List Told → Told → Type 0
EndsWith told last = (refusals : List Told) × IsOpen refusals × (told ≡ refusals ++ last ∷ [])

-- a command that was told these has this end: a reply, a lost connection, or a seventeenth refusal
abbrev pub HasEnd : List Told → Ended → Type 0
HasEnd told (Answered value) = EndsWith told (Reply value)
HasEnd told Ended.Lost = EndsWith told Told.Lost
HasEnd told GaveUp = All IsRefusal told × (length told ≡ 17)

-- the grammar of what a command is told: at most sixteen refusals and nothing yet, or one of the ends
abbrev pub IsTold : List Told → Type 0
IsTold told = IsOpen told ⊎ ((end : Ended) × HasEnd told end)

-- what a command wants after these events: a post where each was answered by a refusal, an answer where the last post was not answered, and nothing once it has an end
abbrev pub IsWanted : List CommandEvent → Want → Type 0
IsWanted events (Post asking named) = IsOpen (told_in events) × (length (posted_in events) ≡ length (told_in events))
    × (sent_by (told_in events) ≡ Post asking named)
IsWanted events Await = IsOpen (told_in events) × (length (posted_in events) ≡ length (told_in events) + 1)
IsWanted events Finished = (end : Ended) × HasEnd (told_in events) end

-- the node is the named one, or none is named
abbrev pub Names : Option ℕ → ℕ → Type 0
Names None node = ⊤
Names (Some named) node = node ≡ named

-- after these events a command of this ticket and part wants this batch to be posted
pub record IsWantedBatch (ticket : Ticket) (part : PartModel) (events : List CommandEvent) (batch : Batch) : Type 0 where
  pub same_ticket : batch.ticket ≡ ticket
  pub same_part : batch.part ≡ part
  pub named : Option ℕ
  pub wanted : IsWanted events (Post batch.asking named)
  pub there : Names named batch.node

-- this happens after those as a command of this ticket and part wants: it is posted so, or it is told something where it awaits that
abbrev pub IsDue : Ticket → PartModel → List CommandEvent → CommandEvent → Type 0
IsDue ticket part before (Posted batch) = IsWantedBatch ticket part before batch
IsDue ticket part before (Heard told) = IsWanted before Await

-- the life of a command of this ticket and part, so far: each event was due after those before it
pub record IsLife (ticket : Ticket) (part : PartModel) (events : List CommandEvent) : Type 0 where
  pub each : (before after : List CommandEvent) (event : CommandEvent) → events ≡ before ++ event ∷ after
      → IsDue ticket part before event
