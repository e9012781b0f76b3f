-- When the report of a run is lawful.
-- The headline's terms (world_laws, Headline.antt), for a list of parts, their ends and a history. Parts without an end
-- may have been executed once or not at all. `audit` answers true exactly for lawful reports.
use Rattle.std.specs.Prelude.{◌≡◌, ◌≢◌, ◌≤◌, List, [], ◌∷◌, length, map, filter, All, Any, AllPairs}
use Rattle.std.specs.FinMap.{empty}
use Rattle.resp_wire.specs.Data.{Data}
use Rattle.resp_wire.specs.Seen.{data_of}
use Rattle.key_split.specs.PartModel.{PartModel}
use Rattle.key_split.specs.Same.{same_ticket}
use Rattle.key_split.specs.declared.travel.Ticket.{Ticket}
use Rattle.key_split.specs.declared.travel.Ended.{Ended}
use Rattle.key_split.specs.declared.travel.Ended.TheVariants.{Answered, GaveUp, Lost}
use Rattle.node_model.specs.History.{EntryModel, IsLegal}
use Rattle.world_laws.specs.State.{slot_for}

-- the replies in a history to the part of this ticket
abbrev pub replies_to : List EntryModel → Ticket → List Data
replies_to history ticket = map (λ e. e.reply) (filter (λ e. same_ticket e.ticket ticket) history)

-- a part that ended so was executed so often, with this reply
abbrev pub WasExecuted : List EntryModel → Ticket → Ended → Type 0
WasExecuted history ticket (Answered value) = replies_to history ticket ≡ data_of value ∷ []
WasExecuted history ticket Lost = length (replies_to history ticket) ≤ 1
WasExecuted history ticket GaveUp = replies_to history ticket ≡ []

abbrev pub IsAnswered : Ended → Type 0
IsAnswered (Answered value) = Unit {0}
IsAnswered Lost = ⊥
IsAnswered GaveUp = ⊥

-- the part of this ticket was answered
abbrev pub WasAnswered : List (Ticket × Ended) → Ticket → Type 0
WasAnswered ends ticket = Any (λ end. (end.0 ≡ ticket) × IsAnswered end.1) ends

-- both are of one client, for one slot
abbrev pub ShareTurns : EntryModel → EntryModel → Type 0
ShareTurns a b = (a.ticket.worker ≡ b.ticket.worker) × (a.ticket.client ≡ b.ticket.client) × (slot_for a.part ≡ slot_for b.part)

-- of two answered parts of one client for one slot, the lower stands first
abbrev pub MayPrecede : List (Ticket × Ended) → EntryModel → EntryModel → Type 0
MayPrecede ends a b = ShareTurns a b → WasAnswered ends a.ticket → WasAnswered ends b.ticket → a.ticket.part ≤ b.ticket.part

pub record IsLawful (parts : List (Ticket × PartModel)) (ends : List (Ticket × Ended)) (history : List EntryModel) : Type 0 where
  -- the history is one store's
  pub legal : IsLegal empty history
  -- no ticket is twice among the parts, or among the ends
  pub parts_differ : AllPairs (λ a b. a.0 ≢ b.0) parts
  pub ends_differ : AllPairs (λ a b. a.0 ≢ b.0) ends
  -- each end is of a part, and each entry has a part and its ticket
  pub ends_have_parts : All (λ end. Any (λ part. part.0 ≡ end.0) parts) ends
  pub entries_have_parts : All (λ e. Any (λ part. (part.0 ≡ e.ticket) × (part.1 ≡ e.part)) parts) history
  -- no part has two entries, and what each end says of its part's entry is so
  pub at_most_once : All (λ part. length (replies_to history part.0) ≤ 1) parts
  pub as_ended : All (λ end. WasExecuted history end.0 end.1) ends
  -- the answered parts of a client for one slot stand in their order
  pub in_turn : AllPairs (MayPrecede ends) history
