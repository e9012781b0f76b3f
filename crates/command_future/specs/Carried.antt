-- What a courier does with one command, by what it says of each of its calls.
-- A courier posts batches and gives the answers. It is known by three relations alone (what it posts, what it tells,
-- what it does between its calls), so any courier fits.
use Rattle.std.specs.Prelude.{◌≡◌, List, [], ◌∷◌, ◌++◌, Option, Some, None}
use Rattle.std.specs.List.{FoldsTo}
use Rattle.key_split.specs.declared.travel.Batch.{Batch}
use Rattle.key_split.specs.PartModel.{PartModel}
use Rattle.key_split.specs.declared.travel.Ticket.{Ticket}
use Rattle.key_split.specs.declared.travel.Told.{Told}
use Rattle.key_split.specs.declared.travel.Ended.{Ended}
use Rattle.command_future.specs.declared.courier.Posting.{Posting}
use Rattle.command_future.specs.declared.courier.Posting.TheVariants.{Sent, Later}
use Rattle.command_future.specs.Life.{CommandEvent, told_in, HasEnd, IsLife}
use Rattle.command_future.specs.Life.CommandEvent.{Posted, Heard}
use Rattle.command_future.specs.CommandModel.{CommandModel, MayPostTo, batch_of, HasLived}

-- the event of a call, where it was one
abbrev pub event_in : Option CommandEvent → List CommandEvent
event_in None = []
event_in (Some event) = event ∷ []

-- the events of these calls
abbrev pub events_in : List (Option CommandEvent) → List CommandEvent
events_in [] = []
events_in (call ∷ calls) = event_in call ++ events_in calls

module _ {P : Type 0} (posts : P → Batch → P → Type 0) (tells : P → Ticket → Told → P → Type 0) (rests : P → P → Type 0) where
  -- a call of `post` for this command may answer this: its batch for a node at which it may be posted was posted, or nothing was
  abbrev pub Posts : P → CommandModel → Posting → P → Type 0
  Posts old c (Sent node) new = MayPostTo c.stage node × posts old (batch_of c node) new
  Posts old c Later new = rests old new

  -- between the two states the courier did this for the ticket, and nothing else
  abbrev pub CourierDoes : Ticket → P → Option CommandEvent → P → Type 0
  CourierDoes ticket old None new = rests old new
  CourierDoes ticket old (Some (Posted batch)) new = posts old batch new
  CourierDoes ticket old (Some (Heard told)) new = tells old ticket told new

  -- A command of this ticket and part, carried from its first post on by a courier in this state, ends so: the output is its ticket and
  -- the end that it has by what the courier told for that ticket, and the courier posted it only as it wanted.
  pub record Fulfils (ticket : Ticket) (part : PartModel) (courier : P) (out : Ticket × Ended) : Type 0 where
    pub calls : List (Option CommandEvent)
    pub left : P
    pub did : FoldsTo (CourierDoes ticket) courier calls left
    pub life : IsLife ticket part (events_in calls)
    pub same_ticket : out.0 ≡ ticket
    pub end : HasEnd (told_in (events_in calls)) out.1

  -- the same for a command that has come so far, after whatever has happened to it
  pub record Gives (c : CommandModel) (courier : P) (out : Ticket × Ended) : Type 0 where
    pub calls : List (Option CommandEvent)
    pub left : P
    pub did : FoldsTo (CourierDoes c.ticket) courier calls left
    pub ticket : out.0 ≡ c.ticket
    pub life : (before : List CommandEvent) → HasLived c before
        → IsLife c.ticket c.part (before ++ events_in calls) × HasEnd (told_in (before ++ events_in calls)) out.1

  -- calls took the courier from old to new, and the life of the command goes on by what they did
  pub record Carries (c : CommandModel) (old : P) (new : P) : Type 0 where
    pub calls : List (Option CommandEvent)
    pub did : FoldsTo (CourierDoes c.ticket) old calls new
    pub life : (before : List CommandEvent) → HasLived c before → IsLife c.ticket c.part (before ++ events_in calls)

  -- these calls took the command from c to d and the courier from old to new
  pub record Advances (c : CommandModel) (old : P) (d : CommandModel) (new : P) : Type 0 where
    pub calls : List (Option CommandEvent)
    pub did : FoldsTo (CourierDoes c.ticket) old calls new
    pub same_ticket : d.ticket ≡ c.ticket
    pub same_part : d.part ≡ c.part
    pub lives : (before : List CommandEvent) → HasLived c before → HasLived d (before ++ events_in calls)
