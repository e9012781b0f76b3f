-- How far a command has come: all that is kept of its life.
-- One stage and a count in place of the list of events; `HasLived` ties them to it. The events of world_laws and the
-- turns of proxy_turns cite these steps.
use Rattle.std.specs.Prelude.{◌≡◌, ℕ, ◌+◌, ◌==◌, Bool, true, false, List, length, if◌then◌else◌, Some, None, ⊤}
use Rattle.key_split.specs.PartModel.{PartModel}
use Rattle.key_split.specs.declared.travel.Batch.{Batch}
use Rattle.key_split.specs.declared.travel.Ticket.{Ticket}
use Rattle.key_split.specs.declared.travel.Told.{Told}
use Rattle.key_split.specs.declared.travel.Told.TheVariants.{Reply, Moved, Ask, TryAgain, ClusterDown, Unclear, Unsent}
use Rattle.key_split.specs.declared.travel.Ended.{Ended}
use Rattle.key_split.specs.declared.travel.Ended.TheVariants.{Answered, GaveUp}
use Rattle.command_future.specs.declared.stage.Stage.{Stage}
use Rattle.command_future.specs.declared.stage.Stage.TheVariants.{Wants, WantsAsking, Awaits, Over}
use Rattle.command_future.specs.declared.stage.Want.{Want}
use Rattle.command_future.specs.declared.stage.Want.TheVariants.{Post, Await, Finished}
use Rattle.command_future.specs.Life.{CommandEvent, told_in, IsWanted, HasEnd, IsLife, Names}

-- followed: how many refusals it was told and followed
pub record CommandModel : Type 0 where
  pub ticket : Ticket
  pub part : PartModel
  pub followed : ℕ
  pub stage : Stage

-- neither posted nor told anything
abbrev pub fresh : Ticket → PartModel → CommandModel
fresh ticket part = record { ticket = ticket; part = part; followed = 0; stage = Wants None }

-- what it wants
abbrev pub want_at : Stage → Want
want_at (Wants named) = Post false named
want_at (WantsAsking node) = Post true (Some node)
want_at Awaits = Await
want_at (Over end) = Finished

-- it wants to be posted
abbrev pub WantsPost : Stage → Type 0
WantsPost (Wants named) = ⊤
WantsPost (WantsAsking node) = ⊤
WantsPost Awaits = ⊥
WantsPost (Over end) = ⊥

-- it wants to be posted, and may be at this node
abbrev pub MayPostTo : Stage → ℕ → Type 0
MayPostTo (Wants named) node = Names named node
MayPostTo (WantsAsking named) node = node ≡ named
MayPostTo Awaits node = ⊥
MayPostTo (Over end) node = ⊥

-- it wants to be posted after ASKING
abbrev pub asks_at : Stage → Bool
asks_at (Wants named) = false
asks_at (WantsAsking node) = true
asks_at Awaits = false
asks_at (Over end) = false

-- the batch of it for this node
abbrev pub batch_of : CommandModel → ℕ → Batch
batch_of c node = record { ticket = c.ticket; node = node; asking = asks_at c.stage; part = c.part }

-- how many refusals are followed, and where the command stands, at one more that sends it on to `next`: sixteen are followed
abbrev pub refused_at : ℕ → Stage → ℕ × Stage
refused_at followed next = if followed == 16 then (followed, Over GaveUp) else (followed + 1, next)

-- the same when it is told this
abbrev pub told_at : ℕ → Told → ℕ × Stage
told_at followed (Reply value) = (followed, Over (Answered value))
told_at followed Told.Lost = (followed, Over Ended.Lost)
told_at followed (Moved slot node) = refused_at followed (Wants (Some node))
told_at followed (Ask slot node) = refused_at followed (WantsAsking node)
told_at followed TryAgain = refused_at followed (Wants None)
told_at followed ClusterDown = refused_at followed (Wants None)
told_at followed Unclear = refused_at followed (Wants None)
told_at followed Unsent = refused_at followed (Wants None)

-- the command, told this
abbrev pub progress_told : CommandModel → Told → CommandModel
progress_told c told = record c { followed = (told_at c.followed told).0; stage = (told_at c.followed told).1 }

-- it has ended
abbrev pub IsOver : Stage → Type 0
IsOver (Wants named) = ⊥
IsOver (WantsAsking node) = ⊥
IsOver Awaits = ⊥
IsOver (Over end) = ⊤

-- it was neither posted nor told anything
abbrev pub IsFresh : CommandModel → Type 0
IsFresh c = c ≡ fresh c.ticket c.part

-- where a command stands after these events
abbrev pub Stands : Stage → ℕ → List CommandEvent → Type 0
Stands (Wants named) followed events = IsWanted events (Post false named) × (length (told_in events) ≡ followed)
Stands (WantsAsking node) followed events = IsWanted events (Post true (Some node)) × (length (told_in events) ≡ followed)
Stands Awaits followed events = IsWanted events Await × (length (told_in events) ≡ followed)
Stands (Over end) followed events = HasEnd (told_in events) end

-- these are what has happened to the command so far
pub record HasLived (c : CommandModel) (events : List CommandEvent) : Type 0 where
  pub life : IsLife c.ticket c.part events
  pub stands : Stands c.stage c.followed events
