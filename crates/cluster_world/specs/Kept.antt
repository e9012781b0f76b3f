-- What a link keeps of the replies that are not yet fetched, and what it shows: of an executed command it keeps the
-- place of the entry, whose reply it shows.
-- Only private functions cite it. A copy of the reply, made after the node executed, could fail too late.
use Rattle.std.specs.Prelude.{◌≡◌, ℕ, ◌+◌, ◌<◌, zero, suc, List, [], ◌∷◌, ◌++◌, length, map, All, Bool, true, false, if◌then◌else◌, Option, Some, None}
use Rattle.resp_wire.specs.Data.{Data, simple, error, integer, bulk, null_bulk, array, null_array, list_of}
use Rattle.resp_wire.specs.Seen.{data_of}
use Rattle.resp_wire.specs.declared.value.Value.{Value}
use Rattle.resp_wire.specs.declared.value.Value.TheVariants as value
use Rattle.key_split.specs.PartModel.{PartModel}
use Rattle.key_split.specs.declared.travel.Ticket.{Ticket}
use Rattle.key_split.specs.declared.travel.Told.{Told}
use Rattle.key_split.specs.declared.travel.Told.TheVariants.{Reply, Moved, Ask, TryAgain, ClusterDown, Unclear, Unsent}
use Rattle.node_model.specs.History.{EntryModel}
use Rattle.world_laws.specs.State.{Link, replied}
use Rattle.world_laws.specs.declared.state.LinkRequest.{LinkRequest}
use Rattle.world_laws.specs.declared.state.LinkReply.{LinkReply}
use Rattle.world_laws.specs.declared.state.LinkReply.TheVariants.{To}
use Rattle.world_laws.specs.declared.state.LinkReply.TheVariants as back
use Rattle.world_laws.specs.Places.{Item}
use Rattle.world_laws.specs.Places.Item.{Comes}
use Rattle.cluster_world.specs.declared.link.Kept.{Kept}
use Rattle.cluster_world.specs.declared.link.Kept.TheVariants.{Welcome, Refusal, Entry}

-- a link as the code has it: `room` is for how many replies there is memory
pub record LinkModel : Type 0 where
  pub node : ℕ
  pub is_open : Bool
  pub requests : List LinkRequest
  pub backs : List Kept
  pub asking : Bool
  pub room : ℕ

abbrev pub new_link_model : ℕ → ℕ → LinkModel
new_link_model node room = record { node = node; is_open = true; requests = []; backs = []; asking = false; room = room }

-- the value that has this data
abbrev pub value_of : Data → Value
value_of (simple t) = value.Simple t
value_of (error t) = value.Error t
value_of (integer n) = value.Integer n
value_of (bulk b) = value.Bulk b
value_of null_bulk = value.NullBulk
value_of (array ds) = value.Array (list_of ds)
value_of null_array = value.NullArray

-- the reply of the entry at a place
abbrev pub reply_at : List EntryModel → ℕ → Data
reply_at [] place = null_bulk
reply_at (e ∷ es) zero = e.reply
reply_at (e ∷ es) (suc place) = reply_at es place

abbrev pub shown_back : List EntryModel → Kept → LinkReply
shown_back history Welcome = back.Welcome
shown_back history (Refusal ticket told) = To ticket told
shown_back history (Entry ticket place) = To ticket (Reply (value_of (reply_at history place)))

abbrev pub shown : List EntryModel → LinkModel → Link
shown history l = record { node = l.node; is_open = l.is_open; requests = l.requests; backs = map (shown_back history) l.backs; asking = l.asking }

-- its entry is one of the first `count`
abbrev pub IsBelow : ℕ → Kept → Type 0
IsBelow count Welcome = Unit {0}
IsBelow count (Refusal ticket told) = Unit {0}
IsBelow count (Entry ticket place) = place < count

-- all that the link keeps are
abbrev pub KeepsBelow : ℕ → LinkModel → Type 0
KeepsBelow count l = All (IsBelow count) l.backs

-- the first is an entry, or none is there, or it is another
abbrev pub FirstEntry : List Kept → Option (Ticket × ℕ) → Type 0
FirstEntry ks None = (ticket : Ticket) (place : ℕ) (rest : List Kept) → ks ≡ Entry ticket place ∷ rest → ⊥
FirstEntry ks (Some entry) = (rest : List Kept) × (ks ≡ Entry entry.0 entry.1 ∷ rest)

-- who is told what, where it is a refusal
abbrev pub refusal_in : Kept → Option (Ticket × Told)
refusal_in Welcome = None
refusal_in (Refusal ticket told) = Some (ticket, told)
refusal_in (Entry ticket place) = None

-- whose replies these are
abbrev pub kept_for : List Kept → List Ticket
kept_for [] = []
kept_for (Welcome ∷ ks) = kept_for ks
kept_for (Refusal ticket told ∷ ks) = ticket ∷ kept_for ks
kept_for (Entry ticket place ∷ ks) = ticket ∷ kept_for ks

-- f over what refusals tell
abbrev pub in_kept : (Item → ℕ) → List Kept → ℕ
in_kept f [] = 0
in_kept f (Welcome ∷ ks) = in_kept f ks
in_kept f (Refusal ticket told ∷ ks) = f (Comes ticket told) + in_kept f ks
in_kept f (Entry ticket place ∷ ks) = in_kept f ks

-- what is kept of a reply, where the link is open
abbrev pub keeps : LinkModel → Kept → LinkModel
keeps l kept = if l.is_open then record l { backs = l.backs ++ kept ∷ [] } else l

-- the history after a command was told this: what a node replied to, it executed
abbrev pub noted : List EntryModel → Ticket → PartModel → ℕ → Told → List EntryModel
noted history ticket part moment (Reply value) = history ++ record { ticket = ticket; part = part; reply = data_of value; moment = moment } ∷ []
noted history ticket part moment (Moved slot node) = history
noted history ticket part moment (Ask slot node) = history
noted history ticket part moment TryAgain = history
noted history ticket part moment ClusterDown = history
noted history ticket part moment Unclear = history
noted history ticket part moment Told.Lost = history
noted history ticket part moment Unsent = history

-- what is kept shows what the command was told, and what was kept before shows the same
pub record Notes (old : List EntryModel) (ticket : Ticket) (part : PartModel) (moment : ℕ) (told : Told) (new : List EntryModel) (kept : Kept) : Type 0 where
  pub history : new ≡ noted old ticket part moment told
  pub shows : shown_back new kept ≡ To ticket told
  pub below : IsBelow (length new) kept
  pub longer : (count : ℕ) → count < length old → count < length new
  pub same : (place : ℕ) → place < length old → reply_at new place ≡ reply_at old place

-- a command is noted, and the link keeps what it was told
pub record NotesFor (old : List EntryModel) (line : LinkModel) (ticket : Ticket) (part : PartModel) (moment : ℕ) (told : Told) (new : List EntryModel) (line' : LinkModel) : Type 0 where
  pub kept : Kept
  pub notes : Notes old ticket part moment told new kept
  pub is_kept : line' ≡ keeps line kept

-- Runs.

-- a command of a run that was served
pub record Served : Type 0 where
  pub ticket : Ticket
  pub part : PartModel
  pub told : Told

-- those of a run, one for each of its tickets
abbrev pub served_in : List Ticket → List PartModel → List Told → List Served
served_in [] parts tolds = []
served_in (t ∷ ts) [] tolds = []
served_in (t ∷ ts) (p ∷ ps) [] = []
served_in (t ∷ ts) (p ∷ ps) (d ∷ ds) = record { ticket = t; part = p; told = d } ∷ served_in ts ps ds

-- the history after them
abbrev pub all_noted : List EntryModel → ℕ → List Served → List EntryModel
all_noted history moment [] = history
all_noted history moment (s ∷ ss) = all_noted (noted history s.ticket s.part moment s.told) moment ss

-- a link after their replies
abbrev pub told_all : Link → List Served → Link
told_all l [] = l
told_all l (s ∷ ss) = told_all (replied l (To s.ticket s.told)) ss

-- the link shows their replies, and what was kept before shows the same
pub record NotesAll (old : List EntryModel) (line : LinkModel) (ss : List Served) (moment : ℕ) (new : List EntryModel) (line' : LinkModel) : Type 0 where
  pub history : new ≡ all_noted old moment ss
  pub shows : shown new line' ≡ told_all (shown old line) ss
  pub below : KeepsBelow (length new) line'
  pub longer : (count : ℕ) → count < length old → count < length new
  pub same : (place : ℕ) → place < length old → reply_at new place ≡ reply_at old place
