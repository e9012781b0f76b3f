-- What the steps look up is there: in a world that events reach, these events are allowed wherever a lane or a link has
-- something for them.
-- So the conditions that World.antt has for its look-ups exclude no event of the protocol.
use Rattle.std.specs.Prelude.{◌≡◌, ℕ, ◌<◌, ◌==◌, List, ◌∷◌, Some, slice_get, length, All}
use Rattle.key_split.specs.declared.travel.Ticket.{Ticket}
use Rattle.key_split.specs.declared.travel.Told.{Told}
use Rattle.node_model.specs.declared.role.Verdict.{Verdict}
use Rattle.node_model.specs.declared.role.Verdict.TheVariants.{Plain}
use Rattle.world_laws.specs.State.{WorldModel, Arrival, Link, LinkRequest, slot_for}
use Rattle.world_laws.specs.declared.state.LinkRequest.TheVariants.{Asking, Runs}
use Rattle.world_laws.specs.World.{WorldStep, IsAmong, IsFirst, IsNode, IsOf, NamesNode, last_moment}
use Rattle.world_laws.specs.Headline.{IsReached}
use Rattle.world_laws.specs.declared.event.Event.{Event}
use Rattle.world_laws.specs.declared.event.Event.TheVariants.{Serve, Take}

-- the event has a next state
abbrev pub IsAllowed : WorldModel → Event → Type 0
IsAllowed w e = (w' : WorldModel) × WorldStep w e w'

-- the first pair of a lane can be taken
abbrev pub TakeIsAllowed : Type 0
TakeIsAllowed = (w : WorldModel) (lane i : ℕ) (ticket : Ticket) (told : Told) → IsReached w → w.moment < last_moment
    → IsFirst (λ (x : Ticket × Told). x.0.worker == lane) w.downs i (ticket, told) → IsAllowed w (Take lane)

-- the verdict fits a request: for ASKING it is Plain, for a run Moved names an existing node
abbrev pub Fits : WorldModel → Verdict → LinkRequest → Type 0
Fits w verdict Asking = verdict ≡ Plain
Fits w verdict (Runs tickets) = NamesNode w.cluster verdict

-- the first request of a link, open or closed, can be served
abbrev pub ServeIsAllowed : Type 0
ServeIsAllowed = (w : WorldModel) (link : ℕ) (verdict : Verdict) (l : Link) (first : LinkRequest) (rest : List LinkRequest) → IsReached w → w.moment < last_moment
    → slice_get w.links link ≡ Some l → l.requests ≡ first ∷ rest → Fits w verdict first → IsAllowed w (Serve link verdict)

-- links lead to nodes that exist
abbrev pub LinksLeadToNodes : Type 0
LinksLeadToNodes = (w : WorldModel) → IsReached w → All (λ l. IsNode w.cluster l.node) w.links

-- workers and nodes stay as many as they were
abbrev pub SizesStay : Type 0
SizesStay = (w w' : WorldModel) (event : Event) → WorldStep w event w' → (w'.workers ≡ w.workers) × (length w'.cluster.stores ≡ length w.cluster.stores)

-- the commands of these tickets have this slot
abbrev pub HaveSlot : WorldModel → List Ticket → ℕ → Type 0
HaveSlot w tickets slot = (ticket : Ticket) (i : ℕ) (c : Arrival) → IsAmong tickets ticket → IsOf ticket w.commands i c → slot_for c.command.part ≡ slot

-- the commands of the first run of a link, open or closed, have one slot
abbrev pub RunsHaveOneSlot : Type 0
RunsHaveOneSlot = (w : WorldModel) (link : ℕ) (l : Link) (tickets : List Ticket) (rest : List LinkRequest) → IsReached w
    → slice_get w.links link ≡ Some l → l.requests ≡ Runs tickets ∷ rest → (slot : ℕ) × HaveSlot w tickets slot
