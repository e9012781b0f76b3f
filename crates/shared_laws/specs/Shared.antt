-- The machine beside others: between its events, and at any moment, other clients of the cluster act.
-- Others are all who are not this proxy: another proxy, a script, a key that expires or is evicted. What they do at once at
-- one node for keys of one slot is a run of commands, since any such change is one of SETs and DELs (Others.antt); and what
-- a node refuses them changes nothing, so it is no step.
-- An ASK that they follow is true: behind ASKING a run comes to the node to which its slot moves only when the source may
-- hold none of its keys. The machine has this of its own commands by Import's condition (World.antt); of others it is a
-- condition of their step.
use Rattle.std.specs.Prelude.{◌≡◌, ℕ, ◌+◌, ◌%◌, ◌<◌, Bool, true, false, List, [], ◌∷◌, ◌++◌, Some, map, slice_get, All, is_some}
use Rattle.key_split.specs.PartModel.{PartModel, HasOneSlot, keys_of}
use Rattle.key_split.specs.declared.travel.Ticket.{Ticket}
use Rattle.node_model.specs.History.{EntryModel, IsLegal, left_by}
use Rattle.node_model.specs.Nodes.{ClusterModel, at, standing_at, store_at, with_store}
use Rattle.node_model.specs.Runs.{deed_for}
use Rattle.node_model.specs.declared.role.Deed.TheVariants.{Executes}
use Rattle.node_model.specs.declared.role.Verdict.{Verdict}
use Rattle.node_model.specs.declared.role.Verdict.TheVariants.{Plain}
use Rattle.world_laws.specs.State.{Link, WorldModel, slot_for}
use Rattle.world_laws.specs.World.{IsNode, ServesRunAt, WorldDoes, WorldRun, last_moment}
use Rattle.world_laws.specs.Homes.{is_bad}
use Rattle.world_laws.specs.declared.event.Event.{Event}

-- An event of ours; a run of ours that another node serves than the one to whose address it was sent; a run of others at a node, behind
-- ASKING or not, with the entries that it leaves; or time that passes.
pub data Step : Type 0 where
  Ours : (event : Event) → Step
  Led : (link node : ℕ) (verdict : Verdict) → Step
  Theirs : (node : ℕ) (asking : Bool) (entries : List EntryModel) → Step
  Passes : Step

-- Each client has one worker. A ticket of ours names it; any other is of others, as one of a worker that
-- we do not have.
abbrev pub IsOwn : ℕ → Ticket → Type 0
IsOwn workers ticket = ticket.worker ≡ ticket.client % workers

abbrev pub IsOurs : WorldModel → Ticket → Type 0
IsOurs w ticket = IsOwn w.workers ticket

-- an entry of others, made at this moment: no ticket of ours, of this client, for keys of this slot
pub record IsTheirs (workers moment client slot : ℕ) (e : EntryModel) : Type 0 where
  pub theirs : IsOwn workers e.ticket → ⊥
  pub client_is : e.ticket.client ≡ client
  pub slot_is : slot_for e.part ≡ slot
  pub one_slot : HasOneSlot e.part
  pub now : e.moment ≡ moment

-- behind ASKING, at the node to which the slot moves, no ASK for a key of the command is bad
abbrev pub AskIsTrue : ClusterModel → ℕ → Bool → PartModel → Type 0
AskIsTrue k node asking part = asking ≡ true → node ≡ (standing_at k (slot_for part)).target
    → All (λ key. is_bad (standing_at k (slot_for part)).phase (is_some (at k (standing_at k (slot_for part)).source key)) ≡ false) (keys_of part)

abbrev pub parts_in : List EntryModel → List PartModel
parts_in entries = map (λ e. e.part) entries

-- a node executes their run by its own rules, all of it at once, and replies to each command out of its own store
abbrev pub OthersExecute : ℕ → ℕ → ClusterModel → ℕ → Bool → List EntryModel → ClusterModel → Type 0
OthersExecute workers moment k node asking entries k' =
    (client : ℕ) × (slot : ℕ) × All (IsTheirs workers moment client slot) entries
    × IsNode k node × All (λ e. AskIsTrue k node asking e.part) entries
    × (deed_for k node asking (parts_in entries) Plain ≡ Executes)
    × IsLegal (store_at k node) entries
    × (k' ≡ with_store k node (left_by (store_at k node) entries))

-- the history gains the run's entries, and nothing else changes
abbrev pub OthersAct : WorldModel → ℕ → Bool → List EntryModel → WorldModel → Type 0
OthersAct w node asking entries w' =
    (k : ClusterModel) × OthersExecute w.workers w.moment w.cluster node asking entries k × (w' ≡ record w { cluster = k; history = w.history ++ entries })

-- Addresses need not be nodes: several lead to one, and at another moment one of them leads to another node, as after a failover that
-- loses nothing. So what stands first on a link is served by any node, whatever its address led to before. Behind ASKING it comes to the
-- node that ASK named.
abbrev pub LedTo : WorldModel → ℕ → ℕ → Verdict → WorldModel → Type 0
LedTo w link node verdict w' =
    (l : Link) × (slice_get w.links link ≡ Some l) × IsNode w.cluster node × (l.asking ≡ false) × ServesRunAt w node link l verdict w'

abbrev pub SharedDoes : WorldModel → Step → WorldModel → Type 0
SharedDoes w (Step.Ours event) w' = WorldDoes w event w'
SharedDoes w (Step.Led link node verdict) w' = LedTo w link node verdict w'
SharedDoes w (Step.Theirs node asking entries) w' = OthersAct w node asking entries w'
SharedDoes w Step.Passes w' = w' ≡ w

-- from w, this step may happen and leaves w'
abbrev pub SharedStep : WorldModel → Step → WorldModel → Type 0
SharedStep w s w' = (w.moment < last_moment) × SharedDoes (record w { moment = w.moment + 1 }) s w'

-- a whole schedule
abbrev pub SharedRun : WorldModel → List Step → WorldModel → Type 0
SharedRun w [] w' = w' ≡ w
SharedRun w (s ∷ ss) w' = (mid : WorldModel) × SharedStep w s mid × SharedRun mid ss w'

-- where nobody else acts, this is the machine alone
abbrev pub AloneIsShared : Type 0
AloneIsShared = (events : List Event) (w w' : WorldModel) → WorldRun w events w' → SharedRun w (map Step.Ours events) w'
