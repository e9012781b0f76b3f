-- A run of one is a command alone: it is posted and served as without runs.
use Rattle.std.specs.Prelude.{◌≡◌, ◌↔◌, ℕ, ◌≤◌, Bool, false, List, [], ◌∷◌, ◌++◌, All, take, slice_set}
use Rattle.key_split.specs.PartModel.{PartModel}
use Rattle.key_split.specs.declared.travel.Ticket.{Ticket}
use Rattle.key_split.specs.declared.travel.Told.{Told}
use Rattle.command_future.specs.CommandModel.{MayPostTo, asks_at}
use Rattle.node_model.specs.Nodes.{ClusterModel}
use Rattle.node_model.specs.Runs.{deed_for, DoesRun}
use Rattle.node_model.specs.Serving.{deed_at, NodeDoes}
use Rattle.node_model.specs.declared.role.Deed.{Deed}
use Rattle.node_model.specs.declared.role.Verdict.{Verdict}
use Rattle.world_laws.specs.State.{WorldModel, Arrival, Link, LinkRequest, HasEnded, awaiting, replied}
use Rattle.world_laws.specs.declared.state.LinkRequest.TheVariants.{Runs}
use Rattle.world_laws.specs.declared.state.LinkReply.TheVariants.{To}
use Rattle.world_laws.specs.World.{WorldDoes, IsOf, IsNode, NamesNode, SameTurn, ServesRun, entry_of}
use Rattle.world_laws.specs.declared.event.Event.TheVariants.{Post}

-- at a node
abbrev pub DoesAlone : Type 0
DoesAlone = (k k' : ClusterModel) (node : ℕ) (asking : Bool) (c : PartModel) (verdict : Verdict) (deed : Deed) (told : Told)
    → (deed_for k node asking (c ∷ []) verdict ≡ deed_at k node asking c verdict) × (DoesRun deed k node (c ∷ []) (told ∷ []) k' ↔ NodeDoes deed k node c told k')

-- a command is posted where it may be, and all earlier ones of its turn have ended
abbrev pub PostsOne : WorldModel → Ticket → ℕ → WorldModel → Type 0
PostsOne w ticket node w' =
    (i : ℕ) × (c : Arrival) × IsOf ticket w.commands i c × MayPostTo c.command.stage node
    × All (λ d. SameTurn c d → HasEnded d) (take i w.commands) × IsNode w.cluster node
    × (w' ≡ record w { commands = slice_set w.commands i (awaiting c); ups = w.ups ++ record { tickets = ticket ∷ []; node = node; asking = asks_at c.command.stage } ∷ [] })

-- where a run may have one command
abbrev pub PostsAlone : Type 0
PostsAlone = (w w' : WorldModel) (ticket : Ticket) (node : ℕ) → 1 ≤ w.run_limit → WorldDoes w (Post (ticket ∷ []) node) w' ↔ PostsOne w ticket node w'

-- it is served: the flag is read and cleared
abbrev pub ServesOne : WorldModel → ℕ → Link → Verdict → WorldModel → Type 0
ServesOne w link l verdict w' =
    (rest : List LinkRequest) × (i : ℕ) × (c : Arrival) × (told : Told) × (k : ClusterModel)
    × (l.requests ≡ Runs (c.command.ticket ∷ []) ∷ rest) × IsOf c.command.ticket w.commands i c × NamesNode w.cluster verdict
    × NodeDoes (deed_at w.cluster l.node l.asking c.command.part verdict) w.cluster l.node c.command.part told k
    × (w' ≡ record w { cluster = k; links = slice_set w.links link (replied (record l { requests = rest; asking = false }) (To c.command.ticket told)); history = w.history ++ entry_of w.moment c told })

abbrev pub ServesAlone : Type 0
ServesAlone = (w w' : WorldModel) (link : ℕ) (l : Link) (verdict : Verdict) (ticket : Ticket) (rest : List LinkRequest) → l.requests ≡ Runs (ticket ∷ []) ∷ rest
    → ServesRun w link l verdict w' ↔ ServesOne w link l verdict w'
