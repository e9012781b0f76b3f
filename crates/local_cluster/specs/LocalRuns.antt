-- Commands of one slot that a node executes in order and at once, or not at all, behind the lock: Redis documentation,
-- MULTI and EXEC; how a node serves them is node_model's (Runs.antt).
-- They are executed for one request, the EXEC, so each entry has its ticket. It follows no ASK, and one that it is told
-- is not noted, because no later request has its ticket.
use Rattle.std.specs.Prelude.{◌≡◌, ℕ, false, List, fold, zip, Result, Ok, Err, Vec}
use Rattle.std.specs.declared.alloc.Global.{Global}
use Rattle.key_split.specs.PartModel.{PartModel}
use Rattle.key_split.specs.declared.travel.Ticket.{Ticket}
use Rattle.key_split.specs.declared.travel.Told.{Told}
use Rattle.node_model.specs.History.{EntryModel}
use Rattle.node_model.specs.Nodes.{ClusterModel}
use Rattle.node_model.specs.Runs.{ServesAll}
use Rattle.node_model.specs.declared.role.ServeFault.{ServeFault}
use Rattle.node_model.specs.declared.role.Verdict.TheVariants.{Plain}
use Rattle.local_cluster.specs.Local.{LocalStateModel, noted, unserved}

-- the commands, in order, with what each was told
abbrev pub history_after_run : List EntryModel → Ticket → List (PartModel × Told) → List EntryModel
history_after_run history ticket told = fold (λ so_far each. noted so_far ticket each.0 each.1) history told

-- the node does with all of them what its role says, and their entries are added; a refused call changes nothing
abbrev pub ServesRunLocally : LocalStateModel → Ticket → ℕ → List PartModel → Result (Vec Told Global) ServeFault → LocalStateModel → Type 0
ServesRunLocally s ticket node cs (Ok tolds) s' =
    (k : ClusterModel) × ServesAll s.nodes node false cs Plain (Ok tolds) k
    × (s' ≡ record { nodes = k; history = history_after_run s.history ticket (zip cs tolds.items); asks = s.asks })
ServesRunLocally s ticket node cs (Err fault) s' = (fault ≡ unserved s.nodes node) × (s' ≡ s)
