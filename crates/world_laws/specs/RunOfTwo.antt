-- A run of two, from its arrival to its answers: a client's SET and GET of one key go out together, the node executes
-- both at once, and the GET reads what the SET wrote.
-- It shows that what is said of runs is said of something: the steps of World.antt let a run of several through.
use Rattle.std.specs.Prelude.{◌≡◌, ℕ, List, [], ◌∷◌, map, codes}
use Rattle.std.specs.FinMap.{empty}
use Rattle.resp_wire.specs.declared.value.Value.TheVariants.{Simple, Bulk}
use Rattle.key_split.specs.PartModel.{PartModel}
use Rattle.key_split.specs.declared.part.Op.TheVariants.{Get, Set}
use Rattle.key_split.specs.declared.part.Mode.TheVariants.{Always}
use Rattle.key_split.specs.declared.travel.Ticket.{Ticket}
use Rattle.key_split.specs.declared.travel.Ended.TheVariants.{Answered}
use Rattle.node_model.specs.Nodes.{ClusterModel}
use Rattle.node_model.specs.Store.{single}
use Rattle.node_model.specs.declared.role.Verdict.TheVariants.{Plain}
use Rattle.world_laws.specs.State.{WorldModel, start}
use Rattle.world_laws.specs.World.{WorldRun}
use Rattle.world_laws.specs.declared.event.Event.{Event}
use Rattle.world_laws.specs.declared.event.Event.TheVariants.{Arrive, Post, Carry, Serve, Fetch, Take, Answer}

-- one node, which owns every slot
abbrev pub one_node : ClusterModel
one_node = record { slots = []; stores = empty ∷ [] }

abbrev pub writes : PartModel
writes = single (Set Always) (codes "k") (codes "v")

abbrev pub reads : PartModel
reads = single Get (codes "k") []

-- the client's tickets
abbrev pub ticket : ℕ → Ticket
ticket part = record { worker = 0; client = 7; part = part }

abbrev pub schedule : List Event
schedule =
    Arrive 7 writes ∷ Arrive 7 reads ∷ Post (ticket 0 ∷ ticket 1 ∷ []) 0 ∷ Carry 0 0 ∷ Serve 0 Plain
    ∷ Fetch 0 ∷ Fetch 0 ∷ Take 0 ∷ Take 0 ∷ Answer 7 ∷ Answer 7 ∷ []

abbrev pub RunOfTwo : Type 0
RunOfTwo = (w : WorldModel) × WorldRun (start 1 2 one_node) schedule w × (map (λ a. a.ended) w.answers ≡ Answered (Simple (codes "OK")) ∷ Answered (Bulk (codes "v")) ∷ [])
