-- The links with the history of what their nodes executed, and what each call on them leaves.
-- Only private functions cite it.
use Rattle.std.specs.Prelude.{◌≡◌, ◌≢◌, ◌⊎◌, ℕ, List, [], ◌∷◌, ◌++◌, length, map, Option, Some, None, true, false, slice_get, slice_set, Result, Ok, Err}
use Rattle.key_split.specs.PartModel.{PartModel}
use Rattle.key_split.specs.declared.travel.Ticket.{Ticket}
use Rattle.key_split.specs.declared.travel.Told.{Told}
use Rattle.node_model.specs.History.{EntryModel}
use Rattle.node_model.specs.Nodes.{ClusterModel}
use Rattle.node_model.specs.Runs.{deed_for, DoesRun}
use Rattle.node_model.specs.declared.role.Verdict.{Verdict}
use Rattle.world_laws.specs.State.{Link, new_link, sent, replied, waiting}
use Rattle.world_laws.specs.declared.state.Posted.{Posted}
use Rattle.world_laws.specs.declared.state.LinkRequest.{LinkRequest}
use Rattle.world_laws.specs.declared.state.LinkReply.{LinkReply}
use Rattle.world_laws.specs.declared.state.LinkRequest.TheVariants.{Asking, Runs}
use Rattle.world_laws.specs.declared.state.LinkReply.TheVariants.{Welcome, To}
use Rattle.world_laws.specs.World.{NamesNode}
use Rattle.cluster_world.specs.Kept.{LinkModel, shown, served_in, all_noted, told_all}
use Rattle.cluster_world.specs.Lost.{each_lost}
use Rattle.cluster_world.specs.declared.fault.WorldFault.{WorldFault}
use Rattle.cluster_world.specs.declared.fault.WorldFault.TheVariants.{NoMemory, NotNow}

pub record LinksModel : Type 0 where
  pub links : List Link
  pub history : List EntryModel

-- what lines show of a history
abbrev pub linked : List LinkModel → List EntryModel → LinksModel
linked lines history = record { links = map (shown history) lines; history = history }

-- one link is so from now on
abbrev pub with_link : LinksModel → ℕ → Link → LinksModel
with_link k at l = record k { links = slice_set k.links at l }

-- there is such a link, or none that is
abbrev pub There : LinksModel → ℕ → (Link → Type 0) → Type 0
There k at P = (l : Link) × (slice_get k.links at ≡ Some l) × P l

abbrev pub NoneThere : LinksModel → ℕ → (Link → Type 0) → Type 0
NoneThere k at P = (l : Link) → slice_get k.links at ≡ Some l → P l → ⊥

-- the links after a run was put on one; or none takes it, or one does and there is no memory, and they stay
abbrev pub GoesOver : List Link → ℕ → Posted → List Link → Type 0
GoesOver links at b new =
    ((l : Link) × (slice_get links at ≡ Some l) × (l.is_open ≡ true) × (l.node ≡ b.node) × (new ≡ slice_set links at (sent l b)))
    ⊎ ((at ≡ length links) × (new ≡ links ++ sent (new_link b.node) b ∷ []))

abbrev pub Carries : {U : Type 0} → LinksModel → ℕ → Posted → Result U WorldFault → LinksModel → Type 0
Carries k at b (Ok u) k' = GoesOver k.links at b k'.links × (k'.history ≡ k.history)
Carries k at b (Err NotNow) k' = ((links : List Link) → GoesOver k.links at b links → ⊥) × (k' ≡ k)
Carries k at b (Err NoMemory) k' = ((links : List Link) × GoesOver k.links at b links) × (k' ≡ k)

-- an open link is closed, and who waits on it is told so
abbrev pub IsOpen : Link → Type 0
IsOpen l = l.is_open ≡ true

abbrev pub Closes : {U : Type 0} → LinksModel → ℕ → List (Ticket × Told) → Result U WorldFault → LinksModel → List (Ticket × Told) → Type 0
Closes k at downs (Ok u) k' downs' = There k at (λ l. IsOpen l × (k' ≡ with_link k at (record l { is_open = false; backs = [] })) × (downs' ≡ downs ++ each_lost (waiting l)))
Closes k at downs (Err NotNow) k' downs' = NoneThere k at IsOpen × (k' ≡ k) × (downs' ≡ downs)
Closes k at downs (Err NoMemory) k' downs' = There k at IsOpen × (k' ≡ k) × (downs' ≡ downs)

-- the requests of a closed link are thrown away
abbrev pub HasRests : Link → Type 0
HasRests l = (l.is_open ≡ false) × (l.requests ≢ [])

abbrev pub Discards : {U : Type 0} → LinksModel → ℕ → Result U WorldFault → LinksModel → Type 0
Discards k at (Ok u) k' = There k at (λ l. HasRests l × (k' ≡ with_link k at (record l { requests = [] })))
Discards k at (Err NotNow) k' = NoneThere k at HasRests × (k' ≡ k)
Discards k at (Err NoMemory) k' = ⊥

-- the first reply of an open link is taken: that of ASKING is for nobody
abbrev pub HasReply : Link → Type 0
HasReply l = (l.is_open ≡ true) × (l.backs ≢ [])

abbrev pub Fetches : LinksModel → ℕ → Result (Option (Ticket × Told)) WorldFault → LinksModel → Type 0
Fetches k at (Ok None) k' = There k at (λ l. IsOpen l × ((rest : List LinkReply) × (l.backs ≡ Welcome ∷ rest) × (k' ≡ with_link k at (record l { backs = rest }))))
Fetches k at (Ok (Some down)) k' = There k at (λ l. IsOpen l × ((rest : List LinkReply) × (l.backs ≡ To down.0 down.1 ∷ rest) × (k' ≡ with_link k at (record l { backs = rest }))))
Fetches k at (Err NotNow) k' = NoneThere k at HasReply × (k' ≡ k)
Fetches k at (Err NoMemory) k' = k' ≡ k

-- the first request of a link, open or closed
abbrev pub Begins : LinkRequest → Link → Type 0
Begins request l = (rest : List LinkRequest) × (l.requests ≡ request ∷ rest)

-- that is a run
abbrev pub BeginsRun : Link → Type 0
BeginsRun l = (tickets : List Ticket) × Begins (Runs tickets) l

abbrev pub FirstIs : LinksModel → ℕ → Option LinkRequest → Type 0
FirstIs k at (Some request) = There k at (Begins request)
FirstIs k at None = NoneThere k at (λ l. l.requests ≢ [])

-- ASKING is served
abbrev pub Welcomes : {U : Type 0} → LinksModel → ℕ → Result U WorldFault → LinksModel → Type 0
Welcomes k at (Ok u) k' = There k at (λ l. (rest : List LinkRequest) × (l.requests ≡ Asking ∷ rest) × (k' ≡ with_link k at (replied (record l { requests = rest; asking = true }) Welcome)))
Welcomes k at (Err NotNow) k' = ⊥
Welcomes k at (Err NoMemory) k' = k' ≡ k

-- a run of these parts is served by its link's node
abbrev pub LinkExecutes : {U : Type 0} → LinksModel → ClusterModel → ℕ → List PartModel → Verdict → ℕ → Result U WorldFault → LinksModel → ClusterModel → Type 0
LinkExecutes k nodes at parts verdict moment (Ok u) k' nodes' =
    There k at (λ l.
    (tickets : List Ticket) × (rest : List LinkRequest) × (tolds : List Told) × (l.requests ≡ Runs tickets ∷ rest) × NamesNode nodes verdict
    × DoesRun (deed_for nodes l.node l.asking parts verdict) nodes l.node parts tolds nodes'
    × (k' ≡ record { links = slice_set k.links at (told_all (record l { requests = rest; asking = false }) (served_in tickets parts tolds)); history = all_noted k.history moment (served_in tickets parts tolds) }))
LinkExecutes k nodes at parts verdict moment (Err NotNow) k' nodes' = (NamesNode nodes verdict → ⊥) × (k' ≡ k) × (nodes' ≡ nodes)
LinkExecutes k nodes at parts verdict moment (Err NoMemory) k' nodes' = (k' ≡ k) × (nodes' ≡ nodes)
