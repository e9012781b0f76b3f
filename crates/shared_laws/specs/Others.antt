-- What others can do, and what their steps leave possible.
use Rattle.std.specs.Prelude.{◌≡◌, ◌≢◌, ℕ, ◌<◌, ◌==◌, Bool, true, false, List, [], ◌∷◌, Option, None, Some, slice_get, All}
use Rattle.slot_hash.specs.Slot.{slot_of}
use Rattle.key_split.specs.PartModel.{PartModel}
use Rattle.key_split.specs.declared.travel.Ticket.{Ticket}
use Rattle.key_split.specs.declared.travel.Told.{Told}
use Rattle.node_model.specs.History.{EntryModel}
use Rattle.node_model.specs.Nodes.{ClusterModel, at, role_of, standing_at, store_at, with_key, with_store}
use Rattle.node_model.specs.Store.{StoreModel, put}
use Rattle.node_model.specs.declared.role.Role.TheVariants.{Owner}
use Rattle.node_model.specs.declared.role.Verdict.{Verdict}
use Rattle.node_model.specs.declared.standing.Phase.TheVariants.{Settled}
use Rattle.world_laws.specs.State.{WorldModel, Link, slot_for, start_from}
use Rattle.world_laws.specs.declared.state.LinkRequest.{LinkRequest}
use Rattle.world_laws.specs.Allowed.{Fits}
use Rattle.world_laws.specs.Bare.{AsksTruly}
use Rattle.world_laws.specs.Headline.{IsSound, store_of}
use Rattle.world_laws.specs.World.{IsFirst, IsNode, last_moment}
use Rattle.world_laws.specs.declared.event.Event.TheVariants.{Serve, Take}
use Rattle.shared_laws.specs.Shared.{AskIsTrue, SharedRun, SharedStep, Step}

-- one value after the other is put at its key, or taken away from it
abbrev pub put_all : StoreModel → List (List ℕ × Option (List ℕ)) → StoreModel
put_all store [] = store
put_all store (c ∷ cs) = put_all (put store c.0 c.1) cs

-- Any change of keys of one slot is a run that others can do at the node that owns the slot, whatever the world is. So a step
-- of theirs has any effect that a client, a script or the node itself may have there at once.
abbrev pub AnyChange : Type 0
AnyChange = (w : WorldModel) (node slot : ℕ) (first : List ℕ × Option (List ℕ)) (rest : List (List ℕ × Option (List ℕ)))
    → w.moment < last_moment → IsNode w.cluster node → role_of w.cluster node slot ≡ Owner
    → All (λ (c : List ℕ × Option (List ℕ)). slot_of c.0 ≡ slot) (first ∷ rest)
    → (entries : List EntryModel) × (w' : WorldModel) × SharedStep w (Step.Theirs node false entries) w'
    × (w'.cluster ≡ with_store w.cluster node (put_all (store_at w.cluster node) (first ∷ rest)))

-- a world that some schedule leaves in which others act
abbrev pub IsSharedReached : WorldModel → Type 0
IsSharedReached w = (workers : ℕ) × (run_limit : ℕ) × (initial : StoreModel) × (cluster : ClusterModel) × (steps : List Step) × IsSound initial cluster
    × SharedRun (start_from workers run_limit initial cluster) steps w

-- what such a schedule leaves is sound, and holds what the history leaves: a proxy that is started anew can begin there
abbrev pub SharedEndsAreSound : Type 0
SharedEndsAreSound = (w : WorldModel) → IsSharedReached w → IsSound (store_of w) w.cluster

-- And each key can go from the node that holds it at any time, however its slot stands: it expires there, or is evicted.
abbrev pub KeysGo : Type 0
KeysGo = (w : WorldModel) (node : ℕ) (key value : List ℕ) → IsSharedReached w → w.moment < last_moment → at w.cluster node key ≡ Some value
    → (entries : List EntryModel) × (w' : WorldModel) × SharedStep w (Step.Theirs node true entries) w' × (w'.cluster ≡ with_key w.cluster node key None)

-- an ASK that is true as Bare.antt has it of clients without a proxy is true here
abbrev pub TrueAsks : Type 0
TrueAsks = (k : ClusterModel) (node : ℕ) (asking : Bool) (part : PartModel)
    → ((standing_at k (slot_for part)).phase ≢ Settled → (standing_at k (slot_for part)).source ≢ (standing_at k (slot_for part)).target)
    → AsksTruly k node asking part → AskIsTrue k node asking part

-- whatever others did, what comes down to a worker can be taken,
abbrev pub TakeStaysAllowed : Type 0
TakeStaysAllowed = (w : WorldModel) (lane i : ℕ) (ticket : Ticket) (told : Told) → IsSharedReached w → w.moment < last_moment
    → IsFirst (λ (x : Ticket × Told). x.0.worker == lane) w.downs i (ticket, told) → (w' : WorldModel) × SharedStep w (Step.Ours (Take lane)) w'

-- and the first request of a link, open or closed, can be served
abbrev pub ServeStaysAllowed : Type 0
ServeStaysAllowed = (w : WorldModel) (link : ℕ) (verdict : Verdict) (l : Link) (first : LinkRequest) (rest : List LinkRequest)
    → IsSharedReached w → w.moment < last_moment → slice_get w.links link ≡ Some l → l.requests ≡ first ∷ rest → Fits w verdict first
    → (w' : WorldModel) × SharedStep w (Step.Ours (Serve link verdict)) w'
