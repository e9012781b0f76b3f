-- Schedules of the machine without a bound on their number of events: one event of the code may be several of the machine.
use Rattle.std.specs.Prelude.{◌≡◌, ℕ, ◌+◌, List, [], ◌∷◌}
use Rattle.node_model.specs.Nodes.{ClusterModel}
use Rattle.node_model.specs.Store.{StoreModel}
use Rattle.world_laws.specs.State.{WorldModel, start_from}
use Rattle.world_laws.specs.World.{WorldDoes}
use Rattle.world_laws.specs.Headline.{Headline, IsSound}
use Rattle.world_laws.specs.declared.event.Event.{Event}
use Rattle.shared_laws.specs.Shared.{SharedDoes, Step}
use Rattle.shared_laws.specs.SharedHeadline.{SharedHeadline}

-- the moment counts one event more
abbrev pub ticked : WorldModel → WorldModel
ticked w = record w { moment = w.moment + 1 }

-- these events, one after another
abbrev pub Walk : WorldModel → List Event → WorldModel → Type 0
Walk w [] w' = w' ≡ w
Walk w (e ∷ es) w' = (mid : WorldModel) × WorldDoes (ticked w) e mid × Walk mid es w'

-- these steps, ours and others', one after another
abbrev pub SharedWalk : WorldModel → List Step → WorldModel → Type 0
SharedWalk w [] w' = w' ≡ w
SharedWalk w (s ∷ ss) w' = (mid : WorldModel) × SharedDoes (ticked w) s mid × SharedWalk mid ss w'

-- a world to which steps lead, ours and others', from a sound cluster
abbrev pub IsSharedWalked : WorldModel → Type 0
IsSharedWalked w = (workers : ℕ) × (run_limit : ℕ) × (initial : StoreModel) × (cluster : ClusterModel) × (steps : List Step) × IsSound initial cluster
    × SharedWalk (start_from workers run_limit initial cluster) steps w

-- the same where nobody else acts
abbrev pub IsWalked : WorldModel → Type 0
IsWalked w = (workers : ℕ) × (run_limit : ℕ) × (initial : StoreModel) × (cluster : ClusterModel) × (events : List Event) × IsSound initial cluster
    × Walk (start_from workers run_limit initial cluster) events w

-- the headline holds after all of them
abbrev pub EveryWalk : Type 0
EveryWalk = (w : WorldModel) → IsWalked w → Headline w

abbrev pub EverySharedWalk : Type 0
EverySharedWalk = (w : WorldModel) → IsSharedWalked w → SharedHeadline w
