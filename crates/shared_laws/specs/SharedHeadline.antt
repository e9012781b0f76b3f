-- What holds after every schedule in which others act: the headline (Headline.antt of world_laws) of our own commands, in one legal
-- history of everybody's. An entry is ours exactly where its ticket is of the worker that its client has with us.
-- Where each entry is ours, it is the headline of the machine alone.
use Rattle.std.specs.Prelude.{ℕ, List}
use Rattle.node_model.specs.History.{EntryModel}
use Rattle.node_model.specs.Nodes.{ClusterModel}
use Rattle.node_model.specs.Store.{StoreModel}
use Rattle.world_laws.specs.State.{WorldModel, start_from}
use Rattle.world_laws.specs.Headline.{Headline, HeadlineOf, IsIn, IsSound}
use Rattle.shared_laws.specs.Shared.{Step, IsOurs, SharedRun}

abbrev pub SharedHeadline : WorldModel → Type 0
SharedHeadline w = HeadlineOf (IsOurs w) w

-- it holds after every schedule in which others act, from a sound cluster
abbrev pub EverySharedSchedule : Type 0
EverySharedSchedule = (workers run_limit : ℕ) (initial : StoreModel) (cluster : ClusterModel) (steps : List Step) (w : WorldModel) → IsSound initial cluster
    → SharedRun (start_from workers run_limit initial cluster) steps w → SharedHeadline w

-- where each entry is ours it says what the headline says of the machine alone
abbrev pub HeadlineFollows : Type 0
HeadlineFollows = (w : WorldModel) → ((e : EntryModel) → IsIn w.history e → IsOurs w e.ticket) → SharedHeadline w → Headline w
