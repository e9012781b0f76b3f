-- What the steps of an audit say.
-- Only private functions cite it.
use Rattle.std.specs.Prelude.{◌≡◌, ◌≤◌, ◌↔◌, Bool, IsTrue, List, length, All, Any, AllPairs}
use Rattle.key_split.specs.PartModel.{PartModel}
use Rattle.key_split.specs.declared.travel.Ticket.{Ticket}
use Rattle.key_split.specs.declared.travel.Ended.{Ended}
use Rattle.node_model.specs.History.{EntryModel}
use Rattle.cluster_world.specs.Index.{Differ}
use Rattle.cluster_world.specs.Lawful.{MayPrecede, WasExecuted, replies_to}

-- no ticket is twice among the parts, and each end and each entry has its part
abbrev pub HaveParts : List (Ticket × PartModel) → List (Ticket × Ended) → List EntryModel → Type 0
HaveParts parts ends history =
    Differ (λ part. part.0) parts × All (λ end. Any (λ part. part.0 ≡ end.0) parts) ends
    × All (λ e. Any (λ part. (part.0 ≡ e.ticket) × (part.1 ≡ e.part)) parts) history

-- no ticket is twice in the history, so that none has two replies, and each part was executed as its end says
abbrev pub EndedSo : List (Ticket × Ended) → List EntryModel → Bool → Type 0
EndedSo ends history so =
    (IsTrue so ↔ (Differ (λ e. e.ticket) history × All (λ end. WasExecuted history end.0 end.1) ends))
    × (IsTrue so → (ticket : Ticket) → length (replies_to history ticket) ≤ 1)

-- no ticket is twice among the ends, and the answered parts of a client for one slot stand in their order
abbrev pub FollowTurns : List (Ticket × Ended) → List EntryModel → Type 0
FollowTurns ends history = Differ (λ end. end.0) ends × AllPairs (MayPrecede ends) history
