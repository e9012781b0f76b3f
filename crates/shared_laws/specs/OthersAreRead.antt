-- A run in which others act: a client's GET arrives, others set its key, and the GET is answered with what they set. Both stand in
-- the one history, theirs first.
-- It shows that what is said of others is said of something.
use Rattle.std.specs.Prelude.{◌≡◌, List, [], ◌∷◌, false, map, codes}
use Rattle.resp_wire.specs.declared.value.Value.TheVariants.{Bulk}
use Rattle.key_split.specs.declared.travel.Ended.TheVariants.{Answered}
use Rattle.node_model.specs.History.{EntryModel}
use Rattle.node_model.specs.Store.{ok}
use Rattle.node_model.specs.declared.role.Verdict.TheVariants.{Plain}
use Rattle.world_laws.specs.State.{WorldModel, start}
use Rattle.world_laws.specs.RunOfTwo.{one_node, reads, ticket, writes}
use Rattle.world_laws.specs.declared.event.Event.TheVariants.{Arrive, Post, Carry, Serve, Fetch, Take, Answer}
use Rattle.shared_laws.specs.Shared.{SharedRun, Step, parts_in}

-- what others did: a SET, by a client of a worker that is not there
abbrev pub others_set : EntryModel
others_set = record { ticket = record { worker = 1; client = 9; part = 0 }; part = writes; reply = ok; moment = 2 }

abbrev pub steps : List Step
steps =
    Step.Ours (Arrive 7 reads)
    ∷ Step.Theirs 0 false (others_set ∷ [])
    ∷ Step.Ours (Post (ticket 0 ∷ []) 0)
    ∷ Step.Ours (Carry 0 0)
    ∷ Step.Ours (Serve 0 Plain)
    ∷ Step.Ours (Fetch 0)
    ∷ Step.Ours (Take 0)
    ∷ Step.Ours (Answer 7)
    ∷ []

abbrev pub OthersAreRead : Type 0
OthersAreRead = (w : WorldModel) × SharedRun (start 1 1 one_node) steps w
    × (map (λ a. a.ended) w.answers ≡ Answered (Bulk (codes "v")) ∷ []) × (parts_in w.history ≡ writes ∷ reads ∷ [])
