use Rattle.std.proofs.Common.{◌≡◌, ◌++◌, length}
use Rattle.std.specs.Option.{option_map}
use Rattle.std.specs.List.{slice_split}
use Rattle.cluster_world.specs.Schedule.{is_plus, tickets_of}
use Rattle.cluster_world.proofs.fields.tickets_of.Given as goal

abbrev pub invariant-loop-part : goal.invariant-loop-part
invariant-loop-part l = tickets_of l.workers l.client (slice_split is_plus l.parts) ≡ option_map (λ ts. l.tickets.items ++ ts) (tickets_of l.workers l.client (slice_split is_plus l.rest))

abbrev pub decreases-loop-part : goal.decreases-loop-part
decreases-loop-part l = length l.rest
