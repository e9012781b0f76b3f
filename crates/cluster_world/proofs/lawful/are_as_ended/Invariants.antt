use Rattle.std.proofs.Common.{◌<◌, ℕ, get_or}
use Rattle.key_split.specs.declared.travel.Ticket.{Ticket}
use Rattle.key_split.specs.declared.travel.Ended.{Ended}
use Rattle.cluster_world.specs.Lawful.{WasExecuted}
use Rattle.cluster_world.proofs.lawful.are_as_ended.Given as goal

abbrev pub invariant-loop-end : goal.invariant-loop-end
invariant-loop-end l = (k : ℕ) (d : Ticket × Ended) → k < l.end-index → WasExecuted l.history (get_or l.ends k d).0 (get_or l.ends k d).1
