use Rattle.std.proofs.Common.{◌≡◌, ◌<◌, ℕ, get_or, Any}
use Rattle.key_split.specs.declared.travel.Ticket.{Ticket}
use Rattle.key_split.specs.declared.travel.Ended.{Ended}
use Rattle.cluster_world.proofs.lawful.ends_have_parts.Given as goal

abbrev pub invariant-loop-end : goal.invariant-loop-end
invariant-loop-end l = (k : ℕ) (d : Ticket × Ended) → k < l.end-index → Any (λ part. part.0 ≡ (get_or l.ends k d).0) l.parts
