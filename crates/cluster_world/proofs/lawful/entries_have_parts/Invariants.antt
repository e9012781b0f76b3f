use Rattle.std.proofs.Common.{◌≡◌, ◌<◌, ℕ, get_or, Any}
use Rattle.node_model.specs.History.{EntryModel}
use Rattle.cluster_world.proofs.lawful.entries_have_parts.Given as goal

abbrev pub invariant-loop-entry : goal.invariant-loop-entry
invariant-loop-entry l = (k : ℕ) (d : EntryModel) → k < l.entry-index → Any (λ part. (part.0 ≡ (get_or l.history k d).ticket) × (part.1 ≡ (get_or l.history k d).part)) l.parts
