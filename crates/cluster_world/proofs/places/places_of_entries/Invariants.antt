use Rattle.cluster_world.specs.Index.{place_in, IsIndexTo}
use Rattle.cluster_world.proofs.places.places_of_entries.Given as goal

abbrev pub invariant-loop-place : goal.invariant-loop-place
invariant-loop-place l = IsIndexTo (λ e. e.ticket) l.history l.place (place_in l.places.entries)
