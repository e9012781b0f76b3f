use Rattle.cluster_world.specs.Index.{place_in, IsIndexTo}
use Rattle.cluster_world.proofs.places.places_of.Given as goal

abbrev pub invariant-loop-place : goal.invariant-loop-place
invariant-loop-place g l = IsIndexTo (λ item. item.0) l.items l.place (place_in l.places.entries)
