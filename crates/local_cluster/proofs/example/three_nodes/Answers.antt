use Rattle.std.proofs.Common.{[], ◌∷◌}
use Rattle.slot_map.specs.Map.{MapShows}
use Rattle.local_cluster.specs.Example.{thirds}
use Rattle.local_cluster.proofs.example.three_nodes.Goals as goal

pub returns-clause-owners : goal.returns-clause-owners
returns-clause-owners c =
    let shows : MapShows c.apply-3.new.self (c.range.result ∷ c.range-2.result ∷ c.range-3.result ∷ []) = c.apply-3.ensures _ (c.apply-2.ensures _ (c.apply.ensures _ c.in-Ok.ensures)) in
    let same : MapShows c.apply-3.new.self thirds = rw (c.range.ensures, c.range-2.ensures, c.range-3.ensures) at shows in
    (c.in_ok-cluster.ensures thirds same).1

pub returns-clause-new : goal.returns-clause-new
returns-clause-new c =
    let shows : MapShows c.apply-3.new.self (c.range.result ∷ c.range-2.result ∷ c.range-3.result ∷ []) = c.apply-3.ensures _ (c.apply-2.ensures _ (c.apply.ensures _ c.in-Ok.ensures)) in
    let opens = c.in_ok-cluster.ensures _ shows in
    c.opened_is_new.ensures _ _ c.in_ok-cluster.cluster opens.0 opens.1
