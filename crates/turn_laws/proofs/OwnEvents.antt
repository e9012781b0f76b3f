-- Steps of ours, seen as steps beside others.
use Rattle.std.proofs.Common.{◌≡◌, ℕ, List, [], ◌∷◌, ◌++◌, map, refl, ap}
use Rattle.std.specs.List.{FoldsTo, flat_map}
use Rattle.turn_laws.specs.System.{System}
use Rattle.turn_laws.specs.Steps.{SystemEvent, SystemStep}
use Rattle.turn_laws.specs.Sharing.{SharedEvent, SharedSystemStep}
use Rattle.turn_laws.specs.ClientOutput.{events_at}
use Rattle.turn_laws.specs.Arrivals.{own_events_at}

module _ {C J : Type 0} where
  -- steps of ours are steps beside others
  pub ours : (events : List SystemEvent) (s s' : System C J) → FoldsTo SystemStep s events s' → FoldsTo SharedSystemStep s (map SharedEvent.Ours events) s'
  ours [] s s' f = f
  ours (event ∷ events) s s' f = (f.0, f.1, ours events f.0 s' f.2)

-- the events of a worker, where nobody else acts
pub same-events : (k : ℕ) (events : List SystemEvent) → flat_map (own_events_at k) (map SharedEvent.Ours events) ≡ flat_map (events_at k) events
same-events k [] = refl
same-events k (event ∷ events) = ap (λ es. events_at k event ++ es) (same-events k events)
