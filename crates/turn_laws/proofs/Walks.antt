-- What every step keeps holds after every walk.
use Rattle.std.proofs.Common.{ℕ, List, [], ◌∷◌, ◌++◌, map, sym, subst}
use Rattle.world_laws.specs.State.{WorldModel, start_from}
use Rattle.world_laws.specs.declared.event.Event.{Event}
use Rattle.world_laws.proofs.Placed.{Standing}
use Rattle.world_laws.proofs.Runs.{Sound, does-sound, start-sound, headline}
use Rattle.shared_laws.specs.Shared.{Step}
use Rattle.shared_laws.proofs.SharedRuns.{Steady, does-steady, shared-headline, start-steady, steady-stands}
use Rattle.turn_laws.specs.Walks.{Walk, SharedWalk, IsSharedWalked, IsWalked, EveryWalk, EverySharedWalk}

pub walk-sound : (es : List Event) (w w' : WorldModel) → Sound w → Walk w es w' → Sound w'
walk-sound [] w w' s r = subst Sound (sym r) s
walk-sound (e ∷ es) w w' s r = walk-sound es r.0 w' (does-sound e w r.0 s r.1) r.2

pub walked-steady : (w : WorldModel) (h : IsSharedWalked w) → Steady h.0 w
walked-steady w h = go h.0 h.4 (start_from h.0 h.1 h.2 h.3) w (start-steady h.0 h.1 h.2 h.3 h.5) h.6
  where
    go : (n : ℕ) (ss : List Step) (w w' : WorldModel) → Steady n w → SharedWalk w ss w' → Steady n w'
    go n [] w w' s r = subst (Steady n) (sym r) s
    go n (st ∷ ss) w w' s r = go n ss r.0 w' (does-steady n st w r.0 s r.1) r.2

pub walked-stands : (w : WorldModel) → IsSharedWalked w → Standing w
walked-stands w h = steady-stands h.0 w (walked-steady w h)

pub every_walk : EveryWalk
every_walk w h = headline w (walk-sound h.4 (start_from h.0 h.1 h.2 h.3) w (start-sound h.0 h.1 h.2 h.3 h.5) h.6)

pub every_shared_walk : EverySharedWalk
every_shared_walk w h = shared-headline h.0 w (walked-steady w h)

-- walks join
pub walks_join : (es fs : List Event) (w mid w' : WorldModel) → Walk w es mid → Walk mid fs w' → Walk w (es ++ fs) w'
walks_join [] fs w mid w' r s = subst (λ x. Walk x fs w') r s
walks_join (e ∷ es) fs w mid w' r s = (r.0, r.1, walks_join es fs r.0 mid w' r.2 s)

pub shared-join : (es fs : List Step) (w mid w' : WorldModel) → SharedWalk w es mid → SharedWalk mid fs w' → SharedWalk w (es ++ fs) w'
shared-join [] fs w mid w' r s = subst (λ x. SharedWalk x fs w') r s
shared-join (e ∷ es) fs w mid w' r s = (r.0, r.1, shared-join es fs r.0 mid w' r.2 s)

-- a walk of our events alone is one of steps
pub walk-shared : (es : List Event) (w w' : WorldModel) → Walk w es w' → SharedWalk w (map Step.Ours es) w'
walk-shared [] w w' r = r
walk-shared (e ∷ es) w w' r = (r.0, r.1, walk-shared es r.0 w' r.2)

-- events lead on
pub walked-on : (w v : WorldModel) (es : List Event) → IsSharedWalked w → Walk w es v → IsSharedWalked v
walked-on w v es h r = (h.0, h.1, h.2, h.3, h.4 ++ map Step.Ours es, h.5, shared-join h.4 (map Step.Ours es) (start_from h.0 h.1 h.2 h.3) w v h.6 (walk-shared es w v r))

-- and so they do where nobody else acts
pub alone-on : (w v : WorldModel) (es : List Event) → IsWalked w → Walk w es v → IsWalked v
alone-on w v es h r = (h.0, h.1, h.2, h.3, h.4 ++ es, h.5, walks_join h.4 es (start_from h.0 h.1 h.2 h.3) w v h.6 r)

pub alone-walked : (w : WorldModel) → IsWalked w → IsSharedWalked w
alone-walked w h = (h.0, h.1, h.2, h.3, map Step.Ours h.4, h.5, walk-shared h.4 (start_from h.0 h.1 h.2 h.3) w h.6)
