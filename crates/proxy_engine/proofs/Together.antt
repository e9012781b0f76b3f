-- A worker and the carrier's ends of its lanes stay together.
use Rattle.std.proofs.Common.{◌≡◌, ℕ, List, false, Option, Some, None, refl, sym, ap, ◌∙◌, subst, arith}
use Rattle.std.specs.Prelude.{IsSome, slice_get}
use Rattle.key_split.specs.declared.travel.Ticket.{Ticket}
use Rattle.key_split.specs.declared.travel.Told.{Told}
use Rattle.proxy_lanes.specs.declared.ring.Outlet.{Outlet}
use Rattle.proxy_lanes.specs.declared.ends.lane_ends.LaneEnds.{LaneEnds}
use Rattle.proxy_lanes.specs.Beside.{AreBeside}
use Rattle.proxy_turns.specs.declared.newcomer.Newcomer.{Newcomer}
use Rattle.proxy_turns.specs.WorkerModel.{WorkerModel}
use Rattle.proxy_engine.specs.Together.{AreTogether}
use Rattle.proxy_engine.proofs.Pairs.{none-some, not-both, one-there, pairs-count, pairs-from, pairs-to}
use Rattle.proxy_engine.proofs.Ends.{SameOutlet, lane-kept}
use Rattle.proxy_engine.proofs.Working.{KeepsEnds, ends-themselves}
use Rattle.proxy_engine.proofs.Carrying.{KeepsDown, SameLane, SameLanes}

module _ {H : Type 0} where
  -- a lane was the same lane before, and is so later
  pub came-from : (old new : List (LaneEnds H)) (k : ℕ) (lane' : LaneEnds H) → SameLanes old new → slice_get new k ≡ Some lane' → (lane : LaneEnds H) × (slice_get old k ≡ Some lane) × SameLane lane lane'
  came-from old new k lane' s e = pairs-from SameLane old new k lane' s e

  pub goes-to : (old new : List (LaneEnds H)) (k : ℕ) (lane : LaneEnds H) → SameLanes old new → slice_get old k ≡ Some lane → (lane' : LaneEnds H) × (slice_get new k ≡ Some lane') × SameLane lane lane'
  goes-to old new k lane s e = pairs-to SameLane old new k lane s e

pub down-back : (a b : Option (Outlet (Ticket × Told))) → KeepsDown a b → (next : Outlet (Ticket × Told)) → b ≡ Some next → (old : Outlet (Ticket × Told)) × (a ≡ Some old) × SameOutlet old next
down-back None b k next e = absurd (none-some b next k e)
down-back (Some old) b k next e = (old, refl, subst (λ o. SameOutlet old o) (one-there b k.0 next k.1 e) k.2)

some-kept : (a b : Option (Outlet (Ticket × Told))) → KeepsDown a b → IsSome a → IsSome b
some-kept None b k s = absurd (not-both false s refl)
some-kept (Some old) b k s = subst IsSome (sym k.1) refl

module _ {C J : Type 0} where
  beside-kept : (w w' : WorkerModel C J) (lane lane' : LaneEnds (Newcomer C J)) → KeepsEnds w w' → SameLane lane lane' → AreBeside w.outlet w.inlet w.newcomers lane → AreBeside w'.outlet w'.inlet w'.newcomers lane'
  beside-kept w w' lane lane' k s b = (
    lane-kept w.outlet w'.outlet lane.up lane'.up b.0 k.1 s.0,
    (λ next e. let d = down-back lane.down lane'.down s.1 next e in lane-kept d.0 next w.inlet w'.inlet (b.1 d.0 d.1) d.2 k.2),
    lane-kept lane.door lane'.door w.newcomers w'.newcomers b.2 s.2 k.3,
  )

  -- after steps at the same ends they are together
  pub together-kept : (w w' : WorkerModel C J) (ls ls' : List (LaneEnds (Newcomer C J))) → KeepsEnds w w' → SameLanes ls ls' → AreTogether w ls → AreTogether w' ls'
  together-kept w w' ls ls' k s t =
      let before : (lane' : LaneEnds (Newcomer C J)) → slice_get ls' w'.worker ≡ Some lane' → (lane : LaneEnds (Newcomer C J)) × (slice_get ls w.worker ≡ Some lane) × SameLane lane lane' = λ lane' e. came-from ls ls' w.worker lane' s (ap (slice_get ls') (sym k.0) ∙ e) in (
        k.0 ∙ t.0,
        pairs-count SameLane ls ls' s ∙ t.1,
        (omega (arith, t.2.0, k.0, pairs-count SameLane ls ls' s), λ lane' e. let f = before lane' e in beside-kept w w' f.0 lane' k f.2 (t.2.1 f.0 f.1)),
        (λ lane' e. let f = before lane' e in some-kept f.0.down lane'.down f.2.1 (t.3 f.0 f.1)),
      )

  -- the same where the worker did nothing
  pub lanes-kept : (w : WorkerModel C J) (ls ls' : List (LaneEnds (Newcomer C J))) → SameLanes ls ls' → AreTogether w ls → AreTogether w ls'
  lanes-kept w ls ls' s t = together-kept w w ls ls' (ends-themselves w) s t
