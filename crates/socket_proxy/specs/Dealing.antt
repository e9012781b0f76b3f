-- To which worker a client goes. Each worker has a lane, and a number of clients that it has.
use Rattle.std.specs.Prelude.{◌≡◌, ◌⊎◌, ℕ, Bool, true, false, List, Option, Some, None, Result, Err}
use Rattle.proxy_lanes.specs.declared.ring.Outlet.{Outlet}
use Rattle.proxy_lanes.specs.Ends.{ChangesAt}
use Rattle.proxy_lanes.specs.Lane.{Posts}
use Rattle.socket_proxy.specs.Emptiest.{AreClosed, IsEmptiestOpen}

module _ {T : Type 0} where
  -- The client stands last in the lane of a worker that takes clients and than which none has fewer, or comes back where no place is
  -- known to be free there. No other lane changes. Where no worker takes clients it comes back.
  abbrev pub Deals : List ℕ → List (Outlet T) → T → Result Unit T → List (Outlet T) → Type 0
  Deals clients old client dealt new =
      ((worker : ℕ) × IsEmptiestOpen clients worker × ChangesAt old worker new (λ lane lane'. Posts lane lane' client dealt))
      ⊎ (AreClosed clients × (dealt ≡ Err client) × (new ≡ old))

  -- a client that waits was dealt, or waits on
  abbrev pub WaitsOn : Option T → Bool → Option T → Type 0
  WaitsOn old true new = new ≡ None
  WaitsOn None false new = ⊥
  WaitsOn (Some client) false new = new ≡ Some client
