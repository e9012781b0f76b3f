-- A client that was dealt.
use Rattle.std.proofs.Common.{◌≡◌, ◌∙◌, ℕ, List, Result, Global, inl, sym, ap, subst}
use Rattle.std.specs.Prelude.{Vec}
use Rattle.proxy_lanes.specs.declared.ring.Outlet.{Outlet}
use Rattle.proxy_lanes.specs.Ends.{ChangesAt}
use Rattle.proxy_lanes.specs.Lane.{Posts}
use Rattle.socket_proxy.specs.Emptiest.{IsEmptiestOpen}
use Rattle.socket_proxy.specs.Dealing.{Deals}

module _ {T : Type 0} where
  -- the clients were counted, and then one was posted to the emptiest worker
  pub dealt-to : (counted new : Vec ℕ Global) (old mid later : Vec (Outlet T) Global) (clients : List ℕ) (worker : ℕ) (client : T) (dealt : Result (Unit {0}) T)
      → clients ≡ counted.items → new ≡ counted → mid ≡ old → IsEmptiestOpen clients worker → ChangesAt mid.items worker later.items (λ lane lane'. Posts lane lane' client dealt) → Deals new.items old.items client dealt later.items
  dealt-to counted new old mid later clients worker client dealt at same kept emptiest lane = inl (
    worker,
    subst (λ (list : List ℕ). IsEmptiestOpen list worker) (at ∙ ap (λ (v : Vec ℕ Global). v.items) (sym same)) emptiest,
    subst (λ (v : Vec (Outlet T) Global). ChangesAt v.items worker later.items (λ lane lane'. Posts lane lane' client dealt)) kept lane,
  )
