use Rattle.std.proofs.Common.{◌≡◌, ◌∙◌, ℕ, ◌<◌, arith, length, Ok, Err, Some, ap, sym, subst}
use Rattle.std.specs.Prelude.{Result, slice_get, slice_set}
use Rattle.proxy_turns.specs.declared.backend.Backend.{Backend}
use Rattle.proxy_turns.specs.CarrierModel.{CarrierModel, carrier_model}
use Rattle.proxy_turns.specs.Swapping.{IsClosed, PortSwap, SwapOutcome}
use Rattle.proxy_turns.proofs.Carrying.{at-place, set-itself}
use Rattle.proxy_turns.proofs.Posting.{some_same}
use Rattle.proxy_turns.proofs.carrier.Carrier+H+Publisher+J+R+D+P.swap_port.Goals as goal

-- one backend changes so
swapped : {H P : Type 0} (node : ℕ) (old : CarrierModel H P) (port : P) (result : Result P P) (backend backend' : Backend P) → slice_get old.backends node ≡ Some backend → PortSwap backend port result backend'
    → SwapOutcome node old port result (record old { backends = slice_set old.backends node backend' })
swapped node old port (Ok taken) backend backend' at x = (backend, x.0, at, x.1, x.2, x.3, λ i. record old { backends = slice_set old.backends node (x.4 i) })
swapped node old port (Err back) backend backend' at x = (
  (λ other there. subst IsClosed (some_same backend other (sym at ∙ there)) x.0),
  x.1,
  λ i. record old { backends = (ap (λ b. slice_set old.backends node b) x.2 ∙ set-itself old.backends node backend at) i },
)

pub returns : goal.returns
returns g c =
    let at : c.place_of-at.result ≡ c.args.node = c.place_of-at.ensures.value in
    let lt : c.place_of-at.result < length c.args.self.now.backends.items = omega (arith, c.len.ensures, c.if-at-len.false) in
    let here : slice_get c.args.self.now.backends.items c.place_of-at.result ≡ Some c.index_mut.result.now = at-place c.args.self.now.backends.items c.place_of-at.result c.index_mut.result.now lt c.index_mut.ensures.value in
    subst
    (λ (n : ℕ). SwapOutcome n (carrier_model g.D.Dial.failures c.args.self.now) c.args.port c.swap_port.result (record (carrier_model g.D.Dial.failures c.args.self.now) { backends = slice_set c.args.self.now.backends.items c.place_of-at.result c.swap_port.new.self }))
    at
    (swapped c.place_of-at.result (carrier_model g.D.Dial.failures c.args.self.now) c.args.port c.swap_port.result c.index_mut.result.now c.swap_port.new.self here c.swap_port.ensures)
