-- A port that is taken out, changed and put back.
use Rattle.std.proofs.Common.{◌≡◌, ℕ, true, false, Some, Ok, Err, refl, sym, ap, ◌∙◌, subst}
use Rattle.std.specs.Prelude.{IsSome, Result, slice_get, slice_set}
use Rattle.proxy_turns.specs.declared.backend.Backend.{Backend}
use Rattle.proxy_turns.specs.CarrierModel.{CarrierModel}
use Rattle.proxy_turns.specs.Swapping.{SwapOutcome, with_port}
use Rattle.node_link.specs.Blocks.{BlockPortModel}
use Rattle.turn_laws.specs.ByteWires.{over_stream}
use Rattle.world_laws.proofs.Recorded.{set-same}
use Rattle.turn_play.proofs.Turning.{set-twice}

-- two swaps, one after the other, are one
pub swap-twice : {H P : Type 0} (node : ℕ) (old mid new : CarrierModel H P) (idle taken port back : P) → SwapOutcome node old idle (Ok taken) mid → SwapOutcome node mid port (Ok back) new → SwapOutcome node old port (Ok taken) new
swap-twice {H} {P} node old mid new idle taken port back x y =
    let there : slice_get mid.backends node ≡ Some (with_port x.0 x.1 idle) = ap (λ (c : CarrierModel H P). slice_get c.backends node) x.6 ∙ set-same old.backends node x.0 (with_port x.0 x.1 idle) x.2 in
    let one : Some (with_port x.0 x.1 idle) ≡ Some y.0 = sym there ∙ y.2 in
    let same : with_port x.0 x.1 idle ≡ y.0 = cc in
    let two : Some (record x.1 { port = idle }) ≡ Some y.1 = ap (λ (b : Backend P). b.link) same ∙ y.3 in
    let same-link : record x.1 { port = idle } ≡ y.1 = cc in (
      x.0,
      x.1,
      x.2,
      x.3,
      x.4,
      x.5,
      y.6 ∙ (λ i. record mid { backends = slice_set mid.backends node (with_port (sym same i) (sym same-link i) port) })
          ∙ (λ i. record (x.6 i) { backends = slice_set (x.6 i).backends node (with_port x.0 x.1 port) })
          ∙ (λ i. record old { backends = set-twice old.backends node (with_port x.0 x.1 idle) (with_port x.0 x.1 port) i }),
    )

-- after a swap the connection is open, so the next one has its port, whatever its result is called
pub put-back : {H P : Type 0} (node : ℕ) (old mid new : CarrierModel H P) (idle taken port : P) (result : Result P P) → SwapOutcome node old idle (Ok taken) mid → SwapOutcome node mid port result new → SwapOutcome node old port (Ok taken) new
put-back node old mid new idle taken port (Ok back) x y = swap-twice node old mid new idle taken port back x y
put-back {H} {P} node old mid new idle taken port (Err back) x y =
    let there : slice_get mid.backends node ≡ Some (with_port x.0 x.1 idle) = ap (λ (c : CarrierModel H P). slice_get c.backends node) x.6 ∙ set-same old.backends node x.0 (with_port x.0 x.1 idle) x.2 in
    let failed : IsSome x.1.failure = y.0 (with_port x.0 x.1 idle) there (record x.1 { port = idle }) refl in
    let n : false ≡ true = subst IsSome x.4 failed in
    absurd (cc)

-- a port whose stream was taken out, and put back as another one, goes back so
pub stream-back : {H S : Type 0} (node : ℕ) (old mid new : CarrierModel H (BlockPortModel S)) (idle taken between back : BlockPortModel S) (spare stream : S) (result : Result (BlockPortModel S) (BlockPortModel S))
    → between ≡ over_stream taken spare → back ≡ over_stream between stream → SwapOutcome node old idle (Ok taken) mid → SwapOutcome node mid back result new → SwapOutcome node old (over_stream taken stream) (Ok taken) new
stream-back node old mid new idle taken between back spare stream result out put x y =
    subst (λ port. SwapOutcome node old port (Ok taken) new) (put ∙ ap (λ port. over_stream port stream) out) (put-back node old mid new idle taken back result x y)
