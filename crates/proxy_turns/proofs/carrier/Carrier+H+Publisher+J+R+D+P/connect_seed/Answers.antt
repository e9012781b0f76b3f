use Rattle.std.proofs.Common.{◌≡◌, ◌∙◌, ◌<◌, Some, arith, false, true, length, refl}
use Rattle.std.specs.Prelude.{slice_get}
use Rattle.std.proofs.lemmas.Result.{err_from_is_err_and}
use Rattle.proxy_turns.specs.CarrierModel.{CarrierModel, carrier_model, connects_seed}
use Rattle.proxy_turns.proofs.Carrying.{at-place, backends_added, connected, err_wider, goes_then, missed, opened, stays, then_wider, undialled}
use Rattle.proxy_turns.proofs.carrier.Carrier+H+Publisher+J+R+D+P.connect_seed.Goals as goal

pub returns-then-not-self : goal.returns-then-not-self
returns-then-not-self g c = (stays g.P.NodePort.calls g.D.Dial.opens g.P.RunPort.longest connects_seed (carrier_model g.D.Dial.failures c.args.self.now), λ still. c.if-not-self.true)

pub returns-in_err-add_backends : goal.returns-in_err-add_backends
returns-in_err-add_backends g c = err_wider g.P.NodePort.calls g.D.Dial.opens g.P.RunPort.longest connects_seed _ connects_seed (λ event kind. kind) _ _ _ _ (false, (backends_added g.P.NodePort.calls g.D.Dial.opens g.P.RunPort.longest connects_seed refl (carrier_model g.D.Dial.failures c.args.self.now) c.add_backends.new.backends.items c.in_err-add_backends.ensures.added)) (err_from_is_err_and c.from_residual.result c.from_residual.ensures.1).1

pub returns-in_err-open : goal.returns-in_err-open
returns-in_err-open g c =
    let mid : CarrierModel g.row.H.Denot g.row.P.Denot = record (carrier_model g.D.Dial.failures c.args.self.now) { backends = c.add_backends.new.backends.items } in
    let lt : c.place_of-at.result < length c.add_backends.new.backends.items = omega (arith, c.in_ok-add_backends.ensures.enough) in
    let there : slice_get c.add_backends.new.backends.items c.place_of-at.result ≡ Some c.index_mut-backend.result.now = at-place c.add_backends.new.backends.items c.place_of-at.result c.index_mut-backend.result.now lt c.index_mut-backend.ensures.value in
    then_wider g.P.NodePort.calls g.D.Dial.opens g.P.RunPort.longest connects_seed _ _ connects_seed (λ event kind. kind) (carrier_model g.D.Dial.failures c.args.self.now) mid c.from_residual-in_err-open.result _ (backends_added g.P.NodePort.calls g.D.Dial.opens g.P.RunPort.longest connects_seed refl (carrier_model g.D.Dial.failures c.args.self.now) c.add_backends.new.backends.items c.in_ok-add_backends.ensures.added)
    (undialled g.P.NodePort.calls g.D.Dial.opens g.P.RunPort.longest connects_seed (λ left. ⊥) mid c.place_of-at.result c.index_mut-backend.result.now c.open.new.self _ _ c.from_residual-in_err-open.result there c.in_err-open.ensures (err_from_is_err_and c.from_residual-in_err-open.result c.from_residual-in_err-open.ensures.1).1) (λ goes none. absurd none)

pub returns-in-Opened : goal.returns-in-Opened
returns-in-Opened g c =
    let mid : CarrierModel g.row.H.Denot g.row.P.Denot = record (carrier_model g.D.Dial.failures c.args.self.now) { backends = c.add_backends.new.backends.items } in
    let lt : c.place_of-at.result < length c.add_backends.new.backends.items = omega (arith, c.in_ok-add_backends.ensures.enough) in
    let there : slice_get c.add_backends.new.backends.items c.place_of-at.result ≡ Some c.index_mut-backend.result.now = at-place c.add_backends.new.backends.items c.place_of-at.result c.index_mut-backend.result.now lt c.index_mut-backend.ensures.value in (
      goes_then g.P.NodePort.calls g.D.Dial.opens g.P.RunPort.longest connects_seed (carrier_model g.D.Dial.failures c.args.self.now) false mid true _ (backends_added g.P.NodePort.calls g.D.Dial.opens g.P.RunPort.longest connects_seed refl (carrier_model g.D.Dial.failures c.args.self.now) c.add_backends.new.backends.items c.in_ok-add_backends.ensures.added)
          (opened g.P.NodePort.calls g.D.Dial.opens g.P.RunPort.longest connects_seed refl mid c.place_of-at.result c.seed-seed.result c.index_mut-backend.result.now c.open.new.self _ there c.place_of-at.ensures.value (rw c.in-Opened.is at c.in_ok-open.ensures)),
      λ still. absurd (cc),
    )

pub returns-in-Present : goal.returns-in-Present
returns-in-Present g c =
    let mid : CarrierModel g.row.H.Denot g.row.P.Denot = record (carrier_model g.D.Dial.failures c.args.self.now) { backends = c.add_backends.new.backends.items } in
    let lt : c.place_of-at.result < length c.add_backends.new.backends.items = omega (arith, c.in_ok-add_backends.ensures.enough) in
    let there : slice_get c.add_backends.new.backends.items c.place_of-at.result ≡ Some c.index_mut-backend.result.now = at-place c.add_backends.new.backends.items c.place_of-at.result c.index_mut-backend.result.now lt c.index_mut-backend.ensures.value in (
      goes_then g.P.NodePort.calls g.D.Dial.opens g.P.RunPort.longest connects_seed (carrier_model g.D.Dial.failures c.args.self.now) false mid true _ (backends_added g.P.NodePort.calls g.D.Dial.opens g.P.RunPort.longest connects_seed refl (carrier_model g.D.Dial.failures c.args.self.now) c.add_backends.new.backends.items c.in_ok-add_backends.ensures.added)
          (connected g.P.NodePort.calls g.D.Dial.opens g.P.RunPort.longest connects_seed refl mid c.place_of-at.result c.seed-seed.result c.index_mut-backend.result.now c.open.new.self _ c.if-not-self.false there (c.place_of-at.ensures.value ∙ c.seed-seed.ensures) (rw c.in-Present.is at c.in_ok-open.ensures)),
      λ still. absurd (cc),
    )

pub returns-in-Unreached : goal.returns-in-Unreached
returns-in-Unreached g c =
    let mid : CarrierModel g.row.H.Denot g.row.P.Denot = record (carrier_model g.D.Dial.failures c.args.self.now) { backends = c.add_backends.new.backends.items } in
    let lt : c.place_of-at.result < length c.add_backends.new.backends.items = omega (arith, c.in_ok-add_backends.ensures.enough) in
    let there : slice_get c.add_backends.new.backends.items c.place_of-at.result ≡ Some c.index_mut-backend.result.now = at-place c.add_backends.new.backends.items c.place_of-at.result c.index_mut-backend.result.now lt c.index_mut-backend.ensures.value in (
      goes_then g.P.NodePort.calls g.D.Dial.opens g.P.RunPort.longest connects_seed (carrier_model g.D.Dial.failures c.args.self.now) false mid true _ (backends_added g.P.NodePort.calls g.D.Dial.opens g.P.RunPort.longest connects_seed refl (carrier_model g.D.Dial.failures c.args.self.now) c.add_backends.new.backends.items c.in_ok-add_backends.ensures.added)
          (missed g.P.NodePort.calls g.D.Dial.opens g.P.RunPort.longest connects_seed refl mid c.place_of-at.result c.seed-seed.result c.index_mut-backend.result.now c.open.new.self _ c.if-not-self.false there c.seed-seed.ensures (rw c.in-Unreached.is at c.in_ok-open.ensures)),
      λ still. absurd (cc),
    )
