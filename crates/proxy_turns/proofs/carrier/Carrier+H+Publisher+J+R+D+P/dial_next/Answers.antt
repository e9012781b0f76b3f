use Rattle.std.proofs.Common.{◌≡◌, ◌<◌, Some, arith, false, true, length, refl}
use Rattle.std.specs.Prelude.{slice_get}
use Rattle.std.proofs.lemmas.Result.{err_from_is_err_and}
use Rattle.proxy_turns.specs.CarrierModel.{CarrierModel, adds_backend, carrier_model, seeks_by_dial}
use Rattle.proxy_turns.proofs.Carrying.{at-place, backends_added, err_wider, goes_then, then_wider, undialled}
use Rattle.proxy_turns.proofs.Seeking.{added_closed, reached, still_linked, unfound}
use Rattle.proxy_turns.proofs.carrier.Carrier+H+Publisher+J+R+D+P.dial_next.Goals as goal

pub returns-in_err-add_backends : goal.returns-in_err-add_backends
returns-in_err-add_backends g c = err_wider g.P.NodePort.calls g.D.Dial.opens g.P.RunPort.longest seeks_by_dial _ seeks_by_dial (λ event kind. kind) _ _ _ _ (false, (backends_added g.P.NodePort.calls g.D.Dial.opens g.P.RunPort.longest seeks_by_dial refl (carrier_model g.D.Dial.failures c.args.self.now) c.add_backends.new.backends.items c.in_err-add_backends.ensures.added)) (err_from_is_err_and c.from_residual.result c.from_residual.ensures.1).1

pub returns-in_err-open : goal.returns-in_err-open
returns-in_err-open g c =
    let mid : CarrierModel g.row.H.Denot g.row.P.Denot = record (carrier_model g.D.Dial.failures c.args.self.now) { backends = c.add_backends.new.backends.items } in
    let lt : c.place_of-at.result < length c.add_backends.new.backends.items = omega (arith, c.in_ok-add_backends.ensures.enough) in
    let there : slice_get c.add_backends.new.backends.items c.place_of-at.result ≡ Some c.index_mut-backend.result.now = at-place c.add_backends.new.backends.items c.place_of-at.result c.index_mut-backend.result.now lt c.index_mut-backend.ensures.value in
    then_wider g.P.NodePort.calls g.D.Dial.opens g.P.RunPort.longest seeks_by_dial _ _ seeks_by_dial (λ event kind. kind) (carrier_model g.D.Dial.failures c.args.self.now) mid c.from_residual-in_err-open.result _ (backends_added g.P.NodePort.calls g.D.Dial.opens g.P.RunPort.longest seeks_by_dial refl (carrier_model g.D.Dial.failures c.args.self.now) c.add_backends.new.backends.items c.in_ok-add_backends.ensures.added)
    (undialled g.P.NodePort.calls g.D.Dial.opens g.P.RunPort.longest seeks_by_dial (λ left. ⊥) mid c.place_of-at.result c.index_mut-backend.result.now c.open.new.self _ _ c.from_residual-in_err-open.result there c.in_err-open.ensures (err_from_is_err_and c.from_residual-in_err-open.result c.from_residual-in_err-open.ensures.1).1) (λ goes none. absurd none)

pub returns-in-Opened : goal.returns-in-Opened
returns-in-Opened g c =
    let mid : CarrierModel g.row.H.Denot g.row.P.Denot = record (carrier_model g.D.Dial.failures c.args.self.now) { backends = c.add_backends.new.backends.items } in
    let lt : c.place_of-at.result < length c.add_backends.new.backends.items = omega (arith, c.in_ok-add_backends.ensures.enough) in
    let there : slice_get c.add_backends.new.backends.items c.place_of-at.result ≡ Some c.index_mut-backend.result.now = at-place c.add_backends.new.backends.items c.place_of-at.result c.index_mut-backend.result.now lt c.index_mut-backend.ensures.value in
    let closed = added_closed g.P.NodePort.calls g.D.Dial.opens g.P.RunPort.longest (carrier_model g.D.Dial.failures c.args.self.now) mid (backends_added g.P.NodePort.calls g.D.Dial.opens g.P.RunPort.longest adds_backend refl (carrier_model g.D.Dial.failures c.args.self.now) c.add_backends.new.backends.items c.in_ok-add_backends.ensures.added) c.requires.closed in (
      goes_then g.P.NodePort.calls g.D.Dial.opens g.P.RunPort.longest seeks_by_dial (carrier_model g.D.Dial.failures c.args.self.now) false mid true _ (backends_added g.P.NodePort.calls g.D.Dial.opens g.P.RunPort.longest seeks_by_dial refl (carrier_model g.D.Dial.failures c.args.self.now) c.add_backends.new.backends.items c.in_ok-add_backends.ensures.added)
          (reached g.P.NodePort.calls g.D.Dial.opens g.P.RunPort.longest mid c.place_of-at.result c.next_node-node.result c.index_mut-backend.result.now c.open.new.self _ closed there c.place_of-at.ensures.value (rw c.in-Opened.is at c.in_ok-open.ensures)),
      λ still. absurd (cc),
    )

pub returns-in-Present : goal.returns-in-Present
returns-in-Present g c =
    let mid : CarrierModel g.row.H.Denot g.row.P.Denot = record (carrier_model g.D.Dial.failures c.args.self.now) { backends = c.add_backends.new.backends.items } in
    let lt : c.place_of-at.result < length c.add_backends.new.backends.items = omega (arith, c.in_ok-add_backends.ensures.enough) in
    let there : slice_get c.add_backends.new.backends.items c.place_of-at.result ≡ Some c.index_mut-backend.result.now = at-place c.add_backends.new.backends.items c.place_of-at.result c.index_mut-backend.result.now lt c.index_mut-backend.ensures.value in
    let closed = added_closed g.P.NodePort.calls g.D.Dial.opens g.P.RunPort.longest (carrier_model g.D.Dial.failures c.args.self.now) mid (backends_added g.P.NodePort.calls g.D.Dial.opens g.P.RunPort.longest adds_backend refl (carrier_model g.D.Dial.failures c.args.self.now) c.add_backends.new.backends.items c.in_ok-add_backends.ensures.added) c.requires.closed in (
      goes_then g.P.NodePort.calls g.D.Dial.opens g.P.RunPort.longest seeks_by_dial (carrier_model g.D.Dial.failures c.args.self.now) false mid true _ (backends_added g.P.NodePort.calls g.D.Dial.opens g.P.RunPort.longest seeks_by_dial refl (carrier_model g.D.Dial.failures c.args.self.now) c.add_backends.new.backends.items c.in_ok-add_backends.ensures.added)
          (still_linked g.P.NodePort.calls g.D.Dial.opens g.P.RunPort.longest mid c.place_of-at.result c.next_node-node.result c.index_mut-backend.result.now c.open.new.self _ closed there (rw c.in-Present.is at c.in_ok-open.ensures)),
      λ still. absurd (cc),
    )

pub returns-in-Unreached : goal.returns-in-Unreached
returns-in-Unreached g c =
    let mid : CarrierModel g.row.H.Denot g.row.P.Denot = record (carrier_model g.D.Dial.failures c.args.self.now) { backends = c.add_backends.new.backends.items } in
    let lt : c.place_of-at.result < length c.add_backends.new.backends.items = omega (arith, c.in_ok-add_backends.ensures.enough) in
    let there : slice_get c.add_backends.new.backends.items c.place_of-at.result ≡ Some c.index_mut-backend.result.now = at-place c.add_backends.new.backends.items c.place_of-at.result c.index_mut-backend.result.now lt c.index_mut-backend.ensures.value in
    let closed = added_closed g.P.NodePort.calls g.D.Dial.opens g.P.RunPort.longest (carrier_model g.D.Dial.failures c.args.self.now) mid (backends_added g.P.NodePort.calls g.D.Dial.opens g.P.RunPort.longest adds_backend refl (carrier_model g.D.Dial.failures c.args.self.now) c.add_backends.new.backends.items c.in_ok-add_backends.ensures.added) c.requires.closed in (
      goes_then g.P.NodePort.calls g.D.Dial.opens g.P.RunPort.longest seeks_by_dial (carrier_model g.D.Dial.failures c.args.self.now) false mid true _ (backends_added g.P.NodePort.calls g.D.Dial.opens g.P.RunPort.longest seeks_by_dial refl (carrier_model g.D.Dial.failures c.args.self.now) c.add_backends.new.backends.items c.in_ok-add_backends.ensures.added)
          (unfound g.P.NodePort.calls g.D.Dial.opens g.P.RunPort.longest mid c.place_of-at.result c.next_node-node.result c.index_mut-backend.result.now c.open.new.self _ closed there (rw c.in-Unreached.is at c.in_ok-open.ensures)),
      λ still. absurd (cc),
    )
