use Rattle.std.proofs.Common.{◌≡◌, ◌∙◌, ◌<◌, ◌≤◌, Some, arith, false, true, length, refl, sym, subst}
use Rattle.std.specs.Prelude.{slice_get, slice_set}
use Rattle.std.specs.Option.{ForSome}
use Rattle.std.proofs.lemmas.Result.{err_from_is_err_and}
use Rattle.proxy_turns.specs.declared.pending_run.PendingRun.{PendingRun}
use Rattle.proxy_turns.specs.PendingRun.{target_of}
use Rattle.proxy_turns.specs.Resting.{HasLink}
use Rattle.proxy_turns.specs.CarrierModel.{CarrierModel, carrier_model, connects}
use Rattle.proxy_turns.proofs.Carrying.{at-place, backends_added, err_wider, goes_then, opened, present, refused, same-item, stays, then_wider, undialled}
use Rattle.proxy_turns.proofs.Places.{at_one, none_there, one_there, past}
use Rattle.proxy_turns.proofs.Resting.{put_there}
use Rattle.proxy_turns.proofs.carrier.Carrier+H+Publisher+J+R+D+P.connect.Goals as goal

pub returns-then-worker-len : goal.returns-then-worker-len
returns-then-worker-len g c =
    let le : length c.args.self.now.pending_runs.items ≤ c.args.worker = omega (arith, c.len.ensures, c.if-worker-len.true) in
    (stays g.P.NodePort.calls g.D.Dial.opens g.P.RunPort.longest connects (carrier_model g.D.Dial.failures c.args.self.now), λ still. past _ c.args.self.now.pending_runs.items c.args.worker le)

pub returns-in_default : goal.returns-in_default
returns-in_default g c =
    let lt : c.args.worker < length c.args.self.now.pending_runs.items = omega (arith, c.len.ensures, c.if-worker-len.false) in
    let here : slice_get c.args.self.now.pending_runs.items c.args.worker ≡ Some c.index.result.now = at-place c.args.self.now.pending_runs.items c.args.worker c.index.result.now lt c.index.ensures in (
      stays g.P.NodePort.calls g.D.Dial.opens g.P.RunPort.longest connects (carrier_model g.D.Dial.failures c.args.self.now),
      λ still. at_one (λ pending. ForSome (target_of pending.refused pending.run) (HasLink c.args.self.now.backends.items)) c.args.self.now.pending_runs.items c.args.worker c.index.result.now here
          (none_there _ (target_of c.index.result.now.refused c.index.result.now.run) (sym c.target.ensures ∙ c.in_default.is)),
    )

pub returns-in_err-add_backends : goal.returns-in_err-add_backends
returns-in_err-add_backends g c = err_wider g.P.NodePort.calls g.D.Dial.opens g.P.RunPort.longest connects _ connects (λ event kind. kind) _ _ _ _ (false, (backends_added g.P.NodePort.calls g.D.Dial.opens g.P.RunPort.longest connects refl (carrier_model g.D.Dial.failures c.args.self.now) c.add_backends.new.backends.items c.in_err-add_backends.ensures.added)) (err_from_is_err_and c.from_residual.result c.from_residual.ensures.1).1

pub returns-in_err-open : goal.returns-in_err-open
returns-in_err-open g c =
    let mid : CarrierModel g.row.H.Denot g.row.P.Denot = record (carrier_model g.D.Dial.failures c.args.self.now) { backends = c.add_backends.new.backends.items } in
    let lt : c.place_of-at.result < length c.add_backends.new.backends.items = omega (arith, c.in_ok-add_backends.ensures.enough) in
    let there : slice_get c.add_backends.new.backends.items c.place_of-at.result ≡ Some c.index_mut.result.now = at-place c.add_backends.new.backends.items c.place_of-at.result c.index_mut.result.now lt c.index_mut.ensures.value in
    then_wider g.P.NodePort.calls g.D.Dial.opens g.P.RunPort.longest connects _ _ connects (λ event kind. kind) (carrier_model g.D.Dial.failures c.args.self.now) mid c.from_residual-in_err-open.result _ (backends_added g.P.NodePort.calls g.D.Dial.opens g.P.RunPort.longest connects refl (carrier_model g.D.Dial.failures c.args.self.now) c.add_backends.new.backends.items c.in_ok-add_backends.ensures.added)
    (undialled g.P.NodePort.calls g.D.Dial.opens g.P.RunPort.longest connects (λ left. ⊥) mid c.place_of-at.result c.index_mut.result.now c.open.new.self _ _ c.from_residual-in_err-open.result there c.in_err-open.ensures (err_from_is_err_and c.from_residual-in_err-open.result c.from_residual-in_err-open.ensures.1).1) (λ goes none. absurd none)

pub returns-in-Present : goal.returns-in-Present
returns-in-Present g c =
    let mid : CarrierModel g.row.H.Denot g.row.P.Denot = record (carrier_model g.D.Dial.failures c.args.self.now) { backends = c.add_backends.new.backends.items } in
    let lt : c.place_of-at.result < length c.add_backends.new.backends.items = omega (arith, c.in_ok-add_backends.ensures.enough) in
    let there : slice_get c.add_backends.new.backends.items c.place_of-at.result ≡ Some c.index_mut.result.now = at-place c.add_backends.new.backends.items c.place_of-at.result c.index_mut.result.now lt c.index_mut.ensures.value in
    let within : c.args.worker < length c.args.self.now.pending_runs.items = omega (arith, c.len.ensures, c.if-worker-len.false) in
    let one : slice_get c.args.self.now.pending_runs.items c.args.worker ≡ Some c.index.result.now = at-place c.args.self.now.pending_runs.items c.args.worker c.index.result.now within c.index.ensures in
    let says = rw c.in-Present.is at c.in_ok-open.ensures in
    let new = slice_set c.add_backends.new.backends.items c.place_of-at.result c.open.new.self in (
      goes_then g.P.NodePort.calls g.D.Dial.opens g.P.RunPort.longest connects (carrier_model g.D.Dial.failures c.args.self.now) false mid false _ (backends_added g.P.NodePort.calls g.D.Dial.opens g.P.RunPort.longest connects refl (carrier_model g.D.Dial.failures c.args.self.now) c.add_backends.new.backends.items c.in_ok-add_backends.ensures.added)
          (present g.P.NodePort.calls g.D.Dial.opens g.P.RunPort.longest connects mid c.place_of-at.result c.in-Some.node c.index_mut.result.now c.open.new.self _ there says),
      λ still. at_one (λ pending. ForSome (target_of pending.refused pending.run) (HasLink new)) c.args.self.now.pending_runs.items c.args.worker c.index.result.now one
          (one_there _ (target_of c.index.result.now.refused c.index.result.now.run) c.in-Some.node (sym c.target.ensures ∙ c.in-Some.is)
          (put_there c.add_backends.new.backends.items c.place_of-at.result c.in-Some.node c.index_mut.result.now c.open.new.self c.place_of-at.ensures.value there says.0 says.1)),
    )

pub returns-in-Opened : goal.returns-in-Opened
returns-in-Opened g c =
    let mid : CarrierModel g.row.H.Denot g.row.P.Denot = record (carrier_model g.D.Dial.failures c.args.self.now) { backends = c.add_backends.new.backends.items } in
    let lt : c.place_of-at.result < length c.add_backends.new.backends.items = omega (arith, c.in_ok-add_backends.ensures.enough) in
    let there : slice_get c.add_backends.new.backends.items c.place_of-at.result ≡ Some c.index_mut.result.now = at-place c.add_backends.new.backends.items c.place_of-at.result c.index_mut.result.now lt c.index_mut.ensures.value in (
      goes_then g.P.NodePort.calls g.D.Dial.opens g.P.RunPort.longest connects (carrier_model g.D.Dial.failures c.args.self.now) false mid true _ (backends_added g.P.NodePort.calls g.D.Dial.opens g.P.RunPort.longest connects refl (carrier_model g.D.Dial.failures c.args.self.now) c.add_backends.new.backends.items c.in_ok-add_backends.ensures.added)
          (opened g.P.NodePort.calls g.D.Dial.opens g.P.RunPort.longest connects refl mid c.place_of-at.result c.in-Some.node c.index_mut.result.now c.open.new.self _ there c.place_of-at.ensures.value (rw c.in-Opened.is at c.in_ok-open.ensures)),
      λ still. absurd (cc),
    )

pub returns-in-Unreached : goal.returns-in-Unreached
returns-in-Unreached g c =
    let mid : CarrierModel g.row.H.Denot g.row.P.Denot = record (carrier_model g.D.Dial.failures c.args.self.now) { backends = c.add_backends.new.backends.items } in
    let lt : c.place_of-at.result < length c.add_backends.new.backends.items = omega (arith, c.in_ok-add_backends.ensures.enough) in
    let there : slice_get c.add_backends.new.backends.items c.place_of-at.result ≡ Some c.index_mut.result.now = at-place c.add_backends.new.backends.items c.place_of-at.result c.index_mut.result.now lt c.index_mut.ensures.value in
    let within : c.args.worker < length c.args.self.now.pending_runs.items = omega (arith, c.len.ensures, c.if-worker-len.false) in
    let one : slice_get c.args.self.now.pending_runs.items c.args.worker ≡ Some c.index.result.now = at-place c.args.self.now.pending_runs.items c.args.worker c.index.result.now within c.index.ensures in
    let two : slice_get c.args.self.now.pending_runs.items c.args.worker ≡ Some c.index_mut-in-Unreached.result.now = at-place c.args.self.now.pending_runs.items c.args.worker c.index_mut-in-Unreached.result.now within c.index_mut-in-Unreached.ensures.value in
    let same : c.index.result.now ≡ c.index_mut-in-Unreached.result.now = same-item c.args.self.now.pending_runs.items c.args.worker c.index.result.now c.index_mut-in-Unreached.result.now one two in
    let goes : target_of c.index.result.now.refused c.index.result.now.run ≡ Some c.in-Some.node = sym c.target.ensures ∙ c.in-Some.is in
    let Q : PendingRun → Type 0 = λ pending_run. target_of pending_run.refused pending_run.run ≡ Some c.in-Some.node in (
      goes_then g.P.NodePort.calls g.D.Dial.opens g.P.RunPort.longest connects (carrier_model g.D.Dial.failures c.args.self.now) false mid true _ (backends_added g.P.NodePort.calls g.D.Dial.opens g.P.RunPort.longest connects refl (carrier_model g.D.Dial.failures c.args.self.now) c.add_backends.new.backends.items c.in_ok-add_backends.ensures.added)
          (refused g.P.NodePort.calls g.D.Dial.opens g.P.RunPort.longest connects refl mid c.args.worker c.place_of-at.result c.in-Some.node c.index_mut-in-Unreached.result.now c.refuse.new.self c.index_mut.result.now c.open.new.self _ two (subst Q same goes) there c.place_of-at.ensures.value (rw c.in-Unreached.is at c.in_ok-open.ensures) c.refuse.ensures),
      λ still. absurd (cc),
    )
