use Rattle.key_split.specs.Runs.{RunModel}
use Rattle.std.proofs.Common.{◌≡◌, ◌∙◌, ◌<◌, ◌≤◌, ap, arith, length, Some, refl, Option, subst, sym, true}
use Rattle.std.specs.Prelude.{slice_get, slice_set}
use Rattle.key_split.specs.declared.travel.Batch.{Batch}
use Rattle.proxy_turns.specs.Resting.{HasNoOpenLink}
use Rattle.proxy_turns.proofs.Places.{past, set_at}
use Rattle.proxy_turns.proofs.Refusing.{none_left}
use Rattle.proxy_turns.proofs.Resting.{no_run, no_way, not_open, not_open_set}
use Rattle.std.proofs.lemmas.Result.{err_from_is_err_and}
use Rattle.proxy_turns.specs.CarrierModel.{carrier_model, sends, CarrierGoesBy}
use Rattle.proxy_turns.proofs.Carrying.{at-place, sent, not_sent, same_pending, stays, too_long, unsent}
use Rattle.proxy_turns.proofs.carrier.Carrier+H+Publisher+J+R+D+P.send_for.Goals as goal

pub returns-then-worker-len : goal.returns-then-worker-len
returns-then-worker-len g c =
    let le : length c.args.self.now.pending_runs.items ≤ c.args.worker = omega (arith, c.len.ensures, c.if-worker-len.true) in
    (stays g.P.NodePort.calls g.D.Dial.opens g.P.RunPort.longest sends (carrier_model g.D.Dial.failures c.args.self.now), λ still. past _ c.args.self.now.pending_runs.items c.args.worker le)

pub returns-then-is_refused : goal.returns-then-is_refused
returns-then-is_refused g c =
    let within : c.args.worker < length c.args.self.now.pending_runs.items = omega (arith, c.len.ensures, c.if-worker-len.false) in
    let one : slice_get c.args.self.now.pending_runs.items c.args.worker ≡ Some c.index_mut-pending_run.result.now = at-place c.args.self.now.pending_runs.items c.args.worker c.index_mut-pending_run.result.now within c.index_mut-pending_run.ensures.value in (
      same_pending g.P.NodePort.calls g.D.Dial.opens g.P.RunPort.longest sends (carrier_model g.D.Dial.failures c.args.self.now) c.args.worker c.index_mut-pending_run.result.now one,
      λ still. set_at (HasNoOpenLink c.args.self.now.backends.items) c.args.self.now.pending_runs.items c.args.worker c.index_mut-pending_run.result.now c.index_mut-pending_run.result.now one (no_way c.args.self.now.backends.items c.index_mut-pending_run.result.now (c.if-is_refused.ensures.0 refl)),
    )

pub returns-in_default : goal.returns-in_default
returns-in_default g c =
    let within : c.args.worker < length c.args.self.now.pending_runs.items = omega (arith, c.len.ensures, c.if-worker-len.false) in
    let one : slice_get c.args.self.now.pending_runs.items c.args.worker ≡ Some c.index_mut-pending_run.result.now = at-place c.args.self.now.pending_runs.items c.args.worker c.index_mut-pending_run.result.now within c.index_mut-pending_run.ensures.value in (
      same_pending g.P.NodePort.calls g.D.Dial.opens g.P.RunPort.longest sends (carrier_model g.D.Dial.failures c.args.self.now) c.args.worker c.index_mut-pending_run.result.now one,
      λ still. set_at (HasNoOpenLink c.args.self.now.backends.items) c.args.self.now.pending_runs.items c.args.worker c.index_mut-pending_run.result.now c.index_mut-pending_run.result.now one (no_run c.args.self.now.backends.items c.index_mut-pending_run.result.now c.in_default.is),
    )

pub returns-then-at-len : goal.returns-then-at-len
returns-then-at-len g c =
    let within : c.args.worker < length c.args.self.now.pending_runs.items = omega (arith, c.len.ensures, c.if-worker-len.false) in
    let one : slice_get c.args.self.now.pending_runs.items c.args.worker ≡ Some c.index_mut-pending_run.result.now = at-place c.args.self.now.pending_runs.items c.args.worker c.index_mut-pending_run.result.now within c.index_mut-pending_run.ensures.value in
    let named : c.place_of-at.result ≡ c.in-Some.run'.first.node = c.place_of-at.ensures.value ∙ ap (λ (b : Batch). b.node) c.first.ensures in
    let le : length c.args.self.now.backends.items ≤ c.in-Some.run'.first.node = omega (arith, c.len-2.ensures, c.if-at-len.true, named) in (
      same_pending g.P.NodePort.calls g.D.Dial.opens g.P.RunPort.longest sends (carrier_model g.D.Dial.failures c.args.self.now) c.args.worker c.index_mut-pending_run.result.now one,
      λ still. set_at (HasNoOpenLink c.args.self.now.backends.items) c.args.self.now.pending_runs.items c.args.worker c.index_mut-pending_run.result.now c.index_mut-pending_run.result.now one (not_open c.args.self.now.backends.items c.index_mut-pending_run.result.now c.in-Some.run' c.in-Some.is (past _ c.args.self.now.backends.items c.in-Some.run'.first.node le)),
    )

pub returns-in-NoLink : goal.returns-in-NoLink
returns-in-NoLink g c =
    let lt : c.place_of-at.result < length c.args.self.now.backends.items = omega (arith, c.len-2.ensures, c.if-at-len.false) in
    let there : slice_get c.args.self.now.backends.items c.place_of-at.result ≡ Some c.index_mut.result.now = at-place c.args.self.now.backends.items c.place_of-at.result c.index_mut.result.now lt c.index_mut.ensures.value in
    let within : c.args.worker < length c.args.self.now.pending_runs.items = omega (arith, c.len.ensures, c.if-worker-len.false) in
    let one : slice_get c.args.self.now.pending_runs.items c.args.worker ≡ Some c.index_mut-pending_run.result.now = at-place c.args.self.now.pending_runs.items c.args.worker c.index_mut-pending_run.result.now within c.index_mut-pending_run.ensures.value in
    let named : c.place_of-at.result ≡ c.in-Some.run'.first.node = c.place_of-at.ensures.value ∙ ap (λ (b : Batch). b.node) c.first.ensures in
    let says = rw c.in-NoLink.is at c.in_ok-send.ensures in
    let new = slice_set c.args.self.now.backends.items c.place_of-at.result c.send.new.self in (
      unsent g.P.NodePort.calls g.D.Dial.opens g.P.RunPort.longest sends (carrier_model g.D.Dial.failures c.args.self.now) c.args.worker c.place_of-at.result c.index_mut-pending_run.result.now c.index_mut.result.now c.send.new.self one there says.0,
      λ still. set_at (HasNoOpenLink new) c.args.self.now.pending_runs.items c.args.worker c.index_mut-pending_run.result.now c.index_mut-pending_run.result.now one
          (not_open_set c.args.self.now.backends.items c.place_of-at.result c.index_mut-pending_run.result.now c.in-Some.run' c.index_mut.result.now c.send.new.self c.in-Some.is named there says.0 says.1),
    )

pub returns-in-TooLong : goal.returns-in-TooLong
returns-in-TooLong g c =
    let lt : c.place_of-at.result < length c.args.self.now.backends.items = omega (arith, c.len-2.ensures, c.if-at-len.false) in
    let there : slice_get c.args.self.now.backends.items c.place_of-at.result ≡ Some c.index_mut.result.now = at-place c.args.self.now.backends.items c.place_of-at.result c.index_mut.result.now lt c.index_mut.ensures.value in
    let within : c.args.worker < length c.args.self.now.pending_runs.items = omega (arith, c.len.ensures, c.if-worker-len.false) in
    let one : slice_get c.args.self.now.pending_runs.items c.args.worker ≡ Some c.index_mut-pending_run.result.now = at-place c.args.self.now.pending_runs.items c.args.worker c.index_mut-pending_run.result.now within c.index_mut-pending_run.ensures.value in
    let named : c.place_of-at.result ≡ c.in-Some.run'.first.node = c.place_of-at.ensures.value ∙ ap (λ (b : Batch). b.node) c.first.ensures in
    (too_long g.P.NodePort.calls g.D.Dial.opens g.P.RunPort.longest sends refl (carrier_model g.D.Dial.failures c.args.self.now) c.args.worker c.place_of-at.result c.index_mut-pending_run.result.now c.refuse.new.self c.in-Some.run' c.index_mut.result.now c.send.new.self one c.in-Some.is (none_left c.index_mut-pending_run.result.now.refused c.if-is_refused.ensures.1) named there (rw c.in-TooLong.is at c.in_ok-send.ensures) c.refuse.ensures, λ still. absurd (cc))

pub returns-in_err-send : goal.returns-in_err-send
returns-in_err-send g c =
    let lt : c.place_of-at.result < length c.args.self.now.backends.items = omega (arith, c.len-2.ensures, c.if-at-len.false) in
    let there : slice_get c.args.self.now.backends.items c.place_of-at.result ≡ Some c.index_mut.result.now = at-place c.args.self.now.backends.items c.place_of-at.result c.index_mut.result.now lt c.index_mut.ensures.value in
    let within : c.args.worker < length c.args.self.now.pending_runs.items = omega (arith, c.len.ensures, c.if-worker-len.false) in
    let one : slice_get c.args.self.now.pending_runs.items c.args.worker ≡ Some c.index_mut-pending_run.result.now = at-place c.args.self.now.pending_runs.items c.args.worker c.index_mut-pending_run.result.now within c.index_mut-pending_run.ensures.value in
    not_sent g.P.NodePort.calls g.D.Dial.opens g.P.RunPort.longest sends _ refl (carrier_model g.D.Dial.failures c.args.self.now) c.args.worker c.place_of-at.result c.index_mut-pending_run.result.now c.in-Some.run' c.index_mut.result.now c.send.new.self _ _ c.from_residual.result one there c.in_err-send.ensures (err_from_is_err_and c.from_residual.result c.from_residual.ensures.1).1

pub returns-in-Sent : goal.returns-in-Sent
returns-in-Sent g c =
    let lt : c.place_of-at.result < length c.args.self.now.backends.items = omega (arith, c.len-2.ensures, c.if-at-len.false) in
    let there : slice_get c.args.self.now.backends.items c.place_of-at.result ≡ Some c.index_mut.result.now = at-place c.args.self.now.backends.items c.place_of-at.result c.index_mut.result.now lt c.index_mut.ensures.value in
    let within : c.args.worker < length c.args.self.now.pending_runs.items = omega (arith, c.len.ensures, c.if-worker-len.false) in
    let one : slice_get c.args.self.now.pending_runs.items c.args.worker ≡ Some c.index_mut-pending_run.result.now = at-place c.args.self.now.pending_runs.items c.args.worker c.index_mut-pending_run.result.now within c.index_mut-pending_run.ensures.value in
    let named : c.place_of-at.result ≡ c.in-Some.run'.first.node = c.place_of-at.ensures.value ∙ ap (λ (b : Batch). b.node) c.first.ensures in
    let Q : Option RunModel → Type 0 = λ run. CarrierGoesBy g.P.NodePort.calls g.D.Dial.opens g.P.RunPort.longest sends (carrier_model g.D.Dial.failures c.args.self.now) true
    (record (carrier_model g.D.Dial.failures c.args.self.now) { pending_runs = slice_set c.args.self.now.pending_runs.items c.args.worker (record c.index_mut-pending_run.result.now { run = run }); backends = slice_set c.args.self.now.backends.items c.place_of-at.result c.send.new.self }) in
    (subst Q (sym c.put.ensures) (sent g.P.NodePort.calls g.D.Dial.opens g.P.RunPort.longest sends refl (carrier_model g.D.Dial.failures c.args.self.now) c.args.worker c.place_of-at.result c.index_mut-pending_run.result.now c.in-Some.run' c.index_mut.result.now c.send.new.self one c.in-Some.is named there (rw c.in-Sent.is at c.in_ok-send.ensures)), λ still. absurd (cc))
