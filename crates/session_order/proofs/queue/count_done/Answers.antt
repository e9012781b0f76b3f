use Rattle.std.proofs.Common.{arith, rules, sym, ap, ◌∙◌, ◌≡◌, Some, length}
use Rattle.std.specs.Prelude.{slice_get}
use Rattle.std.proofs.lemmas.Option.{slice_get_within}
use Rattle.session_order.specs.Turn.{is_done}
use Rattle.session_order.proofs.Fronting.{front_is}
use Rattle.session_order.proofs.Turning.{got}
use Rattle.session_order.proofs.queue.count_done.Goals as goal

pub returns-then-not-is_done : goal.returns-then-not-is_done
returns-then-not-is_done c =
    let stages = c.args.stages.now.items in
    front_is stages c.loop-i.i c.loop-i.invariant.fits c.loop-i.invariant.done (λ s at. (
    let here : slice_get stages c.loop-i.i ≡ Some c.index.result.now = got stages c.loop-i.i _ (slice_get_within stages c.loop-i.i s at) c.index.ensures in
    let same : s ≡ c.index.result.now = (let e : Some s ≡ Some c.index.result.now = sym at ∙ here in search rules) in
    ap is_done same ∙ sym c.is_done.ensures ∙ c.if-not-is_done.true
    ))

pub returns : goal.returns
returns c =
    let stages = c.args.stages.now.items in
    let end : c.loop-i.i ≡ length stages = omega (arith, c.loop-i.invariant.fits, c.loop-i-test.false, c.len-i-end.ensures, c.args.stages.now.ok.0) in
    c.len.ensures ∙ c.args.stages.now.ok.0 ∙ sym end ∙ front_is stages c.loop-i.i c.loop-i.invariant.fits c.loop-i.invariant.done (λ s at. absurd (omega (arith, end, slice_get_within stages c.loop-i.i s at)))
