use Rattle.std.proofs.Common.{◌≡◌, ◌+◌, ◌-◌, ◌∙◌, sym, ap, arith, Some, None, List}
use Rattle.session_order.specs.Output.{end_of, ends_from}
use Rattle.key_split.specs.declared.travel.Ended.{Ended}
use Rattle.script_runs.specs.Ends.{end_for}
use Rattle.script_runs.specs.Run.{ends_of}
use Rattle.script_runs.proofs.Telling.{behind, end-in, found-first, found-more, found-none, found-all}
use Rattle.script_runs.proofs.replay.ends_of.Goals as goal

pub loop-place-init : goal.loop-place-init
loop-place-init c =
    found-first (ends_of c.args.client_id c.args.ends.now) c.args.number c.args.count
    ∙ ap (λ (own : List Ended). behind own (ends_from (ends_of c.args.client_id c.args.ends.now) (c.args.number + 0) (c.args.count - 0))) (sym c.new-own.ensures.items)

pub loop-place-preserved : goal.loop-place-preserved
loop-place-preserved c =
    let told = ends_of c.args.client_id c.args.ends.now in
    let is : end_of told (c.args.number + c.loop-place.place) ≡ Some c.in-Some.end.now =
    end-in c.args.client_id c.args.ends.now (c.args.number + c.loop-place.place)
    ∙ ap (end_for c.args.ends.now) (sym c.ticket.ensures) ∙ sym c.in-Some.ensures in
    rw (c.in_ok-push.ensures.items, c.in_ok-copy.ensures) (found-more told c.args.number c.args.count c.loop-place.place c.loop-place.own.items c.in-Some.end.now
    (ends_from told c.args.number c.args.count) c.loop-place-test.true is c.loop-place.invariant)

pub returns-in_default : goal.returns-in_default
returns-in_default c =
    let told = ends_of c.args.client_id c.args.ends.now in
    let is : end_of told (c.args.number + c.loop-place.place) ≡ None =
    end-in c.args.client_id c.args.ends.now (c.args.number + c.loop-place.place)
    ∙ ap (end_for c.args.ends.now) (sym c.ticket.ensures) ∙ sym c.in_default.ensures in
    found-none told c.args.number c.args.count c.loop-place.place c.loop-place.own.items
    (ends_from told c.args.number c.args.count) c.loop-place-test.true is c.loop-place.invariant

pub returns : goal.returns
returns c =
    found-all (ends_of c.args.client_id c.args.ends.now) c.args.number c.args.count c.loop-place.place c.loop-place.own.items
    (ends_from (ends_of c.args.client_id c.args.ends.now) c.args.number c.args.count) (omega (arith, c.loop-place-test.false, c.loop-place.auto.place-end)) c.loop-place.invariant
