use Rattle.std.proofs.Common.{◌≡◌, ◌<◌, ◌+◌, ◌-◌, arith, get_or, length}
use Rattle.std.proofs.lemmas.Option.{slice_get-get_or}
use Rattle.script_runs.proofs.Indexing.{index-start, index-more}
use Rattle.script_runs.proofs.ends.places_of.Goals as goal

pub loop-place-init : goal.loop-place-init
loop-place-init c = rw c.new-places.ensures.empty (index-start c.args.ends.now)

pub loop-place-preserved : goal.loop-place-preserved
loop-place-preserved c =
    let lt : c.loop-place.place - 1 < length c.args.ends.now = omega (arith, c.loop-place-test.true, c.loop-place.auto.place) in
    let next : c.loop-place.place ≡ c.loop-place.place - 1 + 1 = omega (arith, c.loop-place-test.true) in
    index-more c.args.ends.now c.loop-place.place (c.loop-place.place - 1) (get_or c.args.ends.now (c.loop-place.place - 1) c.index-ends-place.result) c.loop-place.places.entries c.put.new.places.entries next
    (slice_get-get_or c.args.ends.now (c.loop-place.place - 1) c.index-ends-place.result lt) c.loop-place.invariant c.in_ok-put.ensures
