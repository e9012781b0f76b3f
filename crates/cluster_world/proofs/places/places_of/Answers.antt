use Rattle.std.proofs.Common.{◌≡◌, ◌∙◌, sym, refl, arith, subst, length}
use Rattle.std.proofs.lemmas.Option.{slice_get_read}
use Rattle.cluster_world.specs.Index.{place_in, IsIndexTo}
use Rattle.cluster_world.proofs.Indexes.{index-start, index-more, index-repeats, index-differ, is-none}
use Rattle.cluster_world.proofs.places.places_of.Goals as goal

pub returns-then-not-branch : goal.returns-then-not-branch
returns-then-not-branch g c =
    index-repeats (λ item. item.0) c.args.items.now c.loop-place.place c.index-items-place.result (place_in c.loop-place.places.entries)
    (slice_get_read _ _ _ _ refl c.loop-place-test.true c.index-items-place.is) c.loop-place.invariant (sym c.in_ok-add.ensures.0 ∙ c.if-not-branch.true)

pub loop-place-init : goal.loop-place-init
loop-place-init g c = rw c.new-places.ensures.empty (index-start _ _)

pub loop-place-preserved : goal.loop-place-preserved
loop-place-preserved g c =
    index-more (λ item. item.0) c.args.items.now c.loop-place.place c.index-items-place.result c.loop-place.places.entries c.add.new.places.entries
    (slice_get_read _ _ _ _ refl c.loop-place-test.true c.index-items-place.is) c.loop-place.invariant
    (is-none _ (sym c.in_ok-add.ensures.0 ∙ c.if-not-branch.false)) c.in_ok-add.ensures.1

pub returns : goal.returns
returns g c =
    let end : c.loop-place.place ≡ length c.args.items.now = omega (arith, c.loop-place-test.false, c.loop-place.auto.place-end) in
    let index = subst (λ n. IsIndexTo (λ item. item.0) c.args.items.now n (place_in c.loop-place.places.entries)) end c.loop-place.invariant in
    (index-differ (λ item. item.0) c.args.items.now (place_in c.loop-place.places.entries) index, index)
