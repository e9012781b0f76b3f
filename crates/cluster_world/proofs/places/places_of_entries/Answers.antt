use Rattle.std.proofs.Common.{◌≡◌, ◌∙◌, sym, ap, refl, arith, subst, length}
use Rattle.std.specs.Prelude.{slice_get, is_none, cond, Some}
use Rattle.std.proofs.lemmas.Option.{slice_get_read}
use Rattle.node_model.specs.History.{EntryModel}
use Rattle.cluster_world.specs.declared.places.Key.{Key}
use Rattle.cluster_world.specs.Index.{found, place_in, same_key, ticket_key, IsIndexTo}
use Rattle.cluster_world.proofs.Indexes.{index-start, index-more, index-repeats, index-differ, is-none}
use Rattle.cluster_world.proofs.Replies.{of-entry}
use Rattle.cluster_world.proofs.places.places_of_entries.Goals as goal

pub returns-then-not-branch : goal.returns-then-not-branch
returns-then-not-branch c =
    let e : EntryModel = c.index-history-place.result in
    let at : slice_get c.args.history.now c.loop-place.place ≡ Some e = slice_get_read _ _ _ _ refl c.loop-place-test.true c.index-history-place.is in
    let same : c.entry.inside.ticket ≡ e.ticket = ap (λ x. x.ticket) c.entry.view_is in
    index-repeats of-entry c.args.history.now c.loop-place.place e (place_in c.loop-place.places.entries) at c.loop-place.invariant (ap (λ t. is_none (place_in c.loop-place.places.entries t)) (sym same) ∙ sym c.in_ok-add.ensures.0 ∙ c.if-not-branch.true)

pub loop-place-init : goal.loop-place-init
loop-place-init c = rw c.new-places.ensures.empty (index-start _ _)

pub loop-place-preserved : goal.loop-place-preserved
loop-place-preserved c =
    let e : EntryModel = c.index-history-place.result in
    let at : slice_get c.args.history.now c.loop-place.place ≡ Some e = slice_get_read _ _ _ _ refl c.loop-place-test.true c.index-history-place.is in
    let same : c.entry.inside.ticket ≡ e.ticket = ap (λ x. x.ticket) c.entry.view_is in
    index-more of-entry c.args.history.now c.loop-place.place e c.loop-place.places.entries c.add.new.places.entries at c.loop-place.invariant
    (is-none _ (ap (λ t. is_none (place_in c.loop-place.places.entries t)) (sym same) ∙ sym c.in_ok-add.ensures.0 ∙ c.if-not-branch.false))
    (subst (λ t. (key : Key) → found c.add.new.places.entries key ≡ cond (same_key (ticket_key t) key) (Some c.loop-place.place) (found c.loop-place.places.entries key)) same c.in_ok-add.ensures.1)

pub returns : goal.returns
returns c =
    let end : c.loop-place.place ≡ length c.args.history.now = omega (arith, c.loop-place-test.false, c.loop-place.auto.place-end) in
    let index = subst (λ n. IsIndexTo of-entry c.args.history.now n (place_in c.loop-place.places.entries)) end c.loop-place.invariant in
    (index-differ of-entry c.args.history.now (place_in c.loop-place.places.entries) index, index)
