use Rattle.std.proofs.Common.{◌≡◌, ◌∙◌, ◌↔◌, List, sym, ap, subst, drop, ◌+◌, refl}
use Rattle.std.specs.FinMap.{empty}
use Rattle.node_model.specs.History.{EntryModel, IsLegal}
use Rattle.node_model.specs.Store.{StoreModel, reply_to, store_after}
use Rattle.cluster_world.proofs.Lists.{never, from-item}
use Rattle.cluster_world.proofs.lawful.is_legal.Goals as goal

pub returns-then-not-replied : goal.returns-then-not-replied
returns-then-not-replied c =
    let history = c.args.history.now in
    let e = c.entry-item.result in
    let step = from-item history c.loop-entry.entry-index e c.loop-entry-test.true c.entry-item.is in
    let part : c.entry.inside.part ≡ e.part = ap (λ (x : EntryModel). x.part) c.entry.view_is in
    let so = subst (λ (es : List EntryModel). IsLegal empty history ↔ IsLegal c.loop-entry.store es) step c.loop-entry.invariant in (
      λ n. absurd (never n),
      λ legal. absurd (never (c.if-not-replied.ensures.1 ((so.0 legal).0 ∙ ap (reply_to c.loop-entry.store) (sym part) ∙ sym c.in_ok-reply.ensures.1))),
    )

pub loop-entry-preserved : goal.loop-entry-preserved
loop-entry-preserved c =
    let history = c.args.history.now in
    let e = c.entry-item.result in
    let step = from-item history c.loop-entry.entry-index e c.loop-entry-test.true c.entry-item.is in
    let part : c.entry.inside.part ≡ e.part = ap (λ (x : EntryModel). x.part) c.entry.view_is in
    let so = subst (λ (es : List EntryModel). IsLegal empty history ↔ IsLegal c.loop-entry.store es) step c.loop-entry.invariant in
    let after = c.in_ok-reply.ensures.0 ∙ ap (store_after c.loop-entry.store) part in
    let rest = drop (c.loop-entry.entry-index + 1) history in (
      λ legal. subst (λ (s : StoreModel). IsLegal s rest) (sym after) (so.0 legal).1,
      λ legal. so.1 (c.if-not-replied.ensures.0 refl ∙ c.in_ok-reply.ensures.1 ∙ ap (reply_to c.loop-entry.store) part, subst (λ (s : StoreModel). IsLegal s rest) after legal),
    )
