use Rattle.std.proofs.Common.{◌≡◌, ◌∙◌, ◌↔◌, List, sym, ap, subst, drop, ◌+◌, refl, AllPairs}
use Rattle.node_model.specs.History.{EntryModel}
use Rattle.cluster_world.specs.Lawful.{MayPrecede, WasAnswered}
use Rattle.cluster_world.proofs.Indexes.{no-way}
use Rattle.cluster_world.proofs.Lists.{never, from-item, past-end, both-ways}
use Rattle.cluster_world.proofs.Turning.{GoOn, go-first, go-over, go-on, go-no-further, go-end}
use Rattle.cluster_world.proofs.lawful.are_in_turn.Goals as goal

pub loop-entry-init : goal.loop-entry-init
loop-entry-init c = rw c.new-latest.ensures.empty (go-first c.args.ends.now c.args.history.now)

pub loop-entry-preserved-then-not-was_answered : goal.loop-entry-preserved-then-not-was_answered
loop-entry-preserved-then-not-was_answered c =
    let ends = c.args.ends.now in
    let history = c.args.history.now in
    let e = c.entry-item.result in
    let step = from-item history c.loop-entry.entry-index e c.loop-entry-test.true c.entry-item.is in
    let ticket : c.entry.inside.ticket ≡ e.ticket = ap (λ (x : EntryModel). x.ticket) c.entry.view_is in
    both-ways (subst (λ (es : List EntryModel). AllPairs (MayPrecede ends) history ↔ GoOn ends c.loop-entry.latest.entries es) step c.loop-entry.invariant)
    (go-over ends c.loop-entry.latest.entries e (drop (c.loop-entry.entry-index + 1) history) (λ was. never (c.if-not-was_answered.ensures.1 (subst (WasAnswered ends) (sym ticket) was))))

pub returns-then-not-branch : goal.returns-then-not-branch
returns-then-not-branch c =
    let ends = c.args.ends.now in
    let history = c.args.history.now in
    let e = c.entry-item.result in
    let step = from-item history c.loop-entry.entry-index e c.loop-entry-test.true c.entry-item.is in
    let ticket : c.entry.inside.ticket ≡ e.ticket = ap (λ (x : EntryModel). x.ticket) c.entry.view_is in
    let mine = subst (WasAnswered ends) ticket (c.if-not-was_answered.ensures.0 refl) in
    let so = subst (λ (es : List EntryModel). AllPairs (MayPrecede ends) history ↔ GoOn ends c.loop-entry.latest.entries es) step c.loop-entry.invariant in (
      λ n. absurd (never n),
      λ all. absurd (go-no-further ends c.loop-entry.latest.entries e (drop (c.loop-entry.entry-index + 1) history) mine (λ ok. no-way (sym c.if-not-branch.true ∙ c.in_ok-note.ensures.0.1 ok)) (so.0 all)),
    )

pub loop-entry-preserved : goal.loop-entry-preserved
loop-entry-preserved c =
    let ends = c.args.ends.now in
    let history = c.args.history.now in
    let e = c.entry-item.result in
    let step = from-item history c.loop-entry.entry-index e c.loop-entry-test.true c.entry-item.is in
    let ticket : c.entry.inside.ticket ≡ e.ticket = ap (λ (x : EntryModel). x.ticket) c.entry.view_is in
    let mine = subst (WasAnswered ends) ticket (c.if-not-was_answered.ensures.0 refl) in
    both-ways (subst (λ (es : List EntryModel). AllPairs (MayPrecede ends) history ↔ GoOn ends c.loop-entry.latest.entries es) step c.loop-entry.invariant)
    (go-on ends c.loop-entry.latest.entries c.note.new.latest.entries e c.in_ok-note.ensures.1 (drop (c.loop-entry.entry-index + 1) history) mine (c.in_ok-note.ensures.0.0 c.if-not-branch.false))

pub returns : goal.returns
returns c = (
  λ _. c.loop-entry.invariant.1 (subst (GoOn c.args.ends.now c.loop-entry.latest.entries) (sym (past-end c.loop-entry.entry-index c.args.history.now c.loop-entry-test.false)) (go-end c.args.ends.now c.loop-entry.latest.entries)),
  λ _. refl,
)
