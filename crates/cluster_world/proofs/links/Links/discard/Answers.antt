use Rattle.std.proofs.Common.{rules, ◌≡◌, List, [], Some, true, false, refl, ap, ◌∙◌}
use Rattle.std.specs.Prelude.{slice_get, slice_set}
use Rattle.node_model.specs.History.{EntryModel}
use Rattle.cluster_world.specs.Kept.{LinkModel}
use Rattle.cluster_world.specs.Links.{LinksModel, linked, with_link, HasRests}
use Rattle.world_laws.specs.State.{Link}
use Rattle.cluster_world.proofs.Lookups.{at-place}
use Rattle.cluster_world.proofs.Shown.{there, none-past, none-there, set-linked, set-same}
use Rattle.cluster_world.proofs.links.Links.discard.Goals as goal

pub returns-then-not-can_discard : goal.returns-then-not-can_discard
returns-then-not-can_discard c =
    let ls : List LinkModel = c.self.inside.links.items in
    let h : List EntryModel = c.self.inside.history.items in
    let l : LinkModel = c.in-Some.link.now in
    let at : slice_get ls c.args.at ≡ Some l = at-place ls c.args.at l c.in-Some.ensures.item.3.0 c.in-Some.ensures.value in (
      none-there ls h c.args.self.now c.self.view_is c.args.at l at HasRests (λ p. let no : false ≡ true = c.if-not-can_discard.ensures.1 p in absurd (cc)),
      set-same ls h c.args.at l l at refl ∙ c.self.view_is,
    )

pub returns : goal.returns
returns c =
    let ls : List LinkModel = c.self.inside.links.items in
    let h : List EntryModel = c.self.inside.history.items in
    let l : LinkModel = c.in-Some.link.now in
    let at : slice_get ls c.args.at ≡ Some l = at-place ls c.args.at l c.in-Some.ensures.item.3.0 c.in-Some.ensures.value in
    let rests = c.if-not-can_discard.ensures.0 refl in
    there ls h c.args.self.now c.self.view_is c.args.at l at (λ (k : LinksModel) (x : Link). HasRests x × (linked (slice_set ls c.args.at c.discard.new.self) h ≡ with_link k c.args.at (record x { requests = [] })))
    (rests, ap (λ (x : LinkModel). linked (slice_set ls c.args.at x) h) c.discard.ensures ∙ set-linked ls h c.args.at (record l { requests = [] }))

pub returns-in_default : goal.returns-in_default
returns-in_default c =
    let ls : List LinkModel = c.self.inside.links.items in
    let h : List EntryModel = c.self.inside.history.items in
    (none-past ls h c.args.self.now c.self.view_is c.args.at c.in_default.ensures.item.3 HasRests, search rules)
