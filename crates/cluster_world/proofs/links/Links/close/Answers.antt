use Rattle.std.proofs.Common.{rules, subst, Err, ◌≡◌, ◌++◌, List, [], Some, true, false, refl, sym, ap, ◌∙◌}
use Rattle.std.specs.Prelude.{slice_get, slice_set, Result}
use Rattle.key_split.specs.declared.travel.Ticket.{Ticket}
use Rattle.key_split.specs.declared.travel.Told.{Told}
use Rattle.node_model.specs.History.{EntryModel}
use Rattle.world_laws.specs.State.{Link, sent_of, waiting}
use Rattle.cluster_world.specs.Kept.{LinkModel, shown}
use Rattle.cluster_world.specs.Links.{LinksModel, linked, with_link, Closes, IsOpen}
use Rattle.cluster_world.specs.declared.fault.WorldFault.{WorldFault}
use Rattle.cluster_world.specs.declared.fault.WorldFault.TheVariants.{NoMemory}
use Rattle.cluster_world.specs.Lost.{each_lost}
use Rattle.cluster_world.proofs.Lookups.{at-place}
use Rattle.cluster_world.proofs.Shown.{there, none-past, none-there, set-linked, set-same, answered-shown}
use Rattle.cluster_world.proofs.links.Links.close.Goals as goal

pub returns-then-not-is_open : goal.returns-then-not-is_open
returns-then-not-is_open c =
    let ls : List LinkModel = c.self.inside.links.items in
    let h : List EntryModel = c.self.inside.history.items in
    let l : LinkModel = c.in-Some.link.now in
    let at : slice_get ls c.args.at ≡ Some l = at-place ls c.args.at l c.in-Some.ensures.item.3.0 c.in-Some.ensures.value in (
      none-there ls h c.args.self.now c.self.view_is c.args.at l at IsOpen (λ p. let no : false ≡ true = c.if-not-is_open.ensures ∙ p in absurd (cc)),
      set-same ls h c.args.at l l at refl ∙ c.self.view_is,
      refl,
    )

pub returns-in_err-lost : goal.returns-in_err-lost
returns-in_err-lost c =
    let ls : List LinkModel = c.self.inside.links.items in
    let h : List EntryModel = c.self.inside.history.items in
    let l : LinkModel = c.in-Some.link.now in
    let at : slice_get ls c.args.at ≡ Some l = at-place ls c.args.at l c.in-Some.ensures.item.3.0 c.in-Some.ensures.value in
    let is : c.from_residual.result ≡ Err NoMemory = search rules in
    subst (λ (r : Result Unit WorldFault). Closes c.args.self.now c.args.at c.args.downs.now.items r (linked (slice_set ls c.args.at l) h) c.args.downs.now.items) (sym is)
    (there ls h c.args.self.now c.self.view_is c.args.at l at (λ k. IsOpen) (sym c.if-not-is_open.ensures), set-same ls h c.args.at l l at refl ∙ c.self.view_is, refl)

pub returns-in_err-append : goal.returns-in_err-append
returns-in_err-append c =
    let ls : List LinkModel = c.self.inside.links.items in
    let h : List EntryModel = c.self.inside.history.items in
    let l : LinkModel = c.in-Some.link.now in
    let at : slice_get ls c.args.at ≡ Some l = at-place ls c.args.at l c.in-Some.ensures.item.3.0 c.in-Some.ensures.value in
    let is : c.from_residual-in_err-append.result ≡ Err NoMemory = search rules in
    subst (λ (r : Result Unit WorldFault). Closes c.args.self.now c.args.at c.args.downs.now.items r (linked (slice_set ls c.args.at l) h) c.append.new.self.items) (sym is)
    (there ls h c.args.self.now c.self.view_is c.args.at l at (λ k. IsOpen) (sym c.if-not-is_open.ensures), set-same ls h c.args.at l l at refl ∙ c.self.view_is, c.in_err-append.ensures.items)

pub returns : goal.returns
returns c =
    let ls : List LinkModel = c.self.inside.links.items in
    let h : List EntryModel = c.self.inside.history.items in
    let l : LinkModel = c.in-Some.link.now in
    let at : slice_get ls c.args.at ≡ Some l = at-place ls c.args.at l c.in-Some.ensures.item.3.0 c.in-Some.ensures.value in
    let downs : List (Ticket × Told) = c.args.downs.now.items in
    there ls h c.args.self.now c.self.view_is c.args.at l at
    (λ (k : LinksModel) (x : Link).
    IsOpen x × (linked (slice_set ls c.args.at c.close.new.self) h ≡ with_link k c.args.at (record x { is_open = false; backs = [] })) × (c.append.new.self.items ≡ downs ++ each_lost (waiting x))) (
      sym c.if-not-is_open.ensures,
      set-linked ls h c.args.at c.close.new.self ∙ ap (λ (x : LinkModel). with_link (linked ls h) c.args.at (shown h x)) c.close.ensures,
      c.in_ok-append.ensures.items ∙ ap (λ (ds : List (Ticket × Told)). downs ++ ds) (c.in_ok-lost.ensures ∙ (λ i. each_lost (sym (answered-shown h l.backs) i ++ sent_of l.requests))),
    )

pub returns-in_default : goal.returns-in_default
returns-in_default c =
    let ls : List LinkModel = c.self.inside.links.items in
    let h : List EntryModel = c.self.inside.history.items in
    (none-past ls h c.args.self.now c.self.view_is c.args.at c.in_default.ensures.item.3 IsOpen, search rules, refl)
