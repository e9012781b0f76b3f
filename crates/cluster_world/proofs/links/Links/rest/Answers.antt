use Rattle.std.proofs.Common.{List, sym, subst}
use Rattle.std.specs.Prelude.{All}
use Rattle.node_model.specs.History.{EntryModel}
use Rattle.cluster_world.specs.Kept.{LinkModel}
use Rattle.cluster_world.specs.Links.{LinksModel}
use Rattle.cluster_world.specs.Rests.{LineRests, LinkRests}
use Rattle.cluster_world.proofs.Shown.{all-rest, rest-all}
use Rattle.cluster_world.proofs.links.Links.rest.Goals as goal

pub returns : goal.returns
returns c =
    let ls : List LinkModel = c.self.inside.links.items in
    let h : List EntryModel = c.self.inside.history.items in (
      (λ t. subst (λ (x : LinksModel). All (λ l. LinkRests l c.args.sought.now) x.links) c.self.view_is
          (all-rest ls h c.args.sought.now (subst (λ (xs : List LinkModel). All (λ l. LineRests l c.args.sought.now) xs) c.deref.ensures.value (c.lines_rest.ensures.0 t)))),
      (λ a. c.lines_rest.ensures.1 (subst (λ (xs : List LinkModel). All (λ l. LineRests l c.args.sought.now) xs) (sym c.deref.ensures.value)
          (rest-all ls h c.args.sought.now (subst (λ (x : LinksModel). All (λ l. LinkRests l c.args.sought.now) x.links) (sym c.self.view_is) a)))),
    )
