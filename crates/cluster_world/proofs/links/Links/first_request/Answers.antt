use Rattle.std.proofs.Common.{◌≡◌, ◌≢◌, ◌<◌, ◌≤◌, List, [], Some, length, subst}
use Rattle.std.specs.Prelude.{slice_get, slice_index_or}
use Rattle.node_model.specs.History.{EntryModel}
use Rattle.cluster_world.specs.Kept.{LinkModel}
use Rattle.cluster_world.proofs.Lookups.{at-place}
use Rattle.cluster_world.proofs.Shown.{first-request, none-past}
use Rattle.cluster_world.proofs.links.Links.first_request.Goals as goal

pub returns : goal.returns
returns c =
    let ls : List LinkModel = c.self.inside.links.items in
    let h : List EntryModel = c.self.inside.history.items in
    let l : LinkModel = c.in-Some.link.now in
    let at : slice_get ls c.args.at ≡ Some l = at-place ls c.args.at l (subst (λ (xs : List LinkModel). c.args.at < length xs) c.deref.ensures.value c.in-Some.ensures.lookup.3.0)
    (subst (λ (xs : List LinkModel). l ≡ slice_index_or xs c.args.at l) c.deref.ensures.value c.in-Some.ensures.lookup.1) in
    first-request ls h c.args.self.now c.self.view_is c.args.at l at c.first_request.result c.first_request.ensures

pub returns-in_default : goal.returns-in_default
returns-in_default c =
    let ls : List LinkModel = c.self.inside.links.items in
    let h : List EntryModel = c.self.inside.history.items in
    none-past ls h c.args.self.now c.self.view_is c.args.at (subst (λ (xs : List LinkModel). length xs ≤ c.args.at) c.deref.ensures.value c.in_default.ensures.lookup.3) (λ l. l.requests ≢ [])
