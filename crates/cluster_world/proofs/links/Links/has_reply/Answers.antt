use Rattle.std.proofs.lemmas.Bool.Decides.{nat_tests}
use Rattle.std.proofs.Common.{arith, sym, refl, ◌≡◌, ◌<◌, ◌≤◌, ℕ, List, [], ◌∷◌, Some, length, map, true, false, ap, subst}
use Rattle.std.specs.Prelude.{slice_get, slice_index_or}
use Rattle.node_model.specs.History.{EntryModel}
use Rattle.cluster_world.specs.Kept.{LinkModel, shown_back}
use Rattle.cluster_world.specs.Links.{HasReply}
use Rattle.cluster_world.specs.declared.link.Kept.{Kept}
use Rattle.cluster_world.proofs.Lookups.{at-place}
use Rattle.cluster_world.proofs.Shown.{there, here, there-within}
use Rattle.cluster_world.proofs.links.Links.has_reply.Goals as goal

none-shown : (h : List EntryModel) (ks : List Kept) → map (shown_back h) ks ≡ [] → ks ≡ []
none-shown h [] e = refl
none-shown h (k ∷ ks) e = absurd (cc)

so-not-below : (a b : ℕ) → lib.Dec.ltb a b ≡ false → b ≤ a
so-not-below a b e = grind (arith, nat_tests)

pub returns-in_default : goal.returns-in_default
returns-in_default c =
    let ls : List LinkModel = c.self.inside.links.items in
    let h : List EntryModel = c.self.inside.history.items in
    let past : length ls ≤ c.args.at = omega (arith, so-not-below c.args.at (length c.deref.result.now) (sym c.in_default.ensures.lookup.0), ap length c.deref.ensures.value) in (
      (λ e. let no' : false ≡ true = e in absurd (cc)),
      λ t. absurd (omega (arith, past, there-within ls h c.args.self.now c.args.at HasReply c.self.view_is t)),
    )

pub returns : goal.returns
returns c =
    let ls : List LinkModel = c.self.inside.links.items in
    let h : List EntryModel = c.self.inside.history.items in
    let l : LinkModel = c.in-Some.link.now in
    let at : slice_get ls c.args.at ≡ Some l = at-place ls c.args.at l (subst (λ (xs : List LinkModel). c.args.at < length xs) c.deref.ensures.value c.in-Some.ensures.lookup.3.0)
    (subst (λ (xs : List LinkModel). l ≡ slice_index_or xs c.args.at l) c.deref.ensures.value c.in-Some.ensures.lookup.1) in (
      λ yes. (let p = c.can_fetch.ensures.0 yes in there ls h c.args.self.now c.self.view_is c.args.at l at (λ k. HasReply) (p.0, λ e. p.1 (none-shown h l.backs e))),
      λ t. (let p = here ls h c.args.self.now c.self.view_is c.args.at l at HasReply t in c.can_fetch.ensures.1 (p.0, λ e. p.1 (ap (map (shown_back h)) e))),
    )
