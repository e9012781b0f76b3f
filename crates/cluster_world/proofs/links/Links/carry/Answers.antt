use Rattle.std.proofs.Common.{arith, rules, ◌≡◌, inl, inr, ℕ, ◌<◌, List, [], ◌∷◌, ◌++◌, length, map, Some, Err, true, false, refl, sym, ap, ◌∙◌, subst}
use Rattle.std.specs.Prelude.{slice_get, slice_set, All, Result}
use Rattle.node_model.specs.History.{EntryModel}
use Rattle.world_laws.specs.State.{Link, new_link, sent}
use Rattle.world_laws.specs.declared.state.Posted.{Posted}
use Rattle.cluster_world.specs.Kept.{LinkModel, shown, IsBelow, KeepsBelow}
use Rattle.cluster_world.specs.Links.{LinksModel, linked, Carries, GoesOver}
use Rattle.cluster_world.specs.declared.fault.WorldFault.{WorldFault}
use Rattle.cluster_world.specs.declared.fault.WorldFault.TheVariants.{NoMemory}
use Rattle.cluster_world.proofs.Lookups.{at-place, same-item}
use Rattle.cluster_world.proofs.Shown.{at-shown, set-shown, set-same, shown-length}
use Rattle.std.proofs.lemmas.List.Elements.{All-push}
use Rattle.std.proofs.lemmas.Option.{slice_get_within}
use Rattle.cluster_world.proofs.links.Links.carry.Goals as goal

-- no link takes the batch but the one at the place
refused : (ls : List LinkModel) (h : List EntryModel) (k : LinksModel) (at : ℕ) (b : Posted) (l : LinkModel) → linked ls h ≡ k → at < length ls → slice_get ls at ≡ Some l
    → ((l.is_open ≡ true) × (l.node ≡ b.node) → ⊥) → (links : List Link) → GoesOver k.links at b links → ⊥
refused ls h k at b l is lt e never links d = go (subst (λ (x : LinksModel). GoesOver x.links at b links) (sym is) d)
  where
    go : GoesOver (map (shown h) ls) at b links → ⊥
    go (inl x) = let same : x.0 ≡ shown h l = same-item (map (shown h) ls) at x.0 (shown h l) x.1 (at-shown ls h at l e) in never (ap (λ (y : Link). y.is_open) (sym same) ∙ x.2, ap (λ (y : Link). y.node) (sym same) ∙ x.3)
    go (inr x) = omega (arith, lt, x.0, shown-length ls h)

-- no link takes it at a place behind the next
too-far : (ls : List LinkModel) (h : List EntryModel) (k : LinksModel) (at : ℕ) (b : Posted) → linked ls h ≡ k → length ls < at → (links : List Link) → GoesOver k.links at b links → ⊥
too-far ls h k at b is lt links d = go (subst (λ (x : LinksModel). GoesOver x.links at b links) (sym is) d)
  where
    go : GoesOver (map (shown h) ls) at b links → ⊥
    go (inl x) = omega (arith, lt, shown-length ls h, slice_get_within (map (shown h) ls) at x.0 x.1)
    go (inr x) = omega (arith, lt, x.0, shown-length ls h)

pub returns-then-at-len : goal.returns-then-at-len
returns-then-at-len c =
    let ls : List LinkModel = c.self.inside.links.items in
    let h : List EntryModel = c.self.inside.history.items in
    let lt : length ls < c.args.at = search rules in (too-far ls h c.args.self.now c.args.at c.args.posted.now c.self.view_is lt, refl)

-- the link at the place takes it
taken : (ls : List LinkModel) (h : List EntryModel) (k : LinksModel) (at : ℕ) (b : Posted) (l new : LinkModel) → linked ls h ≡ k → slice_get ls at ≡ Some l
    → l.is_open ≡ true → l.node ≡ b.node → shown h new ≡ sent (shown h l) b → GoesOver k.links at b (map (shown h) (slice_set ls at new)) × (h ≡ k.history)
taken ls h k at b l new is e o n same =
    subst (λ (x : LinksModel). GoesOver x.links at b (map (shown h) (slice_set ls at new)) × (h ≡ x.history)) is
    (inl (shown h l, at-shown ls h at l e, o, n, set-shown ls h at new ∙ ap (slice_set (map (shown h) ls) at) same), refl)

pub returns-then-not-leads_to : goal.returns-then-not-leads_to
returns-then-not-leads_to c =
    let ls : List LinkModel = c.self.inside.links.items in
    let h : List EntryModel = c.self.inside.history.items in
    let l : LinkModel = c.index_mut-link.result.now in
    let lt : c.args.at < length ls = omega (arith, c.len.ensures, c.len-2.ensures) in
    let at : slice_get ls c.args.at ≡ Some l = at-place ls c.args.at l lt c.index_mut-link.ensures.value in (
      refused ls h c.args.self.now c.args.at c.args.posted.now l c.self.view_is lt at (λ p. let no : false ≡ true = c.if-not-leads_to.ensures.1 p in absurd (cc)),
      set-same ls h c.args.at l l at refl ∙ c.self.view_is,
    )

-- an open link to its node can take the batch
can : (ls : List LinkModel) (h : List EntryModel) (k : LinksModel) (at : ℕ) (b : Posted) (l : LinkModel) → linked ls h ≡ k → slice_get ls at ≡ Some l → l.is_open ≡ true → l.node ≡ b.node → (links : List Link) × GoesOver k.links at b links
can ls h k at b l is e o n =
    subst (λ (x : LinksModel). (links : List Link) × GoesOver x.links at b links) is
    (slice_set (map (shown h) ls) at (sent (shown h l) b), inl (shown h l, at-shown ls h at l e, o, n, refl))

-- a new link can
can-new : (ls : List LinkModel) (h : List EntryModel) (k : LinksModel) (at : ℕ) (b : Posted) → linked ls h ≡ k → at ≡ length ls → (links : List Link) × GoesOver k.links at b links
can-new ls h k at b is end =
    subst (λ (x : LinksModel). (links : List Link) × GoesOver x.links at b links) is
    (map (shown h) ls ++ sent (new_link b.node) b ∷ [], inr (omega (arith, end, shown-length ls h), refl))

pub returns-in_err-link : goal.returns-in_err-link
returns-in_err-link c =
    let ls : List LinkModel = c.self.inside.links.items in
    let h : List EntryModel = c.self.inside.history.items in
    let len : c.args.at ≡ length ls = search rules in
    let is : c.from_residual.result ≡ Err NoMemory = search rules in
    subst (λ (r : Result Unit WorldFault). Carries c.args.self.now c.args.at c.args.posted.now r c.args.self.now) (sym is) (can-new ls h c.args.self.now c.args.at c.args.posted.now c.self.view_is len, refl)

pub returns-in_err-push : goal.returns-in_err-push
returns-in_err-push c =
    let ls : List LinkModel = c.self.inside.links.items in
    let h : List EntryModel = c.self.inside.history.items in
    let len : c.args.at ≡ length ls = search rules in
    let is : c.from_residual-in_err-push.result ≡ Err NoMemory = search rules in
    subst (λ (r : Result Unit WorldFault). Carries c.args.self.now c.args.at c.args.posted.now r (linked c.push.new.self.items h)) (sym is)
    (can-new ls h c.args.self.now c.args.at c.args.posted.now c.self.view_is len, ap (λ (x : List LinkModel). linked x h) c.in_err-push.ensures.items ∙ c.self.view_is)

pub invariant_of-self-then-at-len-2 : goal.invariant_of-self-then-at-len-2
invariant_of-self-then-at-len-2 c =
    let ls : List LinkModel = c.self.inside.links.items in
    let h : List EntryModel = c.self.inside.history.items in
    let none : c.in_ok-link.link.backs ≡ [] = ap (λ (l : LinkModel). l.backs) c.in_ok-link.ensures in
    let mine : KeepsBelow (length h) c.in_ok-link.link = subst (All (IsBelow (length h))) (sym none) (λ k d lt. absurd (omega (arith, lt))) in
    subst (All (KeepsBelow (length h))) (sym c.in_ok-push.ensures.items) (All-push (KeepsBelow (length h)) ls c.in_ok-link.link c.self.invariant mine)

pub returns-in_err-send : goal.returns-in_err-send
returns-in_err-send c =
    let ls : List LinkModel = c.self.inside.links.items in
    let h : List EntryModel = c.self.inside.history.items in
    let l : LinkModel = c.index_mut-link.result.now in
    let lt : c.args.at < length ls = omega (arith, c.len.ensures, c.len-2.ensures) in
    let at : slice_get ls c.args.at ≡ Some l = at-place ls c.args.at l lt c.index_mut-link.ensures.value in
    let leads : (l.is_open ≡ true) × (l.node ≡ c.args.posted.now.node) = c.if-not-leads_to.ensures.0 refl in
    let is : c.from_residual-in_err-send.result ≡ Err NoMemory = search rules in
    subst (λ (r : Result Unit WorldFault). Carries c.args.self.now c.args.at c.args.posted.now r (linked (slice_set ls c.args.at c.send.new.self) h)) (sym is)
    (can ls h c.args.self.now c.args.at c.args.posted.now l c.self.view_is at leads.0 leads.1, set-same ls h c.args.at l c.send.new.self at (ap (shown h) c.in_err-send.ensures.err) ∙ c.self.view_is)

pub returns : goal.returns
returns c =
    let ls : List LinkModel = c.self.inside.links.items in
    let h : List EntryModel = c.self.inside.history.items in
    let l : LinkModel = c.index_mut-link.result.now in
    let lt : c.args.at < length ls = omega (arith, c.len.ensures, c.len-2.ensures) in
    let at : slice_get ls c.args.at ≡ Some l = at-place ls c.args.at l lt c.index_mut-link.ensures.value in
    let leads : (l.is_open ≡ true) × (l.node ≡ c.args.posted.now.node) = c.if-not-leads_to.ensures.0 refl in
    taken ls h c.args.self.now c.args.at c.args.posted.now l c.send.new.self c.self.view_is at leads.0 leads.1 (ap (shown h) c.in_ok-send.ensures.ok)
