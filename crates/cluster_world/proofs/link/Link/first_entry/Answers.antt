use Rattle.std.proofs.Common.{◌≡◌, List, ◌∷◌, Some, sym, ap, ◌∙◌, subst}
use Rattle.std.specs.Prelude.{slice_get}
use Rattle.cluster_world.specs.Kept.{LinkModel}
use Rattle.cluster_world.specs.declared.link.Kept.{Kept}
use Rattle.cluster_world.specs.declared.link.Kept.TheVariants.{Entry}
use Rattle.cluster_world.proofs.Shown.{head-of}
use Rattle.cluster_world.proofs.link.Link.first_entry.Goals as goal

pub returns-in-Some-Entry : goal.returns-in-Some-Entry
returns-in-Some-Entry c =
    subst (λ (ks : List Kept). (rest : List Kept) × (ks ≡ Entry c.in-Some-Entry.ticket c.in-Some-Entry.place ∷ rest)) (ap (λ (l : LinkModel). l.backs) c.self.view_is)
    (head-of c.self.inside.backs.items (Entry c.in-Some-Entry.ticket c.in-Some-Entry.place)
    (ap (λ (k : Kept). Some k) (sym c.in-Some-Entry.field-0-is) ∙ c.in-Some-Entry.ensures.value ∙ ap (λ (ks : List Kept). slice_get ks 0) c.deref.ensures.value))
