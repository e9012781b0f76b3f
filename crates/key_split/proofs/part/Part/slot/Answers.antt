use Rattle.std.proofs.Common.{refl, subst, ◌≡◌}
use Rattle.std.proofs.lemmas.List.Elements.{All-cons, All-map}
use Rattle.slot_hash.specs.Slot.{slot_of}
use Rattle.key_split.specs.PartModel.{HasOneSlot}
use Rattle.key_split.proofs.part.Part.slot.Goals as goal

pub returns-clause-of_all : goal.returns-clause-of_all
returns-clause-of_all c =
    subst HasOneSlot c.self.view_is
    (All-cons (λ key. slot_of key ≡ slot_of c.self.inside.key) _ _ refl (All-map (λ key. slot_of key ≡ slot_of c.self.inside.key) (λ pair. pair.0) _ c.self.invariant.1))
