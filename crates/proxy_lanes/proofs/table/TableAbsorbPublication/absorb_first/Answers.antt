use Rattle.std.proofs.Common.{◌≡◌, ◌++◌, List, ap, sym, ◌∙◌, subst}
use Rattle.slot_map.specs.declared.ops.MapOp.{MapOp}
use Rattle.slot_map.specs.Map.{MapShows}
use Rattle.proxy_lanes.proofs.table.TableAbsorbPublication.absorb_first.Goals.{then-is_same, else-is_same}
use Rattle.proxy_lanes.proofs.table.TableAbsorbPublication.absorb_first.Goals as goal

pub invariant_of-self : goal.invariant_of-self
invariant_of-self g c = elim c.if-is_same.branch [
  | then-is_same w ↦
      let applied = w.apply_all.ensures c.self.inside.front c.self.invariant in
      let after : c.self.inside.front ++ c.publication.inside.ops.items ≡ w.again.result =
      ap (λ (before : List MapOp). before ++ c.publication.inside.ops.items) w.if-is_same.ensures ∙ sym c.publication.invariant ∙ sym w.again.ensures in
      rw w.self-inside-is (subst (λ (ops : List MapOp). MapShows w.apply_all.new.map ops) after (rw w.deref.ensures.value at applied))
  | else-is_same w ↦ rw w.self-inside-is c.self.invariant
]
