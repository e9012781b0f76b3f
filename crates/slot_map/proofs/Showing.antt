-- What one more operation shows.
use Rattle.std.proofs.Common.{◌≡◌, ℕ, ◌<◌, ◌==◌, Bool, true, false, List, [], ◌∷◌, ◌++◌, length, reverse, Option, None, Some, cond, leb, ◌&&◌, get_or, set, refl, sym, ap, ◌∙◌, subst}
use Rattle.std.specs.List.{find}
use Rattle.std.specs.Option.{option_map}
use Rattle.std.proofs.lemmas.Bool.{cond-true, cond-false, eq-eqb, eqb-true, true≢false}
use Rattle.std.proofs.lemmas.List.{reverse-append, get_or-set_same, get_or-set_other, length-set}
use Rattle.slot_map.specs.declared.ops.MapOp.{MapOp}
use Rattle.slot_map.specs.declared.ops.MapOp.TheVariants.{SetRange, SetSlot}
use Rattle.slot_map.specs.Map.{covers, node_in, node_after, MapShows}
use Rattle.slot_map.specs.Filled.{FilledBetween}

first_or : (b : Bool) (op : MapOp) (o : Option MapOp) → option_map node_in (cond b (Some op) o) ≡ cond b (Some (node_in op)) (option_map node_in o)
first_or true op o = refl
first_or false op o = refl

-- the last operation counts
after-push : (ops : List MapOp) (op : MapOp) (slot : ℕ) → node_after (ops ++ op ∷ []) slot ≡ cond (covers slot op) (Some (node_in op)) (node_after ops slot)
after-push ops op slot = ap (λ os. option_map node_in (find (covers slot) os)) (reverse-append ops (op ∷ [])) ∙ first_or (covers slot op) op (find (covers slot) (reverse ops))

pub shows-range : (old new : List (Option ℕ)) (ops : List MapOp) (first last node : ℕ) → MapShows old ops → FilledBetween old new first last node
    → MapShows new (ops ++ SetRange first last node ∷ [])
shows-range old new ops first last node shown filled = record {
  size = filled.size ∙ shown.size;
  node = λ slot below. filled.at slot (subst (λ n. slot < n) (sym shown.size) below)
      ∙ ap (cond (leb first slot && leb slot last) (Some node)) (shown.node slot below)
      ∙ sym (after-push ops (SetRange first last node) slot);
}

at-set : (old : List (Option ℕ)) (only slot : ℕ) (x : Option ℕ) → only < length old → get_or (set old only x) slot None ≡ cond (slot == only) x (get_or old slot None)
at-set old only slot x within = at (slot == only) refl
  where
    at : (b : Bool) → (slot == only) ≡ b → get_or (set old only x) slot None ≡ cond (slot == only) x (get_or old slot None)
    at true e = ap (λ k. get_or (set old only x) k None) (eqb-true slot only e) ∙ get_or-set_same old only x None within ∙ sym (cond-true _ x _ e)
    at false e = get_or-set_other old only slot x None (λ same. true≢false (sym (eq-eqb slot only same) ∙ e)) ∙ sym (cond-false _ x _ e)

pub shows-slot : (old : List (Option ℕ)) (ops : List MapOp) (only node : ℕ) → only < 16384 → MapShows old ops → MapShows (set old only (Some node)) (ops ++ SetSlot only node ∷ [])
shows-slot old ops only node within shown = record {
  size = length-set old only (Some node) ∙ shown.size;
  node = λ slot below. at-set old only slot (Some node) (subst (λ n. only < n) (sym shown.size) within)
      ∙ ap (cond (slot == only) (Some node)) (shown.node slot below)
      ∙ sym (after-push ops (SetSlot only node) slot);
}
