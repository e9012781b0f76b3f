use Rattle.std.proofs.Common.{◌≡◌, ℕ, ◌<◌, ◌≤◌, ◌+◌, None, Some, leb, ltb, cond, ◌&&◌, ◌∙◌, sym, ap, arith, get_or}
use Rattle.std.proofs.lemmas.Bool.Decides.{nat_tests}
use Rattle.slot_map.proofs.map.fill.Goals as goal

same_test : (first last slot k : ℕ) → last + 1 ≤ slot → (first ≤ last + 1 → slot ≤ last + 1) → (last + 1 < first → slot ≡ first) → (leb first k && ltb k slot) ≡ (leb first k && leb k last)
same_test first last slot k a b c = grind (arith, nat_tests)

pub returns : goal.returns
returns c = record {
  size = c.loop-slot.invariant.0 ∙ sym c.requires.size;
  at = λ k h. c.loop-slot.invariant.1 k (omega arith)
      ∙ ap (λ t. cond t (Some c.args.node) (get_or c.args.nodes.now k None)) (same_test c.args.first c.args.last c.loop-slot.slot k (omega arith) (λ p. omega arith) c.loop-slot.invariant.2);
}
