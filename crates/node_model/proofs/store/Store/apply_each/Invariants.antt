use Rattle.std.proofs.Common.{◌≡◌, ◌++◌, List, length}
use Rattle.key_split.specs.declared.travel.Told.{Told}
use Rattle.node_model.specs.Runs.{store_after_all, AreReplies}
use Rattle.node_model.proofs.store.Store.apply_each.Given as goal

abbrev pub invariant-loop-rest : goal.invariant-loop-rest
invariant-loop-rest l = record {
  told : (more : List Told) → AreReplies l.self l.rest more → AreReplies l.fn.self l.parts (l.tolds.items ++ more);
  after : store_after_all l.self l.rest ≡ store_after_all l.fn.self l.parts;
}

abbrev pub decreases-loop-rest : goal.decreases-loop-rest
decreases-loop-rest l = length l.rest
