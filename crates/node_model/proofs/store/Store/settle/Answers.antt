use Rattle.std.proofs.Common.{subst, ◌∙◌}
use Rattle.std.specs.FinMap.{from_entries}
use Rattle.node_model.specs.Runs.{keys_in}
use Rattle.node_model.specs.Together.{AreTaken, IsLaidOver}
use Rattle.node_model.proofs.Entries.{from_entries-same}
use Rattle.node_model.proofs.store.Store.settle.Goals as goal

pub returns-clause-ok : goal.returns-clause-ok
returns-clause-ok c =
    let mid = from_entries c.take_away_all.new.held.entries in
    let kept = from_entries-same c.self.inside.held.entries c.reserve.new.self.entries c.reserve.ensures.entries.2 ∙ c.self.view_is in (
      mid,
      subst (λ s. AreTaken (keys_in c.args.parts.now) s mid) kept c.take_away_all.ensures.keys,
      subst (λ s. IsLaidOver s mid (from_entries c.put_all.new.held.entries)) c.scratch.view_is c.put_all.ensures,
    )
