use Rattle.std.proofs.Common.{sym, ◌∙◌}
use Rattle.cluster_world.proofs.Openings.{some_words}
use Rattle.cluster_world.proofs.one.first.look_of.Goals as goal

pub returns : goal.returns
returns c = λ value are. some_words c.args.words c.as_slice.result.now value c.as_slice.ensures (sym c.is_empty.ensures ∙ c.if-is_empty.false) are
