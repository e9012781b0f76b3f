use Rattle.std.proofs.Common.{List, ℕ, drop, ap, ◌∙◌}
use Rattle.std.specs.Arc.{arc_value}
use Rattle.resp_wire.proofs.PartLaws.{part_behind}
use Rattle.resp_wire.proofs.part.Part.skip.Goals as goal

pub returns : goal.returns
returns c =
    part_behind (arc_value c.self.inside.whole).items c.self.inside.start c.self.inside.end c.args.count (rw (← c.self.view_is) at c.requires)
    ∙ ap (λ (u : List ℕ). drop c.args.count u) c.self.view_is
