use Rattle.std.proofs.Common.{List, ℕ, take, drop, ap, ◌∙◌, ◌+◌, ◌-◌}
use Rattle.std.specs.Prelude.{Vec}
use Rattle.std.specs.declared.alloc.Global.{Global}
use Rattle.std.specs.Arc.{arc_value}
use Rattle.resp_wire.proofs.PartLaws.{part_within}
use Rattle.resp_wire.proofs.part.Part.part.Goals as goal

pub returns : goal.returns
returns c =
    let start = c.self.inside.start + c.args.start in
    ap (λ (v : Vec ℕ Global). take (start + c.args.count - start) (drop start v.items)) c.in_ok-try_clone.ensures
    ∙ part_within (arc_value c.self.inside.whole).items c.self.inside.start c.self.inside.end c.args.start c.args.count (rw (← c.self.view_is) at c.requires)
    ∙ ap (λ (u : List ℕ). take c.args.count (drop c.args.start u)) c.self.view_is
