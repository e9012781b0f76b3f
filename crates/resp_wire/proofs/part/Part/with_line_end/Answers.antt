use Rattle.std.proofs.Common.{rules, List, ℕ, ◌≡◌, true, take, drop, ◌+◌, ◌-◌, ap, ◌∙◌, ◌++◌, ◌∷◌, []}
use Rattle.std.specs.Arc.{arc_value}
use Rattle.resp_wire.specs.Spelling.{cr, lf}
use Rattle.resp_wire.proofs.PartLaws.{line_behind}
use Rattle.resp_wire.proofs.part.Part.with_line_end.Goals as goal

pub returns : goal.returns
returns c =
    let xs = (arc_value c.self.inside.whole).items in
    let same : (arc_value c.in_ok-whole.whole).items ≡ xs = search rules in
    let begins : c.starts_with.result ≡ true = search rules in
    let bytes : c.deref-2.result.now ≡ xs = search rules in
    ap (λ (u : List ℕ). take (c.self.inside.end + 2 - c.self.inside.start) (drop c.self.inside.start u)) same
    ∙ line_behind xs c.deref-2.result.now c.self.inside.start c.self.inside.end c.starts_with.result bytes c.self.invariant.0 c.self.invariant.1 c.starts_with.ensures.value begins
    ∙ ap (λ (u : List ℕ). u ++ cr ∷ lf ∷ []) c.self.view_is
