use Rattle.std.proofs.Common.{◌≡◌, ◌-◌, ◌∙◌, ℕ, ap, length, rules}
use Rattle.std.specs.Prelude.{min}
use Rattle.proxy_turns.proofs.Draining.{pushed_off}
use Rattle.proxy_turns.proofs.unpushed.Unpushed.count_pushed.Goals as goal

pub returns : goal.returns
returns c =
    let held = c.self.inside in
    let left = c.forget_pushed.new in
    let len : c.len.result ≡ length held.bytes.items = search rules in
    let first = c.min-first.ensures ∙ ap (λ (n : ℕ). min c.args.count (n - held.pushed)) len in
    rw (← c.self.view_is)
    (pushed_off c.args.count c.min-first.result held.pushed left.pushed held.bytes.items left.bytes.items held.tail _ first c.forget_pushed.ensures.left c.count_pushed.ensures)
