use Rattle.std.proofs.Common.{rules, ◌≡◌, is_some, sym, subst, Bool}
use Rattle.std.specs.Prelude.{◌↔◌, ◌≢◌, [], IsTrue, slice_get}
use Rattle.proxy_turns.proofs.Refusing.{refused_where}
use Rattle.proxy_turns.proofs.pending_run.PendingRun.is_refused.Goals as goal

pub returns : goal.returns
returns c =
    let is : c.is_some.result ≡ is_some (slice_get c.args.self.now.refused 0) = search rules in
    let Q : Bool → Type 0 = λ b. IsTrue b ↔ (c.args.self.now.refused ≢ []) in
    subst Q (sym is) (refused_where c.args.self.now.refused)
