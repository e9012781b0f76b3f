use Rattle.std.proofs.Common.{◌≡◌, ◌+◌, ◌≤◌, ◌∙◌, [], arith, drop, suc}
use Rattle.key_split.specs.Runs.{count_in}
use Rattle.proxy_turns.proofs.Refusing.{run_ends, run_goes_on}
use Rattle.proxy_turns.proofs.refused_run.RefusedRun.told_next.Goals as goal
use Rattle.proxy_turns.proofs.refused_run.RefusedRun.told_next.Goals.{in-None-1, in-Some-1}

pub returns-then-self-len : goal.returns-then-self-len
returns-then-self-len c =
    let one : c.self.inside.told + 1 ≡ suc c.self.inside.told = omega arith in
    run_goes_on c.args.self.now c.self.inside.run c.self.inside.told (c.self.inside.told + 1) c.in-Some.run' c.self.view_is c.in-Some.is one

pub returns-else-self-len : goal.returns-else-self-len
returns-else-self-len c =
    let le : count_in c.in-Some.run' ≤ c.self.inside.told + 1 = omega (arith, c.if-self-len.false, c.len.ensures) in
    let ends : [] ≡ drop 1 c.args.self.now = run_ends c.args.self.now c.self.inside.run c.self.inside.told c.in-Some.run' c.self.view_is c.in-Some.is le in
    elim c.match-self-2.branch [ in-Some-1 w ↦ w.self-is ∙ ends | in-None-1 w ↦ w.self-is ∙ ends ]
