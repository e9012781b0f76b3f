use Rattle.std.proofs.Common.{◌∙◌, sym, refl}
use Rattle.script_runs.proofs.Reporting.{is-run, is-no-run}
use Rattle.script_runs.proofs.Telling.{no-way}
use Rattle.script_runs.proofs.judge.judge.Goals as goal

pub returns : goal.returns
returns c = (
  c.in_ok-report.ensures.reports c.args.state c.history.ensures.value,
  is-run c.args.workers c.args.scripts.now c.in_ok-report.report c.in_ok-report.are_answered c.in_ok-report.ensures.found c.if-not-are_answered.false (c.in_ok-audit.ensures.0 c.if-not-branch.false),
  refl,
)

pub returns-then-not-are_answered : goal.returns-then-not-are_answered
returns-then-not-are_answered c = (
  c.in_ok-report.ensures.reports c.args.state c.history.ensures.value,
  is-no-run c.args.workers c.args.scripts.now c.in_ok-report.report c.in_ok-report.are_answered c.in_ok-report.ensures.found c.if-not-are_answered.true,
)

pub returns-then-not-branch : goal.returns-then-not-branch
returns-then-not-branch c = (
  c.in_ok-report.ensures.reports c.args.state c.history.ensures.value,
  λ run. no-way (sym c.if-not-branch.true ∙ c.in_ok-audit.ensures.1 run.lawful),
)
