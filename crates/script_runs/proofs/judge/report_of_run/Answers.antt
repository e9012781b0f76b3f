use Rattle.std.proofs.Common.{◌∙◌, refl, length}
use Rattle.script_runs.proofs.Reporting.{replies-for-all}
use Rattle.script_runs.proofs.judge.report_of_run.Goals as goal

pub replay_all-requires-clause-each : goal.replay_all-requires-clause-each
replay_all-requires-clause-each c =
    rw (c.deref-3.ensures.value, c.in_ok-replies.ensures.replies) (replies-for-all (length c.args.scripts.now) c.args.run.clients.items)

pub returns-clause-reports : goal.returns-clause-reports
returns-clause-reports c = λ state same. record {
  ends = c.in_ok-replies.ensures.ends;
  history = c.in_ok-history.ensures ∙ same;
  replies = c.in_ok-replies.ensures.replies;
  skipped = refl;
  stopped = refl;
}

pub returns-clause-found : goal.returns-clause-found
returns-clause-found c = rw (c.deref.ensures.value, c.deref-2.ensures.value, c.deref-3.ensures.value) at c.in_ok-parts.ensures
