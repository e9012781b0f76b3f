use Rattle.std.proofs.Common.{◌∙◌, Ok, ap, rules, sym}
use Rattle.cluster_world.proofs.Runs.{not_opened, not_read, played}
use Rattle.cluster_world.proofs.simulate.play.Goals as goal

pub returns-in_err-world-clause-text : goal.returns-in_err-world-clause-text
returns-in_err-world-clause-text c =
    not_opened c.args.script.now c.in_ok-header.header c.in_err-world.field-0.0 _ c.in_ok-header.ensures.header c.in_err-world.ensures (search rules)

pub returns-in_err-events-clause-text : goal.returns-in_err-events-clause-text
returns-in_err-events-clause-text c =
    not_read c.args.script.now c.in_ok-header.header c.in_ok-world.world c.in_err-events.field-0.0 _ c.in_ok-header.ensures.header c.in_ok-world.ensures c.in_err-events.ensures
    (search rules)

pub returns-clause-text : goal.returns-clause-text
returns-clause-text c =
    played c.args.script.now c.in_ok-header.header c.in_ok-world.world _ _ _ c.in_ok-report.field-0 c.in_ok-header.ensures.header c.in_ok-world.ensures
    (c.in_ok-events.ensures ∙ ap Ok (sym c.deref.ensures.value)) c.run-ran.ensures.runs c.in_ok-report.ensures.text
