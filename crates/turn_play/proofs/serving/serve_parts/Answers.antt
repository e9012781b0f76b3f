use Rattle.std.proofs.Common.{◌≡◌, arith, rules, Err, sym, subst}
use Rattle.std.specs.Prelude.{IfErr}
use Rattle.turn_play.specs.Serving.{CannotServeRun}
use Rattle.turn_play.proofs.Said.{not-written, told-length}
use Rattle.turn_play.proofs.serving.serve_parts.Goals as goal

pub write_all-requires-clause-room : goal.write_all-requires-clause-room
write_all-requires-clause-room c =
    let same = told-length c.args.nodes.now c.args.cluster.now c.args.node c.args.asking c.args.parts.now c.args.verdict c.serve_run.new.self c.in_ok-tolds.tolds c.in_ok-tolds.ensures in
    omega (arith, same, c.in_ok-said.ensures.capacity)

pub returns-in_err-write_all-clause-err : goal.returns-in_err-write_all-clause-err
returns-in_err-write_all-clause-err c =
    let is : c.from_residual-in_err-write_all.result ≡ Err c.in_err-write_all.field-0.0 = search rules in
    let x = c.in_err-write_all.ensures in
    subst
    (λ r. IfErr r (λ why. (c.serve_run.new.self ≡ c.args.cluster.now) × CannotServeRun c.args.nodes.now c.args.cluster.now c.args.node c.args.asking c.args.parts.now c.args.verdict why))
    (sym is)
    (not-written c.args.nodes.now c.args.cluster.now c.args.node c.args.asking c.args.parts.now c.args.verdict c.serve_run.new.self c.in_ok-tolds.tolds x.0 x.1 x.2 x.3 c.in_ok-tolds.ensures x.4 c.in_err-write_all.field-0.0 x.5)
