use Rattle.std.proofs.Common.{◌≡◌, [], rules, subst, sym, Err}
use Rattle.cluster_world.specs.Reading.{ReadsHeader}
use Rattle.cluster_world.specs.Script.{lines_of}
use Rattle.cluster_world.proofs.Headers.{bad_nodes, bad_workers, no_third, two_lines, whole_header}
use Rattle.cluster_world.proofs.header.read_header.Goals as goal

pub returns-then-owned-eq0-clause-header : goal.returns-then-owned-eq0-clause-header
returns-then-owned-eq0-clause-header c =
    let begun = two_lines (lines_of c.args.script.now) (lines_of c.in_ok-first.first.rest.now) (lines_of c.in_ok-second.second.rest.now) _ _ c.in_ok-first.ensures.says c.in_ok-second.ensures.says in
    no_third (lines_of c.args.script.now) (lines_of c.in_ok-second.second.rest.now) _ _ c.in_ok-owned.owned.count begun c.in_ok-owned.ensures.count c.if-owned-eq0.true

pub returns-clause-header : goal.returns-clause-header
returns-clause-header c =
    let begun = two_lines (lines_of c.args.script.now) (lines_of c.in_ok-first.first.rest.now) (lines_of c.in_ok-second.second.rest.now) _ _ c.in_ok-first.ensures.says c.in_ok-second.ensures.says in
    whole_header (lines_of c.args.script.now) c.in_ok-owned.owned.rest.now (lines_of c.in_ok-second.second.rest.now) _ _ c.in_ok-owned.owned.count _ begun
    (c.in_ok-owned.ensures.map [] c.in_ok-owners.ensures) c.in_ok-owned.ensures.count c.in_ok-owned.ensures.rest c.if-owned-eq0.false

pub returns-in_err-first-clause-header : goal.returns-in_err-first-clause-header
returns-in_err-first-clause-header c =
    let is : c.from_residual.result ≡ Err c.in_err-first.field-0.0 = search rules in
    subst (ReadsHeader c.args.script.now) (sym is) (bad_nodes c.args.script.now c.in_err-first.field-0.0 c.in_err-first.ensures.bad)

pub returns-in_err-second-clause-header : goal.returns-in_err-second-clause-header
returns-in_err-second-clause-header c =
    let is : c.from_residual-in_err-second.result ≡ Err c.in_err-second.field-0.0 = search rules in
    subst (ReadsHeader c.args.script.now) (sym is)
    (bad_workers c.args.script.now (lines_of c.in_ok-first.first.rest.now) c.in_ok-first.first.nodes c.in_err-second.field-0.0 c.in_ok-first.ensures.says c.in_err-second.ensures.bad)
