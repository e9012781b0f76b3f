use Rattle.std.proofs.Common.{◌≡◌, ◌∙◌, None, sym, arith, rules}
use Rattle.admin_page.specs.Answers.{seconds_named}
use Rattle.admin_page.proofs.Seconds.{unnamed}
use Rattle.admin_page.proofs.answers.seconds_in.Goals as goal

pub returns-in_err-name : goal.returns-in_err-name
returns-in_err-name c =
    let none : c.from_residual.result ≡ None = search rules in
    none ∙ sym (unnamed c.args.query.now (c.in_err-name.ensures.byte (omega arith) (λ w o found. found)))

pub returns : goal.returns
returns c =
    let cut = c.in_ok-name.ensures.byte (omega arith) (λ w o found. found) in
    c.seconds_named.ensures ∙ (λ i. seconds_named (cut.0 i) (cut.1 i))
