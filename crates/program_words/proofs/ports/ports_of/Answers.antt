use Rattle.std.proofs.Common.{◌≡◌, None, sym, ◌∙◌, arith, rules}
use Rattle.program_words.proofs.Comma.{no_comma, one_comma, bad_second, bad_third, three_ports}
use Rattle.program_words.proofs.ports.ports_of.Goals as goal

pub returns-in_err-first : goal.returns-in_err-first
returns-in_err-first c =
    let none : c.from_residual.result ≡ None = search rules in
    none ∙ sym (no_comma c.args.text.now (c.in_err-first.ensures.byte (omega arith) (λ w o found. found)))

pub returns-in_err-second : goal.returns-in_err-second
returns-in_err-second c =
    let none : c.from_residual-in_err-second.result ≡ None = search rules in
    let cut = c.in_ok-first.ensures.byte (omega arith) (λ w o found. found) in
    none ∙ sym (one_comma c.args.text.now c.in_ok-first.rest.now cut.1 (c.in_err-second.ensures.byte (omega arith) (λ w o found. found)))

pub returns-in_err-port_of-2 : goal.returns-in_err-port_of-2
returns-in_err-port_of-2 c =
    let none : c.from_residual-in_err-port_of-2.result ≡ None = search rules in
    let cut = c.in_ok-first.ensures.byte (omega arith) (λ w o found. found) in
    let next = c.in_ok-second.ensures.byte (omega arith) (λ w o found. found) in
    none ∙ sym (bad_second c.args.text.now c.in_ok-first.rest.now c.in_ok-second.second.now cut.1 next.0 c.in_err-port_of-2.ensures)

pub returns-in_err-port_of-3 : goal.returns-in_err-port_of-3
returns-in_err-port_of-3 c =
    let none : c.from_residual-in_err-port_of-3.result ≡ None = search rules in
    let cut = c.in_ok-first.ensures.byte (omega arith) (λ w o found. found) in
    let next = c.in_ok-second.ensures.byte (omega arith) (λ w o found. found) in
    none ∙ sym (bad_third c.args.text.now c.in_ok-first.rest.now c.in_ok-second.third.now cut.1 next.1 c.in_err-port_of-3.ensures)

pub returns : goal.returns
returns c =
    let cut = c.in_ok-first.ensures.byte (omega arith) (λ w o found. found) in
    let next = c.in_ok-second.ensures.byte (omega arith) (λ w o found. found) in
    three_ports c.args.text.now c.in_ok-first.first.now c.in_ok-first.rest.now c.in_ok-second.second.now c.in_ok-second.third.now
    c.in_ok-port_of.field-0 c.in_ok-port_of-2.field-0 c.in_ok-port_of-3.field-0
    cut.0 cut.1 next.0 next.1 c.in_ok-port_of.ensures c.in_ok-port_of-2.ensures c.in_ok-port_of-3.ensures
