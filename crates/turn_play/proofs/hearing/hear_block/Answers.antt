use Rattle.std.proofs.Common.{◌≤◌, ◌<◌, ◌+◌, arith, length, rules, subst}
use Rattle.std.specs.Prelude.{drop}
use Rattle.std.proofs.lemmas.List.{length-drop, take_rest}
use Rattle.turn_play.specs.Hearing.{NoCommands, ReadsCommands}
use Rattle.turn_play.proofs.Heard.{block-heard, no-block-short, no-block-whole}
use Rattle.turn_play.proofs.hearing.hear_block.Goals as goal

pub returns-then-len-lt2 : goal.returns-then-len-lt2
returns-then-len-lt2 c =
    let bytes = c.args.bytes.now in
    let ps = c.in-Whole.parts in
    let found = subst (λ b. (c.in-Whole.more ≤ length b) × ReadsCommands b ps.items (drop c.in-Whole.more b)) (take_rest bytes c.args.count) (rw c.in-Whole.is at c.in_ok-parts.ensures) in
    no-block-short bytes c.args.count ps.items (drop c.in-Whole.more (drop c.args.count bytes)) c.requires found.1 (omega (arith, c.if-len-lt2.true, c.len.ensures, ps.ok.0))

pub overflow_add-result : goal.overflow_add-result
overflow_add-result c =
    let bytes = c.args.bytes.now in
    let ps = c.in-Whole.parts in
    let found = subst (λ b. (c.in-Whole.more ≤ length b) × ReadsCommands b ps.items (drop c.in-Whole.more b)) (take_rest bytes c.args.count) (rw c.in-Whole.is at c.in_ok-parts.ensures) in
    let within : c.args.count + c.in-Whole.more ≤ length bytes = omega (arith, c.requires.0, found.0, length-drop c.args.count bytes) in
    search (rules, arith, within)

pub returns-else-len-lt2 : goal.returns-else-len-lt2
returns-else-len-lt2 c =
    let bytes = c.args.bytes.now in
    let ps = c.in-Whole.parts in
    let found = subst (λ b. (c.in-Whole.more ≤ length b) × ReadsCommands b ps.items (drop c.in-Whole.more b)) (take_rest bytes c.args.count) (rw c.in-Whole.is at c.in_ok-parts.ensures) in
    block-heard bytes c.args.count ps.items c.in-Whole.more c.requires found (omega (arith, c.if-len-lt2.false, c.len.ensures, ps.ok.0))

pub returns-in-Short : goal.returns-in-Short
returns-in-Short c = no-block-whole c.args.bytes.now c.args.count c.requires (subst NoCommands (take_rest c.args.bytes.now c.args.count) (rw c.in-Short.is at c.in_ok-parts.ensures))

pub returns-in-Other : goal.returns-in-Other
returns-in-Other c = no-block-whole c.args.bytes.now c.args.count c.requires (subst NoCommands (take_rest c.args.bytes.now c.args.count) (rw c.in-Other.is at c.in_ok-parts.ensures))
