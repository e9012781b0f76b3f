use Rattle.std.proofs.Common.{◌≤◌, ◌+◌, arith, length, rules, subst, sym}
use Rattle.std.proofs.lemmas.List.{take_rest}
use Rattle.key_split.specs.Laws.{IsPlain}
use Rattle.key_split.specs.Words.{words_of}
use Rattle.turn_play.specs.Hearing.{BeginsRequest, NoCommands, exec_words}
use Rattle.turn_play.proofs.Heard.{LeadsTo, commands-whole, leads-more, leads-none}
use Rattle.turn_play.proofs.Hears.{none-at-end}
use Rattle.turn_play.proofs.block.commands_at.Goals as goal

pub loop-at-init : goal.loop-at-init
loop-at-init c = subst (λ ps. LeadsTo c.args.bytes.now ps 0) (sym c.new-parts.ensures.items) (leads-none c.args.bytes.now)

pub overflow_add-at : goal.overflow_add-at
overflow_add-at c =
    let found = rw c.in-Command.is at c.in_ok-part.ensures in
    let begins = subst (λ b. BeginsRequest b (words_of c.in-Command.part) c.in-Command.count) (take_rest c.args.bytes.now c.loop-at.at) found.1 in
    let within = (leads-more c.args.bytes.now c.loop-at.parts.items c.loop-at.at c.in-Command.part c.in-Command.count c.loop-at.invariant found.0 begins).within in
    search (rules, arith, within)

pub loop-at-smaller : goal.loop-at-smaller
loop-at-smaller c =
    let found = rw c.in-Command.is at c.in_ok-part.ensures in
    omega (arith, found.1.1, c.loop-at-test.true)

pub loop-at-preserved : goal.loop-at-preserved
loop-at-preserved c =
    let found = rw c.in-Command.is at c.in_ok-part.ensures in
    let begins = subst (λ b. BeginsRequest b (words_of c.in-Command.part) c.in-Command.count) (take_rest c.args.bytes.now c.loop-at.at) found.1 in
    subst (λ ps. LeadsTo c.args.bytes.now ps (c.loop-at.at + c.in-Command.count)) (sym c.in_ok-push-in-Command.ensures.items)
    (leads-more c.args.bytes.now c.loop-at.parts.items c.loop-at.at c.in-Command.part c.in-Command.count c.loop-at.invariant found.0 begins)

pub overflow_add-result : goal.overflow_add-result
overflow_add-result c =
    let begins = subst (λ b. BeginsRequest b exec_words c.in-Exec.count) (take_rest c.args.bytes.now c.loop-at.at) (rw c.in-Exec.is at c.in_ok-part.ensures) in
    let within = (commands-whole c.args.bytes.now c.loop-at.parts.items c.loop-at.at c.in-Exec.count c.loop-at.invariant begins).0 in
    search (rules, arith, within)

pub returns-in-Exec : goal.returns-in-Exec
returns-in-Exec c =
    commands-whole c.args.bytes.now c.loop-at.parts.items c.loop-at.at c.in-Exec.count c.loop-at.invariant
    (subst (λ b. BeginsRequest b exec_words c.in-Exec.count) (take_rest c.args.bytes.now c.loop-at.at) (rw c.in-Exec.is at c.in_ok-part.ensures))

pub returns-in-Short : goal.returns-in-Short
returns-in-Short c = c.loop-at.invariant.none (subst NoCommands (take_rest c.args.bytes.now c.loop-at.at) (rw c.in-Short.is at c.in_ok-part.ensures))

pub returns-in-Other : goal.returns-in-Other
returns-in-Other c = c.loop-at.invariant.none (subst NoCommands (take_rest c.args.bytes.now c.loop-at.at) (rw c.in-Other.is at c.in_ok-part.ensures))

pub returns : goal.returns
returns c = c.loop-at.invariant.none (none-at-end c.args.bytes.now c.loop-at.at (omega (arith, c.loop-at-test.false)))
