use Rattle.std.proofs.Common.{◌≡◌, ◌≤◌, ◌∙◌, arith, false, length, sym, true}
use Rattle.turn_play.proofs.Heard.{no-part-short, none-planned, not-written, plain-one}
use Rattle.turn_play.proofs.plain_part.plain_part.Goals as goal

pub returns-then-is_empty : goal.returns-then-is_empty
returns-then-is_empty c = let short : length c.args.words.now ≤ 1 = grind (arith, c.if-is_empty.true) in no-part-short c.args.words.now short

pub returns-in_default : goal.returns-in_default
returns-in_default c = none-planned c.args.words.now (rw c.in_default.is at c.in_ok-part.ensures)

pub returns-then-not-branch : goal.returns-then-not-branch
returns-then-not-branch c =
    let one = rw c.in-Some.is at c.in_ok-part.ensures in
    not-written c.args.words.now one.0 c.in-Some.part one.1 (λ same. absurd (let both : false ≡ true = sym c.if-not-branch.true ∙ c.in_ok-is_written_by.ensures.1 same in cc))

pub returns : goal.returns
returns c =
    let one = rw c.in-Some.is at c.in_ok-part.ensures in
    (plain-one c.parts_of_plans_are_plain.ensures c.args.words.now one.0 c.in-Some.part one.1, c.in_ok-is_written_by.ensures.0 c.if-not-branch.false)
