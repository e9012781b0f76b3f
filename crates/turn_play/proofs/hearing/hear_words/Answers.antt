use Rattle.std.proofs.Common.{◌≡◌, ◌≤◌, ◌∙◌, false, length, map, subst, sym, true}
use Rattle.std.specs.Prelude.{drop}
use Rattle.turn_laws.specs.ByteWires.{ReadsItem}
use Rattle.turn_laws.specs.Wire.{Runs}
use Rattle.turn_play.specs.Hearing.{BeginsRequest, unnumbered}
use Rattle.turn_play.proofs.Heard.{asking-heard, command-heard, no-item-other, slots-heard}
use Rattle.turn_play.proofs.hearing.hear_words.Goals as goal

pub returns-then-is_word : goal.returns-then-is_word
returns-then-is_word c = asking-heard c.args.bytes.now c.args.words.now c.args.count c.requires (c.is_word.ensures.0 c.if-is_word.true)

pub returns-then-are_words : goal.returns-then-are_words
returns-then-are_words c = slots-heard c.args.bytes.now c.args.words.now c.args.count c.requires (c.are_words.ensures.0 c.if-are_words.true)

pub hear_block-requires : goal.hear_block-requires
hear_block-requires c = subst (λ ws. BeginsRequest c.args.bytes.now ws c.args.count) (c.is_word-2.ensures.0 c.if-is_word-2.true) c.requires

pub returns-in_ok-alone-in-Some : goal.returns-in_ok-alone-in-Some
returns-in_ok-alone-in-Some c =
    let found = rw c.in-Some.is at c.in_ok-part.ensures in
    subst (λ ps. (c.args.count ≤ length c.args.bytes.now) × ReadsItem c.args.bytes.now (Runs (map unnumbered ps)) (drop c.args.count c.args.bytes.now)) (sym c.in_ok-alone-in-Some.ensures)
    (command-heard c.args.bytes.now c.args.words.now c.args.count c.in-Some.part c.requires found.0 found.1)

pub returns-in-None : goal.returns-in-None
returns-in-None c =
    no-item-other c.args.bytes.now c.args.words.now c.args.count c.requires (λ same. absurd (let both : false ≡ true = sym c.if-is_word.false ∙ c.is_word.ensures.1 same in cc))
    (λ same. absurd (let both : false ≡ true = sym c.if-are_words.false ∙ c.are_words.ensures.1 same in cc))
    (λ same. absurd (let both : false ≡ true = sym c.if-is_word-2.false ∙ c.is_word-2.ensures.1 same in cc)) (rw c.in-None.is at c.in_ok-part.ensures)
