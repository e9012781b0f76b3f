use Rattle.std.proofs.Common.{◌∙◌, sym}
use Rattle.cluster_world.specs.Script.{is_space}
use Rattle.cluster_world.proofs.Pieces.{all_words, no_words, one_more, split_cut, split_whole}
use Rattle.cluster_world.proofs.script.words.Goals as goal

pub returns-then-not-is_word : goal.returns-then-not-is_word
returns-then-not-is_word c =
    let kept = c.loop-word.invariant in
    let parts = c.in-Some.ensures in
    no_words c.args.text.now c.loop-word.rest.now c.in-Some.word.now _ _ kept.0 (split_cut is_space _ _ _ parts.0 parts.1 parts.2) (sym c.is_word.ensures ∙ c.if-not-is_word.true)

pub loop-word-preserved : goal.loop-word-preserved
loop-word-preserved c =
    let kept = c.loop-word.invariant in
    let parts = c.in-Some.ensures in
    one_more c.args.text.now c.loop-word.rest.now c.in-Some.word.now c.in-Some.behind.now _ _ kept.0 (split_cut is_space _ _ _ parts.0 parts.1 parts.2) (sym c.is_word.ensures ∙ c.if-not-is_word.false) kept.1
    c.in_ok-push_word.ensures

pub returns-then-not-is_word-2 : goal.returns-then-not-is_word-2
returns-then-not-is_word-2 c =
    let kept = c.loop-word.invariant in
    no_words c.args.text.now c.loop-word.rest.now c.loop-word.rest.now _ _ kept.0 (split_whole is_space _ c.in_default.ensures) (sym c.is_word-2.ensures ∙ c.if-not-is_word-2.true)

pub returns : goal.returns
returns c =
    let kept = c.loop-word.invariant in
    all_words c.args.text.now c.loop-word.rest.now _ _ kept.0 (split_whole is_space _ c.in_default.ensures) (sym c.is_word-2.ensures ∙ c.if-not-is_word-2.false) kept.1
    (c.new.ensures ∙ c.in_ok-push_word-2.ensures)
