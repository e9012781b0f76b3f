use Rattle.std.proofs.Common.{◌∙◌, sym, ap}
use Rattle.std.specs.List.{list_all}
use Rattle.cluster_world.specs.Script.{digits_after, is_digit}
use Rattle.cluster_world.proofs.Numbers.{is_number, none_left, stops}
use Rattle.cluster_world.proofs.script.number.Goals as goal

pub returns-in_default-followed : goal.returns-in_default-followed
returns-in_default-followed c =
    let kept = c.loop-rest.invariant in
    stops _ c.args.word.now c.loop-rest.rest.now c.loop-rest.value c.in-len1-up.len_at_least kept.0 kept.1 c.in_default-followed.ensures

pub returns : goal.returns
returns c =
    let kept = c.loop-rest.invariant in
    let ended = none_left c.loop-rest.rest.now c.in_default.len_below in
    is_number _ c.args.word.now c.loop-rest.value kept.2 (sym kept.1 ∙ ap (list_all is_digit) ended) (sym (ap (digits_after c.loop-rest.value) ended) ∙ kept.0) kept.3
