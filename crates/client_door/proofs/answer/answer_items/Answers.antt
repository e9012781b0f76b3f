use Rattle.std.proofs.Common.{◌≡◌, true, rules}
use Rattle.std.specs.List.{list_all}
use Rattle.client_door.specs.Answers.{is_word}
use Rattle.client_door.proofs.Asking.{answered}
use Rattle.client_door.proofs.answer.answer_items.Goals as goal

pub returns : goal.returns
returns c =
    let all : list_all is_word c.args.items.now ≡ true = search rules in
    answered c.args.password.now c.args.items.now c.name-item.result c.answer_words.result c.in-len1-up.len_at_least c.name-item.is all c.answer_words.ensures
