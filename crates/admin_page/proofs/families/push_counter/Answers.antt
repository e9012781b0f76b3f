use Rattle.std.proofs.Common.{ℕ, List, [], ◌++◌}
use Rattle.std.specs.Prelude.{codes}
use Rattle.admin_page.specs.Text.{head_text, sample_text}
use Rattle.admin_page.specs.Page.{counter, plain}
use Rattle.admin_page.proofs.Texts.{after, the_last}
use Rattle.admin_page.proofs.families.push_counter.Goals as goal

pub returns : goal.returns
returns c =
    let r = c.push_plain.result in
    let new = c.push_plain.new.text.items in
    let b2 : List ℕ = (sample_text c.args.name.now (plain c.args.value)) ++ [] in
    after r c.args.text.now.items c.push_head.new.text.items new (head_text c.args.name.now (codes "counter") c.args.help.now) b2 c.in_ok-push_head.ensures
    (the_last r c.push_head.new.text.items new (sample_text c.args.name.now (plain c.args.value)) c.push_plain.ensures)
