use Rattle.std.proofs.Common.{◌≡◌, ℕ, List, ◌++◌}
use Rattle.std.specs.Prelude.{codes}
use Rattle.admin_page.proofs.Texts.{after, both}
use Rattle.admin_page.proofs.text.push_line.Goals as goal

pub returns : goal.returns
returns c =
    let r = c.push_str-5.result in
    let old = c.args.text.now.items in
    let new = c.push_str-5.new.text.items in
    let a1 : List ℕ = c.args.word.now in
    let a2 : List ℕ = a1 ++ (c.args.name.now) in
    let a3 : List ℕ = a2 ++ (codes " ") in
    let a4 : List ℕ = a3 ++ (c.args.rest.now) in
    let e1 : c.push_str.new.text.items ≡ old ++ a1 = c.in_ok-push_str.ensures in
    let e2 : c.push_str-2.new.text.items ≡ old ++ a2 = both old c.push_str.new.text.items c.push_str-2.new.text.items a1 (c.args.name.now) e1 c.in_ok-push_str-2.ensures in
    let e3 : c.push_str-3.new.text.items ≡ old ++ a3 = both old c.push_str-2.new.text.items c.push_str-3.new.text.items a2 (codes " ") e2 c.in_ok-push_str-3.ensures in
    let e4 : c.push_str-4.new.text.items ≡ old ++ a4 = both old c.push_str-3.new.text.items c.push_str-4.new.text.items a3 (c.args.rest.now) e3 c.in_ok-push_str-4.ensures in
    after r old c.push_str-4.new.text.items new a4 (codes "\n") e4 c.push_str-5.ensures
