use Rattle.std.proofs.Common.{◌≡◌, ℕ, List, ◌++◌}
use Rattle.admin_page.specs.Page.{build_families, client_families, families_text, node_families, part_families, time_families}
use Rattle.admin_page.proofs.Texts.{after, both}
use Rattle.admin_page.proofs.page.push_page.Goals as goal

pub returns : goal.returns
returns c =
    let r = c.push_times.result in
    let old = c.args.text.now.items in
    let new = c.push_times.new.text.items in
    let f = c.args.figures.now in
    let a1 : List ℕ = families_text (build_families f) in
    let a2 : List ℕ = a1 ++ (families_text (client_families f)) in
    let a3 : List ℕ = a2 ++ (families_text (part_families f)) in
    let a4 : List ℕ = a3 ++ (families_text (node_families f)) in
    let e1 : c.push_build.new.text.items ≡ old ++ a1 = c.in_ok-push_build.ensures in
    let e2 : c.push_clients.new.text.items ≡ old ++ a2 = both old c.push_build.new.text.items c.push_clients.new.text.items a1 (families_text (client_families f)) e1 c.in_ok-push_clients.ensures in
    let e3 : c.push_parts.new.text.items ≡ old ++ a3 = both old c.push_clients.new.text.items c.push_parts.new.text.items a2 (families_text (part_families f)) e2 c.in_ok-push_parts.ensures in
    let e4 : c.push_links.new.text.items ≡ old ++ a4 = both old c.push_parts.new.text.items c.push_links.new.text.items a3 (families_text (node_families f)) e3 c.in_ok-push_links.ensures in
    after r old c.push_links.new.text.items new a4 (families_text (time_families f)) e4 c.push_times.ensures
