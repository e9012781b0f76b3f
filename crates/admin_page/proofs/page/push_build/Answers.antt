use Rattle.std.proofs.Common.{ℕ, List, [], ◌++◌}
use Rattle.std.specs.Prelude.{codes}
use Rattle.admin_page.specs.Text.{family_text}
use Rattle.admin_page.specs.Page.{build_info, gauge, known_gauge}
use Rattle.admin_page.proofs.Texts.{after, the_last}
use Rattle.admin_page.proofs.page.push_build.Goals as goal

pub returns : goal.returns
returns c =
    let r = c.push_known_gauge-3.result in
    let new = c.push_known_gauge-3.new.text.items in
    let f = c.args.figures.now in
    let b4 : List ℕ = (family_text (known_gauge (codes "process_max_fds") (codes "Maximum number of open file descriptors.") f.process.allowed_descriptors)) ++ [] in
    let b3 : List ℕ = (family_text (known_gauge (codes "process_open_fds") (codes "Number of open file descriptors.") f.process.open_descriptors)) ++ b4 in
    let b2 : List ℕ = (family_text (known_gauge (codes "process_resident_memory_bytes") (codes "Resident memory size in bytes.") f.process.resident_bytes)) ++ b3 in
    after r c.args.text.now.items c.push_version.new.text.items new (family_text (build_info f.version.now)) b2 c.in_ok-push_version.ensures
    (after r c.push_version.new.text.items c.push_known_gauge.new.text.items new (family_text (known_gauge (codes "process_resident_memory_bytes") (codes "Resident memory size in bytes.") f.process.resident_bytes)) b3 c.in_ok-push_known_gauge.ensures
    (after r c.push_known_gauge.new.text.items c.push_known_gauge-2.new.text.items new (family_text (known_gauge (codes "process_open_fds") (codes "Number of open file descriptors.") f.process.open_descriptors)) b4 c.in_ok-push_known_gauge-2.ensures
    (the_last r c.push_known_gauge-2.new.text.items new (family_text (known_gauge (codes "process_max_fds") (codes "Maximum number of open file descriptors.") f.process.allowed_descriptors)) c.push_known_gauge-3.ensures)))
