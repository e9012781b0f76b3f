use Rattle.std.proofs.Common.{◌≡◌, ◌++◌, take, map}
use Rattle.std.specs.List.{flat_map}
use Rattle.admin_page.specs.Text.{sample_text}
use Rattle.admin_page.specs.Page.{node_sample}
use Rattle.admin_page.proofs.families.push_nodes.Given as goal

abbrev pub invariant-loop-node : goal.invariant-loop-node
invariant-loop-node l = l.text.items ≡ l.fn.text.items ++ flat_map (sample_text l.name) (map node_sample (take l.node-index l.nodes))
