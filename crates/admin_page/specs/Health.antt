-- Whether the proxy can serve: it knows the slots, each node that serves some has a link or could be dialled last, and it is not drained.
use Rattle.std.specs.Prelude.{ℕ, List, [], ◌++◌, Bool, ◌&&◌, not, codes, if◌then◌else◌}
use Rattle.std.specs.List.{flat_map, list_any}
use Rattle.admin_page.specs.declared.figures.NodeFigures.{NodeFigures}

-- it serves slots, has no link, and its last dial failed
abbrev pub is_missing : NodeFigures → Bool
is_missing node = node.serves_slots && (not node.has_link && node.dial_failed)

-- a slot map was read, and no node is missing
abbrev pub is_healthy : Bool → List NodeFigures → Bool
is_healthy has_map nodes = has_map && not (list_any is_missing nodes)

abbrev pub missing_line : NodeFigures → List ℕ
missing_line node = if is_missing node then codes "unreachable: " ++ node.address ++ codes "\n" else []

-- it is not drained either
abbrev pub is_ready : Bool → Bool → List NodeFigures → Bool
is_ready drains has_map nodes = not drains && is_healthy has_map nodes

-- what is wrong, a line each
abbrev pub cluster_text : Bool → List NodeFigures → List ℕ
cluster_text has_map nodes =
    if is_healthy has_map nodes then codes "ok\n"
    else if has_map then flat_map missing_line nodes
    else codes "no slot map was read\n"

abbrev pub health_text : Bool → Bool → List NodeFigures → List ℕ
health_text drains has_map nodes = if drains then codes "draining\n" else cluster_text has_map nodes
