-- What a look at the lost nodes sees, and when no node is to be asked for CLUSTER SLOTS.
use Rattle.std.specs.Prelude.{◌≡◌, ◌⊎◌, ◌<◌, ◌||◌, ℕ, Bool, false}
use Rattle.node_dial.specs.NodeSet.{has_any}
use Rattle.node_dial.specs.declared.lost_nodes.LostNodes.{LostNodes}
use Rattle.node_dial.specs.declared.lost_nodes.Look.{Look}

-- a redirect was not read, or a node is lost
abbrev pub is_wanted : LostNodes → Bool
is_wanted lost = lost.has_unclear || has_any lost.nodes

-- whether a node is to be asked, when the schedule asks again, and the time
abbrev pub IsLook : LostNodes → ℕ → Look → Type 0
IsLook lost time look = look ≡ record { is_wanted = is_wanted lost; next = lost.schedule.next; time = time }

-- no node was lost and no redirect was not read, or the time at which one is asked again had not come
abbrev pub IsCalm : Look → Type 0
IsCalm look = (look.is_wanted ≡ false) ⊎ (look.time < look.next)
