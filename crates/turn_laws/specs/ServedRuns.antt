-- A node serves what stands first on a connection, and a run in its order.
use Rattle.std.specs.Prelude.{◌≡◌, ℕ, List, ◌∷◌, length, map}
use Rattle.resp_wire.specs.declared.value.Value.{Value}
use Rattle.key_split.specs.declared.travel.Told.TheVariants.{Reply}
use Rattle.slot_map.specs.Table.{Endpoint}
use Rattle.node_model.specs.Nodes.{ClusterModel}
use Rattle.node_model.specs.declared.role.Verdict.{Verdict}
use Rattle.turn_laws.specs.Wire.{Wire, Item, Part, Asks, Runs, Lists, Execution, ServesNext, executions}

-- one value for ASKING, for each command of a run, for CLUSTER SLOTS
abbrev pub values_for : Item → ℕ
values_for Asks = 1
values_for (Runs parts) = length parts
values_for Lists = 1

-- what is served stood first, with all its commands
abbrev pub FirstIsServed : Type 0
FirstIsServed =
    (table : List Endpoint) (k : ClusterModel) (old : Wire) (verdict : Verdict) (k' : ClusterModel) (new : Wire) (values : List Value) (done : List Execution)
    → ServesNext table k old verdict k' new values done → (item : Item) × (old.items ≡ item ∷ new.items) × (length values ≡ values_for item)

-- where each command of a run was told a reply, the run was executed in its order, with these replies
abbrev pub RunsAreInOrder : Type 0
RunsAreInOrder =
    (parts : List Part) (values : List Value) → length values ≡ length parts
    → (map (λ (one : Execution). (one.ticket, one.part)) (executions parts (map Reply values)) ≡ parts) × (map (λ (one : Execution). one.value) (executions parts (map Reply values)) ≡ values)
