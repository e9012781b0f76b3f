-- What holds of a line that is unclear to the proxy, of which the machine is told TRYAGAIN.
use Rattle.std.specs.Prelude.{◌≡◌, ℕ, List, [], Some, slice_get}
use Rattle.resp_wire.specs.declared.value.Value.{Value}
use Rattle.key_split.specs.declared.travel.Told.{Told}
use Rattle.key_split.specs.declared.travel.Told.TheVariants.{Unclear}
use Rattle.command_future.specs.CommandModel.{CommandModel, progress_told}
use Rattle.slot_map.specs.Table.{Endpoint}
use Rattle.node_model.specs.Nodes.{ClusterModel}
use Rattle.node_model.specs.declared.role.Verdict.{Verdict}
use Rattle.node_link.specs.Telling.{told_by}
use Rattle.turn_laws.specs.Wire.{Wire, Execution, ServesNext, plain_told}

-- a command that hears a line is where it would be, had it been told what the machine is told: in one stage, with one count
abbrev pub HeardAlike : Type 0
HeardAlike = (c : CommandModel) (told : Told) → progress_told c told ≡ progress_told c (plain_told told)

-- a node among whose values one is unclear executed nothing
abbrev pub UnclearIsRefusal : Type 0
UnclearIsRefusal =
    (table : List Endpoint) (k : ClusterModel) (old : Wire) (verdict : Verdict) (k' : ClusterModel) (new : Wire) (values : List Value) (done : List Execution)
    → ServesNext table k old verdict k' new values done
    → (i : ℕ) (value : Value) → slice_get values i ≡ Some value → (told_by value old.node table).0 ≡ Unclear → (k' ≡ k) × (done ≡ [])
