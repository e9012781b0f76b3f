-- Somebody else's commands at a node of a play: it does them by its own rules, at once.
use Rattle.std.specs.Prelude.{◌⊎◌, ℕ, Bool, List}
use Rattle.key_split.specs.PartModel.{PartModel}
use Rattle.key_split.specs.declared.travel.Told.{Told}
use Rattle.node_model.specs.Nodes.{ClusterModel}
use Rattle.node_model.specs.Runs.{deed_for, DoesRun, HaveOneSlot}
use Rattle.node_model.specs.declared.role.Verdict.TheVariants.{Plain}
use Rattle.world_laws.specs.World.{IsNode}
use Rattle.turn_play.specs.declared.fault.PlayFault.{PlayFault}
use Rattle.turn_play.specs.declared.fault.PlayFault.TheVariants.{NoMemory, NotServed, OutOfOrder, TooLong}

-- the node executed all of them or refused all of them, and told them this
abbrev pub AreServed : ClusterModel → ℕ → Bool → List PartModel → List Told → ClusterModel → Type 0
AreServed k node asking cs tolds k' = IsNode k node × HaveOneSlot cs × DoesRun (deed_for k node asking cs Plain) k node cs tolds k'

-- why they did not come to it: want of memory, or they are not of one slot, or there is no such node
abbrev pub CannotCome : ClusterModel → ℕ → List PartModel → PlayFault → Type 0
CannotCome k node cs NoMemory = Unit {0}
CannotCome k node cs NotServed = (HaveOneSlot cs → ⊥) ⊎ (IsNode k node → ⊥)
CannotCome k node cs OutOfOrder = ⊥
CannotCome k node cs TooLong = ⊥
