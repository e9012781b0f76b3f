-- What the world's code keeps, as the machine's state, and what its events answer.
-- The model of `World` is `state_of` of its machine. Only private functions cite the rest.
use Rattle.std.specs.Prelude.{◌≡◌, ◌∷◌, ℕ, List, Some, Result, Ok, Err, slice_get}
use Rattle.std.specs.FinMap.{empty}
use Rattle.key_split.specs.declared.travel.Ticket.{Ticket}
use Rattle.node_model.specs.declared.role.Verdict.{Verdict}
use Rattle.world_laws.specs.Allowed.{Fits, HaveSlot}
use Rattle.world_laws.specs.State.{WorldModel, Link}
use Rattle.world_laws.specs.declared.state.LinkRequest.{LinkRequest}
use Rattle.world_laws.specs.declared.state.LinkRequest.TheVariants.{Runs}
use Rattle.world_laws.specs.World.{WorldDoes}
use Rattle.world_laws.specs.declared.event.Event.{Event}
use Rattle.world_laws.specs.declared.event.Event.TheVariants.{Serve}
use Rattle.cluster_world.specs.declared.machine.Machine.{Machine}
use Rattle.cluster_world.specs.declared.fault.WorldFault.{WorldFault}
use Rattle.cluster_world.specs.declared.fault.WorldFault.TheVariants.{NoMemory, NotNow}

-- how many commands a run has at most
abbrev pub run_limit : ℕ
run_limit = 64

abbrev pub state_of : Machine → WorldModel
state_of c = record {
  workers = c.workers;
  run_limit = run_limit;
  cluster = c.cluster;
  initial = empty;
  commands = c.commands;
  ups = c.ups.items;
  links = c.links.links;
  downs = c.downs.items;
  history = c.links.history;
  answers = c.answers.items;
  moment = c.moment;
}

-- the event has a next state
abbrev pub Can : WorldModel → Event → Type 0
Can w e = (v : WorldModel) × WorldDoes w e v

-- the event happened; or it is not allowed, or it is and there is no memory, and nothing changed
abbrev pub MachineAnswers : {U : Type 0} → WorldModel → Event → Result U WorldFault → WorldModel → Type 0
MachineAnswers w e (Ok u) w' = WorldDoes w e w'
MachineAnswers w e (Err NotNow) w' = ((v : WorldModel) → WorldDoes w e v → ⊥) × (w' ≡ w)
MachineAnswers w e (Err NoMemory) w' = Can w e × (w' ≡ w)

-- the commands of each link's first run have one slot
abbrev pub HaveSlots : WorldModel → Type 0
HaveSlots w = (link : ℕ) (l : Link) (tickets : List Ticket) (rest : List LinkRequest) → slice_get w.links link ≡ Some l → l.requests ≡ Runs tickets ∷ rest
    → (slot : ℕ) × HaveSlot w tickets slot

-- what stands first in a link can be served, where the verdict fits it
abbrev pub MayServe : WorldModel → Type 0
MayServe w = (link : ℕ) (verdict : Verdict) (l : Link) (first : LinkRequest) (rest : List LinkRequest) → slice_get w.links link ≡ Some l
    → l.requests ≡ first ∷ rest → Fits w verdict first → Can w (Serve link verdict)
