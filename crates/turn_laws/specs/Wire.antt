-- A connection between the carrier and a node, as the ports of both ends see it: what was written and is not served, and what
-- was served and is not read.
-- Commands that are written together are a run: the port puts them between MULTI and EXEC, and the node serves all of them at once.
-- That is a premise on EXEC (Redis documentation, "Transactions"): a node that answers it with an error executed none of the
-- commands, and one that answers with an array of as many replies executed all of them, in order, with nothing between them.
use Rattle.std.specs.Prelude.{◌≡◌, ◌⊎◌, ℕ, List, [], ◌∷◌, ◌++◌, Bool, true, false, Option, Some, None, map, slice_get}
use Rattle.resp_wire.specs.declared.value.Value.{Value}
use Rattle.key_split.specs.Requests.{Request, Asking, Command, Slots}
use Rattle.key_split.specs.declared.travel.Ticket.{Ticket}
use Rattle.key_split.specs.PartModel.{PartModel}
use Rattle.key_split.specs.declared.travel.Told.{Told}
use Rattle.key_split.specs.declared.travel.Told.TheVariants.{Reply, Moved, Ask, TryAgain, ClusterDown, Unclear, Lost, Unsent}
use Rattle.slot_map.specs.Table.{Endpoint}
use Rattle.node_model.specs.Nodes.{ClusterModel}
use Rattle.node_model.specs.Runs.{deed_for, DoesRun}
use Rattle.node_model.specs.declared.role.Verdict.{Verdict}
use Rattle.node_link.specs.Telling.{told_by}
use Rattle.world_laws.specs.World.{NamesNode}

-- a command of a run
abbrev pub Part : Type 0
Part = Ticket × PartModel

-- what a node serves at once: ASKING, a run, or CLUSTER SLOTS
pub data Item : Type 0 where
  Asks : Item
  Runs : List Part → Item
  Lists : Item

-- a command before these: it is of their run, where one stands first
abbrev pub joined : Part → List Item → List Item
joined part [] = Runs (part ∷ []) ∷ []
joined part (Asks ∷ items) = Runs (part ∷ []) ∷ Asks ∷ items
joined part (Runs parts ∷ items) = Runs (part ∷ parts) ∷ items
joined part (Lists ∷ items) = Runs (part ∷ []) ∷ Lists ∷ items

-- requests that are written together: commands that follow one another are a run
abbrev pub items_of : List Request → List Item
items_of [] = []
items_of (Asking ∷ requests) = Asks ∷ items_of requests
items_of (Command ticket part ∷ requests) = joined (ticket, part) (items_of requests)
items_of (Slots ∷ requests) = Lists ∷ items_of requests

pub record Wire : Type 0 where
  -- the number of its opening
  pub id : ℕ
  pub node : ℕ
  pub items : List Item
  pub values : List Value
  -- the flag that ASKING sets
  pub asking : Bool

abbrev pub new_wire : ℕ → ℕ → Wire
new_wire id node = record { id = id; node = node; items = []; values = []; asking = false }

-- a dial gives the next connection, to the node that the table has at this endpoint, or fails
abbrev pub Dials : List Endpoint → ℕ → Endpoint → Option Wire → ℕ → ℕ → Type 0
Dials nodes opened at (Some wire) before now = (node : ℕ) × (slice_get nodes node ≡ Some at) × (wire ≡ new_wire opened node)
Dials nodes opened at None before now = Unit {0}

-- the carrier writes these requests and reads these values
abbrev pub Exchanges : Wire → List Request → List Value → Wire → Type 0
Exchanges old requests values new =
    (old.values ≡ values ++ new.values) × (new ≡ record old { items = old.items ++ items_of requests; values = new.values })

-- a command that a node executed, and its reply
pub record Execution : Type 0 where
  pub ticket : Ticket
  pub part : PartModel
  pub value : Value

-- what a command that was told this adds to the history
abbrev pub executed : Part → Told → List Execution
executed part (Reply value) = record { ticket = part.0; part = part.1; value = value } ∷ []
executed part (Moved slot node) = []
executed part (Ask slot node) = []
executed part TryAgain = []
executed part ClusterDown = []
executed part Unclear = []
executed part Lost = []
executed part Unsent = []

-- what a run adds, in its order
abbrev pub executions : List Part → List Told → List Execution
executions [] tolds = []
executions (part ∷ parts) [] = []
executions (part ∷ parts) (told ∷ tolds) = executed part told ++ executions parts tolds

-- what the machine is told of a line: of one that is unclear to the proxy, TRYAGAIN
abbrev pub plain_told : Told → Told
plain_told (Reply value) = Reply value
plain_told (Moved slot node) = Moved slot node
plain_told (Ask slot node) = Ask slot node
plain_told TryAgain = TryAgain
plain_told ClusterDown = ClusterDown
plain_told Unclear = TryAgain
plain_told Lost = Lost
plain_told Unsent = Unsent

-- what the machine hears in a value, and the table after it
abbrev pub heard_in : Value → ℕ → List Endpoint → Told × List Endpoint
heard_in value node table = (plain_told (told_by value node table).0, (told_by value node table).1)

-- The values say this of the commands, as the machine hears it in them. An unclear line says TRYAGAIN, so only a node that executed
-- nothing gives one; since any may say TRYAGAIN at any time, it stands for a MOVED or an ASK as well.
abbrev pub AreTold : List Endpoint → ℕ → List Value → List Told → Type 0
AreTold table node [] [] = Unit {0}
AreTold table node [] (told ∷ tolds) = ⊥
AreTold table node (value ∷ values) [] = ⊥
AreTold table node (value ∷ values) (told ∷ tolds) = (heard_in value node table ≡ (told, table)) × AreTold table node values tolds

-- the tickets of commands, and their parts
abbrev pub tickets_for : List Part → List Ticket
tickets_for parts = map (λ (part : Part). part.0) parts

abbrev pub parts_in : List Part → List PartModel
parts_in parts = map (λ (part : Part). part.1) parts

-- This node serves the run that stands first on the wire, whole: all its commands, or none. `table` is the list of the cluster's endpoints:
-- what the node says of a command is what the table reads in it, or TRYAGAIN by an unclear line.
abbrev pub ServesRun : List Endpoint → ClusterModel → ℕ → Wire → Verdict → ClusterModel → Wire → List Value → List Execution → Type 0
ServesRun table k node old verdict k' new values done =
    (rest : List Item) × (parts : List Part) × (tolds : List Told)
    × (old.items ≡ Runs parts ∷ rest) × NamesNode k verdict
    × DoesRun (deed_for k node old.asking (parts_in parts) verdict) k node (parts_in parts) tolds k'
    × AreTold table old.node values tolds × (done ≡ executions parts tolds)
    × (new ≡ record old { items = rest; values = new.values; asking = false })

-- the node serves the first item of the wire, with these values
abbrev pub ServesNext : List Endpoint → ClusterModel → Wire → Verdict → ClusterModel → Wire → List Value → List Execution → Type 0
ServesNext table k old verdict k' new values done =
    ((rest : List Item) × (value : Value) × (old.items ≡ Asks ∷ rest) × (values ≡ value ∷ []) × (k' ≡ k) × (done ≡ [])
    × (new ≡ record old { items = rest; values = new.values; asking = true }))
    ⊎ ServesRun table k old.node old verdict k' new values done
    ⊎ ((rest : List Item) × (value : Value) × (old.items ≡ Lists ∷ rest) × (values ≡ value ∷ []) × (k' ≡ k) × (done ≡ [])
    × (new ≡ record old { items = rest; values = new.values }))
