-- What a node's reply says: Redis Cluster specification, "MOVED Redirection", "ASK redirection" and "Live
-- reconfiguration".
-- The first word of an error line decides.
-- Any other value is the command's reply, other errors too. A redirection that can't be read, or to a new node when the
-- table is full, is Unclear, a refusal: the node executed nothing.
use Rattle.std.specs.Prelude.{◌≡◌, ◌⊎◌, List, [], ℕ, Option, Some, None, Result, Ok, Err, ◌||◌, codes, if◌then◌else◌, IsTrue}
use Rattle.std.specs.Str.{bytes_eq}
use Rattle.resp_wire.specs.declared.fault.NoMemory.{NoMemory}
use Rattle.resp_wire.specs.declared.value.Value.{Value}
use Rattle.resp_wire.specs.declared.value.Value.TheVariants.{Error}
use Rattle.key_split.specs.declared.travel.Told.{Told}
use Rattle.key_split.specs.declared.travel.Told.TheVariants.{Reply, Moved, Ask, TryAgain, ClusterDown, Unclear}
use Rattle.slot_map.specs.Table.{Endpoint, Numbered, numbered, host_of, WouldAdd}
use Rattle.node_link.specs.declared.told.Redirection.{Redirection}
use Rattle.node_link.specs.declared.told.Redirection.TheVariants as redirection
use Rattle.node_link.specs.Line.{first_word, other_words, target_in, Target}

-- an empty host or ? is the host that was asked
abbrev pub host_meant : List ℕ → List ℕ → List ℕ
host_meant asked_host host = if bytes_eq host [] || bytes_eq host (codes "?") then asked_host else host

abbrev pub endpoint_meant : List ℕ → Endpoint → Endpoint
endpoint_meant asked_host at = record { host = host_meant asked_host at.host; port = at.port }

-- what is told of a redirection to a node, and the table with the node; where the table is full, it is unclear
abbrev pub sent_on : (ℕ → ℕ → Told) → ℕ → Option Numbered → List Endpoint → Told × List Endpoint
sent_on how slot None table = (Unclear, table)
sent_on how slot (Some node) table = (how slot node.number, node.table)

-- a redirection whose target cannot be read is unclear
abbrev pub redirected : (ℕ → ℕ → Told) → List ℕ → Option Target → List Endpoint → Told × List Endpoint
redirected how asked_host None table = (Unclear, table)
redirected how asked_host (Some target) table =
    sent_on how target.slot (numbered table (endpoint_meant asked_host target.endpoint)) table

-- what an error line says of its command, or nothing where it is a reply
abbrev pub refusal_in : List ℕ → List ℕ → List Endpoint → Option (Told × List Endpoint)
refusal_in asked_host line table =
    if bytes_eq (first_word line) (codes "MOVED") then Some (redirected Moved asked_host (target_in (other_words line)) table)
    else if bytes_eq (first_word line) (codes "ASK") then Some (redirected Ask asked_host (target_in (other_words line)) table)
    else if bytes_eq (first_word line) (codes "TRYAGAIN") then Some (TryAgain, table)
    else if bytes_eq (first_word line) (codes "CLUSTERDOWN") then Some (ClusterDown, table)
    else None

abbrev pub refusal_or_reply : Value → List Endpoint → Option (Told × List Endpoint) → Told × List Endpoint
refusal_or_reply value table None = (Reply value, table)
refusal_or_reply value table (Some refusal) = refusal

-- what a value says that the asked node sent, and the table after it
abbrev pub told_by : Value → ℕ → List Endpoint → Told × List Endpoint
told_by (Error line) asked table = refusal_or_reply (Error line) table (refusal_in (host_of table asked) line table)
told_by value asked table = (Reply value, table)

-- the line is a redirection
abbrev pub IsRedirection : List ℕ → Type 0
IsRedirection line = IsTrue (bytes_eq (first_word line) (codes "MOVED")) ⊎ IsTrue (bytes_eq (first_word line) (codes "ASK"))

-- the line is a redirection to a node that would have to be added
abbrev pub NamesNewNode : List ℕ → List ℕ → List Endpoint → Type 0
NamesNewNode asked_host line table =
    (target : Target) × (target_in (other_words line) ≡ Some target) × IsRedirection line
    × WouldAdd table (endpoint_meant asked_host target.endpoint)

-- the value is such a line
abbrev pub IsToNewNode : Value → ℕ → List Endpoint → Type 0
IsToNewNode (Error line) asked table = NamesNewNode (host_of table asked) line table
IsToNewNode value asked table = ⊥

-- what reading a value does: it comes back only where memory was wanting for a new node
abbrev pub TellOutcome : Value → ℕ → List Endpoint → Result Told Value → List Endpoint → Type 0
TellOutcome value asked old (Ok told) new = told_by value asked old ≡ (told, new)
TellOutcome value asked old (Err back) new = (back ≡ value) × (new ≡ old) × IsToNewNode value asked old

-- what reading an error line does
abbrev pub RefusalOutcome : List ℕ → List ℕ → List Endpoint → Result (Option Told) NoMemory → List Endpoint → Type 0
RefusalOutcome asked_host line old (Ok (Some told)) new = refusal_in asked_host line old ≡ Some (told, new)
RefusalOutcome asked_host line old (Ok None) new = (refusal_in asked_host line old ≡ None) × (new ≡ old)
RefusalOutcome asked_host line old (Err refused) new = NamesNewNode asked_host line old × (new ≡ old)

abbrev pub told_how : Redirection → ℕ → ℕ → Told
told_how redirection.Moved = Moved
told_how redirection.Ask = Ask

-- what reading where a redirection leads does
abbrev pub RedirectOutcome : (ℕ → ℕ → Told) → List ℕ → Option Target → List Endpoint → Result Told NoMemory → List Endpoint → Type 0
RedirectOutcome how asked_host target old (Ok told) new = redirected how asked_host target old ≡ (told, new)
RedirectOutcome how asked_host target old (Err refused) new =
    (named : Target) × (target ≡ Some named) × WouldAdd old (endpoint_meant asked_host named.endpoint) × (new ≡ old)
