-- What a node writes for what it answers: Redis Cluster specification, "Redirection and resharding".
-- What no node writes (Unclear, Lost, Unsent) has no text. Host and port are those of the table.
use Rattle.std.specs.Prelude.{◌≡◌, ℕ, ◌<◌, List, ◌++◌, length, codes}
use Rattle.std.specs.Fmt.{decimal}
use Rattle.resp_wire.specs.declared.value.Value.{Value}
use Rattle.resp_wire.specs.declared.value.Value.TheVariants.{Error}
use Rattle.slot_map.specs.Table.{Endpoint, endpoint_of}
use Rattle.key_split.specs.declared.travel.Told.{Told}
use Rattle.key_split.specs.declared.travel.Told.TheVariants.{Reply, Moved, Ask, TryAgain, ClusterDown, Unclear, Lost, Unsent}

-- `WORD slot host:port`
abbrev pub redirect_text : List ℕ → ℕ → Endpoint → List ℕ
redirect_text word slot at = word ++ decimal slot ++ codes " " ++ at.host ++ codes ":" ++ decimal at.port

abbrev pub redirect : List ℕ → ℕ → Endpoint → Value
redirect word slot at = Error (redirect_text word slot at)

-- the value is what a node writes; nothing is said where a node writes none
abbrev pub IsWritten : Told → List Endpoint → Value → Type 0
IsWritten (Reply v) table value = value ≡ v
IsWritten (Moved slot node) table value = value ≡ redirect (codes "MOVED ") slot (endpoint_of table node)
IsWritten (Ask slot node) table value = value ≡ redirect (codes "ASK ") slot (endpoint_of table node)
IsWritten TryAgain table value = value ≡ Error (codes "TRYAGAIN Multiple keys request during rehashing of slot")
IsWritten ClusterDown table value = value ≡ Error (codes "CLUSTERDOWN Hash slot not served")
IsWritten Unclear table value = ⊥
IsWritten Lost table value = ⊥
IsWritten Unsent table value = ⊥

-- a node writes it, and its node is in the table
abbrev pub CanBeWritten : Told → List Endpoint → Type 0
CanBeWritten (Reply v) table = Unit {0}
CanBeWritten (Moved slot node) table = node < length table
CanBeWritten (Ask slot node) table = node < length table
CanBeWritten TryAgain table = Unit {0}
CanBeWritten ClusterDown table = Unit {0}
CanBeWritten Unclear table = ⊥
CanBeWritten Lost table = ⊥
CanBeWritten Unsent table = ⊥
