-- The reading of a reply to CLUSTER SLOTS.
-- Redis command reference, CLUSTER SLOTS: entries of a first slot, a last slot, the primary, and the replicas, which
-- are skipped. No host, an empty one or `?` means the host of the node that was asked.
-- One entry that can't be read refuses the whole reply and leaves the table. Where ranges overlap, the later entry
-- counts.
use Rattle.std.specs.Prelude.{◌≡◌, ◌<◌, ℕ, ℤ, pos, negsuc, List, [], ◌∷◌, length, Bool, ◌&&◌, ◌||◌, ◌==◌, nat_le, nat_lt, Option, None, Some, Result, Ok, Err, if◌then◌else◌, codes, MatchResult}
use Rattle.resp_wire.specs.declared.value.Value.{Value}
use Rattle.resp_wire.specs.declared.value.Value.TheVariants as value
use Rattle.std.specs.Str.{bytes_eq}
use Rattle.resp_wire.specs.Data.{Data, simple, error, integer, bulk, null_bulk, array, null_array, list_of}
use Rattle.resp_wire.specs.Text.{is_one_line}
use Rattle.slot_map.specs.declared.ops.MapOp.{MapOp}
use Rattle.slot_map.specs.declared.ops.MapOp.TheVariants.{SetRange}
use Rattle.slot_map.specs.declared.fault.MapFault.{MapFault}
use Rattle.slot_map.specs.declared.fault.MapFault.TheVariants.{NoMemory, NotSlots, BadRange, TooManyNodes}
use Rattle.slot_map.specs.Table.{Endpoint, host_of, Numbered, numbered}

-- where an entry says that its primary listens; no host: that of the node that was asked
pub record PrimaryModel : Type 0 where
  pub host : Option (List ℕ)
  pub port : ℤ

pub record SlotsEntryModel : Type 0 where
  pub first : ℤ
  pub last : ℤ
  pub primary : PrimaryModel

abbrev pub is_unnamed : List ℕ → Bool
is_unnamed host = length host == 0 || bytes_eq host (codes "?")

-- a bulk without CR or LF, or a null bulk
abbrev pub primary_at : Data → ℤ → Option PrimaryModel
primary_at (bulk host) port =
    if is_one_line host then Some (record { host = if is_unnamed host then None else Some host; port = port }) else None
primary_at null_bulk port = Some (record { host = None; port = port })
primary_at (simple t) port = None
primary_at (error t) port = None
primary_at (integer n) port = None
primary_at (array ds) port = None
primary_at null_array port = None

abbrev pub primary_in : List Data → Option PrimaryModel
primary_in (host ∷ integer port ∷ rest) = primary_at host port
primary_in other = None

abbrev pub entry_at : ℤ → ℤ → Option PrimaryModel → Option SlotsEntryModel
entry_at first last None = None
entry_at first last (Some primary) = Some (record { first = first; last = last; primary = primary })

abbrev pub entry_in_items : List Data → Option SlotsEntryModel
entry_in_items (integer first ∷ integer last ∷ array primary ∷ rest) = entry_at first last (primary_in (list_of primary))
entry_in_items other = None

abbrev pub entry_in : Data → Option SlotsEntryModel
entry_in (array items) = entry_in_items (list_of items)
entry_in (simple t) = None
entry_in (error t) = None
entry_in (integer n) = None
entry_in (bulk b) = None
entry_in null_bulk = None
entry_in null_array = None

-- a range of slots below 16384, and a port from 1 to 65535
pub record SlotRangeModel : Type 0 where
  pub first : ℕ
  pub last : ℕ
  pub host : Option (List ℕ)
  pub port : ℕ

abbrev pub slot_at : ℤ → Option ℕ
slot_at (pos n) = if nat_lt n 16384 then Some n else None
slot_at (negsuc n) = None

abbrev pub port_at : ℤ → Option ℕ
port_at (pos n) = if nat_le 1 n && nat_lt n 65536 then Some n else None
port_at (negsuc n) = None

abbrev pub located_at : Option ℕ → Option ℕ → Option ℕ → Option (List ℕ) → Option SlotRangeModel
located_at (Some first) (Some last) (Some port) host =
    if nat_le first last then Some (record { first = first; last = last; host = host; port = port }) else None
located_at first last port host = None

abbrev pub located : SlotsEntryModel → Option SlotRangeModel
located e = located_at (slot_at e.first) (slot_at e.last) (port_at e.primary.port) e.primary.host

-- the endpoint that a range names; without a host, that of the node that was asked
abbrev pub host_or : Option (List ℕ) → List ℕ → List ℕ
host_or None asked_host = asked_host
host_or (Some host) asked_host = host

abbrev pub endpoint_meant : SlotRangeModel → List ℕ → Endpoint
endpoint_meant l asked_host = record { host = host_or l.host asked_host; port = l.port }

abbrev pub range_at : Option SlotRangeModel → Result SlotRangeModel MapFault
range_at None = Err BadRange
range_at (Some l) = Ok l

-- first the entry's shape, then its ranges
abbrev pub range_from : Option SlotsEntryModel → Result SlotRangeModel MapFault
range_from None = Err NotSlots
range_from (Some e) = range_at (located e)

unfoldable pub range_in : Data → Result SlotRangeModel MapFault
range_in d = range_from (entry_in d)

-- an operation, and the table after it
pub record ReadStep : Type 0 where
  pub op : MapOp
  pub table : List Endpoint

abbrev pub step_at : SlotRangeModel → Option Numbered → Result ReadStep MapFault
step_at l None = Err TooManyNodes
step_at l (Some n) = Ok (record { op = SetRange l.first l.last n.number; table = n.table })

-- an entry's range takes a number from the table for the endpoint that it means
abbrev pub step_from : List ℕ → List Endpoint → Result SlotRangeModel MapFault → Result ReadStep MapFault
step_from asked_host table (Err e) = Err e
step_from asked_host table (Ok l) = step_at l (numbered table (endpoint_meant l asked_host))

-- the operations of the entries in order, and the table after them
pub record SlotsReading : Type 0 where
  pub ops : List MapOp
  pub table : List Endpoint

abbrev pub before : MapOp → Result SlotsReading MapFault → Result SlotsReading MapFault
before op (Err e) = Err e
before op (Ok r) = Ok (record { ops = op ∷ r.ops; table = r.table })

abbrev pub go_on : Result ReadStep MapFault → (List Endpoint → Result SlotsReading MapFault) → Result SlotsReading MapFault
go_on (Err e) next = Err e
go_on (Ok s) next = before s.op (next s.table)

abbrev pub read_entries : ℕ → List Data → List Endpoint → Result SlotsReading MapFault
read_entries asked [] table = Ok (record { ops = []; table = table })
read_entries asked (d ∷ ds) table = go_on (step_from (host_of table asked) table (range_in d)) (λ t. read_entries asked ds t)

-- the operations that a reply means, from the node that was asked
abbrev pub read_slots : Value → ℕ → List Endpoint → Result SlotsReading MapFault
read_slots (value.Array ds) asked table = read_entries asked ds table
read_slots (value.Simple t) asked table = Err NotSlots
read_slots (value.Error t) asked table = Err NotSlots
read_slots (value.Integer n) asked table = Err NotSlots
read_slots (value.Bulk b) asked table = Err NotSlots
read_slots value.NullBulk asked table = Err NotSlots
read_slots value.NullArray asked table = Err NotSlots

-- a refusal is exactly that of the reading, and leaves the table; memory can be wanting only where there is an operation to keep
abbrev pub ReadsAs : Result SlotsReading MapFault → List Endpoint → Result (List MapOp) MapFault → List Endpoint → Type 0
ReadsAs (Err e) old given new = (given ≡ Err e) × (new ≡ old)
ReadsAs (Ok r) old given new =
    MatchResult given (λ ops. (ops ≡ r.ops) × (new ≡ r.table)) (λ f. (f ≡ NoMemory) × (0 < length r.ops) × (new ≡ old))
