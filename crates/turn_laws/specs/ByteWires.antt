-- A port over bytes that stands for a wire, and what a node does at the other end.
-- The bytes on their way to the node spell the wire's items, and those on their way back give its values, cut anywhere. Redis
-- serialization protocol (RESP2) specification, "Sending commands to a Redis server"; Redis documentation, "Transactions".
use Rattle.std.specs.Prelude.{◌≡◌, ◌<◌, ℕ, Bool, true, false, All, List, [], ◌∷◌, ◌++◌, None, codes, length, map}
use Rattle.std.specs.List.{flat_map}
use Rattle.resp_wire.specs.Data.{array, bulk, items_of}
use Rattle.resp_wire.specs.FirstValue.{front, Whole}
use Rattle.resp_wire.specs.LimitsModel.{LimitsModel, full}
use Rattle.resp_wire.specs.declared.value.Value.{Value}
use Rattle.key_split.specs.Laws.{IsPlain}
use Rattle.key_split.specs.Requests.{Request, Asking, Command, Slots}
use Rattle.node_link.specs.declared.replies.Awaited.{Awaited}
use Rattle.node_link.specs.Blocks.{BlockPortModel, IsToldBy, awaited_by, written_as}
use Rattle.node_link.specs.Blocks.{Item as Sent, Plain, Block}
use Rattle.node_link.specs.Bytes.{Splits, words_in}
use Rattle.turn_laws.specs.Wire.{Item, Asks, Runs, Lists, Part, Wire, new_wire, parts_in}

-- ---- how a wire's items are sent

abbrev pub command_in : Part → Request
command_in part = Command part.0 part.1

-- a run of several goes as a block
abbrev pub sent_as : Item → Sent
sent_as Asks = Plain Asking
sent_as (Runs []) = Block []
sent_as (Runs (part ∷ [])) = Plain (command_in part)
sent_as (Runs (part ∷ next ∷ later)) = Block (map command_in (part ∷ next ∷ later))
sent_as Lists = Plain Slots

-- its parts are written whole by their words, and a run has one
abbrev pub IsPlainItem : Item → Type 0
IsPlainItem Asks = Unit {0}
IsPlainItem (Runs parts) = (0 < length parts) × All IsPlain (parts_in parts)
IsPlainItem Lists = Unit {0}

-- the same but for the tickets, which no node sees
abbrev pub AreAlike : Item → Item → Type 0
AreAlike Asks Asks = Unit {0}
AreAlike (Runs parts) (Runs others) = parts_in parts ≡ parts_in others
AreAlike Lists Lists = Unit {0}
AreAlike Asks (Runs others) = ⊥
AreAlike Asks Lists = ⊥
AreAlike (Runs parts) Asks = ⊥
AreAlike (Runs parts) Lists = ⊥
AreAlike Lists Asks = ⊥
AreAlike Lists (Runs others) = ⊥

-- the requests, as lists of words, that are sent for a thing
abbrev pub words_sent : Sent → List (List (List ℕ))
words_sent (Plain request) = words_in request ∷ []
words_sent (Block requests) = (codes "MULTI" ∷ []) ∷ (map words_in requests ++ (codes "EXEC" ∷ []) ∷ [])

-- the bytes begin with spellings of these requests, in order, as whoever reads within the largest limits finds them
abbrev pub ReadsAll : List ℕ → List (List (List ℕ)) → List ℕ → Type 0
ReadsAll bytes [] rest = bytes ≡ rest
ReadsAll bytes (words ∷ requests) rest =
    (more : List ℕ) × (front full bytes ≡ Whole (array (items_of (map bulk words))) more) × ReadsAll more requests rest

-- the bytes begin with this item
abbrev pub ReadsItem : List ℕ → Item → List ℕ → Type 0
ReadsItem bytes item rest = IsPlainItem item × ReadsAll bytes (words_sent (sent_as item)) rest

-- A node reads what was written: an item that it finds first in what came is the one that was written first, but for its tickets, and
-- came whole.
abbrev pub ItemsAreReadBack : Type 0
ItemsAreReadBack = (item heard : Item) (came later more rest : List ℕ) → IsPlainItem item → came ++ later ≡ written_as (sent_as item) ++ more → ReadsItem came heard rest
    → AreAlike item heard × (came ≡ written_as (sent_as item) ++ rest) × (rest ++ later ≡ more)

-- ---- what is on its way

-- the replies to things that were sent, each to its own, and the values that they give
abbrev pub AreAnswers : List Awaited → List Value → List Value → Type 0
AreAnswers [] replies values = (replies ≡ []) × (values ≡ [])
AreAnswers (first ∷ later) replies values =
    (own : List Value) × (more : List Value) × (told : List Value) × (further : List Value)
    × (replies ≡ own ++ more) × IsToldBy first own told × (values ≡ told ++ further) × AreAnswers later more further

-- the other end of a stream, at a node: at which one is said by who serves there
pub record FarEnd : Type 0 where
  -- the flag that ASKING sets
  pub asking : Bool
  -- the bytes that were written and that the node has not served
  pub unserved : List ℕ
  -- the bytes that the node wrote and that were not read
  pub unread : List ℕ

-- what is written goes behind what waits to be served, and what is read stood first of what the node wrote
abbrev pub FlowsTo : {S : Type 0} → (S → List ℕ → List ℕ → S → Type 0) → (S → FarEnd) → Type 0
FlowsTo {S} moved far = (old new : S) (written read : List ℕ) → moved old written read new
    → ((far old).unread ≡ read ++ (far new).unread) × (far new ≡ record (far old) { unserved = (far old).unserved ++ written; unread = (far new).unread })

-- The bytes to the node, written or not, spell the wire's items, whose parts are plain; the port awaits replies to what was served, and then to
-- these; those of the first came or are on their way, and give the wire's values. What comes is read within the largest limits.
pub record IsWiredTo {S : Type 0} (far : S → FarEnd) (port : BlockPortModel S) (wire : Wire) : Type 0 where
  pub served : List Awaited
  pub coming : List Value
  pub given : List Value
  pub asks : wire.asking ≡ (far port.bytes.stream).asking
  pub plain : All IsPlainItem wire.items
  pub bounds : port.bytes.input.bounds ≡ full
  pub goes : (far port.bytes.stream).unserved ++ port.bytes.unsent ≡ flat_map written_as (map sent_as wire.items)
  pub awaits : port.replies.awaited ≡ served ++ map awaited_by (map sent_as wire.items)
  pub comes : Splits port.bytes.input.bounds (port.bytes.input.unread ++ (far port.bytes.stream).unread) coming []
  pub answers : AreAnswers served (port.replies.came ++ coming) given
  pub values : wire.values ≡ port.replies.told ++ given

-- ---- what a node does

-- the flag that ASKING sets, after an item was served
abbrev pub asking_after : Item → Bool → Bool
asking_after Asks asking = true
asking_after (Runs parts) asking = false
asking_after Lists asking = asking

-- The node takes the bytes of one item, and writes bytes that spell its replies: one for a plain request; for a block those to MULTI, to
-- each command and to EXEC. They say these values of it.
pub record AnswersItem (bounds : LimitsModel) (old : FarEnd) (item : Item) (values : List Value) (new : FarEnd) : Type 0 where
  pub replies : List Value
  pub bytes : List ℕ
  pub takes : old.unserved ≡ written_as (sent_as item) ++ new.unserved
  pub spells : Splits bounds bytes replies []
  pub says : IsToldBy (awaited_by (sent_as item)) replies values
  pub leaves : new ≡ record old { asking = asking_after item old.asking; unserved = new.unserved; unread = old.unread ++ bytes }

-- a port over a stream of which nothing was read or written
abbrev pub new_port : {S : Type 0} → S → LimitsModel → Bool → BlockPortModel S
new_port stream bounds takes_blocks = record {
  bytes = record { stream = stream; unsent = []; refused = 0; quiet_reads = 0; input = record { bounds = bounds; unread = []; fault = None } };
  replies = record { awaited = []; came = []; told = [] };
  takes_blocks = takes_blocks;
}

-- the same port, after its node did something at the other end of its stream
abbrev pub over_stream : {S : Type 0} → BlockPortModel S → S → BlockPortModel S
over_stream port stream = record port { bytes = record port.bytes { stream = stream } }

-- the wire after its first item was served with these values
abbrev pub served_wire : Wire → Item → List Item → List Value → Wire
served_wire wire item rest values = record wire { items = rest; values = wire.values ++ values; asking = asking_after item wire.asking }

-- where the node at the other end answers the wire's first item, the port stands for the wire behind it
abbrev pub ServesWire : {S : Type 0} → (S → FarEnd) → Type 0
ServesWire {S} far = (port : BlockPortModel S) (stream : S) (wire : Wire) (item : Item) (rest : List Item) (values : List Value)
    → IsWiredTo far port wire → wire.items ≡ item ∷ rest → AnswersItem port.bytes.input.bounds (far port.bytes.stream) item values (far stream)
    → IsWiredTo far (over_stream port stream) (served_wire wire item rest values)

-- a port that has done nothing yet stands for a new wire to any node, where nothing moved
abbrev pub BeginsWire : {S : Type 0} → (S → FarEnd) → Type 0
BeginsWire {S} far = (stream : S) (takes_blocks : Bool) (id node : ℕ)
    → far stream ≡ record { asking = false; unserved = []; unread = [] }
    → IsWiredTo far (new_port stream full takes_blocks) (new_wire id node)
