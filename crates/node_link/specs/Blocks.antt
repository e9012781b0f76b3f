-- A connection in bytes over which runs go as blocks: MULTI, the commands of a run, EXEC, with nothing between them.
-- What comes back is matched by place. A plain request has one reply, which is its value. A block has two replies more than
-- commands, and once the last of them has come, they tell each command its value (Runs.antt).
-- Redis documentation, "Transactions".
use Rattle.std.specs.Prelude.{◌≡◌, ◌⊎◌, ◌<◌, ◌+◌, ◌++◌, ◌∷◌, All, List, [], ℕ, Bool, Option, Some, None, codes, length, map, false, true, if◌then◌else◌, refl}
use Rattle.std.specs.List.{flat_map}
use Rattle.std.proofs.Common.{inl}
use Rattle.std.proofs.lemmas.List.{append-nil}
use Rattle.resp_wire.specs.declared.value.Value.{Value}
use Rattle.key_split.specs.declared.travel.Batch.{Batch}
use Rattle.key_split.specs.Laws.{IsPlain}
use Rattle.key_split.specs.Requests.{Request, Asking, Command, Slots, requests_of}
use Rattle.key_split.specs.Runs.{RunModel}
use Rattle.node_link.specs.declared.replies.Awaited.{Awaited}
use Rattle.node_link.specs.declared.replies.Awaited.TheVariants as awaited
use Rattle.node_link.specs.declared.stream.Flow.{Flow}
use Rattle.node_link.specs.Bytes.{Carries, IsGarbled, PortBytes, spelled, spelled_words, words_in}
use Rattle.node_link.specs.Port.{PortCalls}
use Rattle.node_link.specs.Runs.{IsToldByBlock, is_answer}
use Rattle.node_link.specs.Waiting.{GivesNone}

-- what goes out with nothing between it
pub data Item : Type 0 where
  Plain : Request → Item
  Block : List Request → Item

-- its part is written whole by its words
abbrev pub IsPlainRequest : Request → Type 0
IsPlainRequest Asking = Unit {0}
IsPlainRequest (Command ticket part) = IsPlain part
IsPlainRequest Slots = Unit {0}

-- a command before these: it is of their block, where commands stand first
abbrev pub blocked : Request → List Item → List Item
blocked command [] = Plain command ∷ []
blocked command (Plain Asking ∷ items) = Plain command ∷ Plain Asking ∷ items
blocked command (Plain (Command ticket part) ∷ items) = Block (command ∷ Command ticket part ∷ []) ∷ items
blocked command (Plain Slots ∷ items) = Plain command ∷ Plain Slots ∷ items
blocked command (Block [] ∷ items) = Plain command ∷ items
blocked command (Block (next ∷ later) ∷ items) = Block (command ∷ next ∷ later) ∷ items

-- what one call sends for these requests: commands that follow one another are a block
abbrev pub sent_for : List Request → List Item
sent_for [] = []
sent_for (Asking ∷ requests) = Plain Asking ∷ sent_for requests
sent_for (Command ticket part ∷ requests) = blocked (Command ticket part) (sent_for requests)
sent_for (Slots ∷ requests) = Plain Slots ∷ sent_for requests

-- MULTI, the commands, EXEC
abbrev pub spelled_block : List Request → List ℕ
spelled_block requests = spelled_words (codes "MULTI" ∷ []) ++ (spelled requests ++ spelled_words (codes "EXEC" ∷ []))

abbrev pub written_as : Item → List ℕ
written_as (Plain request) = spelled_words (words_in request)
written_as (Block requests) = spelled_block requests

-- the replies that are awaited then: one, or those to a block with its number of commands
abbrev pub awaited_by : Item → Awaited
awaited_by (Plain request) = awaited.Reply
awaited_by (Block requests) = awaited.Block (length requests)

-- the replies to a thing that was sent give these values
abbrev pub IsToldBy : Awaited → List Value → List Value → Type 0
IsToldBy awaited.Reply own told = (length own ≡ 1) × (told ≡ own)
IsToldBy (awaited.Block count) own told = IsToldByBlock count own told

-- The replies, grouped by place, give these values; what is left is awaited still, with the replies that gave none yet. What nothing
-- waits for is passed on.
abbrev pub Tells : List Awaited → List Value → List Value → List Awaited → List Value → Type 0
Tells [] replies values left rest = (left ≡ []) × (replies ≡ values ++ rest)
Tells (first ∷ later) replies values left rest =
    ((values ≡ []) × (left ≡ first ∷ later) × (rest ≡ replies))
    ⊎ ((own : List Value) × (more : List Value) × (told : List Value) × (further : List Value) × (replies ≡ own ++ more)
    × IsToldBy first own told × (values ≡ told ++ further) × Tells later more further left rest)

-- the replies that are awaited, those of the first block that have come, and the values of a block that no call gave yet
pub record RepliesModel : Type 0 where
  pub awaited : List Awaited
  pub came : List Value
  pub told : List Value

-- this was sent, these replies came, and these values were given
abbrev pub Settles : List Awaited → RepliesModel → List Value → List Value → RepliesModel → Type 0
Settles sent old came values new =
    (given : List Value) × Tells (old.awaited ++ sent) (old.came ++ came) given new.awaited new.came × (old.told ++ given ≡ values ++ new.told)

-- of how many commands the block is whose replies come next
abbrev pub first_block : List Awaited → Option ℕ
first_block [] = None
first_block (awaited.Reply ∷ later) = None
first_block (awaited.Block count ∷ later) = Some count

-- the replies to a block
abbrev pub is_block : Awaited → Bool
is_block awaited.Reply = false
is_block (awaited.Block count) = true

-- no value can be given before more comes
abbrev pub IsShort : RepliesModel → Type 0
IsShort replies = (replies.told ≡ []) × ((count : ℕ) → first_block replies.awaited ≡ Some count → length replies.came < count + 2)

-- what came in place of the replies to a block is none
abbrev pub HasBadBlock : RepliesModel → Type 0
HasBadBlock replies =
    (count : ℕ) × (first_block replies.awaited ≡ Some count) × (length replies.came ≡ count + 2) × (is_answer count replies.came ≡ false)

-- what a port over bytes that sends blocks holds: what such a port holds anyway, and the replies
pub record BlockPortModel (S : Type 0) : Type 0 where
  pub bytes : PortBytes S
  pub replies : RepliesModel
  -- whether a run may go as a block
  pub takes_blocks : Bool

-- how many commands a run may have
abbrev pub longest_at : {S : Type 0} → BlockPortModel S → ℕ
longest_at port = if port.takes_blocks then 64 else 1

-- what goes out for a run: for one of several a block, for one of one its requests
abbrev pub items_for : Batch → List Batch → List Item
items_for first [] = map Plain (requests_of first)
items_for first (next ∷ later) = Block (flat_map requests_of (first ∷ next ∷ later)) ∷ []

abbrev pub items_of : RunModel → List Item
items_of run = items_for run.first run.later

module _ {S : Type 0} (moved : S → List ℕ → List ℕ → S → Type 0) where
  -- these went out, their replies are awaited, and nothing came
  abbrev pub GoesAs : BlockPortModel S → List Item → BlockPortModel S → Type 0
  GoesAs old items new =
      Carries moved old.bytes (flat_map written_as items) [] new.bytes
      × (new.replies ≡ record old.replies { awaited = old.replies.awaited ++ map awaited_by items }) × (new.takes_blocks ≡ old.takes_blocks)

  -- the requests went out, a run of several in a block, and the values are what the replies tell that came; each command was plain
  abbrev pub BlockExchanges : BlockPortModel S → List Request → List Value → BlockPortModel S → Type 0
  BlockExchanges old requests values new =
      (came : List Value) × Carries moved old.bytes (flat_map written_as (sent_for requests)) came new.bytes
      × Settles (map awaited_by (sent_for requests)) old.replies came values new.replies × (new.takes_blocks ≡ old.takes_blocks) × All IsPlainRequest requests

-- the bytes that came are no values, or the values no replies to a block
abbrev pub IsBlockGarbled : {S : Type 0} → BlockPortModel S → Type 0
IsBlockGarbled port = IsGarbled port.bytes ⊎ HasBadBlock port.replies

-- what a port that gave none is left with
abbrev pub BlockGivesNone : {S : Type 0} → (S → ℕ → Flow → S → Type 0) → (S → List ℕ → Flow → S → Type 0) → BlockPortModel S → Type 0
BlockGivesNone asked offered port = GivesNone asked offered port.bytes × IsShort port.replies

-- what the port says of its calls, over a stream of which this is said
abbrev pub block_calls : {S : Type 0} → (S → ℕ) → (S → List ℕ → List ℕ → S → Type 0) → (S → ℕ → Flow → S → Type 0) → (S → List ℕ → Flow → S → Type 0)
    → PortCalls (BlockPortModel S)
block_calls failures moved asked offered = record {
  failures = λ port. failures port.bytes.stream;
  is_garbled = IsBlockGarbled;
  exchange = BlockExchanges moved;
  gives_none = BlockGivesNone asked offered;
}

-- where nothing is sent and nothing comes, all is awaited still
pub tells-nothing : (awaited : List Awaited) (replies : List Value) → Tells awaited replies [] awaited replies
tells-nothing [] replies = (refl, refl)
tells-nothing (first ∷ later) replies = inl (refl, refl, refl)

pub still_settles : (replies : RepliesModel) → Settles [] replies [] [] replies
still_settles replies =
    let tells = tells-nothing replies.awaited replies.came in
    ([], rw (append-nil replies.awaited, append-nil replies.came) tells, append-nil replies.told)
