-- How replies are collected until they tell a value, and how a request is drafted with what it awaits.
-- Only private functions cite it.
use Rattle.std.specs.Prelude.{◌≡◌, ◌<◌, ◌≤◌, ◌+◌, ◌++◌, ◌∷◌, ⊤, ◌⊎◌, List, [], ℕ, Bool, true, false, Option, Some, None, Result, Ok, Err, length, map}
use Rattle.resp_wire.specs.FirstValue.{front, Faulty}
use Rattle.resp_wire.specs.ReaderModel.{ReaderModel}
use Rattle.resp_wire.specs.declared.fault.NoMemory as resp
use Rattle.resp_wire.specs.declared.fault.WireFault.{WireFault}
use Rattle.resp_wire.specs.declared.value.Value.{Value}
use Rattle.node_link.specs.declared.port.PortFault.{PortFault}
use Rattle.node_link.specs.declared.port.PortFault.TheVariants.{NoMemory, Failed, BadWire}
use Rattle.node_link.specs.declared.replies.Awaited.{Awaited}
use Rattle.node_link.specs.declared.replies.Awaited.TheVariants as awaited
use Rattle.key_split.specs.Requests.{Request}
use Rattle.node_link.specs.Bytes.{InboxModel, OutboxModel, Splits}
use Rattle.node_link.specs.Blocks.{HasBadBlock, IsShort, RepliesModel, Settles, first_block}
use Rattle.node_link.specs.Waiting.{IsWaiting}

-- replies that may be held of what is awaited next
abbrev pub most_held : Option ℕ → ℕ
most_held None = 0
most_held (Some count) = count + 2

-- no more replies are held than the first block has
abbrev pub IsWithinBlock : List Awaited → List Value → Type 0
IsWithinBlock awaited came = length came ≤ most_held (first_block awaited)

abbrev pub IsFaulty : ReaderModel → Type 0
IsFaulty input = (fault : WireFault) × (front input.bounds input.unread ≡ Faulty fault)

-- values were read, and stand behind those that were held
abbrev pub Gathers : ReaderModel → List Value → ReaderModel → List Value → Type 0
Gathers input held input' held' =
    (read : List Value) × Splits input.bounds input.unread read input'.unread × (input'.bounds ≡ input.bounds) × (held' ≡ held ++ read)

-- `wanted` are wanted: all of them have come, or fewer
abbrev pub GatherOutcome : ℕ → ReaderModel → List Value → Result Bool PortFault → ReaderModel → List Value → Type 0
GatherOutcome wanted input held (Ok true) input' held' = Gathers input held input' held' × (length held' ≡ wanted)
GatherOutcome wanted input held (Ok false) input' held' = Gathers input held input' held' × (length held' < wanted) × IsWaiting input'
GatherOutcome wanted input held (Err NoMemory) input' held' = Gathers input held input' held' × (length held' ≤ wanted)
GatherOutcome wanted input held (Err BadWire) input' held' = Gathers input held input' held' × (length held' ≤ wanted) × IsFaulty input'
GatherOutcome wanted input held (Err Failed) input' held' = ⊥

-- nothing of what was read is left to be fed
abbrev pub IsDrained : InboxModel → Type 0
IsDrained inbox = (inbox.unfed ≡ []) × (inbox.fed.fault ≡ None)

abbrev pub DrainsAtFalse : Result Bool PortFault → InboxModel → Type 0
DrainsAtFalse (Ok true) inbox = ⊤
DrainsAtFalse (Ok false) inbox = IsDrained inbox
DrainsAtFalse (Err fault) inbox = ⊤

abbrev pub DrainsAtNone : Result (Option Value) PortFault → InboxModel → Type 0
DrainsAtNone (Ok (Some value)) inbox = ⊤
DrainsAtNone (Ok None) inbox = IsDrained inbox
DrainsAtNone (Err fault) inbox = ⊤

-- replies came that tell nothing yet
abbrev pub Collects : ReaderModel → RepliesModel → ReaderModel → RepliesModel → Type 0
Collects input old input' new =
    (came : List Value) × Splits input.bounds input.unread came input'.unread × (input'.bounds ≡ input.bounds) × (new ≡ record old { came = old.came ++ came })

-- replies came, and these values were given
abbrev pub Gives : ReaderModel → RepliesModel → List Value → ReaderModel → RepliesModel → Type 0
Gives input old values input' new =
    (came : List Value) × Splits input.bounds input.unread came input'.unread × (input'.bounds ≡ input.bounds) × Settles [] old came values new

-- the next of the values that a block's replies told is given, where there is one
abbrev pub NextTold : RepliesModel → Result (Option Value) PortFault → RepliesModel → Type 0
NextTold old (Ok (Some value)) new = (old.told ≡ value ∷ new.told) × (new ≡ record old { told = new.told })
NextTold old (Ok None) new = (old.told ≡ []) × (new ≡ old)
NextTold old (Err NoMemory) new = new ≡ old
NextTold old (Err BadWire) new = ⊥
NextTold old (Err Failed) new = ⊥

-- the next value is given, or replies are collected for it; where memory is wanting, what they tell may be known
abbrev pub ValueOutcome : ReaderModel → RepliesModel → Result (Option Value) PortFault → ReaderModel → RepliesModel → Type 0
ValueOutcome input old (Ok (Some value)) input' new = Gives input old (value ∷ []) input' new
ValueOutcome input old (Ok None) input' new = Collects input old input' new × IsWaiting input' × IsShort new
ValueOutcome input old (Err NoMemory) input' new = Gives input old [] input' new
ValueOutcome input old (Err BadWire) input' new = Collects input old input' new × (IsFaulty input' ⊎ HasBadBlock new)
ValueOutcome input old (Err Failed) input' new = ⊥

-- bytes are drafted and replies awaited for them, or neither is; some of the bytes may stand in the draft then
abbrev pub DraftOutcome : List ℕ → List Awaited → OutboxModel → RepliesModel → Result (Unit {0}) resp.NoMemory → OutboxModel → RepliesModel → Type 0
DraftOutcome bytes sent out old (Ok _) out' new =
    (out'.unsent ≡ out.unsent) × (out'.draft ≡ out.draft ++ bytes) × (new ≡ record old { awaited = old.awaited ++ sent })
DraftOutcome bytes sent out old (Err _) out' new = (out'.unsent ≡ out.unsent) × (new ≡ old)

-- each of these requests has one reply
abbrev pub await_each : List Request → List Awaited
await_each requests = map (λ request. awaited.Reply) requests
