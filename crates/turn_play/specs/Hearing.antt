-- What a node hears in the bytes that came: the first item in them.
use Rattle.std.specs.Prelude.{◌≡◌, ◌≢◌, ◌<◌, ◌≤◌, ◌+◌, ℕ, List, [], ◌∷◌, ◌++◌, All, Option, Some, None, Result, Ok, Err, codes, drop, length, map}
use Rattle.resp_wire.specs.Data.{Data, array, bulk, items_of}
use Rattle.resp_wire.specs.FirstValue.{front, Whole, Faulty}
use Rattle.resp_wire.specs.LimitsModel.{full}
use Rattle.resp_wire.specs.Seen.{data_of}
use Rattle.resp_wire.specs.declared.fault.NoMemory.{NoMemory as NoRoom}
use Rattle.resp_wire.specs.declared.fault.WireFault.{WireFault}
use Rattle.resp_wire.specs.declared.fault.WireFault.TheVariants.{NoMemory}
use Rattle.resp_wire.specs.declared.value.Value.{Value}
use Rattle.key_split.specs.Laws.{IsPlain}
use Rattle.key_split.specs.PartModel.{PartModel}
use Rattle.key_split.specs.Plan.{plan_of}
use Rattle.key_split.specs.Words.{words_of}
use Rattle.key_split.specs.declared.planned.Joining.{Joining}
use Rattle.key_split.specs.declared.planned.Planned.TheVariants.{Parts}
use Rattle.key_split.specs.declared.travel.Ticket.{Ticket}
use Rattle.turn_laws.specs.ByteWires.{ReadsAll, ReadsItem}
use Rattle.turn_laws.specs.Wire.{Item, Asks, Runs, Lists, Part}
use Rattle.turn_play.specs.declared.first_words.FirstWords.{FirstWords}
use Rattle.turn_play.specs.declared.first_words.FirstWords.TheVariants as first
use Rattle.turn_play.specs.declared.block.NextCommand.{NextCommand}
use Rattle.turn_play.specs.declared.block.NextCommand.TheVariants as next
use Rattle.turn_play.specs.declared.block.Block.{Block}
use Rattle.turn_play.specs.declared.block.Block.TheVariants as block
use Rattle.turn_play.specs.declared.hearing.Heard.{Heard}
use Rattle.turn_play.specs.declared.hearing.Heard.TheVariants as heard
use Rattle.turn_play.specs.declared.hearing.Hearing.{Hearing}
use Rattle.turn_play.specs.declared.hearing.Hearing.TheVariants as hearing

-- ---- what was heard, as an item

-- A command comes with no ticket to a node. Any stands for it.
abbrev pub any_ticket : Ticket
any_ticket = record { worker = 0; client = 0; part = 0 }

abbrev pub unnumbered : PartModel → Part
unnumbered part = (any_ticket, part)

abbrev pub item_of : Heard → Item
item_of heard.Asking = Asks
item_of (heard.Commands parts) = Runs (map unnumbered parts.items)
item_of heard.Slots = Lists

-- how many replies are written to it at most
abbrev pub most_replies : Item → ℕ
most_replies Asks = 1
most_replies (Runs parts) = length parts + 2
most_replies Lists = 1

-- ---- the first value

-- no value stands whole at the front
abbrev pub NoValue : List ℕ → Type 0
NoValue bytes = (value : Data) (more : List ℕ) → front full bytes ≡ Whole value more → ⊥

-- what the bytes begin with, and in how many of them it stands; a fault that is no want of memory is theirs
abbrev pub FindsValue : List ℕ → Result (Option (Value × ℕ)) WireFault → Type 0
FindsValue bytes (Ok (Some (value, count))) = (count ≤ length bytes) × (0 < count) × (front full bytes ≡ Whole (data_of value) (drop count bytes))
FindsValue bytes (Ok None) = NoValue bytes
FindsValue bytes (Err NoMemory) = Unit {0}
FindsValue bytes (Err fault) = front full bytes ≡ Faulty fault

abbrev pub request : List (List ℕ) → Data
request words = array (items_of (map bulk words))

-- the bytes begin with a request of these words, which has so many bytes
abbrev pub BeginsRequest : List ℕ → List (List ℕ) → ℕ → Type 0
BeginsRequest bytes words count = (count ≤ length bytes) × (0 < count) × (front full bytes ≡ Whole (request words) (drop count bytes))

-- they begin with none
abbrev pub NoRequest : List ℕ → Type 0
NoRequest bytes = (words : List (List ℕ)) (more : List ℕ) → front full bytes ≡ Whole (request words) more → ⊥

-- a value has these words, or none
abbrev pub TellsWords : Data → ℕ → Result FirstWords NoRoom → Type 0
TellsWords value count (Ok (first.Words words many)) = (value ≡ request words) × (many ≡ count)
TellsWords value count (Ok first.Short) = ⊥
TellsWords value count (Ok first.Other) = (words : List (List ℕ)) → value ≡ request words → ⊥
TellsWords value count (Err _) = Unit {0}

abbrev pub HearsWords : List ℕ → Result FirstWords NoRoom → Type 0
HearsWords bytes (Ok (first.Words words count)) = BeginsRequest bytes words count
HearsWords bytes (Ok first.Short) = NoRequest bytes
HearsWords bytes (Ok first.Other) = NoRequest bytes
HearsWords bytes (Err _) = Unit {0}

-- ---- the command that words are

-- the plan has this part alone, or not one
abbrev pub PlansOne : List (List ℕ) → Result (Option PartModel) NoRoom → Type 0
PlansOne words (Ok (Some part)) = (joining : Joining) × (plan_of words ≡ Ok (Parts joining (part ∷ [])))
PlansOne words (Ok None) = (joining : Joining) (part : PartModel) → plan_of words ≡ Ok (Parts joining (part ∷ [])) → ⊥
PlansOne words (Err _) = Unit {0}

-- it stands alone in the list, or none does
abbrev pub IsOnly : List PartModel → Option PartModel → Type 0
IsOnly parts (Some part) = parts ≡ part ∷ []
IsOnly parts None = (part : PartModel) → parts ≡ part ∷ [] → ⊥

-- no plain part is written by these words
abbrev pub NoPart : List (List ℕ) → Type 0
NoPart words = (part : PartModel) → IsPlain part → words_of part ≡ words → ⊥

-- the words are those by which this part is written, and it is plain; or no plain part is written by them
abbrev pub FindsPart : List (List ℕ) → Result (Option PartModel) NoRoom → Type 0
FindsPart words (Ok (Some part)) = IsPlain part × (words_of part ≡ words)
FindsPart words (Ok None) = NoPart words
FindsPart words (Err _) = Unit {0}

-- ---- the commands of a block

abbrev pub exec_words : List (List ℕ)
exec_words = codes "EXEC" ∷ []

-- these commands stand first, and then EXEC
abbrev pub ReadsCommands : List ℕ → List PartModel → List ℕ → Type 0
ReadsCommands bytes parts rest = All IsPlain parts × ReadsAll bytes (map words_of parts ++ exec_words ∷ []) rest

abbrev pub NoCommands : List ℕ → Type 0
NoCommands bytes = (parts : List PartModel) (rest : List ℕ) → ReadsCommands bytes parts rest → ⊥

-- a command stands first, or EXEC, or nothing that can stand in a block
abbrev pub HearsNext : List ℕ → Result NextCommand NoRoom → Type 0
HearsNext bytes (Ok (next.Command part count)) = IsPlain part × BeginsRequest bytes (words_of part) count
HearsNext bytes (Ok (next.Exec count)) = BeginsRequest bytes exec_words count
HearsNext bytes (Ok next.Short) = NoCommands bytes
HearsNext bytes (Ok next.Other) = NoCommands bytes
HearsNext bytes (Err _) = Unit {0}

-- the same of what has these words
abbrev pub TellsNext : List (List ℕ) → ℕ → Result NextCommand NoRoom → Type 0
TellsNext words count (Ok (next.Command part many)) = IsPlain part × (words_of part ≡ words) × (many ≡ count)
TellsNext words count (Ok (next.Exec many)) = (words ≡ exec_words) × (many ≡ count)
TellsNext words count (Ok next.Short) = ⊥
TellsNext words count (Ok next.Other) = NoPart words × (words ≢ exec_words)
TellsNext words count (Err _) = Unit {0}

abbrev pub HearsCommands : List ℕ → Result Block NoRoom → Type 0
HearsCommands bytes (Ok (block.Whole parts count)) = (count ≤ length bytes) × ReadsCommands bytes parts.items (drop count bytes)
HearsCommands bytes (Ok block.Short) = NoCommands bytes
HearsCommands bytes (Ok block.Other) = NoCommands bytes
HearsCommands bytes (Err _) = Unit {0}

-- ---- an item

abbrev pub NoItem : List ℕ → Type 0
NoItem bytes = (item : Item) (rest : List ℕ) → ReadsItem bytes item rest → ⊥

-- the bytes begin with this item, which has so many bytes; or with none
abbrev pub Hears : List ℕ → Result Hearing NoRoom → Type 0
Hears bytes (Ok (hearing.Item heard count)) = (count ≤ length bytes) × ReadsItem bytes (item_of heard) (drop count bytes)
Hears bytes (Ok hearing.Short) = NoItem bytes
Hears bytes (Ok hearing.Other) = NoItem bytes
Hears bytes (Err _) = Unit {0}
