-- The text of a world's answers and entries.
-- This project's format.
use Rattle.std.specs.Prelude.{ℕ, List, [], ◌∷◌, ◌++◌, codes}
use Rattle.std.specs.Fmt.{decimal, signed_decimal}
use Rattle.std.specs.List.{flat_map}
use Rattle.resp_wire.specs.Data.{Data, Items, simple, error, integer, bulk, null_bulk, array, null_array, no_items, item}
use Rattle.resp_wire.specs.Seen.{data_of}
use Rattle.key_split.specs.Words.{words_of}
use Rattle.key_split.specs.declared.travel.Ticket.{Ticket}
use Rattle.key_split.specs.declared.travel.Ended.{Ended}
use Rattle.key_split.specs.declared.travel.Ended.TheVariants.{Answered, GaveUp, Lost}
use Rattle.node_model.specs.History.{EntryModel}
use Rattle.world_laws.specs.State.{WorldModel}
use Rattle.world_laws.specs.declared.history.Answer.{Answer}
use Rattle.cluster_world.specs.declared.fault.WorldFault.{WorldFault}
use Rattle.cluster_world.specs.declared.fault.WorldFault.TheVariants.{NoMemory, NotNow}

-- pieces in a row, with this between each two
abbrev pub joined : List ℕ → List (List ℕ) → List ℕ
joined between [] = []
joined between (piece ∷ pieces) = piece ++ flat_map (λ further. between ++ further) pieces

-- what stands between the items of an array, and between words
abbrev pub bar : List ℕ
bar = codes " | "

abbrev pub space : List ℕ
space = codes " "

abbrev mutual
  pub value_text : Data → List ℕ
  value_text (simple text) = codes "simple " ++ text
  value_text (error text) = codes "error " ++ text
  value_text (integer z) = codes "integer " ++ signed_decimal z
  value_text (bulk body) = codes "bulk " ++ body
  value_text null_bulk = codes "null"
  value_text (array vs) = codes "array " ++ joined bar (texts_of vs)
  value_text null_array = codes "null"

  pub texts_of : Items → List (List ℕ)
  texts_of no_items = []
  texts_of (item v vs) = value_text v ∷ texts_of vs

abbrev pub end_text : Ended → List ℕ
end_text (Answered value) = value_text (data_of value)
end_text GaveUp = codes "gaveup"
end_text Lost = codes "lost"

-- CLIENT.PART
abbrev pub ticket_text : Ticket → List ℕ
ticket_text ticket = decimal ticket.client ++ codes "." ++ decimal ticket.part

-- a line, which LF ends
abbrev pub line : List ℕ → List ℕ
line text = text ++ 10 ∷ []

unfoldable pub answer_line : Answer → List ℕ
answer_line a = line (codes "answer " ++ ticket_text a.ticket ++ space ++ end_text a.ended)

unfoldable pub entry_line : EntryModel → List ℕ
entry_line e = line (codes "entry " ++ ticket_text e.ticket ++ space ++ joined space (words_of e.part) ++ codes " = " ++ value_text e.reply)

-- the answers in order, and then the entries
abbrev pub state_text : WorldModel → List ℕ
state_text w = flat_map answer_line w.answers ++ flat_map entry_line w.history

abbrev pub fault_name : WorldFault → List ℕ
fault_name NotNow = codes "NotNow"
fault_name NoMemory = codes "NoMemory"

-- an event was refused, by its number from 1
unfoldable pub refused_line : ℕ → WorldFault → List ℕ
refused_line number why = line (codes "refused " ++ decimal number ++ space ++ fault_name why)

unfoldable pub bad_line : ℕ → List ℕ
bad_line number = line (codes "bad line " ++ decimal number)
