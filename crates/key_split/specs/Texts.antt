-- The error texts of refused requests.
-- Redis's texts, but for an unknown command's, which repeats neither name nor arguments.
use Rattle.std.specs.Prelude.{ℕ, List, [], ◌++◌, map, codes}
use Rattle.std.specs.Char.{to_ascii_lowercase}
use Rattle.resp_wire.specs.declared.value.Value.{Value}
use Rattle.resp_wire.specs.declared.value.Value.TheVariants.{Error}
use Rattle.key_split.specs.declared.planned.PlanFault.{PlanFault}
use Rattle.key_split.specs.declared.planned.PlanFault.TheVariants.{NoMemory, UnknownCommand, WrongCount, Syntax, NotANumber}
use Rattle.key_split.specs.declared.name.Name.{Name}
use Rattle.key_split.specs.Names.{text_of}

abbrev pub lower_text_of : Name → List ℕ
lower_text_of name = map to_ascii_lowercase (text_of name)

-- the error text of each fault; a refused growth has none, and is never answered
abbrev pub refusal_text : PlanFault → List ℕ
refusal_text NoMemory = []
refusal_text UnknownCommand = codes "ERR unknown command"
refusal_text (WrongCount name) = codes "ERR wrong number of arguments for '" ++ lower_text_of name ++ codes "' command"
refusal_text Syntax = codes "ERR syntax error"
refusal_text NotANumber = codes "ERR value is not an integer or out of range"

-- what is answered to a request that is refused
abbrev pub refusal_of : PlanFault → Value
refusal_of fault = Error (refusal_text fault)
