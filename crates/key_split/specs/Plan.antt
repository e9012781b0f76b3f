-- What the words of a request ask for: Redis command reference.
-- The faults in their order: unknown command, wrong number of words, then what the arguments say. Nothing of a refused
-- request is sent. NoMemory may stand in place of a plan, never of a fault.
-- Of SET's options NX and XX are known; any other is a syntax error. SELECT takes database 0 alone, as a cluster does.
use Rattle.std.specs.Prelude.{◌≡◌, ℕ, ℤ, ◌+◌, List, [], ◌∷◌, length, drop, if◌then◌else◌, Option, None, Some, Result, Ok, Err, MatchResult, slice_index_or, codes, ◌==◌}
use Rattle.std.specs.List.{list_all}
use Rattle.std.specs.Str.{bytes_eq}
use Rattle.resp_wire.specs.declared.value.Value.TheVariants.{Simple, Error, Bulk}
use Rattle.key_split.specs.declared.part.Op.{Op}
use Rattle.key_split.specs.declared.part.Op.TheVariants as op
use Rattle.key_split.specs.declared.part.Mode.{Mode}
use Rattle.key_split.specs.declared.part.Mode.TheVariants.{Always, IfAbsent, IfPresent}
use Rattle.key_split.specs.declared.name.Name.{Name}
use Rattle.key_split.specs.declared.name.Name.TheVariants.{Get, Set, SetNx, GetSet, GetDel, Append, StrLen, Incr, Decr, IncrBy, Del, Exists, MGet, MSet, Ping, Echo, Select, Quit}
use Rattle.key_split.specs.declared.planned.Planned.{Planned}
use Rattle.key_split.specs.declared.planned.Planned.TheVariants.{Local, Parts, Close}
use Rattle.key_split.specs.declared.planned.Joining.TheVariants.{One, Array, AllOk, Sum}
use Rattle.key_split.specs.declared.planned.PlanFault.{PlanFault}
use Rattle.key_split.specs.declared.planned.PlanFault.TheVariants.{NoMemory, UnknownCommand, WrongCount, Syntax, NotANumber}
use Rattle.key_split.specs.PartModel.{PartModel, Pair}
use Rattle.key_split.specs.Groups.{alone, group_numbers, pairs_of, parts_of}
use Rattle.key_split.specs.Names.{name_of, allows, same_letters}
use Rattle.key_split.specs.Number.{number_of}

abbrev pub Words : Type 0
Words = List (List ℕ)

abbrev pub PlanAnswer : Type 0
PlanAnswer = Result Planned PlanFault

-- the word at a place
abbrev pub word_at : Words → ℕ → List ℕ
word_at words k = slice_index_or words k []

-- the operation on one key, with no value
abbrev pub on_key : Op → List ℕ → PartModel
on_key o k = record { op = o; key = k; arg = []; rest = [] }

abbrev pub with_value : Op → List ℕ → List ℕ → PartModel
with_value o k v = record { op = o; key = k; arg = v; rest = [] }

-- the first argument's key, alone or with the second as its value
abbrev pub keyed : Op → Words → PlanAnswer
keyed o args = Ok (Parts One (on_key o (word_at args 0) ∷ []))

abbrev pub valued : Op → Words → PlanAnswer
valued o args = Ok (Parts One (with_value o (word_at args 0) (word_at args 1) ∷ []))

-- when SET writes: its options are all NX, or all XX, or there is none
abbrev pub mode_of : Words → Option Mode
mode_of options =
    if length options == 0 then Some Always
    else (if list_all (same_letters (codes "NX")) options then Some IfAbsent
    else (if list_all (same_letters (codes "XX")) options then Some IfPresent else None))

abbrev pub set_with : Option Mode → Words → PlanAnswer
set_with None args = Err Syntax
set_with (Some mode) args = valued (op.Set mode) args

abbrev pub increase : Option ℤ → Words → PlanAnswer
increase None args = Err NotANumber
increase (Some n) args = keyed (op.IncrBy n) args

-- a part for each slot of the keys
abbrev pub summed : Op → Words → PlanAnswer
summed o args = Ok (Parts Sum (parts_of o (alone args)))

abbrev pub gathered : List Pair → PlanAnswer
gathered pairs = Ok (Parts (Array (group_numbers pairs)) (parts_of op.MGet pairs))

abbrev pub pong : Words → PlanAnswer
pong [] = Ok (Local (Simple (codes "PONG")))
pong (text ∷ rest) = Ok (Local (Bulk text))

-- there is no data base but number 0
abbrev pub select : List ℕ → PlanAnswer
select number =
    if bytes_eq number (codes "0") then Ok (Local (Simple (codes "OK")))
    else Ok (Local (Error (codes "ERR SELECT is not allowed in cluster mode")))

-- what a command asks for with these arguments, whose count it allows
abbrev pub plan_as : Name → Words → PlanAnswer
plan_as Get args = keyed op.Get args
plan_as Set args = set_with (mode_of (drop 2 args)) args
plan_as SetNx args = valued op.SetNx args
plan_as GetSet args = valued op.GetSet args
plan_as GetDel args = keyed op.GetDel args
plan_as Append args = valued op.Append args
plan_as StrLen args = keyed op.StrLen args
plan_as Incr args = keyed op.Incr args
plan_as Decr args = keyed op.Decr args
plan_as IncrBy args = increase (number_of (word_at args 1)) args
plan_as Del args = summed op.Del args
plan_as Exists args = summed op.Exists args
plan_as MGet args = gathered (alone args)
plan_as MSet args = Ok (Parts AllOk (parts_of op.MSet (pairs_of args)))
plan_as Ping args = pong args
plan_as Echo args = Ok (Local (Bulk (word_at args 0)))
plan_as Select args = select (word_at args 0)
plan_as Quit args = Ok Close

abbrev pub plan_named : Option Name → Words → PlanAnswer
plan_named None args = Err UnknownCommand
plan_named (Some name) args = if allows name (length args + 1) then plan_as name args else Err (WrongCount name)

-- what the words ask for: the first is the name
abbrev pub plan_of : Words → PlanAnswer
plan_of words = plan_named (name_of (word_at words 0)) (drop 1 words)

-- the answer is the wanted one; only in place of a plan may it be that memory was refused
abbrev pub Plans : PlanAnswer → PlanAnswer → Type 0
Plans (Err fault) given = given ≡ Err fault
Plans (Ok planned) given = MatchResult given (λ p. p ≡ planned) (λ e. e ≡ NoMemory)
