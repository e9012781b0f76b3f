-- Calls of a reader, one after another.
-- Any list of calls of `feed` and `next`, from a new reader on. A piece refused for want of memory was not fed. A piece
-- offered after a fault counts as fed, so that a law can speak of all bytes offered.
use Rattle.std.specs.Prelude.{◌≡◌, ◌++◌, ◌∷◌, [], ℕ, List, Option, Some, None, Result, Ok, Err}
use Rattle.resp_wire.specs.Data.{Data}
use Rattle.resp_wire.specs.Seen.{data_of}
use Rattle.resp_wire.specs.LimitsModel.{LimitsModel}
use Rattle.resp_wire.specs.ReaderModel.{ReaderModel}
use Rattle.resp_wire.specs.FirstValue.{front, Partial, Feeds, ReaderTakes}
use Rattle.resp_wire.specs.declared.value.Value.{Value}
use Rattle.resp_wire.specs.declared.fault.WireFault.{WireFault}
use Rattle.resp_wire.specs.declared.fault.WireFault.TheVariants.{NoMemory}

-- a call and its answer: a piece was fed, or the next value was asked for
pub data ReaderCall : Type 0 where
  fed : List ℕ → Result (Unit {0}) WireFault → ReaderCall
  took : Result (Option Value) WireFault → ReaderCall

-- nothing has been fed
abbrev pub fresh : LimitsModel → ReaderModel
fresh bounds = record { bounds = bounds; unread = []; fault = None }

-- the calls lead from the old state to the new one
abbrev pub Runs : ReaderModel → List ReaderCall → ReaderModel → Type 0
Runs old [] new = new ≡ old
Runs old (fed piece result ∷ calls) new = (next : ReaderModel) × Feeds old piece result next × Runs next calls new
Runs old (took result ∷ calls) new = (next : ReaderModel) × ReaderTakes old result next × Runs next calls new

-- the bytes that were fed, where memory did not run out
abbrev pub bytes_of : List ReaderCall → List ℕ
bytes_of [] = []
bytes_of (fed piece (Ok done) ∷ calls) = piece ++ bytes_of calls
bytes_of (fed piece (Err NoMemory) ∷ calls) = bytes_of calls
bytes_of (fed piece (Err fault) ∷ calls) = piece ++ bytes_of calls
bytes_of (took result ∷ calls) = bytes_of calls

-- the values that were given, in order
abbrev pub values_of : List ReaderCall → List Data
values_of [] = []
values_of (fed piece result ∷ calls) = values_of calls
values_of (took (Ok (Some value)) ∷ calls) = data_of value ∷ values_of calls
values_of (took (Ok None) ∷ calls) = values_of calls
values_of (took (Err fault) ∷ calls) = values_of calls

-- a fault was found, or no value is whole yet
abbrev pub IsDrained : ReaderModel → Type 0
IsDrained input = input.fault ≡ None → front input.bounds input.unread ≡ Partial
