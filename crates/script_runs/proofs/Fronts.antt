-- What a reader's front leaves, where nothing has been found wrong.
use Rattle.std.proofs.Common.{◌≡◌, ◌<◌, List, ℕ, Some, None, Ok, Err, length, length-append, refl, sym, ap, ◌∙◌, arith, inl, inr}
use Rattle.resp_wire.specs.LimitsModel.{LimitsModel, full}
use Rattle.resp_wire.specs.Data.{Data, simple, error, integer, bulk, null_bulk, array, null_array}
use Rattle.resp_wire.specs.FirstValue.{Faulty, front, ReaderTakes}
use Rattle.resp_wire.specs.ReaderModel.{ReaderModel}
use Rattle.resp_wire.specs.Laws.{FrontIsWhole}
use Rattle.resp_wire.specs.Seen.{data_of}
use Rattle.resp_wire.specs.Spelling.{Spells, BeginsLine}
use Rattle.resp_wire.specs.Stream.{Begins}
use Rattle.resp_wire.specs.declared.fault.WireFault.{WireFault}
use Rattle.resp_wire.specs.declared.fault.WireFault.TheVariants as wire
use Rattle.resp_wire.specs.declared.value.Value.{Value}
use Rattle.script_runs.specs.Wanted.{IsOpen, GoesOn}

line-bytes : (l : LimitsModel) (kind : ℕ) (text bytes more : List ℕ) → BeginsLine l kind text bytes more → 0 < length bytes
line-bytes l kind text bytes more line = let e = ap length line.are in omega (arith, e)

spelled-bytes : (l : LimitsModel) (room : ℕ) (bytes : List ℕ) (value : Data) → Spells l room bytes value → 0 < length bytes
spelled-bytes l room bytes (simple text) spells = line-bytes l _ text bytes _ spells
spelled-bytes l room bytes (error text) spells = line-bytes l _ text bytes _ spells
spelled-bytes l room bytes (integer z) spells = line-bytes l _ spells.0 bytes _ spells.2
spelled-bytes l room bytes (bulk body) spells = line-bytes l _ spells.0 bytes _ spells.3
spelled-bytes l room bytes null_bulk spells = line-bytes l _ _ bytes _ spells
spelled-bytes l room bytes (array vs) spells = line-bytes l _ spells.0 bytes _ spells.6
spelled-bytes l room bytes null_array spells = line-bytes l _ _ bytes _ spells

-- a whole value leaves fewer bytes
shorter : (l : LimitsModel) (text after : List ℕ) (value : Data) → Begins l text value after → length after < length text
shorter l text after value begun =
    let some = spelled-bytes l l.depth begun.0 value begun.1 in
    let whole = ap length begun.2 in
    omega (arith, some, whole, length-append begun.0 after)

pub full-front : (old : ReaderModel) → IsOpen old → front full old.unread ≡ front old.bounds old.unread
full-front old is_open = ap (λ (l : LimitsModel). front l old.unread) (sym is_open.0)

-- once a value is taken off, more may be read
pub goes-on : (old new : ReaderModel) (found : Value) → FrontIsWhole → IsOpen old → ReaderTakes old (Ok (Some found)) new → GoesOn old new
goes-on old new found law is_open takes = (
  (ap (λ i. i.bounds) takes.2 ∙ is_open.0, ap (λ i. i.fault) takes.2 ∙ is_open.1),
  shorter old.bounds old.unread new.unread (data_of found) ((law old.bounds old.unread new.unread (data_of found)).0 takes.1),
)

-- a fault of the stream that is answered stands at the front
pub faulty : (old new : ReaderModel) (found : WireFault) → (found ≡ wire.NoMemory → ⊥) → old.fault ≡ None → ReaderTakes old (Err found) new → front old.bounds old.unread ≡ Faulty found
faulty old new wire.NoMemory other none takes = absurd (other refl)
faulty old new wire.BadType other none takes = elim takes.0 [ inl was ↦ absurd (cc) | inr found ↦ found.1 ]
faulty old new wire.BadNumber other none takes = elim takes.0 [ inl was ↦ absurd (cc) | inr found ↦ found.1 ]
faulty old new wire.TooLong other none takes = elim takes.0 [ inl was ↦ absurd (cc) | inr found ↦ found.1 ]
faulty old new wire.TooMany other none takes = elim takes.0 [ inl was ↦ absurd (cc) | inr found ↦ found.1 ]
faulty old new wire.TooDeep other none takes = elim takes.0 [ inl was ↦ absurd (cc) | inr found ↦ found.1 ]
faulty old new wire.BadEnd other none takes = elim takes.0 [ inl was ↦ absurd (cc) | inr found ↦ found.1 ]
