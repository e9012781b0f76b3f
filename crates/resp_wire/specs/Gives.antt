-- What a function of the code returned, against what reading gives.
-- Only private functions cite it.
use Rattle.std.specs.Prelude.{IsTrue, ◌≡◌, ℕ, List, ◌++◌, ◌<◌, length, Option, Some, None, Result, Ok, Err}
use Rattle.std.specs.Borrow.{Bor}
use Rattle.resp_wire.specs.Data.{Items}
use Rattle.resp_wire.specs.Spelling.{plus, minus, colon, dollar, star, length_in}
use Rattle.resp_wire.specs.Reading.{Reading, whole, partial, faulty, value_with, after_line, is_none}
use Rattle.resp_wire.specs.LimitsModel.{LimitsModel}
use Rattle.resp_wire.specs.Text.{is_one_line}
use Rattle.std.specs.Prelude.{true, false}
use Rattle.resp_wire.specs.declared.fault.WireFault.{WireFault}
use Rattle.resp_wire.specs.declared.fault.WireFault.TheVariants.{NoMemory, BadNumber}
use Rattle.resp_wire.specs.declared.line.Kind.{Kind}
use Rattle.resp_wire.specs.declared.line.Kind.TheVariants.{Simple, Error, Integer, Bulk, Array}

abbrev pub byte_of : Kind → ℕ
byte_of Simple = plus
byte_of Error = minus
byte_of Integer = colon
byte_of Bulk = dollar
byte_of Array = star

-- the bytes after CR and LF
abbrev pub Ends : Result (Option (Bor (List ℕ))) WireFault → Reading (Unit {0}) → Type 0
Ends (Ok None) r = r ≡ partial
Ends (Ok (Some rest)) r = r ≡ whole tt rest.now
Ends (Err f) r = r ≡ faulty f

-- a part, seen by view, and the bytes after it
abbrev pub Gives : {X A : Type 0} → (X → A) → Result (Option (X × Bor (List ℕ))) WireFault → Reading A → Type 0
Gives view (Ok None) r = r ≡ partial
Gives view (Ok (Some x)) r = r ≡ whole (view x.0) x.1.now
Gives view (Err f) r = r ≡ faulty f

-- bytes, and the bytes after them
abbrev pub BodyGives : Result (Option (Bor (List ℕ) × Bor (List ℕ))) WireFault → Reading (List ℕ) → Type 0
BodyGives (Ok None) r = r ≡ partial
BodyGives (Ok (Some x)) r = r ≡ whole x.0.now x.1.now
BodyGives (Err f) r = r ≡ faulty f

-- how a value that these bytes begin goes on
abbrev pub LineGives : LimitsModel → List ℕ → Result (Option (Kind × Bor (List ℕ) × Bor (List ℕ))) WireFault → Type 0
LineGives l bytes (Ok None) = (items : ℕ → List ℕ → Reading Items) → value_with l items bytes ≡ partial
LineGives l bytes (Ok (Some x)) = (items : ℕ → List ℕ → Reading Items) (more : List ℕ) → value_with l items (bytes ++ more) ≡ after_line l items (byte_of x.0) x.1.now (x.2.now ++ more)
LineGives l bytes (Err f) = (items : ℕ → List ℕ → Reading Items) → value_with l items bytes ≡ faulty f

-- the text of the line has no CR or LF
abbrev pub IsLineText : Result (Option (Kind × Bor (List ℕ) × Bor (List ℕ))) WireFault → Type 0
IsLineText (Ok None) = Unit {0}
IsLineText (Ok (Some x)) = IsTrue (is_one_line x.1.now)
IsLineText (Err f) = Unit {0}

-- what a text says of a length
abbrev pub LengthIs : List ℕ → Result (Option ℕ) WireFault → Type 0
LengthIs text (Ok None) = is_none text ≡ true
LengthIs text (Ok (Some n)) = (is_none text ≡ false) × (length_in text ≡ Some n)
LengthIs text (Err f) = (is_none text ≡ false) × (length_in text ≡ None) × (f ≡ BadNumber)

-- a line was read, and what is left is behind it
abbrev pub IsBehindLine : List ℕ → Result (Option (Kind × Bor (List ℕ) × Bor (List ℕ))) WireFault → Type 0
IsBehindLine bytes (Ok None) = Unit {0}
IsBehindLine bytes (Ok (Some x)) = (front : List ℕ) × (0 < length front) × (bytes ≡ front ++ x.2.now)
IsBehindLine bytes (Err f) = Unit {0}

-- the same, seen by view, unless memory ran out
abbrev pub Builds : {X A : Type 0} → (X → A) → Result (Option (X × Bor (List ℕ))) WireFault → Reading A → Type 0
Builds view (Ok None) r = r ≡ partial
Builds view (Ok (Some x)) r = r ≡ whole (view x.0) x.1.now
Builds view (Err NoMemory) r = Unit {0}
Builds view (Err f) r = r ≡ faulty f

-- bytes came at the end
abbrev pub Grows : List ℕ → List ℕ → Type 0
Grows old new = (more : List ℕ) × (new ≡ old ++ more)
