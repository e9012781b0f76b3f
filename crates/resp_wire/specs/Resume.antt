-- Reading on inside arrays that have begun.
-- Only private functions cite it. Bytes that come in pieces are read on from a place, not again from their start.
use Rattle.std.specs.Prelude.{suc, ◌≡◌, ◌-◌, ◌+◌, ◌≤◌, ℕ, List, [], ◌∷◌, ◌++◌, length, ◌*◌, ◌<◌, Option, Some, None, Result, Ok, Err, Bool, true, false}
use Rattle.std.specs.Borrow.{Bor}
use Rattle.resp_wire.specs.LimitsModel.{LimitsModel}
use Rattle.resp_wire.specs.Reading.{Reading, whole, partial, faulty, then_read, value_at, items_at}
use Rattle.resp_wire.specs.declared.fault.WireFault.{WireFault}

-- where it ends, whatever it is
abbrev pub extent : {A : Type 0} → Reading A → Reading (Unit {0})
extent r = then_read r (λ _ rest. whole tt rest)

-- How many items still come in each open array, the outermost first; as many arrays as `room` may stand inside the outermost.
unfoldable pub resume : LimitsModel → ℕ → List ℕ → List ℕ → Reading (Unit {0})
resume l room [] bytes = whole tt bytes
resume l room (n ∷ inner) bytes = then_read (resume l (room - 1) inner bytes) (λ _ rest. extent (items_at (value_at l room) n rest))

-- an item is still to come in the innermost array
abbrev pub WantsItem : List ℕ → Type 0
WantsItem counts = (outer : List ℕ) × (n : ℕ) × (counts ≡ outer ++ suc n ∷ [])

-- Reading on from the old counts and bytes is reading on from the new ones, whatever comes later.
abbrev pub GoesOn : LimitsModel → List ℕ → List ℕ → List ℕ → List ℕ → Type 0
GoesOn l counts bytes counts' bytes' = (more : List ℕ) → resume l l.depth counts (bytes ++ more) ≡ resume l l.depth counts' (bytes' ++ more)

-- all is read, or more has to come, or the fault
abbrev pub ComesTo : LimitsModel → List ℕ → List ℕ → Result Bool WireFault → Type 0
ComesTo l counts bytes (Ok true) = counts ≡ []
ComesTo l counts bytes (Ok false) = resume l l.depth counts bytes ≡ partial
ComesTo l counts bytes (Err f) = resume l l.depth counts bytes ≡ faulty f

-- reading went on, and is nearer its end
pub record Steps (l : LimitsModel) (counts bytes counts' bytes' : List ℕ) : Type 0 where
  pub goes_on : GoesOn l counts bytes counts' bytes'
  pub few : length counts' ≤ l.depth + 1
  pub nearer : 16 * length bytes' + length counts' < 16 * length bytes + length counts
  pub front : (front : List ℕ) × (bytes ≡ front ++ bytes')

abbrev pub IsStep : LimitsModel → List ℕ → List ℕ → List ℕ → Result (Option (Bor (List ℕ))) WireFault → Type 0
IsStep l counts counts' bytes (Ok (Some rest)) = Steps l counts bytes counts' rest.now
IsStep l counts counts' bytes (Ok None) = (counts' ≡ counts) × (resume l l.depth counts bytes ≡ partial)
IsStep l counts counts' bytes (Err f) = (counts' ≡ counts) × (resume l l.depth counts bytes ≡ faulty f)
