-- How replies that come in pieces are counted.
-- Only private functions cite it.
use Rattle.std.specs.Prelude.{◌≡◌, ◌⊎◌, ◌≤◌, ◌<◌, ◌++◌, ℕ, List, Bool, true, false, Some, None, Result, Ok, Err}
use Rattle.resp_wire.specs.Data.{Data}
use Rattle.resp_wire.specs.FirstValue.{front, Whole, Partial, Faulty}
use Rattle.resp_wire.specs.ReaderModel.{ReaderModel}
use Rattle.resp_wire.specs.declared.fault.NoMemory.{NoMemory}
use Rattle.resp_wire.specs.declared.fault.WireFault.{WireFault}

-- a piece goes behind what is unread, unless a fault was met
abbrev pub FeedOutcome : ReaderModel → List ℕ → Result (Unit {0}) NoMemory → ReaderModel → Type 0
FeedOutcome old piece (Ok _) new =
    ((old.fault ≡ None) × (new ≡ record old { unread = old.unread ++ piece }))
    ⊎ ((fault : WireFault) × (old.fault ≡ Some fault) × (new ≡ old))
FeedOutcome old piece (Err refused) new = new ≡ old

-- the reader has met this fault
abbrev pub HasFault : ReaderModel → WireFault → Type 0
HasFault input fault = (input.fault ≡ Some fault) ⊎ ((input.fault ≡ None) × (front input.bounds input.unread ≡ Faulty fault))

abbrev pub TakeOutcome : ReaderModel → Result Bool NoMemory → ReaderModel → Type 0
TakeOutcome old (Ok true) new =
    (old.fault ≡ None) × (value : Data) × (front old.bounds old.unread ≡ Whole value new.unread) × (new ≡ record old { unread = new.unread })
TakeOutcome old (Ok false) new =
    ((old.fault ≡ None) × (front old.bounds old.unread ≡ Partial) × (new ≡ old))
    ⊎ ((fault : WireFault) × HasFault old fault × (new ≡ record old { fault = Some fault }))
TakeOutcome old (Err refused) new = new ≡ old

-- no value more can be read
abbrev pub IsStuck : ReaderModel → Type 0
IsStuck input = input.fault ≡ None → front input.bounds input.unread ≡ Partial

abbrev pub CountOutcome : ℕ → Bool → ReaderModel → ℕ → Type 0
CountOutcome owed true input count = owed ≤ count
CountOutcome owed false input count = (count < owed) × IsStuck input
