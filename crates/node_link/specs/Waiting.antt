-- What it means that a port over bytes gives no value: its stream was read and is not gone, nothing whole waits in what came, and
-- what waits to be written was offered before or has not waited long.
use Rattle.std.specs.Prelude.{◌≡◌, ◌<◌, ◌≤◌, ◌⊎◌, ◌++◌, ⊤, List, [], ◌∷◌, ℕ, take, Bool, true, false, Option, Some, None, Result, Ok, Err}
use Rattle.resp_wire.specs.FirstValue.{front, Partial}
use Rattle.resp_wire.specs.ReaderModel.{ReaderModel}
use Rattle.resp_wire.specs.declared.value.Value.{Value}
use Rattle.node_link.specs.declared.link.Due.TheVariants as due
use Rattle.node_link.specs.declared.link.Got.{Got}
use Rattle.node_link.specs.declared.link.LinkFault.{LinkFault}
use Rattle.node_link.specs.declared.port.PortFault.{PortFault}
use Rattle.node_link.specs.declared.stream.Flow.{Flow}
use Rattle.node_link.specs.declared.stream.Flow.TheVariants as flow
use Rattle.node_link.specs.Bytes.{IsOffer, PortBytes, flush_after_reads}
use Rattle.node_link.specs.LinkModel.{LinkModel}

-- the port was asked for a value and gave none
abbrev pub GaveNone : Result (Option Value) PortFault → Type 0
GaveNone (Ok None) = ⊤
GaveNone (Ok (Some value)) = ⊥
GaveNone (Err fault) = ⊥

-- what was read begins with less than a value
abbrev pub IsWaiting : ReaderModel → Type 0
IsWaiting input = front input.bounds input.unread ≡ Partial

abbrev pub is_gone : Flow → Bool
is_gone (flow.Bytes count) = false
is_gone flow.Nothing = false
is_gone flow.Gone = true

-- the last call on the stream was a read into some room, and it did not say that the stream failed or ended
abbrev pub WasRead : {S : Type 0} → (S → ℕ → Flow → S → Type 0) → S → S → Type 0
WasRead asked before stream = (room : ℕ) × (0 < room) × (given : Flow) × asked before room given stream × (is_gone given ≡ false)

-- nothing waits to be written; or no more reads came with nothing sent than it is held back for; or it was offered by a write that
-- led to this state of the stream, and what was written of it is gone
abbrev pub WasOffered : {S : Type 0} → (S → List ℕ → Flow → S → Type 0) → PortBytes S → S → Type 0
WasOffered {S} offered port written_at =
    (port.unsent ≡ []) ⊎ ((port.quiet_reads ≤ flush_after_reads)
    ⊎ ((before : PortBytes S) × (count : ℕ) × IsOffer before.unsent before.refused count × (given : Flow)
    × offered before.stream (take count before.unsent) given written_at × (written : List ℕ) × (before.unsent ≡ written ++ port.unsent)))

-- what a port that gave none is left with
abbrev pub GivesNone : {S : Type 0} → (S → ℕ → Flow → S → Type 0) → (S → List ℕ → Flow → S → Type 0) → PortBytes S → Type 0
GivesNone {S} asked offered port =
    IsWaiting port.input × (between : S) × WasRead asked between port.stream × WasOffered offered port between

-- where nothing was received, the reply to ASKING came, or the port gave none
abbrev pub ReceivesNone : {P : Type 0} → (P → Type 0) → LinkModel P → Result (Option Got) LinkFault → LinkModel P → Type 0
ReceivesNone gives_none old (Ok None) new = (old.due ≡ due.Asking ∷ new.due) ⊎ gives_none new.port
ReceivesNone gives_none old (Ok (Some got)) new = ⊤
ReceivesNone gives_none old (Err fault) new = ⊤
