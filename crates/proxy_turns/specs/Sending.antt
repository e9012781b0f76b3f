-- What dialling a node and sending to it do to a backend.
-- A run goes out as one item. A failed dial, a node that the table lacks, and a link whose port takes no run as long, make each
-- command of a run Unsent.
use Rattle.std.specs.Prelude.{◌≡◌, ◌⊎◌, ◌<◌, ◌≤◌, ℕ, List, false, Option, Some, None, Result, Ok, Err, IsSome, IsSomeAnd, length, slice_get}
use Rattle.resp_wire.specs.declared.fault.NoMemory.{NoMemory}
use Rattle.key_split.specs.Runs.{RunModel, count_in, requests_of_run}
use Rattle.slot_map.specs.Table.{Endpoint}
use Rattle.node_link.specs.LinkModel.{LinkModel}
use Rattle.node_link.specs.LinkCalls.{Sends}
use Rattle.node_link.specs.declared.link.LinkFault.TheVariants as fault
use Rattle.node_link.specs.Port.{PortCalls}
use Rattle.proxy_turns.specs.declared.backend.Backend.{Backend}
use Rattle.proxy_turns.specs.declared.backend.Dialled.{Dialled}
use Rattle.proxy_turns.specs.declared.backend.Dialled.TheVariants.{Present, Opened, Unreached}
use Rattle.proxy_turns.specs.declared.backend.RunStep.{RunStep}
use Rattle.proxy_turns.specs.declared.backend.RunStep.TheVariants.{Sent, TooLong, NoLink}
use Rattle.proxy_turns.specs.Backend.{fresh_link, is_open, GoesOut}

-- one dial, at the endpoint that the table has for the node, failed; or the table has no such node, and nothing was dialled
abbrev pub IsUnreached : {P : Type 0} → (Endpoint → Option P → ℕ → ℕ → Type 0) → ℕ → List Endpoint → ℕ → ℕ → Type 0
IsUnreached opens node nodes before now =
    ((at : Endpoint) × (slice_get nodes node ≡ Some at) × opens at None before now × (before < now)) ⊎ ((length nodes ≤ node) × (now ≡ before))

-- a node is dialled only where there is no link to it, once, and at the endpoint that the table has for it
abbrev pub DialOutcome : {P : Type 0} → (Endpoint → Option P → ℕ → ℕ → Type 0) → ℕ → List Endpoint → Backend P → ℕ → Result Dialled NoMemory → Backend P → ℕ → Type 0
DialOutcome opens node nodes old before (Ok Present) new now = IsSome old.link × (new ≡ old) × (now ≡ before)
DialOutcome {P} opens node nodes old before (Ok Opened) new now = (at : Endpoint) × (port : P) × (old.link ≡ None) × (slice_get nodes node ≡ Some at) × opens at (Some port) before now
    × (new ≡ record old { link = Some (fresh_link port node); asked = false })
DialOutcome opens node nodes old before (Ok Unreached) new now = (old.link ≡ None) × (new ≡ old) × IsUnreached opens node nodes before now
DialOutcome opens node nodes old before (Err _) new now = (new ≡ old) × (now ≡ before)

-- a run of several is longer than the port of this open link takes
abbrev pub IsTooLong : {P : Type 0} → (P → ℕ) → RunModel → Option (LinkModel P) → Type 0
IsTooLong longest run link = IsSomeAnd link (λ link. (link.failure ≡ None) × (longest link.port < count_in run) × (1 < count_in run))

-- Nothing of a run can be sent: there is no link to its node, and none was opened to it; or the run is too long for its link.
abbrev pub IsRefused : {P : Type 0} → (Endpoint → Option P → ℕ → ℕ → Type 0) → (P → ℕ) → RunModel → Option (LinkModel P) → List Endpoint → ℕ → ℕ → Type 0
IsRefused opens longest run link nodes before now =
    ((link ≡ None) × IsUnreached opens run.first.node nodes before now) ⊎ (IsTooLong longest run link × (now ≡ before))

module _ {P : Type 0} (calls : PortCalls P) (longest : P → ℕ) where
  -- the run goes out as one item, where a link is open whose port takes one as long
  abbrev pub SendOutcome : Backend P → RunModel → Result RunStep NoMemory → Backend P → Type 0
  SendOutcome old run (Ok Sent) new = (link : LinkModel P) × (link' : LinkModel P) × (old.link ≡ Some link) × (count_in run ≤ longest link.port)
      × GoesOut calls link (requests_of_run run) link' × (new ≡ record old { link = Some link' })
  SendOutcome old run (Ok TooLong) new = (new ≡ old) × IsTooLong longest run old.link
  SendOutcome old run (Ok NoLink) new = (new ≡ old) × (is_open old.link ≡ false)
  SendOutcome old run (Err _) new = (link : LinkModel P) × (link' : LinkModel P) × (old.link ≡ Some link)
      × Sends calls link (requests_of_run run) (Err fault.NoMemory) link' × (new ≡ record old { link = Some link' })
