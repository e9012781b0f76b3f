-- Between two turns the port of an open link can be taken out, and another one put in its place.
use Rattle.std.specs.Prelude.{◌≡◌, ℕ, Some, None, IsSome, Result, Ok, Err, slice_get, slice_set}
use Rattle.node_link.specs.LinkModel.{LinkModel}
use Rattle.proxy_turns.specs.declared.backend.Backend.{Backend}
use Rattle.proxy_turns.specs.CarrierModel.{CarrierModel}

-- the backend, whose link has this port
abbrev pub with_port : {P : Type 0} → Backend P → LinkModel P → P → Backend P
with_port backend link port = record backend { link = Some (record link { port = port }) }

-- no link is open: there is none, or it has failed
abbrev pub IsClosed : {P : Type 0} → Backend P → Type 0
IsClosed {P} backend = (link : LinkModel P) → backend.link ≡ Some link → IsSome link.failure

-- the port of an open link comes out, and this one is in its place; where no link is open it comes back
abbrev pub PortSwap : {P : Type 0} → Backend P → P → Result P P → Backend P → Type 0
PortSwap {P} old port (Ok taken) new = (link : LinkModel P) × (old.link ≡ Some link) × (link.failure ≡ None) × (taken ≡ link.port) × (new ≡ with_port old link port)
PortSwap old port (Err back) new = IsClosed old × (back ≡ port) × (new ≡ old)

-- the same at the backend of a node, and nothing else changes
abbrev pub SwapOutcome : {H P : Type 0} → ℕ → CarrierModel H P → P → Result P P → CarrierModel H P → Type 0
SwapOutcome {H} {P} node old port (Ok taken) new = (backend : Backend P) × (link : LinkModel P)
    × (slice_get old.backends node ≡ Some backend) × (backend.link ≡ Some link) × (link.failure ≡ None) × (taken ≡ link.port)
    × (new ≡ record old { backends = slice_set old.backends node (with_port backend link port) })
SwapOutcome {H} {P} node old port (Err back) new = ((backend : Backend P) → slice_get old.backends node ≡ Some backend → IsClosed backend) × (back ≡ port) × (new ≡ old)
