-- A fuse's count of failures does not fall.
use Rattle.std.proofs.Common.{◌≡◌, ◌≤◌, ap, arith, false, inl, inr}
use Rattle.node_link.specs.FuseModel.{FuseModel, PassOutcome, calls_inside}
use Rattle.node_link.specs.Port.{PortCalls}

pub counts : {P : Type 0} (calls : PortCalls P) (old new : FuseModel P) → PassOutcome old false new
    → (calls_inside calls).failures old ≤ (calls_inside calls).failures new
counts calls old new does =
    let same : calls.failures new.port ≡ calls.failures old.port = ap (λ f. calls.failures f.port) does.1 in
    let more : old.blown ≤ new.blown = elim does.2 [
      | inl one ↦ omega (arith, one)
      | inr last ↦ omega (arith, last.1)
    ] in
    omega (arith, same, more)
