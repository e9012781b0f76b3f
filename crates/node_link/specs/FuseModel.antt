-- A port that passes a given number of calls on, and then fails.
-- For tests of a connection that breaks at each of its calls.
use Rattle.std.specs.Prelude.{◌≡◌, ◌⊎◌, ◌+◌, ◌-◌, ◌^◌, ◌≤◌, ℕ, Bool, true, false, Result, Err}
use Rattle.node_link.specs.declared.port.PortFault.{PortFault}
use Rattle.node_link.specs.declared.port.PortFault.TheVariants.{Failed}
use Rattle.node_link.specs.Port.{PortCalls}

pub record FuseModel (P : Type 0) : Type 0 where
  pub port : P
  -- how many calls it still passes on
  pub left : ℕ
  -- how many calls it has failed
  pub blown : ℕ

-- what it says of its calls is what the port says, and its own failures are counted too
abbrev pub calls_inside : {P : Type 0} → PortCalls P → PortCalls (FuseModel P)
calls_inside calls = record {
  failures = λ fused. calls.failures fused.port + fused.blown;
  is_garbled = λ fused. calls.is_garbled fused.port;
  exchange = λ old requests values new. calls.exchange old.port requests values new.port;
  gives_none = λ fused. calls.gives_none fused.port;
}

-- a count that is kept in 64 bits rose by one; one that stands at their last value stays
abbrev pub RoseByOne : ℕ → ℕ → Type 0
RoseByOne before now = (now ≡ before + 1) ⊎ ((2 ^ 64 - 1 ≤ before) × (now ≡ before))

-- the port was called and answered so, and one call less is left
abbrev pub Passes : {P A : Type 0} → (P → Result A PortFault → P → Type 0) → FuseModel P → Result A PortFault → FuseModel P → Type 0
Passes does old given new = does old.port given new.port × (old.left ≡ new.left + 1) × (new.blown ≡ old.blown)

-- no call is left: the answer is that the port failed, and the port was not called
abbrev pub Blows : {P A : Type 0} → FuseModel P → Result A PortFault → FuseModel P → Type 0
Blows old given new = (old.left ≡ 0) × (given ≡ Err Failed) × (new ≡ record old { blown = new.blown }) × RoseByOne old.blown new.blown

abbrev pub FuseOutcome : {P A : Type 0} → (P → Result A PortFault → P → Type 0) → FuseModel P → Result A PortFault → FuseModel P → Type 0
FuseOutcome does old given new = Passes does old given new ⊎ Blows old given new

-- whether the next call goes on to the port
abbrev pub PassOutcome : {P : Type 0} → FuseModel P → Bool → FuseModel P → Type 0
PassOutcome old true new = (old.left ≡ new.left + 1) × (new ≡ record old { left = new.left })
PassOutcome old false new = (old.left ≡ 0) × (new ≡ record old { blown = new.blown }) × RoseByOne old.blown new.blown
