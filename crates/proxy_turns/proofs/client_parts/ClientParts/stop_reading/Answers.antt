use Rattle.std.proofs.Common.{subst, sym}
use Rattle.session_order.proofs.Kept.{calls_keep}
use Rattle.proxy_turns.specs.ClientModel.{IsSoundClient}
use Rattle.proxy_turns.proofs.Sound.{sound_kept}
use Rattle.proxy_turns.proofs.client_parts.ClientParts.stop_reading.Goals as goal

pub invariant_of-self : goal.invariant_of-self
invariant_of-self g c =
    let keeps = calls_keep.stop c.self.inside.session in
    subst (λ session. IsSoundClient session c.self.inside.commands) (sym c.stop_reading.ensures) (sound_kept _ _ _ keeps.order keeps.parts c.self.invariant)
