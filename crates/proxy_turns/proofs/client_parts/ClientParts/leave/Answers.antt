use Rattle.session_order.proofs.Kept.{calls_keep}
use Rattle.proxy_turns.proofs.Sound.{sound_kept}
use Rattle.proxy_turns.proofs.client_parts.ClientParts.leave.Goals as goal

pub invariant_of-self : goal.invariant_of-self
invariant_of-self g c =
    let keeps = calls_keep.hang_up c.self.inside.session c.hang_up.new.self c.hang_up.ensures.does in
    sound_kept _ _ _ keeps.order keeps.parts c.self.invariant
