use Rattle.proxy_turns.proofs.Sound.{sound_begun}
use Rattle.proxy_turns.proofs.client_parts.ClientParts.new.Goals as goal

pub invariant_of-result : goal.invariant_of-result
invariant_of-result g c = sound_begun c.new.result c.new-2.result c.new-2.ensures
