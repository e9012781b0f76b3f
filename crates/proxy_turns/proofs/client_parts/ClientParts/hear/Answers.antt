use Rattle.proxy_turns.proofs.Sound.{sound_hears}
use Rattle.proxy_turns.proofs.client_parts.ClientParts.hear.Goals as goal

pub invariant_of-self : goal.invariant_of-self
invariant_of-self g c = sound_hears c.self.inside.session c.self.inside.commands c.hear.new.self c.args.ticket c.args.told c.hear.result c.hear.ensures c.self.invariant
