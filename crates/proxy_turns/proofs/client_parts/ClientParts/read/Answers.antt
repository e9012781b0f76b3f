use Rattle.std.proofs.Common.{refl}
use Rattle.proxy_turns.specs.ClientTurn.{is_read}
use Rattle.session_order.proofs.Kept.{calls_keep}
use Rattle.proxy_turns.proofs.Going.{turns_read}
use Rattle.proxy_turns.proofs.Sound.{sound_kept}
use Rattle.proxy_turns.proofs.ClientResting.{reads_none}
use Rattle.proxy_turns.proofs.client_parts.ClientParts.read.Goals as goal

pub invariant_of-self : goal.invariant_of-self
invariant_of-self g c =
    let keeps = calls_keep.read c.self.inside.session c.read.result c.read.new.self c.read.ensures.does in
    sound_kept c.self.inside.session c.read.new.self c.self.inside.commands keeps.order keeps.parts c.self.invariant

pub returns-clause-reads : goal.returns-clause-reads
returns-clause-reads g c = λ outlet view. rw (← c.self.view_is) (turns_read g.C.ClientPort.moves is_read _ outlet view (λ result. refl) _ c.read.result _ c.has_read.ensures c.read.ensures.does)

pub returns-clause-none : goal.returns-clause-none
returns-clause-none g c = rw (← c.self.view_is) (reads_none _ _ c.read.result _ c.has_read.ensures c.read.ensures.does)
