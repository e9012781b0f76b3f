use Rattle.std.proofs.Common.{◌∙◌, refl, sym}
use Rattle.proxy_turns.specs.ClientTurn.{is_drop}
use Rattle.proxy_turns.proofs.Going.{drops}
use Rattle.proxy_turns.proofs.Sound.{sound_drops}
use Rattle.proxy_turns.proofs.ClientResting.{drop_none}
use Rattle.std.proofs.lemmas.Bool.{false≢true}
use Rattle.proxy_turns.proofs.client_parts.ClientParts.drop_fresh.Goals as goal

pub invariant_of-self : goal.invariant_of-self
invariant_of-self g c = sound_drops c.self.inside.session c.self.inside.commands c.drop_fresh.new.self c.drop_fresh.result c.drop_fresh.ensures c.self.invariant

pub returns-clause-drops : goal.returns-clause-drops
returns-clause-drops g c = λ outlet view. rw (← c.self.view_is) (drops g.C.ClientPort.moves is_drop _ outlet view (λ tickets. refl) _ _ c.if-not-self.false c.drop_fresh.ensures)

pub returns-clause-none : goal.returns-clause-none
returns-clause-none g c = λ not_so gone. rw (← c.self.view_is) (drop_none _ _ _ c.drop_fresh.ensures not_so)

pub returns-then-not-self-clause-none : goal.returns-then-not-self-clause-none
returns-then-not-self-clause-none g c = rw (← c.self.view_is) (λ not_so gone. absurd (false≢true (sym c.if-not-self.true ∙ gone)))
