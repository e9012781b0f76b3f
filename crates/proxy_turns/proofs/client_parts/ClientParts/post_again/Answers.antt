use Rattle.std.proofs.Common.{◌≡◌, ◌∙◌, Some, refl, sym, subst}
use Rattle.std.specs.FinMap.{get}
use Rattle.command_future.specs.CommandModel.{CommandModel}
use Rattle.session_order.specs.Steps.{IsOut}
use Rattle.proxy_turns.proofs.Posting.{some_same, still_on}
use Rattle.proxy_turns.specs.ClientTurn.{is_post}
use Rattle.proxy_turns.proofs.Going.{turns_posts_again}
use Rattle.proxy_turns.proofs.Sound.{sound_again_result}
use Rattle.proxy_turns.proofs.client_parts.ClientParts.post_again.Goals as goal

pub invariant_of-self : goal.invariant_of-self
invariant_of-self g c =
    sound_again_result c.self.inside.session c.self.inside.commands c.post_again.new.self c.args.number c.args.uplink.now.outlet c.post_again.new.uplink.outlet c.args.uplink.now.view c.post_again.new.uplink.view c.post_again.result c.post_again.ensures.posts c.self.invariant

pub returns-clause-posts : goal.returns-clause-posts
returns-clause-posts g c =
    let here = rw (← c.self.view_is) at c.requires in
    let turn : (d : CommandModel) → get c.self.inside.commands.posted c.args.number ≡ Some d → IsOut c.self.inside.session d.ticket = λ d at. subst (λ (x : CommandModel). IsOut c.self.inside.session x.ticket) (some_same here.0 d (sym here.1 ∙ at)) here.3 in
    rw (← c.self.view_is) (turns_posts_again g.C.ClientPort.moves is_post (λ slot. refl) (λ run. refl) (λ run. refl) _ c.args.uplink.now.outlet c.post_again.new.uplink.outlet c.args.uplink.now.view c.post_again.new.uplink.view _ c.args.number c.post_again.result c.self.invariant turn c.post_again.ensures.posts)

pub returns-clause-full : goal.returns-clause-full
returns-clause-full g c =
    let here = rw (← c.self.view_is) at c.requires in
    still_on c.post_again.result (λ full. full (here.0, here.1, here.2)) c.post_again.ensures.full
