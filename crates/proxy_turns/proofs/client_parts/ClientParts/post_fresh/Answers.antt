use Rattle.std.proofs.Common.{refl}
use Rattle.proxy_turns.specs.ClientTurn.{is_post}
use Rattle.proxy_turns.proofs.Going.{turns_posts_fresh}
use Rattle.proxy_turns.proofs.Sound.{one_run, sound_fresh_result}
use Rattle.proxy_turns.proofs.ClientResting.{posts_nothing}
use Rattle.proxy_turns.proofs.client_parts.ClientParts.post_fresh.Goals as goal

pub invariant_of-self : goal.invariant_of-self
invariant_of-self g c =
    sound_fresh_result c.self.inside.session c.self.inside.commands c.post_fresh.new.self c.args.uplink.now.outlet c.post_fresh.new.uplink.outlet c.args.uplink.now.view c.post_fresh.new.uplink.view c.post_fresh.result c.post_fresh.ensures.posts c.self.invariant

pub returns-clause-posts : goal.returns-clause-posts
returns-clause-posts g c = rw (← c.self.view_is) (turns_posts_fresh g.C.ClientPort.moves is_post (λ slot. refl) (λ run. refl) (λ run. refl) _ c.args.uplink.now.outlet c.post_fresh.new.uplink.outlet c.args.uplink.now.view c.post_fresh.new.uplink.view _ c.post_fresh.result c.self.invariant (rw (← c.self.view_is) at c.requires) c.post_fresh.ensures.posts)

pub returns-clause-none : goal.returns-clause-none
returns-clause-none g c = rw (← c.self.view_is) (posts_nothing _ _ c.args.uplink.now.outlet c.post_fresh.new.uplink.outlet c.args.uplink.now.view c.post_fresh.new.uplink.view c.post_fresh.result (rw (← c.self.view_is) at c.requires) c.post_fresh.ensures.posts c.post_fresh.ensures.full)

pub post_fresh-requires : goal.post_fresh-requires
post_fresh-requires g c = one_run c.self.inside.session c.self.inside.commands c.self.invariant
